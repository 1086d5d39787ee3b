-- Which session stands for which, by two sets of signals.
use Rattle.std.specs.Prelude.{◌≡◌, ℕ, ◌<◌, length, slice_index}
use Rattle.policy.specs.Sessions.{On, Session, IsSession}

-- s and t are equally long sessions, and at each step each signal of P that is on in s is on in t,
-- and each signal of Q that is on in t is on in s
pub record StandsBy (P Q : ℕ) (s t : Session) : Type 0 where
  pub from : IsSession s
  pub to : IsSession t
  pub equally_long : length s ≡ length t
  pub upright : (i : ℕ) → i < length s → (x : ℕ) → On P x → On (slice_index s i) x → On (slice_index t i) x
  pub inverted : (i : ℕ) → i < length s → (x : ℕ) → On Q x → On (slice_index t i) x → On (slice_index s i) x
