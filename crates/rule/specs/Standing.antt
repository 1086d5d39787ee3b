-- Which session stands for which under a rule.
use Rattle.std.specs.Prelude.{◌≡◌, ℕ, ◌<◌, Bool, true, false, not, ◌⊎◌, length, slice_index}
use Rattle.policy.specs.Sessions.{On, Session, IsSession}
use Rattle.rule.specs.Rule.{Rule, truth, at, near, negation, both, either, next, until}

-- A rule reads the signal s upright (p is true) where an even number of negations lies on the way
-- down to it, and inverted (p is false) where it is odd. `near` reads its signals both ways.
abbrev pub Looks : Bool → Rule → ℕ → Type 0
Looks p truth s = ⊥
Looks true (at v t) s = t ≡ s
Looks false (at v t) s = ⊥
Looks p (near v w n S) s = On S s
Looks p (negation f) s = Looks (not p) f s
Looks p (both f g) s = Looks p f s ⊎ Looks p g s
Looks p (either f g) s = Looks p f s ⊎ Looks p g s
Looks p (next f) s = Looks p f s
Looks p (until f g) s = Looks p f s ⊎ Looks p g s

-- s stands for t: they are equally long sessions, and at each step what the rule reads upright and
-- is on in s is on in t, and what it reads inverted and is on in t is on in s
pub record StandsFor (f : Rule) (s t : Session) : Type 0 where
  pub from : IsSession s
  pub to : IsSession t
  pub equally_long : length s ≡ length t
  pub upright : (i : ℕ) → i < length s → (x : ℕ) → Looks true f x → On (slice_index s i) x → On (slice_index t i) x
  pub inverted : (i : ℕ) → i < length s → (x : ℕ) → Looks false f x → On (slice_index t i) x → On (slice_index s i) x
