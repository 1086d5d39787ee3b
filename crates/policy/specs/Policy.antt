-- What a policy means, and the laws that every policy keeps.
use Rattle.std.specs.Prelude.{◌≡◌, ℕ, ◌<◌, ◌≤◌, Bool, true, [], length, Decides, slice_index_or, slice_set}
use Rattle.policy.specs.Sessions.{Session, IsSession, Tuple, IsTuple, letter, shortest}

-- how many places there are, which tuples break the policy, and which session stands for which
pub record Meaning : Type 0 where
  pub arity : ℕ
  pub breaks : Tuple → Bool
  pub stands : Session → Session → Bool

pub record Lawful (m : Meaning) : Type 0 where
  pub some_place : 1 ≤ m.arity
  pub few_places : m.arity ≤ 4
  -- no for a tuple of another number of places and for a list that is no session
  pub only_tuples : (xs : Tuple) → m.breaks xs ≡ true → IsTuple m.arity xs
  pub only_sessions : (s t : Session) → m.stands s t ≡ true → IsSession s × IsSession t
  pub reflexive : (s : Session) → IsSession s → m.stands s s ≡ true
  pub transitive : (r s t : Session) → m.stands r s ≡ true → m.stands s t ≡ true → m.stands r t ≡ true
  -- what breaks with t at a place breaks with what stands for t there
  pub substitutes : (xs : Tuple) (v : ℕ) (s : Session) → v < length xs → m.stands s (slice_index_or xs v []) ≡ true → m.breaks xs ≡ true → m.breaks (slice_set xs v s) ≡ true

-- the policy's answers are exactly a number of places, a set of tuples and a relation of sessions
pub record Judges (m : Meaning) (k : ℕ) (Breaks : Tuple → Type 0) (Stands : Session → Session → Type 0) : Type 0 where
  pub arity_is : m.arity ≡ k
  pub breaks_where : (xs : Tuple) → Decides (m.breaks xs) (Breaks xs)
  pub stands_where : (s t : Session) → Decides (m.stands s t) (Stands s t)

-- tuples with the same joined word are judged alike, whatever follows it
abbrev pub JoinedOnly : Meaning → Type 0
JoinedOnly m =
    (xs ys : Tuple) → IsTuple m.arity xs → IsTuple m.arity ys → shortest xs ≡ shortest ys → ((v i : ℕ) → i < shortest xs → letter xs v i ≡ letter ys v i) → m.breaks xs ≡ m.breaks ys
