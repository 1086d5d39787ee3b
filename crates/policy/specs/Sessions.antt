-- Letters, sessions, tuples of sessions, and the joined word of a tuple.
use Rattle.std.specs.Prelude.{◌≡◌, ℕ, zero, suc, ◌+◌, ◌/◌, ◌%◌, ◌^◌, ◌<◌, ◌≤◌, min, Bool, true, false, cond, not, List, [], ◌∷◌, map, length, ◌==◌, slice_index, slice_index_or}
use Rattle.std.specs.Borrow.{Bor}

-- a letter, whose bit s says that signal s is on
abbrev pub Letter : Type 0
Letter = ℕ

-- the signal s is on in the letter a
abbrev pub On : Letter → ℕ → Type 0
On a s = a / 2 ^ s % 2 ≡ 1

-- the same as a test
abbrev pub on : Letter → ℕ → Bool
on a s = a / 2 ^ s % 2 == 1

-- one of two tests passes, and not both
abbrev pub apart : Bool → Bool → Bool
apart true b = not b
apart false b = b

-- how many of the numbers below n pass a test
unfoldable pub counted : ℕ → (ℕ → Bool) → ℕ
counted zero test = 0
counted (suc n) test = cond (test n) 1 0 + counted n test

-- a session has a letter for each step, 1 to 128 of them
abbrev pub Session : Type 0
Session = List Letter

abbrev pub IsSession : Session → Type 0
IsSession s = (1 ≤ length s) × (length s ≤ 128)

-- a tuple of k places has a session for each
abbrev pub Tuple : Type 0
Tuple = List Session

abbrev pub IsTuple : ℕ → Tuple → Type 0
IsTuple k xs = (length xs ≡ k) × ((v : ℕ) → v < k → IsSession (slice_index_or xs v []))

-- the letter of the place v at the step i, counted from 0
abbrev pub letter : Tuple → ℕ → ℕ → Letter
letter xs v i = slice_index (slice_index_or xs v []) i

-- the letters of the four places at the step i, and no signal on where there is none
abbrev pub letters : Tuple → ℕ → List Letter
letters xs i = letter xs 0 i ∷ letter xs 1 i ∷ letter xs 2 i ∷ letter xs 3 i ∷ []

-- the length of the shortest session: so many steps has the joined word
abbrev pub shortest : Tuple → ℕ
shortest [] = 0
shortest (s ∷ []) = length s
shortest (s ∷ (t ∷ xs)) = min (length s) (shortest (t ∷ xs))

-- the sessions that a slice of slices holds
abbrev pub sessions : List (Bor Session) → Tuple
sessions xs = map (λ x. x.now) xs
