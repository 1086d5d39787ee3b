-- What a store holds, and the law that every store keeps.
use Rattle.std.specs.Prelude.{ℕ, suc, ◌≤◌, Bool, cond, ◌&&◌, List, [], ◌∷◌, ◌++◌, length, drop, Some, None, sum_by, Option, nat_eq, nat_le}
use Rattle.std.specs.List.{AllByRecursion, list_any, slice_get}
use Rattle.store.specs.declared.limits.Limits.{Limits}
use Rattle.store.specs.declared.session.Session.{Session}

-- a kept session: its number and its letters
pub record Entry : Type 0 where
  pub number : ℕ
  pub letters : List ℕ

-- the entry of a session to be kept
abbrev pub entry_of : Session → Entry
entry_of session = record { number = session.number; letters = session.letters.now }

abbrev pub letters_in : List Entry → ℕ
letters_in es = sum_by (λ e. length e.letters) es

abbrev pub fits : Limits → List Entry → Bool
fits b es = nat_le (length es) b.sessions && nat_le (letters_in es) b.letters

-- whether the place p is among the places
abbrev pub mentions : ℕ → List ℕ → Bool
mentions p ps = list_any (λ q. nat_eq q p) ps

-- the elements from the place p on whose places are not named
abbrev pub without_from : {X : Type 0} → ℕ → List ℕ → List X → List X
without_from p ps [] = []
without_from p ps (x ∷ xs) = cond (mentions p ps) (without_from (suc p) ps xs) (x ∷ without_from (suc p) ps xs)

-- the named entries are gone, the others keep their order, and the new one stands last
abbrev pub exchanged : List ℕ → List Entry → Entry → List Entry
exchanged ps es e = without_from 0 ps es ++ e ∷ []

-- the new entry has at most 128 letters, and the list after the exchange is within the limits
abbrev pub takes : Limits → List ℕ → List Entry → Entry → Bool
takes b ps es e = nat_le (length e.letters) 128 && fits b (exchanged ps es e)

-- the letters of an entry, where there is one and they fit the room
abbrev pub read : Option Entry → ℕ → Option (List ℕ)
read None room = None
read (Some e) room = cond (nat_le (length e.letters) room) (Some e.letters) None

abbrev pub read_at : List Entry → ℕ → ℕ → Option (List ℕ)
read_at es place room = read (slice_get es place) room

-- a buffer with letters written to its front, the rest as it was
abbrev pub written : Option (List ℕ) → List ℕ → List ℕ
written None buffer = buffer
written (Some s) buffer = s ++ drop (length s) buffer

-- limits that a store may have
pub record InRange (b : Limits) : Type 0 where
  pub some_session : 1 ≤ b.sessions
  pub few_sessions : b.sessions ≤ 64
  pub some_letters : 128 ≤ b.letters
  pub few_letters : b.letters ≤ 8192

-- the law of a store: its limits are in range, and its entries are within them
pub record Within (b : Limits) (es : List Entry) : Type 0 where
  pub some_session : 1 ≤ b.sessions
  pub few_sessions : b.sessions ≤ 64
  pub some_letters : 128 ≤ b.letters
  pub few_letters : b.letters ≤ 8192
  pub kept : length es ≤ b.sessions
  pub room : letters_in es ≤ b.letters
  pub short : AllByRecursion (λ e. length e.letters ≤ 128) es
