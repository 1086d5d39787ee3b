-- Runs of an automaton over the joined word of a tuple.
use Rattle.std.specs.Prelude.{◌≡◌, ℕ, ◌+◌, ◌<◌, ◌≤◌, ◌⊎◌, ◌↔◌, List, [], length, get_or, bit_and, slice_index, slice_index_or}
use Rattle.policy.specs.Sessions.{Letter, On, Session, IsSession, Tuple, IsTuple, letter, shortest}
use Rattle.automaton.specs.declared.edge.Edge.{Edge}
use Rattle.automaton.specs.declared.edge.Guard.{Guard}

-- what is read past the last guard, and past the last edge
abbrev pub nothing : Guard
nothing = record { mask = 0; value = 0 }

abbrev pub none : Edge
none = record { from = 0; to = 0; guards = [] }

-- the letters that the places show at the step i
abbrev pub column : Tuple → ℕ → ℕ → Letter
column xs i v = letter xs v i

-- in each of k places, the letter's signals within the mask are the value
abbrev pub Shows : ℕ → (ℕ → Letter) → List Guard → Type 0
Shows k at gs = (v : ℕ) → v < k → bit_and (at v) (get_or gs v nothing).mask ≡ (get_or gs v nothing).value

-- the edge e fits in the state q
abbrev pub Fits : ℕ → (ℕ → Letter) → Edge → ℕ → Type 0
Fits k at e q = (e.from ≡ q) × Shows k at e.guards

-- from the state q to the state r, by the first edge in row order that fits
pub record Takes (k : ℕ) (es : List Edge) (at : ℕ → Letter) (q r : ℕ) : Type 0 where
  pub row : ℕ
  pub within : row < length es
  pub fitting : Fits k at (slice_index_or es row none) q
  pub earliest : (j : ℕ) → j < row → Fits k at (slice_index_or es j none) q → ⊥
  pub enters : (get_or es row none).to ≡ r

-- qs is a run over the first n steps: it begins in the state 0, and takes one edge a step
pub record Run (k : ℕ) (es : List Edge) (xs : Tuple) (n : ℕ) (qs : List ℕ) : Type 0 where
  pub long : length qs ≡ n + 1
  pub starts : get_or qs 0 0 ≡ 0
  pub steps : (i : ℕ) → i < n → Takes k es (column xs i) (slice_index qs i) (slice_index qs (i + 1))

-- some run over all steps of the joined word ends in a good state
abbrev pub Accepted : ℕ → List Edge → ℕ → Tuple → Type 0
Accepted k es good xs = (qs : List ℕ) × Run k es xs (shortest xs) qs × On good (slice_index qs (shortest xs))

-- a tuple of k sessions breaks the automaton where none does
abbrev pub Breaks : ℕ → List Edge → ℕ → Tuple → Type 0
Breaks k es good xs = IsTuple k xs × (Accepted k es good xs → ⊥)

-- no edge fits in the state q
abbrev pub Stuck : ℕ → List Edge → (ℕ → Letter) → ℕ → Type 0
Stuck k es at q = (j : ℕ) → j < length es → Fits k at (slice_index_or es j none) q → ⊥

-- a run comes to a step at which no edge fits, or it ends in a state that is not good
abbrev pub Failed : ℕ → List Edge → ℕ → Tuple → Type 0
Failed k es good xs =
    (n : ℕ) × (qs : List ℕ) × Run k es xs n qs
    × (((n < shortest xs) × Stuck k es (column xs n) (slice_index qs n)) ⊎ ((n ≡ shortest xs) × (On good (slice_index qs n) → ⊥)))

-- an edge asks for the signal x in one of the k places
abbrev pub Looks : ℕ → List Edge → ℕ → Type 0
Looks k es x = (j : ℕ) × (j < length es) × ((v : ℕ) × (v < k) × On (get_or (get_or es j none).guards v nothing).mask x)

-- s stands for t: they are equally long sessions that agree on each signal that is asked for
pub record StandsFor (k : ℕ) (es : List Edge) (s t : Session) : Type 0 where
  pub from : IsSession s
  pub to : IsSession t
  pub equally_long : length s ≡ length t
  pub agree : (i : ℕ) → i < length s → (x : ℕ) → Looks k es x → On (slice_index s i) x ↔ On (slice_index t i) x

-- k places, n states, the set of good ones and the edges make an automaton
pub record AutomatonFits (k n good : ℕ) (es : List Edge) : Type 0 where
  pub some_place : 1 ≤ k
  pub few_places : k ≤ 4
  pub some_state : 1 ≤ n
  pub few_states : n ≤ 16
  pub good_states : (q : ℕ) → On good q → q < n
  pub few_edges : length es ≤ 64
  pub from_states : (j : ℕ) → j < length es → (get_or es j none).from < n
  pub to_states : (j : ℕ) → j < length es → (get_or es j none).to < n
