-- Runs by tests, which the meaning of an automaton is made of. `IsAutomaton` says what they tell.
use Rattle.std.specs.Prelude.{ℕ, zero, suc, ◌+◌, ◌^◌, ◌<◌, ◌≤◌, Bool, false, not, ◌&&◌, List, length, take, fold, find, Some, None, Option, option_map, ◌==◌, bit_and, bit_or, nat_eq, slice_index, slice_index_or}
use Rattle.policy.specs.Sessions.{Letter, Tuple, on, shortest}
use Rattle.policy.specs.Testing.{all_below, tuple_test}
use Rattle.automaton.specs.declared.edge.Edge.{Edge}
use Rattle.automaton.specs.declared.edge.Guard.{Guard}
use Rattle.automaton.specs.Runs.{none, nothing, column}

-- letters of a list, place by place
abbrev pub shown : List Letter → ℕ → Letter
shown ls v = slice_index ls v

unfoldable pub fits_test : ℕ → (ℕ → Letter) → Edge → ℕ → Bool
fits_test k at e q = e.from == q && all_below k (λ v. nat_eq (bit_and (at v) (slice_index_or e.guards v nothing).mask) (slice_index_or e.guards v nothing).value)

-- the state that the first fitting edge enters
abbrev pub next_state : ℕ → List Edge → (ℕ → Letter) → ℕ → Option ℕ
next_state k es at q = option_map (λ e. e.to) (find (λ e. fits_test k at e q) es)

abbrev pub go_on : Option ℕ → (ℕ → Bool) → Bool
go_on None f = false
go_on (Some r) f = f r

-- from the state q at the step i, with d steps to go
abbrev pub accepts : ℕ → List Edge → ℕ → Tuple → ℕ → ℕ → ℕ → Bool
accepts k es good xs zero i q = on good q
accepts k es good xs (suc d) i q = go_on (next_state k es (column xs i) q) (λ r. accepts k es good xs d (i + 1) r)

unfoldable pub breaks_test : ℕ → List Edge → ℕ → Tuple → Bool
breaks_test k es good xs = tuple_test k xs && not (accepts k es good xs (shortest xs) 0 0)

-- ---- the signals that are asked for

-- in the first n places
abbrev pub or_below : ℕ → List Guard → ℕ
or_below n gs = fold (λ a g. bit_or a g.mask) 0 (take n gs)

-- in k places of all edges
abbrev pub union : ℕ → List Edge → ℕ
union k es = fold (λ a e. bit_or a (or_below k e.guards)) 0 es

-- ---- the making

abbrev pub InRange : ℕ → ℕ → ℕ → List Edge → Type 0
InRange k n good es =
    (1 ≤ k) × (k ≤ 4) × (1 ≤ n) × (n ≤ 16) × (good < 2 ^ n) × (length es ≤ 64)
    × ((j : ℕ) → j < length es → ((slice_index_or es j none).from < n) × ((slice_index_or es j none).to < n))
