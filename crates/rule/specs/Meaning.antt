-- What a rule says of a tuple of sessions, step by step.
use Rattle.std.specs.Prelude.{ℕ, ◌+◌, ◌<◌, ◌≤◌, ◌&&◌, ◌⊎◌}
use Rattle.policy.specs.Sessions.{Letter, On, on, apart, counted, Tuple, IsTuple, letter, shortest}
use Rattle.rule.specs.Rule.{Rule, truth, at, near, negation, both, either, next, until}

-- in how many signals of the set S the letters a and b differ
abbrev pub differing : ℕ → Letter → Letter → ℕ
differing S a b = counted 32 (λ s. on S s && apart (on a s) (on b s))

-- a rule holds at the step i of a joined word of m steps
abbrev pub HoldsIn : Tuple → ℕ → Rule → ℕ → Type 0
HoldsIn xs m truth i = Unit {0}
HoldsIn xs m (at v s) i = On (letter xs v i) s
HoldsIn xs m (near v w n S) i = differing S (letter xs v i) (letter xs w i) ≤ n
HoldsIn xs m (negation f) i = HoldsIn xs m f i → ⊥
HoldsIn xs m (both f g) i = HoldsIn xs m f i × HoldsIn xs m g i
HoldsIn xs m (either f g) i = HoldsIn xs m f i ⊎ HoldsIn xs m g i
HoldsIn xs m (next f) i = (i + 1 < m) × HoldsIn xs m f (i + 1)
HoldsIn xs m (until f g) i = (j : ℕ) × (i ≤ j) × (j < m) × HoldsIn xs m g j × ((l : ℕ) → i ≤ l → l < j → HoldsIn xs m f l)

-- the joined word of a tuple has as many steps as its shortest session
abbrev pub Holds : Tuple → Rule → ℕ → Type 0
Holds xs f i = HoldsIn xs (shortest xs) f i

-- a tuple of k sessions breaks a rule that does not hold at its first step
abbrev pub Breaks : ℕ → Rule → Tuple → Type 0
Breaks k f xs = IsTuple k xs × (Holds xs f 0 → ⊥)
