-- Upright and inverted nodes of a table, by the ways down from its last node.
use Rattle.std.specs.Prelude.{◌≡◌, ℕ, zero, suc, ◌-◌, ◌<◌, Bool, true, false, not, ◌⊎◌, List, [], ◌∷◌, length, slice_index_or}
use Rattle.policy.specs.Sessions.{On}
use Rattle.rule.specs.declared.node.Node.{Node}
use Rattle.rule.specs.declared.node.Node.TheVariants.{True, At, Near, Not, And, Or, Next, Until}

-- the node is made of the node at the index c
abbrev pub IsChild : Node → ℕ → Type 0
IsChild True c = ⊥
IsChild (At v s) c = ⊥
IsChild (Near v w n S) c = ⊥
IsChild (Not f) c = f ≡ c
IsChild (And f g) c = (f ≡ c) ⊎ (g ≡ c)
IsChild (Or f g) c = (f ≡ c) ⊎ (g ≡ c)
IsChild (Next f) c = f ≡ c
IsChild (Until f g) c = (f ≡ c) ⊎ (g ≡ c)

-- a way down from the node i to the node j: the nodes it comes to, one after another
abbrev pub Way : List Node → ℕ → List ℕ → ℕ → Type 0
Way ns i [] j = i ≡ j
Way ns i (c ∷ cs) j = IsChild (slice_index_or ns i True) c × Way ns c cs j

-- n, and one more where the node is a `not`
abbrev pub count_not : Node → ℕ → ℕ
count_not True n = n
count_not (At v s) n = n
count_not (Near v w l S) n = n
count_not (Not f) n = suc n
count_not (And f g) n = n
count_not (Or f g) n = n
count_not (Next f) n = n
count_not (Until f g) n = n

-- how many of the nodes that a way leaves are a `not`
abbrev pub nots : List Node → ℕ → List ℕ → ℕ
nots ns i [] = 0
nots ns i (c ∷ cs) = count_not (slice_index_or ns i True) (nots ns c cs)

-- p where n is even, and the other where n is odd
abbrev pub sense : Bool → ℕ → Bool
sense p zero = p
sense p (suc n) = sense (not p) n

-- the node names the signal s, an `at` where it is met upright (true) and a `near` either way
abbrev pub Tells : Bool → Node → ℕ → Type 0
Tells p True s = ⊥
Tells true (At v t) s = t ≡ s
Tells false (At v t) s = ⊥
Tells p (Near v w n S) s = On S s
Tells p (Not f) s = ⊥
Tells p (And f g) s = ⊥
Tells p (Or f g) s = ⊥
Tells p (Next f) s = ⊥
Tells p (Until f g) s = ⊥

-- A way down from the last node comes to a `near` that names the signal s, or to an `at` that does
-- after an even number of `not`s (p is true) or an odd number (p is false).
abbrev pub Reached : Bool → List Node → ℕ → Type 0
Reached p ns s = (w : List ℕ) × (j : ℕ) × (j < length ns) × Way ns (length ns - 1) w j × Tells (sense p (nots ns (length ns - 1) w)) (slice_index_or ns j True) s
