-- The same as `TableFits` by a test, which a struct's invariant can hold.
use Rattle.std.specs.Prelude.{ℕ, Bool, true, ◌&&◌, List, length, nat_le, nat_lt, slice_index_or}
use Rattle.policy.specs.Testing.{all_below}
use Rattle.rule.specs.declared.node.Node.{Node}
use Rattle.rule.specs.declared.node.Node.TheVariants.{True, At, Near, Not, And, Or, Next, Until}

abbrev pub node_test : ℕ → ℕ → Node → Bool
node_test k i True = true
node_test k i (At v s) = nat_lt v k && nat_lt s 32
node_test k i (Near v w n S) = nat_lt v k && nat_lt w k
node_test k i (Not f) = nat_lt f i
node_test k i (And f g) = nat_lt f i && nat_lt g i
node_test k i (Or f g) = nat_lt f i && nat_lt g i
node_test k i (Next f) = nat_lt f i
node_test k i (Until f g) = nat_lt f i && nat_lt g i

unfoldable pub table_test : ℕ → List Node → Bool
table_test k ns =
    nat_le 1 (length ns) && (nat_le (length ns) 64 && (nat_le 1 k && (nat_le k 4 && all_below (length ns) (λ i. node_test k i (slice_index_or ns i True)))))
