-- The rule that a table of nodes unfolds to, and which nodes make a table.
use Rattle.std.specs.Prelude.{ℕ, ◌-◌, ◌<◌, ◌≤◌, List, [], ◌∷◌, ◌++◌, length, slice_index_or}
use Rattle.rule.specs.declared.node.Node.{Node}
use Rattle.rule.specs.declared.node.Node.TheVariants.{True, At, Near, Not, And, Or, Next, Until}
use Rattle.rule.specs.Rule.{Rule, truth, at, near, negation, both, either, next, until}

-- the rule of a node, by the rules of the nodes before it
abbrev pub node_rule : List Rule → Node → Rule
node_rule rs True = truth
node_rule rs (At v s) = at v s
node_rule rs (Near v w n S) = near v w n S
node_rule rs (Not f) = negation (slice_index_or rs f truth)
node_rule rs (And f g) = both (slice_index_or rs f truth) (slice_index_or rs g truth)
node_rule rs (Or f g) = either (slice_index_or rs f truth) (slice_index_or rs g truth)
node_rule rs (Next f) = next (slice_index_or rs f truth)
node_rule rs (Until f g) = until (slice_index_or rs f truth) (slice_index_or rs g truth)

-- the rules of nodes one after another, where rs are those of the nodes before them
unfoldable pub rules_after : List Rule → List Node → List Rule
rules_after rs [] = rs
rules_after rs (n ∷ ns) = rules_after (rs ++ (node_rule rs n ∷ [])) ns

-- the rules of all nodes
abbrev pub rules : List Node → List Rule
rules ns = rules_after [] ns

-- the rule of the node at an index
abbrev pub rule_at : List Node → ℕ → Rule
rule_at ns i = slice_index_or (rules ns) i truth

-- the rule of the last node, which is the table's
abbrev pub root : List Node → Rule
root ns = rule_at ns (length ns - 1)

-- A node may stand at an index of a table of k places: the nodes it is made of are earlier, its
-- places are below k, and its signal is one of a letter's 32.
abbrev pub NodeFits : ℕ → ℕ → Node → Type 0
NodeFits k i True = Unit {0}
NodeFits k i (At v s) = (v < k) × (s < 32)
NodeFits k i (Near v w n S) = (v < k) × (w < k)
NodeFits k i (Not f) = f < i
NodeFits k i (And f g) = (f < i) × (g < i)
NodeFits k i (Or f g) = (f < i) × (g < i)
NodeFits k i (Next f) = f < i
NodeFits k i (Until f g) = (f < i) × (g < i)

-- nodes make a table of k places
pub record TableFits (k : ℕ) (ns : List Node) : Type 0 where
  pub some : 1 ≤ length ns
  pub few : length ns ≤ 64
  pub low : 1 ≤ k
  pub high : k ≤ 4
  pub each : (i : ℕ) → i < length ns → NodeFits k i (slice_index_or ns i True)
