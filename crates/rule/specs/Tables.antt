-- What a table holds.
use Rattle.std.specs.Prelude.{◌≡◌, ℕ, List}
use Rattle.fixed_vec.specs.Items.{items_of}
use Rattle.rule.specs.declared.node.Node.{Node}
use Rattle.rule.specs.declared.table.Table.{Table}
use Rattle.rule.specs.Nodes.{TableFits, root}
use Rattle.rule.specs.Rule.{Rule}

abbrev pub nodes_of : Table → List Node
nodes_of t = items_of t.nodes

-- the rule that a table unfolds to
abbrev pub rule_of : Table → Rule
rule_of t = root (nodes_of t)

-- the nodes make a table of k places, and t is it
pub record HoldsNodes (k : ℕ) (ns : List Node) (t : Table) : Type 0 where
  pub fits : TableFits k ns
  pub places : t.places ≡ k
  pub nodes : nodes_of t ≡ ns
