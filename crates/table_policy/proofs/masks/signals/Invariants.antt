use Rattle.std.proofs.Common.{◌≡◌, length}
use Rattle.fixed_vec.specs.Items.{items_of}
use Rattle.rule.specs.Nodes.{rules}
use Rattle.rule.specs.Tables.{nodes_of}
use Rattle.table_policy.specs.Inner.Rows.{Reads}
use Rattle.table_policy.proofs.masks.signals.Given as goal

abbrev pub invariant-loop-node : goal.invariant-loop-node
invariant-loop-node l = (length (items_of l.read) ≡ l.node-index) × Reads (rules (nodes_of l.table)) (items_of l.read)
