use Rattle.std.proofs.Common.{◌≡◌, ◌-◌, length}
use Rattle.policy.specs.Sessions.{sessions}
use Rattle.rule.specs.Nodes.{rules}
use Rattle.rule.specs.Tables.{nodes_of}
use Rattle.table_policy.specs.Inner.Rows.{RowIs}
use Rattle.table_policy.proofs.engine.row_at.Given as goal

abbrev pub invariant-loop-index : goal.invariant-loop-index
invariant-loop-index l =
    (length l.row ≡ 64) × RowIs (sessions l.word.places) l.word.steps (rules (nodes_of l.table)) l.row (l.word.steps - l.step) l.index
