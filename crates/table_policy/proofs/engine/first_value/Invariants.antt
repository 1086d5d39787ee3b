use Rattle.std.proofs.Common.{◌≡◌, ◌-◌, length}
use Rattle.policy.specs.Sessions.{sessions}
use Rattle.rule.specs.Nodes.{rules}
use Rattle.rule.specs.Tables.{nodes_of}
use Rattle.table_policy.specs.Inner.Rows.{RowIs}
use Rattle.table_policy.proofs.engine.first_value.Given as goal

abbrev pub invariant-loop-step : goal.invariant-loop-step
invariant-loop-step l =
    (length l.row ≡ 64) × RowIs (sessions l.word.places) l.word.steps (rules (nodes_of l.table)) l.row (l.word.steps - l.step) (length (nodes_of l.table))
