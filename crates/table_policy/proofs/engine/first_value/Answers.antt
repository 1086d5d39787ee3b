use Rattle.std.proofs.Common.{refl}
use Rattle.policy.specs.Sessions.{sessions}
use Rattle.rule.proofs.Tested.{table_fits}
use Rattle.rule.specs.Nodes.{rules}
use Rattle.rule.specs.Tables.{nodes_of}
use Rattle.table_policy.proofs.Rows.{row_none}
use Rattle.table_policy.proofs.engine.first_value.Goals as goal

pub loop-step-init : goal.loop-step-init
loop-step-init c =
    let t = c.args.table.now in
    let w = c.args.word.now in
    (refl, row_none (sessions w.places) w.steps c.len-step.result (rules (nodes_of t)) _ (table_fits t).few c.len-step.ensures)
