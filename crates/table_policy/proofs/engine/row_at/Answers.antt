use Rattle.policy.specs.Sessions.{sessions}
use Rattle.rule.proofs.Tested.{table_fits}
use Rattle.rule.specs.Tables.{nodes_of}
use Rattle.table_policy.proofs.Rows.{row_more}
use Rattle.table_policy.proofs.engine.row_at.Goals as goal

pub loop-index-preserved : goal.loop-index-preserved
loop-index-preserved c =
    let t = c.args.table.now in
    let w = c.args.word.now in
    row_more (sessions w.places) w.steps t.places (nodes_of t) c.nodes-node-items.result.now c.args.step c.loop-index.index c.loop-index.row c.args.later.now _ c.value.result
    (table_fits t) c.nodes-node-items.ensures.value c.requires.step c.loop-index-test.true
    c.loop-index.invariant.0 c.loop-index.invariant.1 c.requires.after c.letters_at-letters.ensures c.value.ensures
