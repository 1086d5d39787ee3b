use Rattle.std.proofs.Common.{◌≡◌, [], ◌∷◌, ◌++◌, OnOk, subst}
use Rattle.fixed_vec.specs.Items.{items_of}
use Rattle.rule.proofs.Tested.{table_fits}
use Rattle.rule.specs.Tables.{nodes_of}
use Rattle.table_policy.proofs.Rows.{reads_more}
use Rattle.table_policy.proofs.masks.signals.Goals as goal

pub loop-node-preserved : goal.loop-node-preserved
loop-node-preserved c =
    let t = c.args.table.now in
    let xs = items_of c.loop-node.read in
    let s = c.signals_of-signals.result in
    let more = items_of c.push.new.self in
    reads_more t.places (nodes_of t) c.nodes-node-items.result.now xs c.as_slice.result.now more c.loop-node.node-index s
    (table_fits t) c.nodes-node-items.ensures.value c.loop-node-test.true c.loop-node.invariant c.as_slice.ensures.value c.signals_of-signals.ensures
    (subst (λ r. OnOk r (more ≡ xs ++ (s ∷ []))) c.unwrap.ensures c.push.ensures.ok)
