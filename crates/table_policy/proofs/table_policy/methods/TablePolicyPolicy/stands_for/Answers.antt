use Rattle.rule.specs.Tables.{rule_of}
use Rattle.table_policy.specs.Judged.{told_standing}
use Rattle.table_policy.proofs.table_policy.methods.TablePolicyPolicy.stands_for.Goals as goal

pub returns : goal.returns
returns c =
    let self = c.args.self.now in
    told_standing (rule_of self.table) self.signals.upright self.signals.inverted c.args.s.now c.args.t.now c.stands_for.result self.up self.down c.stands_for.ensures
