-- The policy of a table keeps the laws.
use Rattle.policy.specs.Policy.{Lawful}
use Rattle.rule.proofs.Tested.{table_fits}
use Rattle.rule.specs.Tables.{rule_of}
use Rattle.table_policy.specs.declared.table_policy.TablePolicy.{TablePolicy}
use Rattle.table_policy.specs.Tables.{table_means}
use Rattle.table_policy.specs.Judged.{rule_lawful}

pub table_lawful : (p : TablePolicy) → Lawful (table_means p)
table_lawful p =
    let t = p.table in
    let fits = table_fits t in
    rule_lawful t.places (rule_of t) fits.low fits.high
