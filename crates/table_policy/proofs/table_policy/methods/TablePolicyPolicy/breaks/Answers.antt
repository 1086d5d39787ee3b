use Rattle.std.proofs.Common.{ℕ, ◌≤◌, length, ◌∙◌, subst, arith}
use Rattle.std.proofs.lemmas.List.{length-map}
use Rattle.policy.proofs.Places.{word_letters}
use Rattle.policy.specs.Sessions.{IsTuple, sessions}
use Rattle.rule.proofs.Tested.{table_fits}
use Rattle.rule.specs.Tables.{rule_of}
use Rattle.table_policy.specs.Judged.{told, no_tuple, by_word}
use Rattle.table_policy.proofs.table_policy.methods.TablePolicyPolicy.breaks.Goals as goal

pub returns-else-is_tuple-clause-same : goal.returns-else-is_tuple-clause-same
returns-else-is_tuple-clause-same c =
    let t = c.args.self.now.table in
    no_tuple t.places c.places.result (rule_of t) (sessions c.args.tuple.now) c.is_tuple.result (table_fits t).low c.places.ensures c.is_tuple.ensures c.if-is_tuple.false

pub returns-then-is_tuple : goal.returns-then-is_tuple
returns-then-is_tuple c =
    let t = c.args.self.now.table in
    let xs = sessions c.args.tuple.now in
    let fits = table_fits t in
    let is : IsTuple t.places xs = subst (λ (n : ℕ). IsTuple n xs) c.places.ensures (c.is_tuple.ensures.0 c.if-is_tuple.true) in
    let few : length xs ≤ 4 = omega (arith, is.0, fits.high) in
    let word = c.new.result in
    told t.places (rule_of t) xs _ fits.low
    (by_word t.places (rule_of t) xs (sessions word.places) word.steps c.first_value.result is c.new.ensures.steps
    (word_letters xs (sessions word.places) few (length-map word.places _ ∙ c.new.ensures.four) c.new.ensures.each)
    c.first_value.ensures)
