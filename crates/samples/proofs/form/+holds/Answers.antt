use Rattle.std.proofs.Common.{rules}
use Rattle.std.proofs.lemmas.Iterator.{serves_from_Range}
use Rattle.samples.proofs.form.+holds.Goals as goal

pub Form::each-all-requires-clause-callable : goal.Form::each-all-requires-clause-callable
Form::each-all-requires-clause-callable t c = serves_from_Range (λ x q r. search rules) (λ x lo hi. (search rules, tt))

pub Form::some-any-requires-clause-callable : goal.Form::some-any-requires-clause-callable
Form::some-any-requires-clause-callable t c = serves_from_Range (λ x q r. search rules) (λ x lo hi. (search rules, tt))

pub Form::until-any-requires-clause-callable : goal.Form::until-any-requires-clause-callable
Form::until-any-requires-clause-callable t c = serves_from_Range (λ x q r. search rules) (λ x lo hi. (search rules, tt))

pub Form::weak-all-requires-clause-callable : goal.Form::weak-all-requires-clause-callable
Form::weak-all-requires-clause-callable t c = serves_from_Range (λ x q r. search rules) (λ x lo hi. (search rules, tt))
