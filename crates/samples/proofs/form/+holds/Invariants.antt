use Rattle.std.proofs.Common.{◌+◌, ◌*◌, max}
use Rattle.samples.proofs.form.Form.TheLaws.{the_size}
use Rattle.samples.proofs.form.+holds.Given as goal

abbrev pub decreases-Form::holds : goal.decreases-Form::holds
decreases-Form::holds l = 5 * the_size l.self.now

abbrev pub decreases-Form::each : goal.decreases-Form::each
decreases-Form::each l = 5 * the_size l.self.now + 2

abbrev pub decreases-Form::each-all : goal.decreases-Form::each-all
decreases-Form::each-all l = 5 * the_size l.self.now + 1

abbrev pub decreases-Form::some : goal.decreases-Form::some
decreases-Form::some l = 5 * the_size l.self.now + 2

abbrev pub decreases-Form::some-any : goal.decreases-Form::some-any
decreases-Form::some-any l = 5 * the_size l.self.now + 1

abbrev pub decreases-Form::until : goal.decreases-Form::until
decreases-Form::until l = 5 * max (the_size l.self.now) (the_size l.other.now) + 4

abbrev pub decreases-Form::until-any : goal.decreases-Form::until-any
decreases-Form::until-any l = 5 * max (the_size l.self.now) (the_size l.other.now) + 3

abbrev pub decreases-Form::weak : goal.decreases-Form::weak
decreases-Form::weak l = 5 * max (the_size l.self.now) (the_size l.other.now) + 4

abbrev pub decreases-Form::weak-all : goal.decreases-Form::weak-all
decreases-Form::weak-all l = 5 * max (the_size l.self.now) (the_size l.other.now) + 3
