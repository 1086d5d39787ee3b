use Rattle.std.proofs.Common.{◌+◌, ◌*◌}
use Rattle.card.proofs.reader.Reader.+form_one_parts_two.Given as goal

abbrev pub decreases-form : goal.decreases-form
decreases-form l = 3 * l.room

abbrev pub decreases-one : goal.decreases-one
decreases-one l = 3 * l.room + 1

abbrev pub decreases-parts : goal.decreases-parts
decreases-parts l = 3 * l.room + 2

abbrev pub decreases-two : goal.decreases-two
decreases-two l = 3 * l.room + 1
