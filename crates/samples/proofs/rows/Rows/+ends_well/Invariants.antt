use Rattle.std.proofs.Common.{◌-◌}
use Rattle.samples.proofs.rows.Rows.+ends_well.Given as goal

abbrev pub decreases-ends_well : goal.decreases-ends_well
decreases-ends_well l = l.word.steps - l.i
