use Rattle.samples.proofs.grow.Bounds.+grow.Given as goal

abbrev pub decreases-grow : goal.decreases-grow
decreases-grow l = l.depth
