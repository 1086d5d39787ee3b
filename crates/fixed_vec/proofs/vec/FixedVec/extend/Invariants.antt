use Rattle.std.proofs.Common.{◌≡◌, ◌++◌, take}
use Rattle.fixed_vec.specs.Items.{items_of}
use Rattle.fixed_vec.proofs.vec.FixedVec.extend.Given as goal

abbrev pub invariant-loop-item : goal.invariant-loop-item
invariant-loop-item g l = items_of l.self ≡ items_of l.initial.self ++ take l.item-index l.items
