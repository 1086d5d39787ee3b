use Rattle.store.proofs.Pastes.{paste_same}
use Rattle.store.proofs.memory.move_down.Goals as goal

pub returns-else-from-to : goal.returns-else-from-to
returns-else-from-to c = paste_same c.args.memory.now c.args.from c.args.to c.args.len c.if-from-to.false
