use Rattle.std.proofs.Common.{rules}
use Rattle.store.specs.Headers.{headers_in}
use Rattle.store.specs.Laws.{short_true}
use Rattle.store.proofs.memory_store.MemoryStore.into_memory.Goals as goal

pub returns-clause-lie : goal.returns-clause-lie
returns-clause-lie g c =
    let law = g.met.L.Layout in
    law.lies (headers_in c.args.self.headers) c.args.self.memory (short_true _ c.args.self.headers.short) (search (rules, law.room, law.inside))
