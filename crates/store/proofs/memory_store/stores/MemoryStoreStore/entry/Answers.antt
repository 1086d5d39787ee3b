use Rattle.std.proofs.Common.{sym, ap, ◌∙◌, rules}
use Rattle.std.specs.Option.{option_map}
use Rattle.store.specs.Spreads.{header_pair}
use Rattle.store.proofs.Places.{entry_is}
use Rattle.store.proofs.memory_store.stores.MemoryStoreStore.entry.Goals as goal

pub returns-in_err-header : goal.returns-in_err-header
returns-in_err-header g c =
    let law = g.met.L.Layout in
    c.from_residual.ensures ∙ ap (option_map header_pair) (sym c.in_err-header.was ∙ c.get.ensures) ∙ entry_is c.args.self.now law.wide (search (rules, law.room, law.inside)) c.args.place

pub returns : goal.returns
returns g c =
    let law = g.met.L.Layout in
    ap (option_map header_pair) (sym c.in_ok-header.was ∙ c.get.ensures) ∙ entry_is c.args.self.now law.wide (search (rules, law.room, law.inside)) c.args.place
