use Rattle.std.proofs.Common.{length, sym, ap, ◌∙◌, rules}
use Rattle.std.specs.Option.{option_map}
use Rattle.store.specs.Entries.{written}
use Rattle.store.proofs.Places.{ends, reads_none, reads_long, count_is, copied}
use Rattle.store.proofs.memory_store.stores.MemoryStoreStore.letters.Goals as goal

pub returns-in_err-len : goal.returns-in_err-len
returns-in_err-len g c =
    let law = g.met.L.Layout in
    let e = reads_none c.args.self.now law.wide (search (rules, law.room, law.inside)) c.args.place (length c.args.buffer.now) (sym c.get.ensures ∙ c.in_err-len.was) in
    record { count = c.from_residual.ensures ∙ sym (ap (option_map length) e); copy = sym (ap (λ o. written o c.args.buffer.now) e) }

pub returns-then-len-buffer : goal.returns-then-len-buffer
returns-then-len-buffer g c =
    let law = g.met.L.Layout in
    let e = reads_long c.args.self.now law.wide (search (rules, law.room, law.inside)) c.args.place (length c.args.buffer.now) c.in_ok-len.field-0 (sym c.get.ensures ∙ c.in_ok-len.was) c.if-len-buffer.true in
    record { count = sym (ap (option_map length) e); copy = sym (ap (λ o. written o c.args.buffer.now) e) }

pub slice_bounds-write_at-end : goal.slice_bounds-write_at-end
slice_bounds-write_at-end g c =
    let law = g.met.L.Layout in
    let h = ends c.args.self.now law.wide (search (rules, law.room, law.inside)) c.args.place (length c.args.buffer.now) c.in_ok-len.field-0 (sym c.get.ensures ∙ c.in_ok-len.was) in
    search rules

pub returns : goal.returns
returns g c =
    let law = g.met.L.Layout in
    let there = sym c.get.ensures ∙ c.in_ok-len.was in
    record {
      count = count_is c.args.self.now law.wide (search (rules, law.room, law.inside)) c.args.place (length c.args.buffer.now) c.in_ok-len.field-0 there c.if-len-buffer.false;
      copy = copied c.args.self.now law.wide (search (rules, law.room, law.inside)) c.args.place (length c.args.buffer.now) c.in_ok-len.field-0 there c.args.buffer.now c.as_slice.result.now c.write_at.new.memory c.start-from.result c.if-len-buffer.false c.as_slice.ensures.value c.start-from.ensures c.write_at.ensures;
    }
