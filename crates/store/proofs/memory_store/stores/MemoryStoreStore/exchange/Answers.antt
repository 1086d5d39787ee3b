use Rattle.std.proofs.Common.{◌≡◌, ◌≤◌, ◌+◌, [], ◌∷◌, ◌++◌, vec_items, vec_len, length, drop, refl, sym, ap, ◌∙◌, arith, rules}
use Rattle.std.specs.Vec.{with_items}
use Rattle.store.specs.Headers.{headers_in}
use Rattle.store.specs.Layouts.{by_len, room_of, spread}
use Rattle.store.specs.Entries.{entry_of, without_from}
use Rattle.store.specs.Stores.{limits_in, entries_in}
use Rattle.store.proofs.Exchanges.{test_is, exchange_is, room_after, refilled_items}
use Rattle.store.proofs.Pastes.{drop_later, drop_past}
use Rattle.store.proofs.Same.{same}
use Rattle.store.proofs.memory_store.stores.MemoryStoreStore.exchange.Goals as goal

pub returns-then-not-has_room-clause-test : goal.returns-then-not-has_room-clause-test
returns-then-not-has_room-clause-test g c =
    let law = g.met.L.Layout in
    test_is c.args.self.now law.wide (search (rules, law.room, law.inside)) c.args.places.now (entry_of c.args.session) c.len.ensures c.limits-limits.ensures c.if-not-has_room.ensures

pub returns-then-not-has_room-clause-refused : goal.returns-then-not-has_room-clause-refused
returns-then-not-has_room-clause-refused g c = same c.args.self.now _ _ _

pub write_at-requires : goal.write_at-requires
write_at-requires g c =
    let law = g.met.L.Layout in
    let s = c.args.self.now in
    let inside : room_of g.L.Layout.pitch (headers_in s.headers) ≤ length (vec_items s.memory) = search (rules, law.room, law.inside) in
    let test = test_is s law.wide inside c.args.places.now (entry_of c.args.session) c.len.ensures c.limits-limits.ensures c.if-not-has_room.ensures in
    omega (arith, c.compact-end.ensures.end, ap (room_of g.L.Layout.pitch) c.compact-end.ensures.headers, room_after s law.wide inside c.args.places.now (entry_of c.args.session) test (law.room (vec_len s.memory)), law.inside (vec_len s.memory), c.as_mut_slice.ensures.len)

pub returns : goal.returns
returns g c =
    let law = g.met.L.Layout in
    let f = g.L.Layout.pitch in
    let s = c.args.self.now in
    let ps = c.args.places.now in
    let e = entry_of c.args.session in
    let k = length e.letters in
    let hs = headers_in s.headers in
    let end = c.compact-end.result in
    let room = (limits_in s).letters in
    let m₁ = c.compact-end.new.memory in
    let m₂ = c.as_mut_slice.result.now in
    let m₃ = c.write_at.new.memory in
    let inside : room_of f hs ≤ length (vec_items s.memory) = search (rules, law.room, law.inside) in
    let test = test_is s law.wide inside ps e c.len.ensures c.limits-limits.ensures c.if-not-has_room.ensures in
    let at : end ≡ room_of f (without_from 0 ps hs) = c.compact-end.ensures.end ∙ ap (room_of f) c.compact-end.ensures.headers in
    let within : end + k ≤ room = omega (arith, at, room_after s law.wide inside ps e test (law.room (vec_len s.memory))) in
    let fits : end + k ≤ length m₂ = omega (arith, law.inside (vec_len s.memory), c.as_mut_slice.ensures.len) in
    let moved : m₂ ≡ m₁ = c.as_mut_slice.ensures.value ∙ refilled_items s.memory m₁ (omega (arith, c.compact-end.auto.memory, c.as_mut_slice-memory.ensures.len)) in
    let final : vec_items (with_items (with_items s.memory m₁) m₃) ≡ m₃ = refilled_items (with_items s.memory m₁) m₃ (omega (arith, c.write_at.auto.memory, c.as_mut_slice.ensures.len)) in
    let stays : spread (by_len f) (without_from 0 ps hs) m₂ ≡ without_from 0 ps (entries_in s) =
    ap (spread (by_len f) (without_from 0 ps hs)) moved ∙ ap (λ xs. spread (by_len f) xs m₁) (sym c.compact-end.ensures.headers) ∙ c.compact-end.ensures.entries ∙ ap (λ m. without_from 0 ps (spread (by_len f) hs m)) c.as_mut_slice-memory.ensures.value in
    let headers = c.push.ensures ∙ ap (λ xs. xs ++ record { number = e.number; len = k } ∷ []) c.compact-end.ensures.headers in
    let past =
    ap (drop room) (final ∙ c.write_at.ensures)
    ∙ drop_past m₂ end e.letters k room (omega arith) (omega arith) within
    ∙ ap (drop room) moved
    ∙ drop_later m₁ c.as_mut_slice-memory.result.now (room_of f hs) room (law.room (vec_len s.memory) hs s.kept s.room) c.compact-end.ensures.rest
    ∙ ap (drop room) c.as_mut_slice-memory.ensures.value in
    record {
      test = test;
      after = ap (spread (by_len f) (headers_in c.push.new.self)) final ∙ exchange_is s law.wide inside ps e (headers_in c.push.new.self) m₂ m₃ end at fits stays headers c.write_at.ensures;
      stays = refl;
      refused = tt;
      memory = record { place = refl; size = refl; capacity = refl; past = past };
    }
