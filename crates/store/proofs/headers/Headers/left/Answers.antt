use Rattle.std.proofs.Common.{◌≡◌, ◌+◌, ◌≤◌, length, get_or, take, sym, ap, ◌∙◌, arith, length-take, rules}
use Rattle.std.proofs.lemmas.List.{length_push, take_all}
use Rattle.std.proofs.lemmas.List.Sums.{sum_by_more, sum_by_push, sum_by-take-le}
use Rattle.store.specs.declared.header.Header.{Header}
use Rattle.store.specs.Entries.{without_from}
use Rattle.store.specs.Headers.{headers_in}
use Rattle.store.specs.Layouts.{letters_of}
use Rattle.store.specs.Leaves.{unused, left_more_named, left_more_stays, sum_by_left_le, length_left_le}
use Rattle.store.proofs.headers.Headers.left.Goals as goal

pub loop-place-preserved-then-contains : goal.loop-place-preserved-then-contains
loop-place-preserved-then-contains c =
    let e = left_more_named c.args.places.now c.as_slice-headers.result.now c.loop-place.place-counter unused c.loop-place-test.true (sym c.contains.ensures.value ∙ c.if-contains.true) in
    (c.loop-place.invariant.0 ∙ sym (ap length e), c.loop-place.invariant.1 ∙ sym (ap letters_of e))

pub overflow_add-sessions : goal.overflow_add-sessions
overflow_add-sessions c =
    let hs = c.as_slice-headers.result.now in
    let few : c.loop-place.sessions ≤ 64 = omega (arith, c.loop-place.invariant.0, length_left_le c.args.places.now 0 (take c.loop-place.place-counter hs), length-take c.loop-place.place-counter hs, c.as_slice-headers.ensures.bound) in
    search rules

pub overflow_add-letters : goal.overflow_add-letters
overflow_add-letters c =
    let hs = c.as_slice-headers.result.now in
    let i = c.loop-place.place-counter in
    let small : c.loop-place.letters + (get_or hs i unused).len ≤ 8192 = omega (arith, c.loop-place.invariant.1, sum_by_left_le c.args.places.now (λ (h : Header). h.len) 0 (take i hs), sum_by_more (λ (h : Header). h.len) hs i unused c.loop-place-test.true, sum_by-take-le (λ (h : Header). h.len) hs (i + 1), c.as_slice-headers.ensures.small) in
    search rules

pub loop-place-preserved : goal.loop-place-preserved
loop-place-preserved c =
    let hs = c.as_slice-headers.result.now in
    let i = c.loop-place.place-counter in
    let left = without_from 0 c.args.places.now (take i hs) in
    let e = left_more_stays c.args.places.now hs i unused c.loop-place-test.true (sym c.contains.ensures.value ∙ c.if-contains.false) in
    (omega (arith, c.loop-place.invariant.0, ap length e, length_push left (get_or hs i unused)), omega (arith, c.loop-place.invariant.1, ap letters_of e, sum_by_push (λ (h : Header). h.len) left (get_or hs i unused)))

pub returns : goal.returns
returns c =
    let ps = c.args.places.now in
    let hs = c.as_slice-headers.result.now in
    let all = ap (without_from 0 ps) (take_all c.loop-place.place-counter hs c.loop-place-test.false ∙ c.as_slice-headers.ensures.value) in
    let kept = headers_in c.args.self.now in
    let sessions : c.loop-place.sessions ≡ length (without_from 0 ps kept) = c.loop-place.invariant.0 ∙ ap length all in
    let letters : c.loop-place.letters ≡ letters_of (without_from 0 ps kept) = c.loop-place.invariant.1 ∙ ap letters_of all in
    record {
      sessions = sessions;
      letters = letters;
      few = omega (arith, sessions, length_left_le ps 0 kept, ap length c.as_slice-headers.ensures.value, c.as_slice-headers.ensures.bound);
      small = omega (arith, letters, sum_by_left_le ps (λ (h : Header). h.len) 0 kept, ap letters_of c.as_slice-headers.ensures.value, c.as_slice-headers.ensures.small);
    }
