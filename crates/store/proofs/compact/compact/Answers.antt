use Rattle.std.proofs.Common.{◌≤◌, sym, ◌∙◌, rules}
use Rattle.std.proofs.ByRecursion.{All-get_or}
use Rattle.store.specs.declared.header.Header.{Header}
use Rattle.store.specs.Leaves.{unused}
use Rattle.store.proofs.Movings.{next_le, to_le, run_le, few_left, moving_named, moving_stays}
use Rattle.store.proofs.compact.compact.Goals as goal

pub loop-place-preserved-then-contains : goal.loop-place-preserved-then-contains
loop-place-preserved-then-contains g c = rw c.pitch-next.ensures (moving_named c.loop-place.invariant c.loop-place-test.true (sym c.contains.ensures.value ∙ c.if-contains.true))

pub move_down-requires : goal.move_down-requires
move_down-requires g c = record {
  down = to_le c.loop-place.invariant c.loop-place-test.true;
  inside = run_le c.loop-place.invariant c.loop-place-test.true;
}

pub push-requires : goal.push-requires
push-requires g c = record {
  room = few_left c.loop-place.invariant c.loop-place-test.true c.as_slice-headers.ensures.bound;
  short = All-get_or (λ (h : Header). h.len ≤ 128) c.as_slice-headers.result.now c.loop-place.place-counter unused c.loop-place-test.true c.as_slice-headers.ensures.short;
}

pub overflow_add-to : goal.overflow_add-to
overflow_add-to g c = let le = next_le c.loop-place.invariant c.loop-place-test.true in let down = to_le c.loop-place.invariant c.loop-place-test.true in search rules

pub loop-place-preserved : goal.loop-place-preserved
loop-place-preserved g c = rw c.pitch-next.ensures (moving_stays c.loop-place.invariant c.loop-place-test.true c.push.ensures c.move_down.ensures (sym c.contains.ensures.value ∙ c.if-contains.false))
