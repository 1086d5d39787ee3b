use Rattle.std.proofs.Common.{◌≤◌}
use Rattle.std.specs.List.{AllByRecursion}
use Rattle.store.specs.declared.header.Header.{Header}
use Rattle.store.specs.Laws.{short_true, letters_small}
use Rattle.store.proofs.headers.Headers.as_slice.Goals as goal

short : (c : goal.After-as_slice) → AllByRecursion (λ (h : Header). h.len ≤ 128) c.as_slice.result.now
short c = rw c.as_slice.ensures.value (short_true _ c.args.self.now.short)

pub returns-clause-short : goal.returns-clause-short
returns-clause-short c = short c

pub returns-clause-small : goal.returns-clause-small
returns-clause-small c = letters_small c.as_slice.result.now c.as_slice.ensures.bound (short c)
