use Rattle.store.specs.Headers.{headers_in}
use Rattle.store.proofs.Movings.{Moving}
use Rattle.store.proofs.compact.compact.Given as goal

abbrev pub invariant-loop-place : goal.invariant-loop-place
invariant-loop-place g l = Moving g.L.Layout.pitch l.places l.headers l.initial.memory (headers_in l.stay) l.memory l.place-counter l.from l.to
