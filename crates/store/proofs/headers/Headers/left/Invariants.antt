use Rattle.std.proofs.Common.{◌≡◌, length, take}
use Rattle.store.specs.Entries.{without_from}
use Rattle.store.specs.Layouts.{letters_of}
use Rattle.store.proofs.headers.Headers.left.Given as goal

abbrev pub invariant-loop-place : goal.invariant-loop-place
invariant-loop-place l = (l.sessions ≡ length (without_from 0 l.places (take l.place-counter l.headers))) × (l.letters ≡ letters_of (without_from 0 l.places (take l.place-counter l.headers)))
