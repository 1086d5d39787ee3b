use Rattle.std.proofs.Common.{◌≡◌, ℕ, List, ◌∷◌}
use Rattle.lexer.specs.Lexing.{unread}
use Rattle.card.specs.Holding.{from}
use Rattle.card.specs.Reading.{Due, names}
use Rattle.card.proofs.reader.Reader.names.Given as goal

abbrev pub invariant-loop-spot : goal.invariant-loop-spot
invariant-loop-spot l =
    (ds : List Due) (vs : List ℕ) → from l.initial.self (names ∷ ds) (l.start ∷ vs) l.room ≡ from l.self (names ∷ ds) (l.mask ∷ vs) l.room

abbrev pub decreases-loop-spot : goal.decreases-loop-spot
decreases-loop-spot l = unread l.self.lexer
