use Rattle.std.proofs.Common.{◌≡◌, ℕ, List, ◌∷◌}
use Rattle.lexer.specs.Lexing.{unread}
use Rattle.card.specs.Holding.{from}
use Rattle.card.specs.Reading.{Due, line}
use Rattle.card.proofs.reader.Reader.later_lines.Given as goal

abbrev pub invariant-loop : goal.invariant-loop
invariant-loop l = (ds : List Due) (vs : List ℕ) → from l.initial.self (line ∷ ds) vs 12 ≡ from l.self (line ∷ ds) vs 12

abbrev pub decreases-loop : goal.decreases-loop
decreases-loop l = unread l.self.lexer
