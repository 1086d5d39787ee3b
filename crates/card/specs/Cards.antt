-- What the reader answers, and what that says in the words of the grammar.
use Rattle.std.specs.Prelude.{◌≡◌, ℕ, ◌≤◌, ◌⊎◌, List, length, Ok, Err, Result}
use Rattle.lexer.specs.declared.fault.TokenFault.TheVariants.{Long}
use Rattle.lexer.specs.Faults.{token_report}
use Rattle.lexer.specs.Lines.{OnLine}
use Rattle.lexer.specs.Tokens.{card_tokens}
use Rattle.rule.specs.Tables.{nodes_of, rule_of}
use Rattle.card.specs.declared.card.Card.{Card}
use Rattle.syntax.specs.declared.fault.LineFault.{LineFault}
use Rattle.syntax.specs.Faults.{line_report}
use Rattle.card.specs.Grammar.{Written, spelled, size, meaning, Within, Are}
use Rattle.syntax.specs.Named.{names_of}
use Rattle.card.specs.Reading.{Known, Outcome, accepted, refused}

-- what a card says
abbrev pub card_known : Card → Known
card_known c = record { sessions = c.table.places; names = names_of c.names; nodes = nodes_of c.table }

abbrev pub said : Result Card LineFault → Outcome
said (Ok c) = accepted (card_known c)
said (Err f) = refused (line_report f)

-- the bytes write a card of the grammar, within the limits
pub record Writes (bytes : List ℕ) (w : Written) : Type 0 where
  pub short : length bytes ≤ 4096
  pub derives : Are (card_tokens bytes) (spelled w)
  pub within : Within w

-- the answer says what is written: the sessions, the names, the rule, the number of nodes
pub record Agrees (w : Written) (c : Card) : Type 0 where
  pub sessions : c.table.places ≡ w.sessions
  pub names : names_of c.names ≡ w.names
  pub rule : rule_of c.table ≡ meaning w.names w.rule
  pub nodes : length (nodes_of c.table) ≡ size w.rule

-- An accepted card is written by its bytes, and no other is; bytes that are refused write none.
abbrev pub Decided : List ℕ → Result Card LineFault → Type 0
Decided bytes (Ok c) = (w : Written) × Writes bytes w × Agrees w c × ((v : Written) → Writes bytes v → v ≡ w)
Decided bytes (Err f) = (w : Written) → Writes bytes w → ⊥

-- a fault has the line of its place, but for that of a card too long
abbrev pub LinedFault : List ℕ → Result Card LineFault → Type 0
LinedFault bytes (Ok c) = Unit {0}
LinedFault bytes (Err f) = (line_report f ≡ token_report Long) ⊎ OnLine bytes (line_report f).at
