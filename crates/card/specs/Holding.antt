-- What a reader has left to read and knows, and what its answers say.
use Rattle.std.specs.Prelude.{◌≡◌, ℕ, cond, List, [], ◌∷◌, ◌++◌, Ok, Err, Result, ◌==◌}
use Rattle.std.specs.Borrow.{Bor}
use Rattle.fixed_vec.specs.Items.{items_of}
use Rattle.lexer.specs.declared.fault.Layer.{Layer}
use Rattle.lexer.specs.declared.fault.Layer.TheVariants as layer
use Rattle.lexer.specs.declared.fault.Position.{Position}
use Rattle.lexer.specs.declared.fault.Report.{Report}
use Rattle.lexer.specs.declared.fault.TokenFault.{TokenFault}
use Rattle.lexer.specs.declared.token.Spot.{Spot}
use Rattle.lexer.specs.declared.token.Token.{Token}
use Rattle.lexer.specs.declared.token.Token.TheVariants.{Open, Close, LineEnd, Number, Word, End}
use Rattle.lexer.specs.Faults.{token_report}
use Rattle.lexer.specs.Lexing.{left, spelled}
use Rattle.syntax.specs.declared.fault.FormFault.{FormFault}
use Rattle.syntax.specs.declared.fault.LineFault.{LineFault}
use Rattle.syntax.specs.declared.head.Topic.{Topic}
use Rattle.syntax.specs.declared.head.Topic.TheVariants.{Signal, Rule}
use Rattle.card.specs.declared.line.Mark.{Mark}
use Rattle.card.specs.declared.line.Mark.TheVariants as mark
use Rattle.card.specs.declared.reader.Draft.{Draft}
use Rattle.card.specs.declared.reader.Reader.{Reader}
use Rattle.syntax.specs.Faults.{form_report, line_report}
use Rattle.syntax.specs.Named.{names_of}
use Rattle.card.specs.Reading.{Due, Opens, Words, Known, Step, Outcome, accepted, refused, settled, run, opens, words, closes, ends, line, inside, after_topic, opens_layer, words_layer, worded}

abbrev pub drafted : Draft → Known
drafted d = record { sessions = d.sessions; names = names_of d.names; nodes = items_of d.nodes }

-- what the reading comes to from here, where ds is due and room brackets may open
abbrev pub from : Reader → List Due → List ℕ → ℕ → Outcome
from r ds vs room = run (left r.lexer) ds vs room (drafted r.draft)

-- a token is read, and r has what is left then
abbrev pub from_token : Result Spot TokenFault → Reader → List Due → List ℕ → ℕ → Outcome
from_token (Ok s) r ds vs room = run (spelled s.at s.token (left r.lexer)) ds vs room (drafted r.draft)
from_token (Err f) r ds vs room = refused (token_report f)

-- a part is read and the reading goes on, or its fault is the card's
abbrev pub after : {F X : Type 0} → (F → Report) → Result X F → (X → Outcome) → Outcome
after report (Ok v) k = k v
after report (Err f) k = refused (report f)

-- what a token at p leads to, where r has what is left then
abbrev pub after_step : Position → Reader → Step → Outcome
after_step p r s = settled p (run (left r.lexer)) s

-- Whatever is due later, a part of a form is read from r to s and has a value; room and more
-- brackets may open before and after it.
abbrev pub FormGoes : List Due → ℕ → ℕ → Reader → Reader → Result ℕ FormFault → Type 0
FormGoes ds room more r s q = (es : List Due) (vs : List ℕ) → from r (ds ++ es) vs room ≡ after form_report q (λ v. from s es (v ∷ vs) more)

-- Whatever is due later, a part of a line is read from r to s, and then es is due.
abbrev pub LineGoes : List Due → ℕ → List Due → ℕ → Reader → Reader → Result (Unit {0}) LineFault → Type 0
LineGoes ds room es more r s q = (fs : List Due) (vs : List ℕ) → from r (ds ++ fs) vs room ≡ after line_report q (λ _. from s (es ++ fs) vs more)

-- Whatever is due later, a word that is due in a layer is read from r to s, and it leads to a step.
abbrev pub WordGoes : {F : Type 0} → Layer → ℕ → (F → Report) → Reader → Reader → Result (Position × Bor (List ℕ)) F → Type 0
WordGoes l room report r s q = (k : Words) (ds : List Due) (vs : List ℕ) → words_layer k ≡ l → from r (words k ∷ ds) vs room ≡ after report q (λ w. after_step w.0 s (worded w.1.now k ds vs room (drafted s.draft)))

-- A mark is read from r to s. An opening bracket begins the first line or a later one.
abbrev pub MarkGoes : Mark → Reader → Reader → Result (Unit {0}) LineFault → Type 0
MarkGoes mark.Open r s q = (o : Opens) → opens_layer o ≡ layer.Line → LineGoes (opens o ∷ []) 12 (inside o) 11 r s q
MarkGoes mark.Close r s q = LineGoes (closes ∷ []) 11 [] 12 r s q
MarkGoes mark.LineEnd r s q = LineGoes (ends ∷ []) 12 [] 12 r s q
MarkGoes mark.End r s q = (vs : List ℕ) → from r [] vs 12 ≡ after line_report q (λ _. accepted (drafted s.draft))

-- a token that cannot come in a form where room brackets may still open
abbrev pub stray_number : Token → ℕ → ℕ
stray_number Open room = cond (room == 0) 4 3
stray_number Close room = 3
stray_number LineEnd room = 3
stray_number (Number n) room = 3
stray_number (Word text offset) room = 3
stray_number End room = 3

-- a line after the first is read, to its end or as far as its form
abbrev pub from_topic : Topic → Reader → List Due → List ℕ → Outcome
from_topic Signal r ds vs = from r (line ∷ ds) vs 12
from_topic Rule r ds vs = from r (after_topic Rule ++ ds) vs 11
