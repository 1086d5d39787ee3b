-- The reading of a card, token by token: what may come next, and what each fault is.
use Rattle.std.specs.Prelude.{ℕ, ◌+◌, ◌-◌, ◌^◌, cond, ◌&&◌, List, [], ◌∷◌, ◌++◌, length, drop, Some, None, codes, Option, ◌==◌, bit_or, nat_le, nat_lt, slice_index}
use Rattle.lexer.specs.declared.fault.Layer.{Layer}
use Rattle.lexer.specs.declared.fault.Layer.TheVariants.{Form, Line}
use Rattle.lexer.specs.declared.fault.Position.{Position}
use Rattle.lexer.specs.declared.fault.Report.{Report}
use Rattle.lexer.specs.declared.fault.TokenFault.TheVariants.{Long}
use Rattle.lexer.specs.Faults.{token_report}
use Rattle.lexer.specs.Tokens.{Lexeme, open_bracket, close_bracket, line_end, number, word, Tokens, token, over, bad, card_tokens}
use Rattle.rule.specs.declared.node.Node.{Node}
use Rattle.syntax.specs.declared.head.Head.{Head}
use Rattle.syntax.specs.declared.head.Head.TheVariants.{True, At, Near, One, Two}
use Rattle.card.specs.Layout.{arity, head_nodes}
use Rattle.syntax.specs.declared.head.Topic.{Topic}
use Rattle.syntax.specs.declared.head.Topic.TheVariants.{Signal, Rule}
use Rattle.syntax.specs.Words.{same, head_of, topic_of}
use Rattle.syntax.specs.Signals.{signal_of, is_new}

-- ---- what may come next

-- what an opening bracket begins
pub data Opens : Type 0 where
  formula : Opens
  first_line : Opens
  later_line : Opens

-- a word: `sessions`, `signal` or `rule`, that of a form, a name to declare, the name of a signal,
-- the name of a signal that makes a set
pub data Words : Type 0 where
  sessions_word : Words
  topic : Words
  head : Words
  new_name : Words
  signal : Words
  mask : Words

-- a number: of sessions, of one session, of differences
pub data Numbers : Type 0 where
  sessions : Numbers
  place : Numbers
  limit : Numbers

-- `makes` is the closing bracket of a form, which adds its nodes. `names` is a further name of
-- `near`, or its closing bracket. `closes` and `ends` are the bracket and the end of a line.
pub data Due : Type 0 where
  opens : Opens → Due
  words : Words → Due
  numbers : Numbers → Due
  names : Due
  makes : Head → Due
  closes : Due
  ends : Due

-- a form is due
abbrev pub form : Due
form = opens formula

-- a line after the first is due
abbrev pub line : Due
line = opens later_line

-- what follows the word of a form
abbrev pub parts : Head → List Due
parts True = makes True ∷ []
parts At = numbers place ∷ words signal ∷ makes At ∷ []
parts Near = numbers place ∷ numbers place ∷ numbers limit ∷ words mask ∷ names ∷ []
parts (One u) = form ∷ makes (One u) ∷ []
parts (Two b) = form ∷ form ∷ makes (Two b) ∷ []

-- what follows an opening bracket
abbrev pub inside : Opens → List Due
inside formula = words head ∷ []
inside first_line = words sessions_word ∷ numbers sessions ∷ closes ∷ ends ∷ line ∷ []
inside later_line = words topic ∷ []

-- what follows the word `signal` or `rule`
abbrev pub after_topic : Topic → List Due
after_topic Signal = words new_name ∷ closes ∷ ends ∷ line ∷ []
after_topic Rule = form ∷ closes ∷ ends ∷ []

-- ---- the layer of a fault: a form where one is due or open, else a line

abbrev pub opens_layer : Opens → Layer
opens_layer formula = Form
opens_layer first_line = Line
opens_layer later_line = Line

abbrev pub words_layer : Words → Layer
words_layer sessions_word = Line
words_layer topic = Line
words_layer head = Form
words_layer new_name = Line
words_layer signal = Form
words_layer mask = Form

abbrev pub numbers_layer : Numbers → Layer
numbers_layer sessions = Line
numbers_layer place = Form
numbers_layer limit = Form

abbrev pub layer : Due → Layer
layer (opens o) = opens_layer o
layer (words k) = words_layer k
layer (numbers k) = numbers_layer k
layer names = Form
layer (makes h) = Form
layer closes = Line
layer ends = Line

-- ---- what one token leads to

-- what is known so far: the number of sessions, the declared names, the nodes
pub record Known : Type 0 where
  pub sessions : ℕ
  pub names : List (List ℕ)
  pub nodes : List Node

-- What is due after a token, with the values of the forms that are open, the brackets that may
-- still open and what is known; or the number of a fault and its layer.
pub data Step : Type 0 where
  on : List Due → List ℕ → ℕ → Known → Step
  no : ℕ → Layer → Step

abbrev pub opening : Due → List Due → List ℕ → ℕ → Known → Step
opening (opens o) ds vs room x = on (inside o ++ ds) vs (room - 1) x
opening (words k) ds vs room x = no 3 (words_layer k)
opening (numbers k) ds vs room x = no 3 (numbers_layer k)
opening names ds vs room x = no 3 Form
opening (makes h) ds vs room x = no 3 Form
opening closes ds vs room x = no 3 Line
opening ends ds vs room x = no 3 Line

-- nodes are added at a closing bracket, unless they pass 64; the last of them stands for the form
abbrev pub adding : List Node → List Due → List ℕ → ℕ → Known → Step
adding ns ds vs room x =
    cond (nat_le (length x.nodes + length ns) 64)
    (on ds ((length x.nodes + length ns - 1) ∷ vs) (room + 1) (record { sessions = x.sessions; names = x.names; nodes = x.nodes ++ ns }))
    (no 7 Form)

abbrev pub making : Head → List Due → List ℕ → ℕ → Known → Step
making h ds vs room x = adding (head_nodes h vs (length x.nodes)) ds (drop (arity h) vs) room x

abbrev pub closing : Due → List Due → List ℕ → ℕ → Known → Step
closing (opens o) ds vs room x = no 3 (opens_layer o)
closing (words k) ds vs room x = no 3 (words_layer k)
closing (numbers k) ds vs room x = no 3 (numbers_layer k)
closing names ds vs room x = making Near ds vs room x
closing (makes h) ds vs room x = making h ds vs room x
closing closes ds vs room x = on ds vs (room + 1) x
closing ends ds vs room x = no 3 Line

abbrev pub ending : Due → List Due → List ℕ → ℕ → Known → Step
ending (opens o) ds vs room x = no 3 (opens_layer o)
ending (words k) ds vs room x = no 3 (words_layer k)
ending (numbers k) ds vs room x = no 3 (numbers_layer k)
ending names ds vs room x = no 3 Form
ending (makes h) ds vs room x = no 3 Form
ending closes ds vs room x = no 3 Line
ending ends ds vs room x = on ds vs room x

abbrev pub numbered : ℕ → Numbers → List Due → List ℕ → ℕ → Known → Step
numbered n sessions ds vs room x =
    cond (nat_le 1 n && nat_le n 4) (on ds vs room (record { sessions = n; names = x.names; nodes = x.nodes })) (no 6 Line)
numbered n place ds vs room x = cond (nat_le 1 n && nat_le n x.sessions) (on ds ((n - 1) ∷ vs) room x) (no 6 Form)
numbered n limit ds vs room x = cond (nat_le n 32) (on ds (n ∷ vs) room x) (no 6 Form)

abbrev pub numbering : ℕ → Due → List Due → List ℕ → ℕ → Known → Step
numbering n (opens o) ds vs room x = no 3 (opens_layer o)
numbering n (words k) ds vs room x = no 3 (words_layer k)
numbering n (numbers k) ds vs room x = numbered n k ds vs room x
numbering n names ds vs room x = no 3 Form
numbering n (makes h) ds vs room x = no 3 Form
numbering n closes ds vs room x = no 3 Line
numbering n ends ds vs room x = no 3 Line

-- the parts of the form that a word begins
abbrev pub begun : Option Head → List Due → List ℕ → ℕ → Known → Step
begun (Some h) ds vs room x = on (parts h ++ ds) vs room x
begun None ds vs room x = no 3 Form

-- the rest of the line that a word begins
abbrev pub lined : Option Topic → List Due → List ℕ → ℕ → Known → Step
lined (Some t) ds vs room x = on (after_topic t ++ ds) vs room x
lined None ds vs room x = no 3 Line

-- a signal is a value of `at`
abbrev pub named : Option ℕ → List Due → List ℕ → ℕ → Known → Step
named (Some i) ds vs room x = on ds (i ∷ vs) room x
named None ds vs room x = no 5 Form

-- the first signal of `near` begins a set
abbrev pub marked : Option ℕ → List Due → List ℕ → ℕ → Known → Step
marked (Some i) ds vs room x = on ds ((2 ^ i) ∷ vs) room x
marked None ds vs room x = no 5 Form

-- a further signal of `near` joins the set
abbrev pub joined : Option ℕ → List Due → List ℕ → ℕ → Known → Step
joined (Some i) ds vs room x = on (names ∷ ds) (bit_or (slice_index vs 0) (2 ^ i) ∷ drop 1 vs) room x
joined None ds vs room x = no 5 Form

abbrev pub declared : List ℕ → List Due → List ℕ → ℕ → Known → Step
declared w ds vs room x =
    cond (is_new x.names w) (on ds vs room (record { sessions = x.sessions; names = x.names ++ (w ∷ []); nodes = x.nodes })) (no 5 Line)

abbrev pub worded : List ℕ → Words → List Due → List ℕ → ℕ → Known → Step
worded w sessions_word ds vs room x = cond (same w (codes "sessions")) (on ds vs room x) (no 3 Line)
worded w topic ds vs room x = lined (topic_of w) ds vs room x
worded w head ds vs room x = begun (head_of w) ds vs room x
worded w new_name ds vs room x = declared w ds vs room x
worded w signal ds vs room x = named (signal_of x.names w) ds vs room x
worded w mask ds vs room x = marked (signal_of x.names w) ds vs room x

abbrev pub wording : List ℕ → Due → List Due → List ℕ → ℕ → Known → Step
wording w (opens o) ds vs room x = no 3 (opens_layer o)
wording w (words k) ds vs room x = worded w k ds vs room x
wording w (numbers k) ds vs room x = no 3 (numbers_layer k)
wording w names ds vs room x = joined (signal_of x.names w) ds vs room x
wording w (makes h) ds vs room x = no 3 Form
wording w closes ds vs room x = no 3 Line
wording w ends ds vs room x = no 3 Line

-- What a token leads to where d is due, and then ds. Of one token a thirteenth bracket, number 4,
-- counts before number 3.
abbrev pub admit : Due → List Due → List ℕ → ℕ → Known → Lexeme → Step
admit d ds vs room x open_bracket = cond (room == 0) (no 4 (layer d)) (opening d ds vs room x)
admit d ds vs room x close_bracket = closing d ds vs room x
admit d ds vs room x line_end = ending d ds vs room x
admit d ds vs room x (number n) = numbering n d ds vs room x
admit d ds vs room x (word w) = wording w d ds vs room x

-- ---- the whole card

pub data Outcome : Type 0 where
  accepted : Known → Outcome
  refused : Report → Outcome

abbrev pub faulty : ℕ → Position → Layer → Outcome
faulty n p l = refused (record { number = n; at = p; layer = l })

-- the reading goes on with what a token at p leads to
abbrev pub settled : Position → (List Due → List ℕ → ℕ → Known → Outcome) → Step → Outcome
settled p k (on ds vs room x) = k ds vs room x
settled p k (no n l) = faulty n p l

-- The reading of tokens where ds is due, in that order, and then the card's end. The first token
-- that cannot be read is the fault.
abbrev pub run : Tokens → List Due → List ℕ → ℕ → Known → Outcome
run (bad f) ds vs room x = refused (token_report f)
run (over p) [] vs room x = accepted x
run (over p) (d ∷ ds) vs room x = faulty 3 p (layer d)
run (token p t ts) [] vs room x = faulty 3 p Line
run (token p t ts) (d ∷ ds) vs room x = settled p (run ts) (admit d ds vs room x t)

abbrev pub nothing : Known
nothing = record { sessions = 0; names = []; nodes = [] }

-- the reading of tokens from the first line on: twelve brackets may open
abbrev pub read_tokens : Tokens → Outcome
read_tokens ts = run ts (opens first_line ∷ []) [] 12 nothing

-- the reading of a card: its length is tested first
abbrev pub reading : List ℕ → Outcome
reading card = cond (nat_lt 4096 (length card)) (refused (token_report Long)) (read_tokens (card_tokens card))
