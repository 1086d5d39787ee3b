-- The grammar of cards, with no word of how a card is read: what a card may say, the tokens that
-- write it, the rule that it means, and the limits within which it may be.
use Rattle.std.specs.Prelude.{◌≡◌, ℕ, suc, ◌+◌, ◌-◌, ◌^◌, ◌<◌, ◌≤◌, max, cond, List, [], ◌∷◌, length, codes, bit_or, slice_index_or}
use Rattle.lexer.specs.Tokens.{Lexeme, open_bracket, close_bracket, line_end, number, word, Tokens, token, over, bad}
use Rattle.rule.specs.Rule as rule
use Rattle.rule.specs.Rule.{Rule}
use Rattle.syntax.specs.declared.head.Binary.{Binary}
use Rattle.syntax.specs.declared.head.Binary.TheVariants.{And, Or, Until, Iff, Weak}
use Rattle.syntax.specs.declared.head.Unary.{Unary}
use Rattle.syntax.specs.declared.head.Unary.TheVariants.{Not, Next, Always}
use Rattle.syntax.specs.Words.{same}

-- ---- forms

-- A form, with its sessions and signals as they are written. `near` has a first name, and then
-- any number of others.
pub data Formula : Type 0 where
  truth : Formula
  at : ℕ → List ℕ → Formula
  near : ℕ → ℕ → ℕ → List ℕ → List (List ℕ) → Formula
  one : Unary → Formula → Formula
  two : Binary → Formula → Formula → Formula

abbrev pub unary_word : Unary → List ℕ
unary_word Not = codes "not"
unary_word Next = codes "next"
unary_word Always = codes "always"

abbrev pub binary_word : Binary → List ℕ
binary_word And = codes "and"
binary_word Or = codes "or"
binary_word Until = codes "until"
binary_word Iff = codes "iff"
binary_word Weak = codes "weak"

-- names one after another, and then us
abbrev pub listed : List (List ℕ) → List Lexeme → List Lexeme
listed [] us = us
listed (s ∷ ss) us = word s ∷ listed ss us

-- the tokens of a form, and then us
abbrev pub spell : Formula → List Lexeme → List Lexeme
spell truth us = open_bracket ∷ word (codes "true") ∷ close_bracket ∷ us
spell (at v s) us = open_bracket ∷ word (codes "at") ∷ number v ∷ word s ∷ close_bracket ∷ us
spell (near v w n s ss) us = open_bracket ∷ word (codes "near") ∷ number v ∷ number w ∷ number n ∷ word s ∷ listed ss (close_bracket ∷ us)
spell (one u f) us = open_bracket ∷ word (unary_word u) ∷ spell f (close_bracket ∷ us)
spell (two b f g) us = open_bracket ∷ word (binary_word b) ∷ spell f (spell g (close_bracket ∷ us))

-- how many nodes a form adds
abbrev pub unary_size : Unary → ℕ
unary_size Not = 1
unary_size Next = 1
unary_size Always = 4

abbrev pub binary_size : Binary → ℕ
binary_size And = 1
binary_size Or = 1
binary_size Until = 1
binary_size Iff = 5
binary_size Weak = 5

abbrev pub size : Formula → ℕ
size truth = 1
size (at v s) = 1
size (near v w n s ss) = 1
size (one u f) = size f + unary_size u
size (two b f g) = size f + size g + binary_size b

-- how many of its brackets are open at once
abbrev pub depth : Formula → ℕ
depth truth = 1
depth (at v s) = 1
depth (near v w n s ss) = 1
depth (one u f) = depth f + 1
depth (two b f g) = max (depth f) (depth g) + 1

-- ---- the rule of a form

-- the signal of a name: how many names are declared before it
abbrev pub signal : List (List ℕ) → List ℕ → ℕ
signal [] s = 0
signal (n ∷ ns) s = cond (same n s) 0 (suc (signal ns s))

-- a set of signals, and the signals of more names
abbrev pub signals : List (List ℕ) → ℕ → List (List ℕ) → ℕ
signals names S [] = S
signals names S (s ∷ ss) = signals names (bit_or S (2 ^ signal names s)) ss

abbrev pub unary_rule : Unary → Rule → Rule
unary_rule Not f = rule.negation f
unary_rule Next f = rule.next f
unary_rule Always f = rule.always f

abbrev pub binary_rule : Binary → Rule → Rule → Rule
binary_rule And f g = rule.both f g
binary_rule Or f g = rule.either f g
binary_rule Until f g = rule.until f g
binary_rule Iff f g = rule.iff f g
binary_rule Weak f g = rule.weak f g

-- A card counts sessions from 1 and a rule counts places from 0.
abbrev pub meaning : List (List ℕ) → Formula → Rule
meaning names truth = rule.truth
meaning names (at v s) = rule.at (v - 1) (signal names s)
meaning names (near v w n s ss) = rule.near (v - 1) (w - 1) n (signals names (2 ^ signal names s) ss)
meaning names (one u f) = unary_rule u (meaning names f)
meaning names (two b f g) = binary_rule b (meaning names f) (meaning names g)

-- ---- cards

pub record Written : Type 0 where
  pub sessions : ℕ
  pub names : List (List ℕ)
  pub rule : Formula

-- the lines that declare names, and then us
abbrev pub declarations : List (List ℕ) → List Lexeme → List Lexeme
declarations [] us = us
declarations (s ∷ ss) us = open_bracket ∷ word (codes "signal") ∷ word s ∷ close_bracket ∷ line_end ∷ declarations ss us

-- the tokens of a card
abbrev pub spelled : Written → List Lexeme
spelled c =
    open_bracket ∷ word (codes "sessions") ∷ number c.sessions ∷ close_bracket ∷ line_end
    ∷ declarations c.names (open_bracket ∷ word (codes "rule") ∷ spell c.rule (close_bracket ∷ line_end ∷ []))

-- tokens derive a card
abbrev pub Derives : List Lexeme → Written → Type 0
Derives us c = us ≡ spelled c

-- ---- the limits

-- the name s is declared
abbrev pub Declared : List (List ℕ) → List ℕ → Type 0
Declared names s = (i : ℕ) × (i < length names) × (slice_index_or names i [] ≡ s)

abbrev pub AllDeclared : List (List ℕ) → List (List ℕ) → Type 0
AllDeclared names [] = Unit {0}
AllDeclared names (s ∷ ss) = Declared names s × AllDeclared names ss

-- no name is declared twice
abbrev pub Distinct : List (List ℕ) → Type 0
Distinct names = (i j : ℕ) → i < length names → j < length names → slice_index_or names i [] ≡ slice_index_or names j [] → i ≡ j

-- sessions are from 1 to k, differences at most 32, and names declared
abbrev pub Fits : ℕ → List (List ℕ) → Formula → Type 0
Fits k names truth = Unit {0}
Fits k names (at v s) = (1 ≤ v) × (v ≤ k) × Declared names s
Fits k names (near v w n s ss) = (1 ≤ v) × (v ≤ k) × (1 ≤ w) × (w ≤ k) × (n ≤ 32) × Declared names s × AllDeclared names ss
Fits k names (one u f) = Fits k names f
Fits k names (two b f g) = Fits k names f × Fits k names g

-- a card within the limits; the bracket of a line is open around the rule's
pub record Within (c : Written) : Type 0 where
  pub least : 1 ≤ c.sessions
  pub most : c.sessions ≤ 4
  pub few : length c.names ≤ 32
  pub distinct : Distinct c.names
  pub fits : Fits c.sessions c.names c.rule
  pub shallow : depth c.rule + 1 ≤ 12
  pub small : size c.rule ≤ 64

-- the tokens are these, up to the card's end, and no byte makes none
abbrev pub Are : Tokens → List Lexeme → Type 0
Are (token p t ts) [] = ⊥
Are (token p t ts) (u ∷ us) = (t ≡ u) × Are ts us
Are (over p) [] = Unit {0}
Are (over p) (u ∷ us) = ⊥
Are (bad f) us = ⊥
