-- The tokens of a card, by its bytes.
use Rattle.std.specs.Prelude.{ℕ, ◌+◌, ◌-◌, ◌*◌, Bool, true, false, cond, ◌&&◌, ◌||◌, List, [], ◌∷◌, length, take_while, Some, None, Option, ◌==◌, nat_le, nat_lt, slice_index}
use Rattle.lexer.specs.declared.fault.Position.{Position}
use Rattle.lexer.specs.declared.fault.TokenFault.{TokenFault}
use Rattle.lexer.specs.declared.fault.TokenFault.TheVariants.{Byte, Run}
use Rattle.lexer.specs.declared.kind.Kind.{Kind}
use Rattle.lexer.specs.declared.kind.Kind.TheVariants.{Space, Open, Close, LineEnd, Letter, Digit, Other}

-- a token, with a number's value and a word's bytes
pub data Lexeme : Type 0 where
  open_bracket : Lexeme
  close_bracket : Lexeme
  line_end : Lexeme
  number : ℕ → Lexeme
  word : List ℕ → Lexeme

-- The tokens of a card in their order, each with the position of its first byte. After the last
-- comes the card's end, or the fault of the first byte or run that makes no token.
pub data Tokens : Type 0 where
  token : Position → Lexeme → Tokens → Tokens
  over : Position → Tokens
  bad : TokenFault → Tokens

abbrev pub is_letter : ℕ → Bool
is_letter b = nat_le 97 b && nat_le b 122

abbrev pub is_digit : ℕ → Bool
is_digit b = nat_le 48 b && nat_le b 57

-- what a byte is to a card: a space, a bracket, a line end, a lower-case letter, a digit
abbrev pub kind : ℕ → Kind
kind b =
    cond (b == 32) Space
    (cond (b == 40) Open
    (cond (b == 41) Close
    (cond (b == 10) LineEnd
    (cond (is_letter b) Letter
    (cond (is_digit b) Digit Other)))))

-- whether a byte of this kind may stand in a word or a number
abbrev pub wordy : Kind → Bool
wordy Space = false
wordy Open = false
wordy Close = false
wordy LineEnd = false
wordy Letter = true
wordy Digit = true
wordy Other = false

-- the letters and digits that the bytes begin with
abbrev pub run : List ℕ → List ℕ
run bs = take_while (λ b. wordy (kind b)) bs

-- the number that digits write after others that write n, where each byte is a digit
abbrev pub digits_after : ℕ → List ℕ → Option ℕ
digits_after n [] = Some n
digits_after n (b ∷ bs) = cond (is_digit b) (digits_after (n * 10 + (b - 48)) bs) None

-- the number that bytes write: one to three digits, with no zero before another
abbrev pub number_value : List ℕ → Option ℕ
number_value bs =
    cond (length bs == 0 || nat_lt 3 (length bs)) None
    (cond (nat_lt 1 (length bs) && slice_index bs 0 == 48) None
    (digits_after 0 bs))

-- what begins at a byte: nothing, a token, or what makes none
pub data Start : Type 0 where
  quiet : Start
  starts : Lexeme → Start
  spoils : TokenFault → Start

abbrev pub numbered : Position → Option ℕ → Start
numbered p (Some n) = starts (number n)
numbered p None = spoils (Run p)

-- What begins at the first of some bytes, which is at p. `on` says that the byte before is a
-- letter or a digit: a run of these is one token, which begins at its first byte.
abbrev pub begins : Kind → Bool → Position → List ℕ → Start
begins Space on p bs = quiet
begins Open on p bs = starts open_bracket
begins Close on p bs = starts close_bracket
begins LineEnd on p bs = starts line_end
begins Letter true p bs = quiet
begins Letter false p bs = cond (nat_lt 16 (length (run bs))) (spoils (Run p)) (starts (word (run bs)))
begins Digit true p bs = quiet
begins Digit false p bs = numbered p (number_value (run bs))
begins Other on p bs = spoils (Byte p)

abbrev pub put : Position → Start → Tokens → Tokens
put p quiet ts = ts
put p (starts t) ts = token p t ts
put p (spoils f) ts = bad f

-- a line ends with its line end
abbrev pub line_after : Kind → ℕ → ℕ
line_after Space n = n
line_after Open n = n
line_after Close n = n
line_after LineEnd n = n + 1
line_after Letter n = n
line_after Digit n = n
line_after Other n = n

-- the position after a byte
abbrev pub after : Kind → Position → Position
after k p = record { place = p.place + 1; line = line_after k p.line }

-- the tokens of bytes of which the first is at p
abbrev pub tokens : Bool → Position → List ℕ → Tokens
tokens on p [] = over p
tokens on p (b ∷ bs) = put p (begins (kind b) on p (b ∷ bs)) (tokens (wordy (kind b)) (after (kind b) p) bs)

abbrev pub start : Position
start = record { place = 0; line = 1 }

-- the tokens of a card
abbrev pub card_tokens : List ℕ → Tokens
card_tokens card = tokens false start card
