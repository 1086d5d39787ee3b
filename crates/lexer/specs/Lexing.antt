-- What a lexer has left to read, and what its answers say of it.
use Rattle.std.specs.Prelude.{◌≡◌, ◌≢◌, ℕ, ◌+◌, ◌-◌, ◌<◌, ◌≤◌, List, length, take, drop, Ok, Err, Result, slice_index}
use Rattle.std.specs.Borrow.{Bor}
use Rattle.lexer.specs.declared.fault.Position.{Position}
use Rattle.lexer.specs.declared.fault.TokenFault.{TokenFault}
use Rattle.lexer.specs.declared.kind.Kind.TheVariants.{Space}
use Rattle.lexer.specs.declared.lexer.Lexer.{Lexer}
use Rattle.lexer.specs.declared.token.Spot.{Spot}
use Rattle.lexer.specs.declared.token.Token.{Token}
use Rattle.lexer.specs.declared.token.Token.TheVariants.{Open, Close, LineEnd, Number, Word, End}
use Rattle.lexer.specs.Tokens.{Tokens, kind, token, over, bad, open_bracket, close_bracket, line_end, number, word}
use Rattle.lexer.specs.Places.{tokens_at}

-- the tokens that are left
abbrev pub left : Lexer → Tokens
left l = tokens_at l.card.now l.at

-- how many bytes are left
abbrev pub unread : Lexer → ℕ
unread l = length l.card.now - l.at.place

-- no space is next
abbrev pub Dark : Lexer → Type 0
Dark l = l.at.place < length l.card.now → kind (slice_index l.card.now l.at.place) ≢ Space

-- the tokens that begin with one of the code's
abbrev pub spelled : Position → Token → Tokens → Tokens
spelled p Open ts = token p open_bracket ts
spelled p Close ts = token p close_bracket ts
spelled p LineEnd ts = token p line_end ts
spelled p (Number n) ts = token p (number n) ts
spelled p (Word text offset) ts = token p (word text.now) ts
spelled p End ts = over p

-- the token at p is read, and l has what is left then
abbrev pub read_one : Position → Result Token TokenFault → Lexer → Tokens
read_one p (Ok t) l = spelled p t (left l)
read_one p (Err f) l = bad f

-- the next token is read, and l has what is left then
abbrev pub taken : Result Spot TokenFault → Lexer → Tokens
taken (Ok s) l = spelled s.at s.token (left l)
taken (Err f) l = bad f

-- a token takes at least a byte, unless it is the end
abbrev pub Falls : Token → ℕ → ℕ → Type 0
Falls Open m n = n < m
Falls Close m n = n < m
Falls LineEnd m n = n < m
Falls (Number k) m n = n < m
Falls (Word text offset) m n = n < m
Falls End m n = n ≤ m

-- A word of 1 to 16 bytes is that part of the card itself that begins at its offset: the same
-- memory, and so the same bytes.
pub record WordPart (card : Bor (List ℕ)) (text : Bor (List ℕ)) (offset : ℕ) : Type 0 where
  pub memory : text.ref_ptr ≡ (card.ref_ptr.0, card.ref_ptr.1 + offset)
  pub bytes : text.now ≡ take (length text.now) (drop offset card.now)
  pub some : 1 ≤ length text.now
  pub short : length text.now ≤ 16
  pub inside : offset + length text.now ≤ length card.now

abbrev pub IsPart : Bor (List ℕ) → Token → Type 0
IsPart card Open = Unit {0}
IsPart card Close = Unit {0}
IsPart card LineEnd = Unit {0}
IsPart card (Number n) = Unit {0}
IsPart card (Word text offset) = WordPart card text offset
IsPart card End = Unit {0}
