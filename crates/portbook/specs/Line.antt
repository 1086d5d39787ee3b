-- The line of a card, and what its writing answers and leaves.
use Rattle.std.specs.Prelude.{ℕ, cond, List, [], ◌∷◌, ◌++◌, length, drop, ℤ, pos, negsuc, codes, decimal, nat_lt, Result, Ok, Err}
use Rattle.card.specs.Reading.{Outcome, accepted, refused, reading}
use Rattle.portbook.specs.declared.entry.NoRoom.{NoRoom}

-- a space and a number
abbrev pub spaced : ℕ → List ℕ
spaced n = 32 ∷ decimal n

-- a word and three numbers in brackets, ended by a line end
abbrev pub three : List ℕ → ℕ → ℕ → ℕ → List ℕ
three word a b c = codes "(" ++ word ++ spaced a ++ spaced b ++ spaced c ++ (codes ")" ++ (10 ∷ []))

-- `(card k signals nodes)` or `(fault number line place)`
abbrev pub card_line : Outcome → List ℕ
card_line (accepted x) = three (codes "card") x.sessions (length x.names) (length x.nodes)
card_line (refused r) = three (codes "fault") r.number r.at.line r.at.place

-- the line's length, or -13 where the buffer has under 64 bytes
abbrev pub answer : List ℕ → List ℕ → ℤ
answer card out = cond (nat_lt (length out) 64) (negsuc 12) (pos (length (card_line (reading card))))

-- a length as it is, and -13 where there is no room
abbrev pub code : Result ℕ NoRoom → ℤ
code (Ok n) = pos n
code (Err e) = negsuc 12

-- the line at the buffer's front and the rest as before, or the buffer as before
abbrev pub written : List ℕ → List ℕ → List ℕ
written card out = cond (nat_lt (length out) 64) out (card_line (reading card) ++ drop (length (card_line (reading card))) out)
