-- The line of a place: 1, and the line ends before it.
use Rattle.std.specs.Prelude.{◌≡◌, ℕ, ◌+◌, cond, List, [], ◌∷◌, take, ◌==◌}
use Rattle.lexer.specs.declared.fault.Position.{Position}
use Rattle.lexer.specs.declared.fault.TokenFault.{TokenFault}
use Rattle.lexer.specs.declared.fault.TokenFault.TheVariants.{Long, Byte, Run}
use Rattle.lexer.specs.Tokens.{Tokens, token, over, bad}

abbrev pub line_ends : List ℕ → ℕ
line_ends [] = 0
line_ends (b ∷ bs) = cond (b == 10) 1 0 + line_ends bs

abbrev pub line_of : List ℕ → ℕ → ℕ
line_of card place = 1 + line_ends (take place card)

-- the position has the line of its place
abbrev pub OnLine : List ℕ → Position → Type 0
OnLine card p = p.line ≡ line_of card p.place

abbrev pub FaultOnLine : List ℕ → TokenFault → Type 0
FaultOnLine card Long = Unit {0}
FaultOnLine card (Byte p) = OnLine card p
FaultOnLine card (Run p) = OnLine card p

-- each token, and the end or the fault after the last, has the line of its place
abbrev pub Lined : List ℕ → Tokens → Type 0
Lined card (token p t ts) = OnLine card p × Lined card ts
Lined card (over p) = OnLine card p
Lined card (bad f) = FaultOnLine card f
