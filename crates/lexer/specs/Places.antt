-- The tokens that are left at a position.
use Rattle.std.specs.Prelude.{ℕ, false, List, drop}
use Rattle.lexer.specs.declared.fault.Position.{Position}
use Rattle.lexer.specs.Tokens.{Tokens, tokens}

-- the tokens from a position on, at which no run goes on
abbrev pub tokens_at : List ℕ → Position → Tokens
tokens_at card p = tokens false p (drop p.place card)
