-- What the faults of a card's bytes say.
use Rattle.std.specs.Prelude.{ℕ, cond, List, length, Ok, Err, Result, nat_lt}
use Rattle.lexer.specs.declared.fault.Layer.TheVariants.{Token}
use Rattle.lexer.specs.declared.fault.Report.{Report}
use Rattle.lexer.specs.declared.fault.TokenFault.{TokenFault}
use Rattle.lexer.specs.declared.fault.TokenFault.TheVariants.{Long, Byte, Run}

abbrev pub token_report : TokenFault → Report
token_report Long = record { number = 1; at = record { place = 4096; line = 1 }; layer = Token }
token_report (Byte p) = record { number = 2; at = p; layer = Token }
token_report (Run p) = record { number = 2; at = p; layer = Token }

-- a card of over 4,096 bytes is refused for that
abbrev pub length_fault : List ℕ → Result (Unit {0}) TokenFault
length_fault card = cond (nat_lt 4096 (length card)) (Err Long) (Ok tt)
