-- The length of a card line.
use Rattle.std.proofs.Common.{ℕ, ◌^◌, ◌<◌, ◌≤◌, List, length, decimal, arith, length-append}
use Rattle.std.proofs.lemmas.Fmt.{length-decimal-le}
use Rattle.portbook.specs.Line.{three}

short : (n : ℕ) → n < 256 → length (decimal n) ≤ 3
short n h = length-decimal-le 3 n (omega arith) (omega arith) (omega arith)

long : (n : ℕ) → n < 2 ^ 64 → length (decimal n) ≤ 20
long n h = length-decimal-le 20 n (omega arith) (omega arith) h

-- a word of at most five bytes, a number of a byte and two of 64 bits fit in 64 bytes
pub fits : (word : List ℕ) (a b c : ℕ) → length word ≤ 5 → a < 256 → b < 2 ^ 64 → c < 2 ^ 64 → length (three word a b c) ≤ 64
fits word a b c w ha hb hc = grind (arith, length-append, short a ha, long b hb, long c hc)
