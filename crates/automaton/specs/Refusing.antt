-- The refusal of an automaton.
use Rattle.std.specs.Prelude.{ℕ}

abbrev pub out_of_range_number : ℕ
out_of_range_number = 8
