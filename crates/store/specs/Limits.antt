-- The limits of a store by the letters of its memory, and the refusal of too few.
use Rattle.std.specs.Prelude.{ℕ, ◌*◌, ◌/◌, min}
use Rattle.store.specs.declared.limits.Limits.{Limits}

-- the refusal of memory of under 128 letters
abbrev pub short_number : ℕ
short_number = 10

-- at most 8192 of n letters are used, and as many sessions are kept as there are slots of 128
-- letters in them
abbrev pub slot_limits : ℕ → Limits
slot_limits n = record { sessions = min n 8192 / 128; letters = 128 * (min n 8192 / 128) }

-- at most 8192 of n letters are used, and all of them may be kept
abbrev pub packed_limits : ℕ → Limits
packed_limits n = record { sessions = 64; letters = min n 8192 }
