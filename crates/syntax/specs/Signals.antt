-- The names of signals.
use Rattle.std.specs.Prelude.{ℕ, suc, Bool, cond, not, ◌&&◌, List, [], ◌∷◌, length, is_some, Some, None, Option, Ok, Err, Result, nat_lt}
use Rattle.std.specs.Option.{option_map}
use Rattle.syntax.specs.Words.{same}
use Rattle.syntax.specs.declared.names.NameRefusal.{NameRefusal}
use Rattle.syntax.specs.declared.names.NameRefusal.TheVariants as refusal

-- the signal of a name: how many names are declared before it
abbrev pub signal_of : List (List ℕ) → List ℕ → Option ℕ
signal_of [] w = None
signal_of (n ∷ ns) w = cond (same n w) (Some 0) (option_map suc (signal_of ns w))

-- whether a name may be declared after others: it is none of them, and they are under 32
abbrev pub is_new : List (List ℕ) → List ℕ → Bool
is_new ns w = not (is_some (signal_of ns w)) && nat_lt (length ns) 32

-- what comes of declaring a name after others: of the reasons to refuse it, the first that holds
abbrev pub declaration : List (List ℕ) → List ℕ → Result (Unit {0}) NameRefusal
declaration ns w =
    cond (is_some (signal_of ns w)) (Err refusal.Declared)
    (cond (nat_lt 16 (length w)) (Err refusal.Long)
    (cond (nat_lt (length ns) 32) (Ok tt) (Err refusal.Full)))
