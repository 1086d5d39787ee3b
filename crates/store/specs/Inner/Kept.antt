-- Inner: what is tested of kept sessions. No public contract cites it.
use Rattle.std.specs.Prelude.{ℕ, ◌+◌, Bool, true, ◌&&◌, List, [], ◌∷◌, length, nat_le}
use Rattle.store.specs.declared.header.Header.{Header}
use Rattle.store.specs.declared.limits.Limits.{Limits}
use Rattle.store.specs.Layouts.{letters_of}

abbrev pub all_short : List Header → Bool
all_short [] = true
all_short (h ∷ hs) = nat_le h.len 128 && all_short hs

-- whether a session of k letters more is within the limits
abbrev pub has_room : Limits → List Header → ℕ → Bool
has_room b hs k = nat_le k 128 && (nat_le (length hs + 1) b.sessions && nat_le (letters_of hs + k) b.letters)
