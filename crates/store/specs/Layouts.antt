-- How sessions lie in a store's memory.
use Rattle.std.specs.Prelude.{◌≡◌, ℕ, ◌*◌, List, [], ◌∷◌, ◌++◌, length, take, drop, Some, vec_items, sum_by}
use Rattle.std.specs.List.{slice_get}
use Rattle.store.specs.declared.header.Header.{Header}
use Rattle.store.specs.Entries.{Entry, letters_in}
use Rattle.store.specs.Memory.{Memory}

-- how many letters sessions have
abbrev pub letters_of : List Header → ℕ
letters_of hs = sum_by (λ h. h.len) hs

-- how many letters on from a session's start the next one starts, where that is told by how many
-- letters it has
abbrev pub by_len : (ℕ → ℕ) → Header → ℕ
by_len pitch = λ h. pitch h.len

-- how many letters of the memory they then take
abbrev pub room_of : (ℕ → ℕ) → List Header → ℕ
room_of pitch hs = sum_by (by_len pitch) hs

-- the session that begins the memory
abbrev pub front : Header → List ℕ → Entry
front h memory = record { number = h.number; letters = take h.len memory }

-- the sessions that lie in the memory one after another
abbrev pub spread : (Header → ℕ) → List Header → List ℕ → List Entry
spread f [] memory = []
spread f (h ∷ hs) memory = front h memory ∷ spread f hs (drop (f h) memory)

abbrev pub joined : List Entry → List ℕ
joined [] = []
joined (e ∷ es) = e.letters ++ joined es

-- where the letters of the entries lie: each entry at the start of its place's slot,
abbrev pub LieInSlots : List Entry → Memory → Type 0
LieInSlots es memory = (i : ℕ) (e : Entry) → slice_get es i ≡ Some e → e.letters ≡ take (length e.letters) (drop (128 * i) (vec_items memory))

-- or end to end from the front
abbrev pub LieEndToEnd : List Entry → Memory → Type 0
LieEndToEnd es memory = joined es ≡ take (letters_in es) (vec_items memory)
