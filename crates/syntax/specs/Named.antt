-- The names that a list of names holds.
use Rattle.std.specs.Prelude.{◌≡◌, ℕ, ◌<◌, ◌≤◌, List, [], map, length, Option, MatchOption, slice_index_or}
use Rattle.std.specs.Borrow.{Bor}
use Rattle.fixed_vec.specs.Items.{items_of}
use Rattle.syntax.specs.declared.names.Names.{Names}

abbrev pub names_of : Names → List (List ℕ)
names_of ns = map items_of (items_of ns.names)

-- the name at an index, or none past the last
abbrev pub NameAt : List (List ℕ) → ℕ → Option (Bor (List ℕ)) → Type 0
NameAt names i r = MatchOption r (length names ≤ i) (λ name. (i < length names) × (name.now ≡ slice_index_or names i []))
