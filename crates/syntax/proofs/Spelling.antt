-- A word that is spelled as another.
use Rattle.std.proofs.Common.{◌≡◌, ℕ, true, List, length, get_or, ap}
use Rattle.std.proofs.lemmas.Slice.Eq.{bytes_eq-Decides}
use Rattle.syntax.specs.Words.{same}

-- it has the other's length and first byte
pub begins_alike : (w p : List ℕ) → same w p ≡ true → (length w ≡ length p) × (get_or w 0 0 ≡ get_or p 0 0)
begins_alike w p e =
    let is = (bytes_eq-Decides w p).0 e in
    (ap length is, ap (λ l. get_or l 0 0) is)
