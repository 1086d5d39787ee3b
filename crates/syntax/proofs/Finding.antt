-- The search for a name among the declared ones.
use Rattle.std.proofs.Common.{◌≡◌, ℕ, suc, ◌+◌, Bool, true, false, cond, List, [], ◌∷◌, map, length, ltb, Some, None, Option, sym, refl, ap, ◌∙◌, add-zero, zero-add, arith}
use Rattle.std.specs.Option.{option_map}
use Rattle.std.specs.List.{position_from, position_or_len}
use Rattle.std.proofs.lemmas.Iterator.Adapters.{position_from-zero}
use Rattle.fixed_vec.specs.declared.vec.FixedVec.{FixedVec}
use Rattle.fixed_vec.specs.Items.{items_of}
use Rattle.syntax.specs.Words.{same}
use Rattle.syntax.specs.Signals.{signal_of}

-- whether a list holds the word
abbrev pub holds : List ℕ → FixedVec ℕ 16 → Bool
holds w n = same (items_of n) w

-- the signal, where so many names come before
abbrev shift : ℕ → Option ℕ → Option ℕ
shift i o = option_map (λ k. i + k) o

suc_shift : (i : ℕ) (o : Option ℕ) → shift (i + 1) o ≡ shift i (option_map suc o)
suc_shift i None = refl
suc_shift i (Some k) = ap Some (omega arith)

zero_shift : (o : Option ℕ) → shift 0 o ≡ o
zero_shift None = refl
zero_shift (Some k) = ap Some (zero-add k)

from : (w : List ℕ) (ns : List (FixedVec ℕ 16)) (i : ℕ) → position_from (holds w) i ns ≡ shift i (signal_of (map items_of ns) w)
from w [] i = refl
from w (n ∷ ns) i = go (holds w n) (signal_of (map items_of ns) w) (from w ns (i + 1) ∙ suc_shift i (signal_of (map items_of ns) w))
  where
    go : (b : Bool) (p : Option ℕ) {o : Option ℕ} → o ≡ shift i (option_map suc p) → cond b (Some i) o ≡ shift i (cond b (Some 0) (option_map suc p))
    go true p e = ap Some (sym (add-zero i))
    go false p e = e

-- the position of the first list that holds the word is the word's signal
pub position_is_signal : (w : List ℕ) (ns : List (FixedVec ℕ 16)) → cond (ltb (position_or_len (holds w) ns) (length ns)) (Some (position_or_len (holds w) ns)) None ≡ signal_of (map items_of ns) w
position_is_signal w ns = position_from-zero (holds w) ns ∙ from w ns 0 ∙ zero_shift (signal_of (map items_of ns) w)
