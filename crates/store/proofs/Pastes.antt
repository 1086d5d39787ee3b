-- Letters that are written over others.
use Rattle.std.proofs.Common.{◌≡◌, ℕ, ◌+◌, ◌-◌, ◌≤◌, List, ◌++◌, length, take, drop, sym, ap, ◌∙◌, append_assoc, arith}
use lib.Seq.{paste}
use Rattle.std.proofs.lemmas.List.Edits.{drop-paste}
use Rattle.std.proofs.lemmas.List.{drop-drop, take-append-drop}

-- a run that is written where it stands
pub paste_same : (m : List ℕ) (from to k : ℕ) → from ≡ to → m ≡ paste m to (drop from m) k
paste_same m from to k e =
    let back : take k (drop to m) ++ drop (to + k) m ≡ drop to m = ap (λ xs. take k (drop to m) ++ xs) (sym (drop-drop k to m)) ∙ take-append-drop k (drop to m) in
    sym (ap (λ a. paste m to (drop a m) k) e ∙ append_assoc (take to m) (take k (drop to m)) (drop (to + k) m) ∙ ap (λ xs. take to m ++ xs) back ∙ take-append-drop to m)

-- lists that agree from a place on agree from any later one on
pub drop_later : {X : Type 0} (xs ys : List X) (i j : ℕ) → i ≤ j → drop i xs ≡ drop i ys → drop j xs ≡ drop j ys
drop_later xs ys i j le e =
    let gap : i + (j - i) ≡ j = omega arith in
    ap (λ n. drop n xs) (sym gap) ∙ sym (drop-drop (j - i) i xs) ∙ ap (drop (j - i)) e ∙ drop-drop (j - i) i ys ∙ ap (λ n. drop n ys) gap

-- what stands past a run that is written stays
pub drop_past : (m : List ℕ) (at : ℕ) (xs : List ℕ) (k end : ℕ) → at ≤ length m → k ≤ length xs → at + k ≤ end → drop end (paste m at xs k) ≡ drop end m
drop_past m at xs k end inside enough past = drop_later (paste m at xs k) m (at + k) end past (drop-paste m at xs k inside enough)
