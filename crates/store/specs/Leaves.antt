-- What is left of a list where some places are named.
use Rattle.std.specs.Prelude.{◌≡◌, ℕ, suc, ◌+◌, ◌<◌, ◌≤◌, Bool, true, false, cond, List, [], ◌∷◌, ◌++◌, map, length, take, sum_by, slice_index_or, refl}
use Rattle.std.proofs.Common.{ap, ◌∙◌, add-zero, arith}
use Rattle.std.specs.List.{AllByRecursion}
use Rattle.std.proofs.lemmas.List.{take_more, length-take-le, append-nil}
use Rattle.std.proofs.lemmas.List.Sums.{sum_by-cons}
use Rattle.store.specs.declared.header.Header.{Header}
use Rattle.store.specs.Entries.{mentions, without_from}

-- what an element that is not there is read as
abbrev pub unused : Header
unused = record { number = 0; len = 0 }

module _ {X : Type 0} (ps : List ℕ) where
  pub left_push : (p : ℕ) (xs : List X) (x : X) → without_from p ps (xs ++ x ∷ []) ≡ without_from p ps xs ++ cond (mentions (p + length xs) ps) [] (x ∷ [])
  left_push p [] x = rw add-zero refl
  left_push p (y ∷ ys) x =
      let e : (p + suc (length ys)) ≡ (suc p + length ys) = omega arith in
      let h = left_push (suc p) ys x in
      rw (e, h) (choose (mentions p ps))
    where
      choose : (t : Bool) → cond t (without_from (suc p) ps ys ++ cond (mentions (suc p + length ys) ps) [] (x ∷ [])) (y ∷ (without_from (suc p) ps ys ++ cond (mentions (suc p + length ys) ps) [] (x ∷ []))) ≡ cond t (without_from (suc p) ps ys) (y ∷ without_from (suc p) ps ys) ++ cond (mentions (suc p + length ys) ps) [] (x ∷ [])
      choose true = refl
      choose false = refl

  -- the next one is named
  pub left_named : (xs : List X) (x : X) (i : ℕ) → length xs ≡ i → mentions i ps ≡ true → without_from 0 ps (xs ++ x ∷ []) ≡ without_from 0 ps xs
  left_named xs x i e t =
      let at : (0 + length xs) ≡ i = omega arith in
      left_push 0 xs x ∙ rw (at, t) (append-nil (without_from 0 ps xs))

  -- the next one stays
  pub left_stays : (xs : List X) (x : X) (i : ℕ) → length xs ≡ i → mentions i ps ≡ false → without_from 0 ps (xs ++ x ∷ []) ≡ without_from 0 ps xs ++ x ∷ []
  left_stays xs x i e t =
      let at : (0 + length xs) ≡ i = omega arith in
      left_push 0 xs x ∙ rw (at, t)

  pub all_left : (P : X → Type 0) (p : ℕ) (xs : List X) → AllByRecursion P xs → AllByRecursion P (without_from p ps xs)
  all_left P p [] h = tt
  all_left P p (x ∷ xs) h = choose (all_left P (suc p) xs h.1) (mentions p ps)
    where
      choose : AllByRecursion P (without_from (suc p) ps xs) → (t : Bool) → AllByRecursion P (cond t (without_from (suc p) ps xs) (x ∷ without_from (suc p) ps xs))
      choose rest true = rest
      choose rest false = (h.0, rest)

  pub sum_by_left_le : (f : X → ℕ) (p : ℕ) (xs : List X) → sum_by f (without_from p ps xs) ≤ sum_by f xs
  sum_by_left_le f p [] = omega arith
  sum_by_left_le f p (x ∷ xs) = choose (sum_by_left_le f (suc p) xs) (mentions p ps)
    where
      choose : sum_by f (without_from (suc p) ps xs) ≤ sum_by f xs → (t : Bool) → sum_by f (cond t (without_from (suc p) ps xs) (x ∷ without_from (suc p) ps xs)) ≤ sum_by f (x ∷ xs)
      choose rest true = omega (arith, sum_by-cons f x xs)
      choose rest false = omega (arith, sum_by-cons f x xs, sum_by-cons f x (without_from (suc p) ps xs))

  pub length_left_le : (p : ℕ) (xs : List X) → length (without_from p ps xs) ≤ length xs
  length_left_le p [] = omega arith
  length_left_le p (x ∷ xs) = choose (length_left_le (suc p) xs) (mentions p ps)
    where
      choose : length (without_from (suc p) ps xs) ≤ length xs → (t : Bool) → length (cond t (without_from (suc p) ps xs) (x ∷ without_from (suc p) ps xs)) ≤ length (x ∷ xs)
      choose rest true = omega arith
      choose rest false = omega arith

pub map_left : {X Y : Type 0} (g : X → Y) (ps : List ℕ) (p : ℕ) (xs : List X) → map g (without_from p ps xs) ≡ without_from p ps (map g xs)
map_left g ps p [] = refl
map_left g ps p (x ∷ xs) = choose (map_left g ps (suc p) xs) (mentions p ps)
  where
    choose : map g (without_from (suc p) ps xs) ≡ without_from (suc p) ps (map g xs) → (t : Bool) → map g (cond t (without_from (suc p) ps xs) (x ∷ without_from (suc p) ps xs)) ≡ cond t (without_from (suc p) ps (map g xs)) (g x ∷ without_from (suc p) ps (map g xs))
    choose rest true = rest
    choose rest false = ap (λ ys. g x ∷ ys) rest

-- one more of a list, named or not
pub left_more_named : {X : Type 0} (ps : List ℕ) (xs : List X) (i : ℕ) (d : X) → i < length xs → mentions i ps ≡ true → without_from 0 ps (take (i + 1) xs) ≡ without_from 0 ps (take i xs)
left_more_named ps xs i d lt t = ap (without_from 0 ps) (take_more xs i d lt) ∙ left_named ps (take i xs) (slice_index_or xs i d) i (length-take-le i xs (omega arith)) t

pub left_more_stays : {X : Type 0} (ps : List ℕ) (xs : List X) (i : ℕ) (d : X) → i < length xs → mentions i ps ≡ false → without_from 0 ps (take (i + 1) xs) ≡ without_from 0 ps (take i xs) ++ slice_index_or xs i d ∷ []
left_more_stays ps xs i d lt t = ap (without_from 0 ps) (take_more xs i d lt) ∙ left_stays ps (take i xs) (slice_index_or xs i d) i (length-take-le i xs (omega arith)) t
