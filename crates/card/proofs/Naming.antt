-- Names by the reader's search, and names as the grammar has them.
use Rattle.std.proofs.Common.{◌≡◌, ℕ, zero, suc, ◌+◌, ◌<◌, ◌≤◌, Bool, true, false, cond, ◌⊎◌, List, [], ◌∷◌, ◌++◌, length, get_or, is_some, Some, None, Option, sym, refl, ap, ◌∙◌, subst, inl, inr, append_assoc, append-nil, arith, length-append}
use Rattle.std.specs.Option.{option_map}
use Rattle.std.proofs.lemmas.Slice.Eq.{bytes_eq-Decides}
use Rattle.std.proofs.lemmas.List.{get_or_append_left, get_or_at}
use Rattle.std.proofs.lemmas.Bool.{cases_lt}
use Rattle.syntax.specs.Words.{same}
use Rattle.syntax.specs.Signals.{signal_of}
use Rattle.card.specs.Grammar.{signal, Declared, Distinct}

pub impossible : {A : Type 0} {B : Type 0} (o : A) → None ≡ Some o → B
impossible o e = let z : ◌≡◌ {A = ℕ} 0 1 = cc in absurd (omega arith)

pub same_is : (a b : List ℕ) → same a b ≡ true → a ≡ b
same_is a b e = (bytes_eq-Decides a b).0 e

pub is_same : (a b : List ℕ) → a ≡ b → same a b ≡ true
is_same a b e = (bytes_eq-Decides a b).1 e

-- a declared name is found, and what is found is declared
pub declared_found : (ns : List (List ℕ)) (s : List ℕ) → Declared ns s → signal_of ns s ≡ Some (signal ns s)
declared_found [] s (i, h, e) = absurd (let z : ⊥ = omega arith in z)
declared_found (n ∷ ns) s (i, h, e) = go (same n s) refl i h e (declared_found ns s)
  where
    go : (b : Bool) → same n s ≡ b → (i : ℕ) → i < length (n ∷ ns) → get_or (n ∷ ns) i [] ≡ s → (Declared ns s → signal_of ns s ≡ Some (signal ns s)) → cond b (Some 0) (option_map suc (signal_of ns s)) ≡ Some (cond b 0 (suc (signal ns s)))
    go true t i h e ih = refl
    go false t zero h e ih = let z : ◌≡◌ {A = Bool} true false = sym (is_same n s e) ∙ t in let w : ◌≡◌ {A = ℕ} 0 1 = cc in absurd (omega arith)
    go false t (suc i) h e ih = ap (option_map suc) (ih (i, (let k : i < length ns = omega arith in k), e))

pub found_declared : (ns : List (List ℕ)) (s : List ℕ) (i : ℕ) → signal_of ns s ≡ Some i → Declared ns s
found_declared [] s i e = impossible i e
found_declared (n ∷ ns) s i e = go (same n s) refl (signal_of ns s) refl e (found_declared ns s)
  where
    go : (b : Bool) → same n s ≡ b → (o : Option ℕ) → signal_of ns s ≡ o → cond b (Some 0) (option_map suc o) ≡ Some i → ((j : ℕ) → signal_of ns s ≡ Some j → Declared ns s) → Declared (n ∷ ns) s
    go true t o q f ih = (0, (let k : 0 < suc (length ns) = omega arith in k), same_is n s t)
    go false t None q f ih = impossible i f
    go false t (Some j) q f ih = let d = ih j q in (suc d.0, (let k : suc d.0 < suc (length ns) = omega (arith, d.1) in k), d.2)

-- the signal of a declared name is one of the names' indices
pub signal_below : (ns : List (List ℕ)) (s : List ℕ) → Declared ns s → signal ns s < length ns
signal_below [] s (i, h, e) = absurd (let z : ⊥ = omega arith in z)
signal_below (n ∷ ns) s (i, h, e) = go (same n s) refl i h e (signal_below ns s)
  where
    go : (b : Bool) → same n s ≡ b → (i : ℕ) → i < length (n ∷ ns) → get_or (n ∷ ns) i [] ≡ s → (Declared ns s → signal ns s < length ns) → cond b 0 (suc (signal ns s)) < suc (length ns)
    go true t i h e ih = omega arith
    go false t zero h e ih = let z : ◌≡◌ {A = Bool} true false = sym (is_same n s e) ∙ t in let w : ◌≡◌ {A = ℕ} 0 1 = cc in absurd (omega arith)
    go false t (suc i) h e ih = let k : i < length ns = omega arith in omega (arith, ih (i, k, e))

-- a name that is not found is not declared, and the other way round
pub fresh_undeclared : (ns : List (List ℕ)) (s : List ℕ) → is_some (signal_of ns s) ≡ false → Declared ns s → ⊥
fresh_undeclared ns s e d =
    let z : ◌≡◌ {A = Bool} false true = sym e ∙ ap is_some (declared_found ns s d) in
    let w : ◌≡◌ {A = ℕ} 0 1 = cc in omega arith

pub undeclared_fresh : (ns : List (List ℕ)) (s : List ℕ) → (Declared ns s → ⊥) → is_some (signal_of ns s) ≡ false
undeclared_fresh ns s no' = go (signal_of ns s) refl
  where
    go : (o : Option ℕ) → signal_of ns s ≡ o → is_some o ≡ false
    go None e = refl
    go (Some i) e = absurd (no' (found_declared ns s i e))

-- each name is declared after others of which it is none
abbrev pub Fresh : List (List ℕ) → List (List ℕ) → Type 0
Fresh seen [] = Unit {0}
Fresh seen (s ∷ ss) = (Declared seen s → ⊥) × Fresh (seen ++ (s ∷ [])) ss

-- that is the same as no name twice
push_distinct : (ns : List (List ℕ)) (s : List ℕ) → Distinct ns → (Declared ns s → ⊥) → Distinct (ns ++ (s ∷ []))
push_distinct ns s d no' i j h k e = go (cases_lt i (length ns)) (cases_lt j (length ns))
  where
    long : length (ns ++ (s ∷ [])) ≡ length ns + 1
    long = length-append ns (s ∷ [])

    left : (i : ℕ) → i < length ns → get_or (ns ++ (s ∷ [])) i [] ≡ get_or ns i []
    left i l = get_or_append_left ns (s ∷ []) [] i l

    last : (i : ℕ) → i < length (ns ++ (s ∷ [])) → length ns ≤ i → get_or (ns ++ (s ∷ [])) i [] ≡ s
    last i l m = get_or_at ns s [] [] i (let z = long in omega arith)

    go : (i < length ns) ⊎ (length ns ≤ i) → (j < length ns) ⊎ (length ns ≤ j) → i ≡ j
    go (inl a) (inl b) = d i j a b (sym (left i a) ∙ e ∙ left j b)
    go (inl a) (inr b) = absurd (no' (i, a, sym (left i a) ∙ e ∙ last j k b))
    go (inr a) (inl b) = absurd (no' (j, b, sym (left j b) ∙ sym e ∙ last i h a))
    go (inr a) (inr b) = let z = long in omega arith

fresh_distinct_after : (seen ss : List (List ℕ)) → Distinct seen → Fresh seen ss → Distinct (seen ++ ss)
fresh_distinct_after seen [] d f = subst Distinct (sym (append-nil seen)) d
fresh_distinct_after seen (s ∷ ss) d f =
    subst Distinct (append_assoc seen (s ∷ []) ss) (fresh_distinct_after (seen ++ (s ∷ [])) ss (push_distinct seen s d f.0) f.1)

distinct_fresh_after : (seen ss : List (List ℕ)) → Distinct (seen ++ ss) → Fresh seen ss
distinct_fresh_after seen [] d = tt
distinct_fresh_after seen (s ∷ ss) d = (
  λ (i, h, e).
      let n : length (seen ++ (s ∷ ss)) ≡ length seen + suc (length ss) = length-append seen (s ∷ ss) in
      let z : i ≡ length seen = d i (length seen) (omega arith) (omega arith) (get_or_append_left seen (s ∷ ss) [] i h ∙ e ∙ sym (get_or_at seen s ss [] (length seen) refl)) in
      omega arith,
  distinct_fresh_after (seen ++ (s ∷ [])) ss (subst Distinct (sym (append_assoc seen (s ∷ []) ss)) d),
)

pub fresh_distinct : (ss : List (List ℕ)) → Fresh [] ss → Distinct ss
fresh_distinct ss f = fresh_distinct_after [] ss (λ i j h k e. absurd (let z : ⊥ = omega arith in z)) f

pub distinct_fresh : (ss : List (List ℕ)) → Distinct ss → Fresh [] ss
distinct_fresh ss d = distinct_fresh_after [] ss d
