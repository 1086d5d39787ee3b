-- The laws of two policies at once.
use Rattle.std.specs.Prelude.{◌≡◌, ℕ, true, ◌||◌, ◌⊎◌, List, [], length, ◌==◌, slice_index_or, slice_set}
use Rattle.std.proofs.Common.{◌∙◌, ⊎_elim, arith, length-set}
use Rattle.std.proofs.lemmas.Bool.{eqb-true, eq-eqb, and_parts, and_from, or_cases, or_left, or_right}
use Rattle.policy.specs.Policy.{Meaning, Lawful}
use Rattle.policy.specs.Pairing.{both}

module _ (a b : Meaning) (la : Lawful a) (lb : Lawful b) where
  of_pair : (xs : List (List ℕ)) → (both a b).breaks xs ≡ true → (length xs ≡ a.arity) × ((a.breaks xs ≡ true) ⊎ (b.breaks xs ≡ true))
  of_pair xs e =
      let h = and_parts (length xs == a.arity) (a.breaks xs || b.breaks xs) e in
      (eqb-true (length xs) a.arity h.0, or_cases (a.breaks xs) (b.breaks xs) h.1)

  pub both_lawful : Lawful (both a b)
  both_lawful = record {
    some_place = la.some_place;
    few_places = la.few_places;
    only_tuples = λ xs e. let h = of_pair xs e in (h.0, ⊎_elim (λ p. (la.only_tuples xs p).1) (λ q v l. (lb.only_tuples xs q).1 v (omega (arith, h.0, (lb.only_tuples xs q).0))) h.1);
    only_sessions = λ s t e. la.only_sessions s t (and_parts (a.stands s t) (b.stands s t) e).0;
    reflexive = λ s h. and_from (a.stands s s) (b.stands s s) (la.reflexive s h) (lb.reflexive s h);
    transitive = λ r s t p q.
        let h = and_parts (a.stands r s) (b.stands r s) p in
        let k = and_parts (a.stands s t) (b.stands s t) q in
        and_from (a.stands r t) (b.stands r t) (la.transitive r s t h.0 k.0) (lb.transitive r s t h.1 k.1);
    substitutes = λ xs i s l st br.
        let h = and_parts (a.stands s (slice_index_or xs i [])) (b.stands s (slice_index_or xs i [])) st in
        let k = of_pair xs br in
        let ys = slice_set xs i s in
        and_from (length ys == a.arity) (a.breaks ys || b.breaks ys)
        (eq-eqb (length ys) a.arity (length-set xs i s ∙ k.0))
        (⊎_elim (λ p. or_left (a.breaks ys) (b.breaks ys) (la.substitutes xs i s l h.0 p))
        (λ q. or_right (a.breaks ys) (b.breaks ys) (lb.substitutes xs i s l h.1 q)) k.1);
  }
