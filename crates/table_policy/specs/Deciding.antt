-- The truth of a rule as a test is its meaning.
use Rattle.std.specs.Prelude.{◌≡◌, ℕ, zero, suc, ◌+◌, ◌-◌, ◌/◌, ◌%◌, ◌^◌, ◌<◌, ◌≤◌, Bool, false, not, ◌&&◌, ◌||◌, leb, ◌⊎◌, Decides, ◌≢◌, nat_le}
use Rattle.std.proofs.Common.{inl, inr, ⊎_elim, sym, ap, subst}
use Rattle.std.proofs.Math.Path.{refl, ap₂}
use native.Mathlib.Omega.{arith}
use Rattle.std.proofs.lemmas.Bool.{false≢true, cases_eq}
use Rattle.std.proofs.lemmas.Bool.Decides.{Decides-eqb, Decides-not, Decides-and, Decides-or, Decides-like, Decides-at}
use Rattle.policy.proofs.Tested.{leb_decides}
use Rattle.policy.specs.Sessions.{Tuple, On, on, letter, shortest}
use Rattle.rule.specs.Meaning.{differing, HoldsIn, Holds}
use Rattle.rule.specs.Rule.{Rule, truth, at, near, negation, both, either, next, until}
use Rattle.table_policy.specs.Evaluating.{eval, until_back}

-- until is the second part now, or the first part now and until at the next step
abbrev StepBack : Tuple → ℕ → Rule → Rule → ℕ → Type 0
StepBack xs m f g i = HoldsIn xs m g i ⊎ (HoldsIn xs m f i × (i + 1 < m) × HoldsIn xs m (until f g) (i + 1))

module _ (xs : Tuple) (m : ℕ) (f g : Rule) where
  until_there : (i : ℕ) → i < m → HoldsIn xs m (until f g) i → StepBack xs m f g i
  until_there i h (j, ij, jm, gj, before) = ⊎_elim here later (cases_eq i j)
    where
      here : i ≡ j → StepBack xs m f g i
      here e = inl (subst (λ x. HoldsIn xs m g x) (sym e) gj)

      later : (i ≢ j) → StepBack xs m f g i
      later ne = inr (before i (omega arith) (omega arith), omega arith, (j, omega arith, jm, gj, λ k a b. before k (omega arith) b))

  until_back_again : (i : ℕ) → i < m → StepBack xs m f g i → HoldsIn xs m (until f g) i
  until_back_again i h (inl gi) = (i, omega arith, h, gi, λ k a b. absurd (let z : ⊥ = omega arith in z))
  until_back_again i h (inr (fi, im, (j, ij, jm, gj, before))) = (j, omega arith, jm, gj, each)
    where
      each : (k : ℕ) → i ≤ k → k < j → HoldsIn xs m f k
      each k a b = ⊎_elim (λ e. subst (λ x. HoldsIn xs m f x) e fi) (λ ne. before k (omega arith) b) (cases_eq i k)

decides_false : {P : Type 0} → (P → ⊥) → Decides false P
decides_false h = (λ e. absurd (false≢true e), λ p. absurd (h p))

-- the evaluator at the step i, where d + 1 of the m steps are left
module _ (xs : Tuple) (m : ℕ) where
  -- until, from its parts at each step
  until_decides : (f g : Rule) → ((i d : ℕ) → i + suc d ≡ m → Decides (eval xs m f (suc d)) (HoldsIn xs m f i))
      → ((i d : ℕ) → i + suc d ≡ m → Decides (eval xs m g (suc d)) (HoldsIn xs m g i))
      → (d i : ℕ) → i + suc d ≡ m → Decides (until_back (eval xs m f) (eval xs m g) (suc d)) (HoldsIn xs m (until f g) i)
  unfolding until_back
  until_decides f g df dg zero i e =
      Decides-like _ (until_back_again xs m f g i (omega arith)) (until_there xs m f g i (omega arith))
      (Decides-or (eval xs m g 1) (eval xs m f 1 && false) (dg i zero e)
      (Decides-like _ (λ p. absurd p.1) (λ p. (p.0, let z : ⊥ = omega (arith, p.1) in z))
      (Decides-and (eval xs m f 1) false (df i zero e) (decides_false (λ z. z)))))
  until_decides f g df dg (suc d) i e =
      Decides-like _ (until_back_again xs m f g i (omega arith)) (until_there xs m f g i (omega arith))
      (Decides-or (eval xs m g (suc (suc d))) (eval xs m f (suc (suc d)) && until_back (eval xs m f) (eval xs m g) (suc d)) (dg i (suc d) e)
      (Decides-like _ (λ p. (p.0, omega arith, p.1)) (λ p. (p.0, p.2))
      (Decides-and (eval xs m f (suc (suc d))) (until_back (eval xs m f) (eval xs m g) (suc d)) (df i (suc d) e)
      (until_decides f g df dg d (i + 1) (omega arith)))))

  -- past the last step nothing holds
  pub eval_past : (f : Rule) → eval xs m f 0 ≡ false
  unfolding until_back
  eval_past truth = refl
  eval_past (at v s) = refl
  eval_past (near v w n S) = refl
  eval_past (negation f) = refl
  eval_past (both f g) = refl
  eval_past (either f g) = refl
  eval_past (next f) = refl
  eval_past (until f g) = refl

  pub eval_decides : (f : Rule) (i d : ℕ) → i + suc d ≡ m → Decides (eval xs m f (suc d)) (HoldsIn xs m f i)
  eval_decides truth i d e = (λ _. tt, λ _. refl)
  eval_decides (at v s) i d e =
      let is : m - suc d ≡ i = omega arith in
      subst (λ (x : ℕ). Decides (on (letter xs v x) s) (On (letter xs v i) s)) (sym is) (Decides-eqb (letter xs v i / 2 ^ s % 2) 1)
  eval_decides (near v w n S) i d e =
      let is : m - suc d ≡ i = omega arith in
      subst (λ (x : ℕ). Decides (nat_le (differing S (letter xs v x) (letter xs w x)) n) (differing S (letter xs v i) (letter xs w i) ≤ n)) (sym is)
      (leb_decides (differing S (letter xs v i) (letter xs w i)) n)
  eval_decides (negation f) i d e = Decides-not _ (eval_decides f i d e)
  eval_decides (both f g) i d e = Decides-and _ _ (eval_decides f i d e) (eval_decides g i d e)
  eval_decides (either f g) i d e = Decides-or _ _ (eval_decides f i d e) (eval_decides g i d e)
  eval_decides (next f) i zero e = Decides-at _ false (eval_past f) (decides_false (λ p. let z : ⊥ = omega (arith, p.0) in z))
  eval_decides (next f) i (suc d) e =
      Decides-like _ (λ p. (omega arith, p)) (λ p. p.1) (eval_decides f (i + 1) d (omega arith))
  eval_decides (until f g) i d e = until_decides f g (λ i d e. eval_decides f i d e) (λ i d e. eval_decides g i d e) d i e

-- so it decides a rule at the first step
pub eval_holds : (xs : Tuple) (f : Rule) → 0 < shortest xs → Decides (eval xs (shortest xs) f (shortest xs)) (Holds xs f 0)
eval_holds xs f h =
    let m : ℕ = shortest xs in
    let e : suc (m - 1) ≡ m = omega arith in
    subst (λ (x : ℕ). Decides (eval xs (shortest xs) f x) (Holds xs f 0)) e (eval_decides xs m f 0 (m - 1) (omega arith))

-- ---- only the letters of the joined word count

module _ (xs ys : Tuple) (m : ℕ) (same : (v i : ℕ) → i < m → letter xs v i ≡ letter ys v i) where
  until_same : (f g f' g' : ℕ → Bool) → ((d : ℕ) → d ≤ m → f d ≡ f' d) → ((d : ℕ) → d ≤ m → g d ≡ g' d) → (d : ℕ) → d ≤ m → until_back f g d ≡ until_back f' g' d
  unfolding until_back
  until_same f g f' g' ef eg zero h = refl
  until_same f g f' g' ef eg (suc d) h = ap₂ ◌||◌ (eg (suc d) h) (ap₂ ◌&&◌ (ef (suc d) h) (until_same f g f' g' ef eg d (omega arith)))

  pub eval_same : (f : Rule) (d : ℕ) → d ≤ m → eval xs m f d ≡ eval ys m f d
  eval_same truth zero h = refl
  eval_same truth (suc d) h = refl
  eval_same (at v s) zero h = refl
  eval_same (at v s) (suc d) h = ap (λ (a : ℕ). on a s) (same v (m - suc d) (omega arith))
  eval_same (near v w n S) zero h = refl
  eval_same (near v w n S) (suc d) h = ap₂ (λ (a b : ℕ). leb (differing S a b) n) (same v (m - suc d) (omega arith)) (same w (m - suc d) (omega arith))
  eval_same (negation f) zero h = refl
  eval_same (negation f) (suc d) h = ap not (eval_same f (suc d) h)
  eval_same (both f g) zero h = refl
  eval_same (both f g) (suc d) h = ap₂ ◌&&◌ (eval_same f (suc d) h) (eval_same g (suc d) h)
  eval_same (either f g) zero h = refl
  eval_same (either f g) (suc d) h = ap₂ ◌||◌ (eval_same f (suc d) h) (eval_same g (suc d) h)
  eval_same (next f) zero h = refl
  eval_same (next f) (suc d) h = eval_same f d (omega arith)
  eval_same (until f g) d h = until_same (eval xs m f) (eval xs m g) (eval ys m f) (eval ys m g) (λ e l. eval_same f e l) (λ e l. eval_same g e l) d h
