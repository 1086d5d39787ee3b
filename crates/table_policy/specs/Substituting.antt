-- A session that stands for another can take its place.
use Rattle.std.specs.Prelude.{◌≡◌, ℕ, ◌+◌, ◌<◌, ◌≤◌, true, false, [], length, get_or, slice_index, slice_index_or, slice_set, refl}
use Rattle.std.proofs.Common.{inl, inr, ⊎_elim, sym, subst, ◌∙◌, arith}
use Rattle.std.proofs.lemmas.List.{get_or_past}
use Rattle.std.proofs.lemmas.Bool.{cases_lt}
use Rattle.policy.proofs.Digits.{digit, digit_is, digit_same}
use Rattle.policy.proofs.Tuples.{at_each, shortest_set, tuple_set}
use Rattle.policy.specs.Sessions.{Session, Tuple, On, letter, shortest, IsSession, IsTuple}
use Rattle.rule.specs.Meaning.{HoldsIn, Breaks}
use Rattle.rule.specs.Rule.{Rule, truth, at, near, negation, both, either, next, until}
use Rattle.rule.specs.Standing.{Looks, StandsFor}
use Rattle.table_policy.specs.Signals.{differing_same}

-- each signal of P that is on in xs is on in ys, and each signal of Q that is on in ys is on in xs
abbrev pub Follows : (ℕ → Type 0) → (ℕ → Type 0) → Tuple → Tuple → Type 0
Follows P Q xs ys = (v i x : ℕ) → (P x → On (letter xs v i) x → On (letter ys v i) x) × (Q x → On (letter ys v i) x → On (letter xs v i) x)

follows_back : {P Q : ℕ → Type 0} (xs ys : Tuple) → Follows P Q xs ys → Follows Q P ys xs
follows_back xs ys h v i x = ((h v i x).1, (h v i x).0)

pub carried : (m : ℕ) (f : Rule) (P Q : ℕ → Type 0) (xs ys : Tuple) → ((x : ℕ) → Looks true f x → P x) → ((x : ℕ) → Looks false f x → Q x)
    → Follows P Q xs ys → (i : ℕ) → HoldsIn xs m f i → HoldsIn ys m f i
carried m truth P Q xs ys p q h i a = tt
carried m (at v s) P Q xs ys p q h i a = (h v i s).0 (p s refl) a
carried m (near v w n S) P Q xs ys p q h i a =
    subst (λ (x : ℕ). x ≤ n) (differing_same S (letter xs v i) (letter xs w i) (letter ys v i) (letter ys w i) (alike v) (alike w)) a
  where
    alike : (u k : ℕ) → On S k → digit (letter xs u i) k ≡ digit (letter ys u i) k
    alike u k s = digit_same (digit_is (letter xs u i) k) (digit_is (letter ys u i) k) ((h u i k).0 (p k s)) ((h u i k).1 (q k s))
carried m (negation f) P Q xs ys p q h i a = λ b. a (carried m f Q P ys xs q p (follows_back xs ys h) i b)
carried m (both f g) P Q xs ys p q h i a =
    (carried m f P Q xs ys (λ x l. p x (inl l)) (λ x l. q x (inl l)) h i a.0, carried m g P Q xs ys (λ x l. p x (inr l)) (λ x l. q x (inr l)) h i a.1)
carried m (either f g) P Q xs ys p q h i (inl a) = inl (carried m f P Q xs ys (λ x l. p x (inl l)) (λ x l. q x (inl l)) h i a)
carried m (either f g) P Q xs ys p q h i (inr a) = inr (carried m g P Q xs ys (λ x l. p x (inr l)) (λ x l. q x (inr l)) h i a)
carried m (next f) P Q xs ys p q h i a = (a.0, carried m f P Q xs ys p q h (i + 1) a.1)
carried m (until f g) P Q xs ys p q h i (j, ij, jm, gj, before) = (
  j,
  ij,
  jm,
  carried m g P Q xs ys (λ x l. p x (inr l)) (λ x l. q x (inr l)) h j gj,
  λ k a b. carried m f P Q xs ys (λ x l. p x (inl l)) (λ x l. q x (inl l)) h k (before k a b),
)

pub stands_for_itself : (f : Rule) (s : Session) → IsSession s → StandsFor f s s
stands_for_itself f s h = record { from = h; to = h; equally_long = refl; upright = λ i l x u o. o; inverted = λ i l x u o. o }

pub stands_for_chain : (f : Rule) (s t u : Session) → StandsFor f s t → StandsFor f t u → StandsFor f s u
stands_for_chain f s t u a b = record {
  from = a.from;
  to = b.to;
  equally_long = a.equally_long ∙ b.equally_long;
  upright = λ i l x p o. b.upright i (subst (λ (n : ℕ). i < n) a.equally_long l) x p (a.upright i l x p o);
  inverted = λ i l x p o. a.inverted i l x p (b.inverted i (subst (λ (n : ℕ). i < n) a.equally_long l) x p o);
}

-- what standing for says at each step, the steps past the end too
Carries : Rule → ℕ → ℕ → Session → Session → Type 0
Carries f i x a b = (Looks true f x → On (slice_index a i) x → On (slice_index b i) x) × (Looks false f x → On (slice_index b i) x → On (slice_index a i) x)

carries_itself : (f : Rule) (i x : ℕ) (a : Session) → Carries f i x a a
unfolding Carries
carries_itself f i x a = (λ p o. o, λ q o. o)

carries : (f : Rule) (i x : ℕ) (s t : Session) → StandsFor f s t → Carries f i x s t
unfolding Carries
carries f i x s t stands = ⊎_elim within past (cases_lt i (length s))
  where
    within : i < length s → Carries f i x s t
    within l = (stands.upright i l x, stands.inverted i l x)

    past : length s ≤ i → Carries f i x s t
    past l =
        let e : get_or s i 0 ≡ get_or t i 0 = get_or_past s i 0 l ∙ sym (get_or_past t i 0 (subst (λ (n : ℕ). n ≤ i) stands.equally_long l)) in
        (λ p o. subst (λ (y : ℕ). On y x) e o, λ q o. subst (λ (y : ℕ). On y x) (sym e) o)

module _ (f : Rule) (k : ℕ) (xs : Tuple) (v : ℕ) (s : Session) (is : IsTuple k xs) (place : v < length xs) (stands : StandsFor f s (slice_index_or xs v [])) where
  replaced_follows : Follows (Looks true f) (Looks false f) (slice_set xs v s) xs
  unfolding Carries
  replaced_follows u i x =
      at_each xs v s (omega arith) (λ w y. Carries f i x y (slice_index_or xs w [])) (carries f i x s (slice_index_or xs v []) stands) (λ w. carries_itself f i x (slice_index_or xs w [])) u

  pub substitute : Breaks k f xs → Breaks k f (slice_set xs v s)
  substitute b = (
    tuple_set k xs v s (omega arith) is stands.from,
    λ holds. b.1 (carried (shortest xs) f (Looks true f) (Looks false f) (slice_set xs v s) xs (λ x l. l) (λ x l. l) replaced_follows 0
        (subst (λ (m : ℕ). HoldsIn (slice_set xs v s) m f 0) (shortest_set xs v s stands.equally_long) holds)),
  )
