-- An automaton as a policy: its answers are the meaning of its runs, and keep the laws.
use Rattle.std.specs.Prelude.{◌≡◌, ℕ, zero, suc, ◌+◌, ◌<◌, ◌≤◌, Bool, false, not, ◌&&◌, ◌↔◌, List, [], length, get_or, Some, None, Decides, Option, bit_and, slice_index, slice_index_or, slice_set, refl}
use Rattle.std.proofs.Math.Logic.{⊎_elim}
use Rattle.std.proofs.Math.Path.{sym, subst}
use Rattle.std.proofs.Common.{ap, ap₂, ◌∙◌, arith}
use Rattle.std.proofs.lemmas.List.{get_or_past}
use Rattle.std.proofs.lemmas.Bool.{cases_lt, false≢true}
use Rattle.std.proofs.lemmas.Bool.Decides.{Decides-and, Decides-not, Decides-like, Decides-at, not_from_Decides, same_from_decides}
use Rattle.policy.proofs.Judged.{lawful_by}
use Rattle.policy.proofs.Tested.{tuple_decides, stands_decides}
use Rattle.policy.proofs.Tuples.{at_each, shortest_set, tuple_set}
use Rattle.policy.specs.Policy.{Judges, Lawful}
use Rattle.policy.specs.Sessions.{On, Session, Tuple, IsTuple, letter, shortest}
use Rattle.policy.specs.Standing.{StandsBy}
use Rattle.policy.specs.Testing.{stands_test}
use Rattle.automaton.specs.declared.edge.Edge.{Edge}
use Rattle.automaton.specs.Runs.{none, nothing, column, Breaks, Looks, StandsFor}
use Rattle.automaton.specs.Testing.{next_state, go_on, accepts, breaks_test, union}
use Rattle.automaton.specs.Running.{accepted_decides}
use Rattle.automaton.specs.Stepping.{next_same}
use Rattle.automaton.specs.Unions.{union_looks, looks_union, agree_same}

-- ---- tuples that the edges do not tell apart

go_same : (o : Option ℕ) (f g : ℕ → Bool) → ((r : ℕ) → f r ≡ g r) → go_on o f ≡ go_on o g
go_same None f g h = refl
go_same (Some r) f g h = h r

module _ (k : ℕ) (es : List Edge) (good : ℕ) (xs ys : Tuple) (m : ℕ) (same : (i : ℕ) → i < m → (q : ℕ) → next_state k es (column xs i) q ≡ next_state k es (column ys i) q) where
  pub accepts_same : (d i q : ℕ) → i + d ≤ m → accepts k es good xs d i q ≡ accepts k es good ys d i q
  accepts_same zero i q h = refl
  accepts_same (suc d) i q h =
      ap (λ o. go_on o (λ r. accepts k es good xs d (i + 1) r)) (same i (omega arith) q)
      ∙ go_same (next_state k es (column ys i) q) _ _ (λ r. accepts_same d (i + 1) r (omega arith))

-- ---- breaking

pub breaks_decides : (k : ℕ) (es : List Edge) (good : ℕ) (xs : Tuple) → Decides (breaks_test k es good xs) (Breaks k es good xs)
unfolding breaks_test
breaks_decides k es good xs = Decides-and _ _ (tuple_decides k xs) (Decides-not _ (accepted_decides k es good xs))

pub no_tuple : (k : ℕ) (es : List Edge) (good : ℕ) (xs : Tuple) (r : Bool) → Decides r (IsTuple k xs) → r ≡ false → false ≡ breaks_test k es good xs
no_tuple k es good xs r d off = same_from_decides _ _ (λ z. absurd (false≢true z), λ b. absurd (not_from_Decides r d off b.0)) (breaks_decides k es good xs)

-- a tuple breaks an automaton that does not accept its joined word
pub by_word : (k : ℕ) (es : List Edge) (good : ℕ) (xs ws : Tuple) (m : ℕ) (r : Bool) → IsTuple k xs → m ≡ shortest xs → ((v i : ℕ) → i < shortest xs → letter ws v i ≡ letter xs v i)
    → r ≡ accepts k es good ws m 0 0 → not r ≡ breaks_test k es good xs
unfolding breaks_test
by_word k es good xs ws m r is long same e =
    ap₂ (λ (a b : Bool). a && not b) (sym ((tuple_decides k xs).1 is))
    (e ∙ ap (λ (n : ℕ). accepts k es good ws n 0 0) long
    ∙ accepts_same k es good ws xs (shortest xs) (λ i l q. next_same k (column ws i) (column xs i) es q (λ j h v u. ap (λ (a : ℕ). bit_and a (get_or (get_or es j none).guards v nothing).mask) (same v i l))) (shortest xs) 0 0 (omega arith))

pub joined_only : (k : ℕ) (es : List Edge) (good : ℕ) (xs ys : Tuple) → IsTuple k xs → IsTuple k ys → shortest xs ≡ shortest ys → ((v i : ℕ) → i < shortest xs → letter xs v i ≡ letter ys v i) → breaks_test k es good xs ≡ breaks_test k es good ys
joined_only k es good xs ys isx isy e same =
    let r = accepts k es good ys (shortest ys) 0 0 in
    sym (by_word k es good xs ys (shortest ys) r isx (sym e) (λ v i l. sym (same v i l)) refl) ∙ by_word k es good ys ys (shortest ys) r isy refl (λ v i l. refl) refl

pub told : (k : ℕ) (es : List Edge) (good : ℕ) (xs : Tuple) (r : Bool) → r ≡ breaks_test k es good xs → record { same : r ≡ breaks_test k es good xs; exact : Decides r (Breaks k es good xs) }
told k es good xs r e = record { same = e; exact = Decides-at r _ e (breaks_decides k es good xs) }

-- ---- standing

-- standing by two sets that are both the signals asked for
pub standing_decides : (k : ℕ) (es : List Edge) (S P Q : ℕ) (s t : Session) (r : Bool) → S ≡ union k es → P ≡ S → Q ≡ S → Decides r (StandsBy P Q s t) → Decides r (StandsFor k es s t)
standing_decides k es S P Q s t r seen p q =
    Decides-like r
    (λ h. record {
      from = h.from;
      to = h.to;
      equally_long = h.equally_long;
      agree = λ i l x look. (h.upright i l x (asked p x look), h.inverted i l x (asked q x look));
    })
    (λ h. record {
      from = h.from;
      to = h.to;
      equally_long = h.equally_long;
      upright = λ i l x o. (h.agree i l x (looked p x o)).0;
      inverted = λ i l x o. (h.agree i l x (looked q x o)).1;
    })
  where
    asked : {M : ℕ} → M ≡ S → (x : ℕ) → Looks k es x → On M x
    asked e x look = subst (λ (m : ℕ). On m x) (sym (e ∙ seen)) (looks_union k es x look)

    looked : {M : ℕ} → M ≡ S → (x : ℕ) → On M x → Looks k es x
    looked e x o = union_looks k es x (subst (λ (m : ℕ). On m x) (e ∙ seen) o)

pub told_standing : (k : ℕ) (es : List Edge) (S P Q : ℕ) (s t : Session) (r : Bool) → S ≡ union k es → P ≡ S → Q ≡ S → Decides r (StandsBy P Q s t)
    → record { same : r ≡ stands_test S S s t; exact : Decides r (StandsFor k es s t) }
told_standing k es S P Q s t r seen p q d = record {
  same = same_from_decides _ _ d (stands_decides P Q s t) ∙ ap₂ (λ (m n : ℕ). stands_test m n s t) p q;
  exact = standing_decides k es S P Q s t r seen p q d;
}

-- ---- a session that agrees with another can take its place

module _ (k : ℕ) (es : List Edge) (good : ℕ) (xs : Tuple) (v : ℕ) (s : Session) (place : v < length xs) (stands : StandsFor k es s (slice_index_or xs v [])) where
  Alike : ℕ → Session → Session → Type 0
  Alike i a b = (x : ℕ) → Looks k es x → On (slice_index a i) x ↔ On (slice_index b i) x

  -- the steps past the end too
  at_step : (i : ℕ) → Alike i s (slice_index_or xs v [])
  unfolding Alike
  at_step i = ⊎_elim (λ l. stands.agree i l) (λ l x look. (λ o. subst (λ (a : ℕ). On a x) (both_past l) o, λ o. subst (λ (a : ℕ). On a x) (sym (both_past l)) o)) (cases_lt i (length s))
    where
      both_past : length s ≤ i → slice_index s i ≡ slice_index (slice_index_or xs v []) i
      both_past l = get_or_past s i 0 l ∙ sym (get_or_past (slice_index_or xs v []) i 0 (subst (λ (n : ℕ). n ≤ i) stands.equally_long l))

  alike : (u i : ℕ) → Alike i (slice_index_or (slice_set xs v s) u []) (slice_index_or xs u [])
  unfolding Alike
  alike u i = at_each xs v s place (λ w y. Alike i y (slice_index_or xs w [])) (at_step i) (λ w x look. (λ o. o, λ o. o)) u

  next_alike : (i q : ℕ) → next_state k es (column (slice_set xs v s) i) q ≡ next_state k es (column xs i) q
  unfolding Alike
  next_alike i q =
      next_same k (column (slice_set xs v s) i) (column xs i) es q (λ j l u h. agree_same (get_or (get_or es j none).guards u nothing).mask _ _ (λ x o. alike u i x (j, l, (u, h, o))))

  accepts_alike : accepts k es good (slice_set xs v s) (shortest (slice_set xs v s)) 0 0 ≡ accepts k es good xs (shortest xs) 0 0
  accepts_alike =
      ap (λ (m : ℕ). accepts k es good (slice_set xs v s) m 0 0) (shortest_set xs v s stands.equally_long)
      ∙ accepts_same k es good (slice_set xs v s) xs (shortest xs) (λ i l q. next_alike i q) (shortest xs) 0 0 (omega arith)

  substitute : Breaks k es good xs → Breaks k es good (slice_set xs v s)
  substitute b = (
    tuple_set k xs v s place b.0 stands.from,
    λ a. b.1 ((accepted_decides k es good xs).0 (sym accepts_alike ∙ (accepted_decides k es good (slice_set xs v s)).1 a)),
  )

-- ---- the laws

module _ (k : ℕ) (es : List Edge) (good S : ℕ) (seen : S ≡ union k es) where
  pub automaton_judges : Judges (record { arity = k; breaks = breaks_test k es good; stands = stands_test S S }) k (Breaks k es good) (StandsFor k es)
  automaton_judges = record {
    arity_is = refl;
    breaks_where = λ xs. breaks_decides k es good xs;
    stands_where = λ s t. standing_decides k es S S S s t _ seen refl refl (stands_decides S S s t);
  }

  chain : (r s t : Session) → StandsFor k es r s → StandsFor k es s t → StandsFor k es r t
  chain r s t a b =
      let there : (i : ℕ) → i < length r → i < length s = λ i l. subst (λ (n : ℕ). i < n) a.equally_long l in
      record {
        from = a.from;
        to = b.to;
        equally_long = a.equally_long ∙ b.equally_long;
        agree = λ i l x look. (
          λ o. (b.agree i (there i l) x look).0 ((a.agree i l x look).0 o),
          λ o. (a.agree i l x look).1 ((b.agree i (there i l) x look).1 o),
        );
      }

  pub automaton_lawful : 1 ≤ k → k ≤ 4 → Lawful (record { arity = k; breaks = breaks_test k es good; stands = stands_test S S })
  automaton_lawful some few =
      lawful_by _ k automaton_judges some few (λ xs b. b.0) (λ s t h. (h.from, h.to))
      (λ s h. record { from = h; to = h; equally_long = refl; agree = λ i l x look. (λ o. o, λ o. o) })
      chain
      (λ xs v s l h b. substitute k es good xs v s l h b)

-- the same of rows that are kept
pub kept_judges : (k : ℕ) (es used : List Edge) (good S : ℕ) → used ≡ es → S ≡ union k es
    → Judges (record { arity = k; breaks = breaks_test k used good; stands = stands_test S S }) k (Breaks k es good) (StandsFor k es)
kept_judges k es used good S e seen =
    subst (λ (l : List Edge). Judges (record { arity = k; breaks = breaks_test k l good; stands = stands_test S S }) k (Breaks k es good) (StandsFor k es)) (sym e) (automaton_judges k es good S seen)
