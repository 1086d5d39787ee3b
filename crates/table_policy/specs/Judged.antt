-- A rule as a policy: its answers are the rule's meaning, and keep the laws.
use Rattle.std.specs.Prelude.{◌≡◌, ℕ, ◌<◌, ◌≤◌, Bool, true, false, not, ◌&&◌, Decides, refl}
use Rattle.std.proofs.Common.{sym, ap, ap₂, subst, ◌∙◌, arith}
use Rattle.std.proofs.lemmas.Bool.{false≢true}
use Rattle.std.proofs.lemmas.Bool.Decides.{Decides-not, Decides-and, Decides-like, Decides-at, not_from_Decides, same_from_decides}
use Rattle.policy.proofs.Judged.{lawful_by}
use Rattle.policy.proofs.Tested.{tuple_decides, stands_decides}
use Rattle.policy.proofs.Tuples.{steps_between}
use Rattle.policy.specs.Policy.{Judges, Lawful}
use Rattle.policy.specs.Sessions.{Session, Tuple, IsTuple, letter, shortest}
use Rattle.policy.specs.Standing.{StandsBy}
use Rattle.policy.specs.Testing.{stands_test}
use Rattle.rule.specs.Meaning.{Breaks}
use Rattle.rule.specs.Rule.{Rule}
use Rattle.rule.specs.Standing.{StandsFor}
use Rattle.table_policy.specs.Evaluating.{eval, breaks_test}
use Rattle.table_policy.specs.Masks.{mask}
use Rattle.table_policy.specs.Tables.{rule_means}
use Rattle.table_policy.specs.Deciding.{eval_holds, eval_same}
use Rattle.table_policy.specs.Signals.{looks_mask, mask_looks}
use Rattle.table_policy.specs.Substituting.{stands_for_itself, stands_for_chain, substitute}

decides_after : {P Q : Type 0} (x y : Bool) → Decides x P → (P → Decides y Q) → Decides (x && y) (P × Q)
decides_after true y d e = Decides-and true y d (e (d.0 refl))
decides_after false y d e = (λ z. absurd (false≢true z), λ p. d.1 p.0)

pub breaks_decides : (k : ℕ) (f : Rule) (xs : Tuple) → 1 ≤ k → Decides (breaks_test k f xs) (Breaks k f xs)
unfolding breaks_test
breaks_decides k f xs some = decides_after _ _ (tuple_decides k xs) (λ is. Decides-not _ (eval_holds xs f (steps_between k xs some is).0))

-- the signals that a rule reads, as sets
pub reads_decides : (f : Rule) (s t : Session) → Decides (stands_test (mask true f) (mask false f) s t) (StandsFor f s t)
reads_decides f s t =
    Decides-like _
    (λ h. record {
      from = h.from;
      to = h.to;
      equally_long = h.equally_long;
      upright = λ i l x look. h.upright i l x (looks_mask true f x look);
      inverted = λ i l x look. h.inverted i l x (looks_mask false f x look);
    })
    (λ h. record {
      from = h.from;
      to = h.to;
      equally_long = h.equally_long;
      upright = λ i l x o. h.upright i l x (mask_looks true f x o);
      inverted = λ i l x o. h.inverted i l x (mask_looks false f x o);
    })
    (stands_decides (mask true f) (mask false f) s t)

pub rule_judges : (k : ℕ) (f : Rule) → 1 ≤ k → Judges (rule_means k f) k (Breaks k f) (StandsFor f)
rule_judges k f some = record { arity_is = refl; breaks_where = λ xs. breaks_decides k f xs some; stands_where = λ s t. reads_decides f s t }

pub rule_lawful : (k : ℕ) (f : Rule) → 1 ≤ k → k ≤ 4 → Lawful (rule_means k f)
rule_lawful k f some few =
    lawful_by (rule_means k f) k (rule_judges k f some) some few (λ xs b. b.0) (λ s t h. (h.from, h.to)) (stands_for_itself f) (λ r s t a b. stands_for_chain f r s t a b)
    (λ xs v s l h b. substitute f k xs v s b.0 l h b)

pub joined_only : (k : ℕ) (f : Rule) (xs ys : Tuple) → IsTuple k xs → IsTuple k ys → shortest xs ≡ shortest ys → ((v i : ℕ) → i < shortest xs → letter xs v i ≡ letter ys v i) → breaks_test k f xs ≡ breaks_test k f ys
unfolding breaks_test
joined_only k f xs ys isx isy e same =
    ap₂ (λ (a b : Bool). a && not b) ((tuple_decides k xs).1 isx ∙ sym ((tuple_decides k ys).1 isy))
    (eval_same xs ys (shortest xs) same f (shortest xs) (omega arith) ∙ ap (λ (m : ℕ). eval ys m f m) e)

-- ---- what the code tells

-- what is no tuple breaks nothing
pub no_tuple : (k p : ℕ) (f : Rule) (xs : Tuple) (r : Bool) → 1 ≤ k → p ≡ k → Decides r (IsTuple p xs) → r ≡ false → r ≡ breaks_test k f xs
no_tuple k p f xs r some e d off =
    off ∙ same_from_decides _ _ (λ z. absurd (false≢true z), λ b. absurd (not_from_Decides r d off (subst (λ (x : ℕ). IsTuple x xs) (sym e) b.0))) (breaks_decides k f xs some)

-- a tuple breaks a rule that is not true at the first step of its joined word
pub by_word : (k : ℕ) (f : Rule) (xs ws : Tuple) (m : ℕ) (v : Bool) → IsTuple k xs → m ≡ shortest xs → ((v i : ℕ) → i < shortest xs → letter ws v i ≡ letter xs v i) → v ≡ eval ws m f m → not v ≡ breaks_test k f xs
unfolding breaks_test
by_word k f xs ws m v is long same e =
    ap₂ (λ (a b : Bool). a && not b) (sym ((tuple_decides k xs).1 is))
    (e ∙ ap (λ (n : ℕ). eval ws n f n) long ∙ eval_same ws xs (shortest xs) same f (shortest xs) (omega arith))

-- the same answer as a test and by the meaning
pub told : (k : ℕ) (f : Rule) (xs : Tuple) (r : Bool) → 1 ≤ k → r ≡ breaks_test k f xs → record { same : r ≡ breaks_test k f xs; exact : Decides r (Breaks k f xs) }
told k f xs r some e = record { same = e; exact = Decides-at r _ e (breaks_decides k f xs some) }

pub told_standing : (f : Rule) (P Q : ℕ) (s t : Session) (r : Bool) → P ≡ mask true f → Q ≡ mask false f → Decides r (StandsBy P Q s t)
    → record { same : r ≡ stands_test (mask true f) (mask false f) s t; exact : Decides r (StandsFor f s t) }
told_standing f P Q s t r p q d =
    let e : r ≡ stands_test (mask true f) (mask false f) s t = same_from_decides _ _ d (stands_decides P Q s t) ∙ ap₂ (λ (x y : ℕ). stands_test x y s t) p q in
    record { same = e; exact = Decides-at r _ e (reads_decides f s t) }
