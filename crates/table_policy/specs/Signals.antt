-- Sets of signals: the ones in which letters differ, and the ones that a rule reads.
use Rattle.std.specs.Prelude.{◌≡◌, ℕ, ◌^◌, ◌<◌, Bool, true, false, not, ◌&&◌, ◌==◌, bit_and, bit_xor, count_ones, nat_eq, refl}
use Rattle.std.proofs.Common.{inl, inr, ⊎_elim, sym, ap, ap₂, subst, ◌∙◌, mod-eq_of_lt, lt_of_le_of_lt}
use Rattle.std.proofs.lemmas.Nat.{and_le_l}
use Rattle.policy.proofs.Digits.{Digit, off, on', digit, digit_is, digit_and, digit_xor, ones_counted, counted_same, tells_digit, on_zero, on_pow, pow_on, on_or, or_on}
use Rattle.policy.specs.Sessions.{On, on, apart}
use Rattle.rule.specs.Meaning.{differing}
use Rattle.rule.specs.Rule.{Rule, truth, at, near, negation, both, either, next, until}
use Rattle.rule.specs.Standing.{Looks}
use Rattle.table_policy.specs.Masks.{mask}

-- the ones of the masked exclusive or are the signals in which two letters differ
pub differing_ones : (S a b : ℕ) → S < 2 ^ 32 → count_ones (bit_and S (bit_xor a b)) ≡ differing S a b
differing_ones S a b h =
    ap count_ones (sym (mod-eq_of_lt (lt_of_le_of_lt (and_le_l S (bit_xor a b)) h)))
    ∙ ones_counted 32 (bit_and S (bit_xor a b))
    ∙ counted_same 32 (on (bit_and S (bit_xor a b))) (λ s. on S s && apart (on a s) (on b s)) (λ s.
    ap (λ (x : ℕ). nat_eq x 1) (digit_and S (bit_xor a b) s ∙ ap (bit_and (digit S s)) (digit_xor a b s))
    ∙ tells_digit (digit_is S s) (digit_is a s) (digit_is b s))

within : {x : ℕ} → Digit x → (p q : Bool) → (x ≡ 1 → p ≡ q) → (x == 1 && p) ≡ (x == 1 && q)
within off p q h = refl
within on' p q h = h refl

-- letters that agree on the signals of a set differ in as many of them
pub differing_same : (S a b c d : ℕ) → ((s : ℕ) → On S s → digit a s ≡ digit c s) → ((s : ℕ) → On S s → digit b s ≡ digit d s) → differing S a b ≡ differing S c d
differing_same S a b c d p q = counted_same 32 _ _ (λ s. within (digit_is S s) _ _ (λ e. ap₂ (λ (x y : ℕ). apart (x == 1) (y == 1)) (p s e) (q s e)))

-- ---- the signals that a rule reads, as a set

pub looks_mask : (p : Bool) (f : Rule) (s : ℕ) → Looks p f s → On (mask p f) s
looks_mask p truth s h = absurd h
looks_mask true (at v t) s h = subst (λ (x : ℕ). On (2 ^ t) x) h (pow_on t)
looks_mask false (at v t) s h = absurd h
looks_mask p (near v w n S) s h = h
looks_mask p (negation f) s h = looks_mask (not p) f s h
looks_mask p (both f g) s (inl h) = or_on (mask p f) (mask p g) s (inl (looks_mask p f s h))
looks_mask p (both f g) s (inr h) = or_on (mask p f) (mask p g) s (inr (looks_mask p g s h))
looks_mask p (either f g) s (inl h) = or_on (mask p f) (mask p g) s (inl (looks_mask p f s h))
looks_mask p (either f g) s (inr h) = or_on (mask p f) (mask p g) s (inr (looks_mask p g s h))
looks_mask p (next f) s h = looks_mask p f s h
looks_mask p (until f g) s (inl h) = or_on (mask p f) (mask p g) s (inl (looks_mask p f s h))
looks_mask p (until f g) s (inr h) = or_on (mask p f) (mask p g) s (inr (looks_mask p g s h))

pub mask_looks : (p : Bool) (f : Rule) (s : ℕ) → On (mask p f) s → Looks p f s
mask_looks p truth s h = on_zero s h
mask_looks true (at v t) s h = on_pow t s h
mask_looks false (at v t) s h = on_zero s h
mask_looks p (near v w n S) s h = h
mask_looks p (negation f) s h = mask_looks (not p) f s h
mask_looks p (both f g) s h = ⊎_elim (λ a. inl (mask_looks p f s a)) (λ b. inr (mask_looks p g s b)) (on_or (mask p f) (mask p g) s h)
mask_looks p (either f g) s h = ⊎_elim (λ a. inl (mask_looks p f s a)) (λ b. inr (mask_looks p g s b)) (on_or (mask p f) (mask p g) s h)
mask_looks p (next f) s h = mask_looks p f s h
mask_looks p (until f g) s h = ⊎_elim (λ a. inl (mask_looks p f s a)) (λ b. inr (mask_looks p g s b)) (on_or (mask p f) (mask p g) s h)
