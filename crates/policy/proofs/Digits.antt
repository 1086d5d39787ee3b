-- Numbers as sets of signals.
use Rattle.std.proofs.Common.{◌≡◌, ℕ, zero, suc, ◌+◌, ◌/◌, ◌%◌, ◌^◌, ◌<◌, min, Bool, cond, ◌&&◌, eqb, ◌⊎◌, Decides, sym, refl, ap, ◌∙◌, ap₂, inl, inr, ⊎_elim, mod-lt, arith, pow_pos}
use lib.Bits.{bit_and, bit_or, bit_xor, and_shr, and_mod, xor_shr, xor_mod}
use lib.Count.{ones, ones_cat}
use lib.Pow.{mod-pow-add}
use native.Mathlib.Nat.{mod-one}
use Rattle.std.proofs.lemmas.Bool.{cases_eq, cases_lt}
use Rattle.std.proofs.lemmas.Bool.Decides.{Decides-eqb, Decides-like}
use Rattle.std.proofs.lemmas.Nat.Bits.{bit_at-lt, bit_at-zero, bit_at-pow_same, bit_at-pow_other, bit_at_and, bit_at_or, bit_at_above, same_from_bits}
use Rattle.policy.specs.Sessions.{On, on, counted, apart}

abbrev pub digit : ℕ → ℕ → ℕ
digit a k = a / 2 ^ k % 2

pub digit_and : (a b k : ℕ) → digit (bit_and a b) k ≡ bit_and (digit a k) (digit b k)
digit_and a b k = ap (λ (x : ℕ). x % 2) (and_shr a b k) ∙ and_mod (a / 2 ^ k) (b / 2 ^ k) 1

pub digit_xor : (a b k : ℕ) → digit (bit_xor a b) k ≡ bit_xor (digit a k) (digit b k)
digit_xor a b k = ap (λ (x : ℕ). x % 2) (xor_shr a b k) ∙ xor_mod (a / 2 ^ k) (b / 2 ^ k) 1

-- a number below 2 is a digit
pub data Digit : ℕ → Type 0 where
  off : Digit 0
  on' : Digit 1

pub the_digit : (x : ℕ) → x < 2 → Digit x
the_digit zero h = off
the_digit (suc zero) h = on'
the_digit (suc (suc x)) h = absurd (let z : ⊥ = omega arith in z)

pub digit_is : (a k : ℕ) → Digit (digit a k)
digit_is a k = the_digit (digit a k) (bit_at-lt a k)

-- two digits that are 1 together are equal
pub digit_same : {x y : ℕ} → Digit x → Digit y → (x ≡ 1 → y ≡ 1) → (y ≡ 1 → x ≡ 1) → x ≡ y
digit_same off off p q = refl
digit_same off on' p q = q refl
digit_same on' off p q = sym (p refl)
digit_same on' on' p q = refl

-- ---- the signals of a set of 32, counted one by one

ones_digit : {x : ℕ} → Digit x → ones x ≡ cond (eqb x 1) 1 0
unfolding ones
ones_digit off = refl
ones_digit on' = refl

pub ones_counted : (w n : ℕ) → ones (n % 2 ^ w) ≡ counted w (on n)
unfolding ones counted
ones_counted zero n = ap ones (mod-one n)
ones_counted (suc w) n =
    let e : suc w ≡ 1 + w = omega arith in
    ap (λ (x : ℕ). ones (n % 2 ^ x)) e ∙ ap ones (mod-pow-add n 1 w)
    ∙ ones_cat w (digit n w) (n % 2 ^ w) (mod-lt n (pow_pos w))
    ∙ ap₂ (λ (x y : ℕ). x + y) (ones_digit (digit_is n w)) (ones_counted w n)

pub counted_same : (w : ℕ) (p q : ℕ → Bool) → ((s : ℕ) → p s ≡ q s) → counted w p ≡ counted w q
unfolding counted
counted_same zero p q h = refl
counted_same (suc w) p q h = ap₂ (λ (x : Bool) (y : ℕ). cond x 1 0 + y) (h w) (counted_same w p q h)

pub tells_digit : {s a b : ℕ} → Digit s → Digit a → Digit b → eqb (bit_and s (bit_xor a b)) 1 ≡ (eqb s 1 && apart (eqb a 1) (eqb b 1))
tells_digit off a b = refl
tells_digit on' off off = refl
tells_digit on' off on' = refl
tells_digit on' on' off = refl
tells_digit on' on' on' = refl

pub on_zero : (s : ℕ) → On 0 s → ⊥
on_zero s h = omega (arith, bit_at-zero s)

pub on_pow : (t s : ℕ) → On (2 ^ t) s → t ≡ s
on_pow t s h = ⊎_elim (λ e. sym e) (λ ne. absurd (omega (arith, bit_at-pow_other t s ne))) (cases_eq s t)

pub pow_on : (t : ℕ) → On (2 ^ t) t
pow_on t = bit_at-pow_same t

pub on_or : (a b s : ℕ) → On (bit_or a b) s → On a s ⊎ On b s
on_or a b s h = ⊎_elim inl (λ ne. inr (omega (arith, bit_at_or a b s, bit_at-lt a s, bit_at-lt b s))) (cases_eq (digit a s) 1)

pub or_on : (a b s : ℕ) → On a s ⊎ On b s → On (bit_or a b) s
or_on a b s (inl h) = omega (arith, bit_at_or a b s, bit_at-lt b s)
or_on a b s (inr h) = omega (arith, bit_at_or a b s, bit_at-lt a s)

pub on_below : (a n : ℕ) → a < 2 ^ n → (s : ℕ) → On a s → s < n
on_below a n h s o = ⊎_elim (λ l. l) (λ l. absurd (omega (arith, bit_at_above a n s h l))) (cases_lt s n)

-- ---- one set of signals within another

within : (m a b : ℕ) → m < 2 → a < 2 → b < 2 → (m ≡ 1 → a ≡ 1 → b ≡ 1) → min (min m a) b ≡ min m a
within m a b lm la lb h = ⊎_elim (λ p. ⊎_elim (λ q. omega (arith, h p q)) (λ ne. omega arith) (cases_eq a 1)) (λ ne. omega arith) (cases_eq m 1)

-- each signal of the set m that is on in a is on in b
pub covers_decides : (m a b : ℕ) → Decides (eqb (bit_and (bit_and m a) b) (bit_and m a)) ((x : ℕ) → On m x → On a x → On b x)
covers_decides m a b =
    Decides-like _
    (λ e x p q. omega (arith, ap (λ (y : ℕ). digit y x) e, bit_at_and (bit_and m a) b x, bit_at_and m a x, bit_at-lt b x))
    (λ h. same_from_bits _ _ (λ x. bit_at_and (bit_and m a) b x ∙ ap (λ (y : ℕ). min y (digit b x)) (bit_at_and m a x)
    ∙ within (digit m x) (digit a x) (digit b x) (bit_at-lt m x) (bit_at-lt a x) (bit_at-lt b x) (h x) ∙ sym (bit_at_and m a x)))
    (Decides-eqb (bit_and (bit_and m a) b) (bit_and m a))
