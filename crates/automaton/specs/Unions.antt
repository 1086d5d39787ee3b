-- The signals that an automaton asks for, as one set.
use Rattle.std.specs.Prelude.{◌≡◌, ℕ, zero, suc, ◌<◌, ◌⊎◌, List, [], ◌∷◌, length, take, fold, bit_and, bit_or, slice_index_or, refl}
use Rattle.std.proofs.Common.{inl, inr, ⊎_elim, sym, ap, subst, ◌∙◌, arith}
use Rattle.std.proofs.lemmas.List.{get_or-take, get_or_past, length-take}
use Rattle.std.proofs.lemmas.Bool.{cases_lt}
use Rattle.std.proofs.lemmas.Nat.{and_comm}
use Rattle.std.proofs.lemmas.Nat.Bits.{same_from_bits}
use Rattle.policy.proofs.Digits.{Digit, off, on', digit_is, digit_same, digit_and, on_zero, on_or, or_on}
use Rattle.policy.specs.Sessions.{On}
use Rattle.automaton.specs.declared.edge.Edge.{Edge}
use Rattle.automaton.specs.declared.edge.Guard.{Guard}
use Rattle.automaton.specs.Runs.{none, nothing, Looks}
use Rattle.automaton.specs.Testing.{or_below, union}

-- ---- the signals of sets that are made one

module _ {X : Type 0} (m : X → ℕ) (d : X) (x : ℕ) where
  on_fold : (S : ℕ) (xs : List X) → On (fold (λ a y. bit_or a (m y)) S xs) x → On S x ⊎ ((j : ℕ) × (j < length xs) × On (m (slice_index_or xs j d)) x)
  on_fold S [] h = inl h
  on_fold S (y ∷ ys) h =
      ⊎_elim (λ a. ⊎_elim inl (λ b. inr (0, omega arith, b)) (on_or S (m y) x a)) (λ l. inr (suc l.0, omega (arith, l.1), l.2)) (on_fold (bit_or S (m y)) ys h)

  fold_on : (S : ℕ) (xs : List X) → On S x ⊎ ((j : ℕ) × (j < length xs) × On (m (slice_index_or xs j d)) x) → On (fold (λ a y. bit_or a (m y)) S xs) x
  fold_on S [] (inl h) = h
  fold_on S [] (inr l) = absurd (let z : ⊥ = omega (arith, l.1) in z)
  fold_on S (y ∷ ys) (inl h) = fold_on (bit_or S (m y)) ys (inl (or_on S (m y) x (inl h)))
  fold_on S (y ∷ ys) (inr (zero, l, w)) = fold_on (bit_or S (m y)) ys (inl (or_on S (m y) x (inr w)))
  fold_on S (y ∷ ys) (inr (suc j, l, w)) = fold_on (bit_or S (m y)) ys (inr (j, omega arith, w))

-- ---- the signals of the union

below_looks : (n : ℕ) (gs : List Guard) (x : ℕ) → On (or_below n gs) x → (v : ℕ) × (v < n) × On (slice_index_or gs v nothing).mask x
below_looks n gs x h =
    ⊎_elim (λ z. absurd (on_zero x z))
    (λ l. let within : l.0 < n = omega (arith, l.1, length-take n gs) in (l.0, within, subst (λ (g : Guard). On g.mask x) (get_or-take n gs l.0 nothing within) l.2))
    (on_fold (λ g. g.mask) nothing x 0 (take n gs) h)

looks_below : (n : ℕ) (gs : List Guard) (x v : ℕ) → v < n → On (slice_index_or gs v nothing).mask x → On (or_below n gs) x
looks_below n gs x v l h =
    ⊎_elim
    (λ w. fold_on (λ g. g.mask) nothing x 0 (take n gs) (inr (v, omega (arith, length-take n gs), subst (λ (g : Guard). On g.mask x) (sym (get_or-take n gs v nothing l)) h)))
    (λ past. absurd (on_zero x (subst (λ (g : Guard). On g.mask x) (get_or_past gs v nothing past) h)))
    (cases_lt v (length gs))

pub union_looks : (k : ℕ) (es : List Edge) (x : ℕ) → On (union k es) x → Looks k es x
union_looks k es x h =
    ⊎_elim (λ z. absurd (on_zero x z)) (λ l. (l.0, l.1, below_looks k (slice_index_or es l.0 none).guards x l.2)) (on_fold (λ e. or_below k e.guards) none x 0 es h)

pub looks_union : (k : ℕ) (es : List Edge) (x : ℕ) → Looks k es x → On (union k es) x
looks_union k es x l = fold_on (λ e. or_below k e.guards) none x 0 es (inr (l.0, l.1, looks_below k (slice_index_or es l.0 none).guards x l.2.0 l.2.1 l.2.2))

-- ---- letters that agree on a set

and_same : {m a b : ℕ} → Digit m → Digit a → Digit b → (m ≡ 1 → (a ≡ 1 → b ≡ 1) × (b ≡ 1 → a ≡ 1)) → bit_and a m ≡ bit_and b m
and_same off a b h = and_comm _ 0 ∙ sym (and_comm _ 0)
and_same on' a b h = ap (λ (x : ℕ). bit_and x 1) (digit_same a b (h refl).0 (h refl).1)

pub agree_same : (m a b : ℕ) → ((x : ℕ) → On m x → (On a x → On b x) × (On b x → On a x)) → bit_and a m ≡ bit_and b m
agree_same m a b h = same_from_bits _ _ (λ x. digit_and a m x ∙ and_same (digit_is m x) (digit_is a x) (digit_is b x) (h x) ∙ sym (digit_and b m x))
