-- What the code reads of a tuple.
use Rattle.std.proofs.Common.{◌≡◌, ℕ, zero, suc, ◌<◌, ◌≤◌, min, List, [], ◌∷◌, length, get_or, take, sym, refl, ap, ◌∙◌, Option, None, Some, MatchOption, ⊎_elim, arith, Bor}
use Rattle.std.proofs.lemmas.List.{map-id, get_or_past, get_or-take}
use Rattle.std.proofs.lemmas.Bool.{cases_lt}
use Rattle.std.proofs.lemmas.Iterator.{YieldsList, items_from_drains}
use Rattle.std.specs.Iterator.{Drains}
use Rattle.std.specs.List.{FoldsTo}
use Rattle.policy.specs.Sessions.{Session, Tuple, letter, letters, sessions, shortest}

abbrev pub nowhere : Bor Session
nowhere = record { ref_ptr = (0, 0); now = [] }

pub sessions_at : (xs : List (Bor Session)) (v : ℕ) → (get_or xs v nowhere).now ≡ get_or (sessions xs) v []
sessions_at [] v = refl
sessions_at (x ∷ xs) zero = refl
sessions_at (x ∷ xs) (suc v) = sessions_at xs v

-- ---- the shortest session

-- the least of n and the lengths of the sessions
abbrev pub least : ℕ → Tuple → ℕ
least n [] = n
least n (s ∷ xs) = least (min n (length s)) xs

least_min : (n : ℕ) (s : Session) (xs : Tuple) → least n (s ∷ xs) ≡ min n (shortest (s ∷ xs))
least_min n s [] = refl
least_min n s (t ∷ xs) = least_min (min n (length s)) t xs ∙ omega arith

least_first : (s : Session) (xs : Tuple) → least (length s) xs ≡ shortest (s ∷ xs)
least_first s [] = refl
least_first s (t ∷ xs) = least_min (length s) t xs

-- the one of two that ends first is as long as the shorter
pub shorter : (a b r : Bor Session) → (length a.now ≤ length b.now → r ≡ a) → (length b.now < length a.now → r ≡ b) → length r.now ≡ min (length a.now) (length b.now)
shorter a b r first second =
    ⊎_elim
    (λ l. let e = ap (λ (s : Bor Session). length s.now) (second l) in omega arith)
    (λ g. let e = ap (λ (s : Bor Session). length s.now) (first g) in omega arith)
    (cases_lt (length b.now) (length a.now))

-- the turns of `reduce`, each of which keeps the one that ends first
module _ {F : Type 0} (Turn : F × Bor Session → Bor Session → F × Bor Session → Type 0)
    (first : (p q : F × Bor Session) (x : Bor Session) → Turn p x q → length q.1.now ≡ min (length p.1.now) (length x.now)) where
  least_by_turns : (xs : List (Bor Session)) (p q : F × Bor Session) → FoldsTo Turn p xs q → length q.1.now ≡ least (length p.1.now) (sessions xs)
  least_by_turns [] p q e = ap (λ (r : F × Bor Session). length r.1.now) (sym e)
  least_by_turns (x ∷ xs) p q h = least_by_turns xs h.0 q h.2 ∙ ap (λ n. least n (sessions xs)) (first p h.0 x h.1)

  pub shortest_by_turns : (xs : List (Bor Session)) {S : Type 0} {steps : S → Option (Bor Session) → S → Type 0} (s : S) (f : F) (r : Option (Bor Session))
      → MatchOption r (Drains steps s []) (λ y. (x : Bor Session) × (ys : List (Bor Session)) × (g : F) × Drains steps s (x ∷ ys) × FoldsTo Turn (f, x) ys (g, y))
      → YieldsList steps (λ x. x) s xs → MatchOption r (shortest (sessions xs) ≡ 0) (λ y. shortest (sessions xs) ≡ length y.now)
  shortest_by_turns xs s f None d e = ap (λ ys. shortest (sessions ys)) (sym (items_from_drains [] (d.1.0, d.1.1, λ _. (d.0, d.1.2)) e))
  shortest_by_turns xs s f (Some y) h e =
      ap (λ ys. shortest (sessions ys)) (sym (items_from_drains (h.0 ∷ h.1) (h.3.1.0, h.3.1.1, λ _. (h.3.0, h.3.1.2)) e) ∙ map-id (h.0 ∷ h.1))
      ∙ sym (least_first h.0.now (sessions h.1)) ∙ sym (least_by_turns h.1 (f, h.0) (h.2, y) h.4)

-- ---- the letters of a step

pub letters_at : (xs : Tuple) (i v : ℕ) → v < 4 → get_or (letters xs i) v 0 ≡ letter xs v i
letters_at xs i zero h = refl
letters_at xs i (suc zero) h = refl
letters_at xs i (suc (suc zero)) h = refl
letters_at xs i (suc (suc (suc zero))) h = refl
letters_at xs i (suc (suc (suc (suc v)))) h = absurd (let z : ⊥ = omega arith in z)

-- the letters of a joined word are those of its tuple, as far as the word goes
pub word_letters : (xs ws : Tuple) → length xs ≤ 4 → length ws ≡ 4 → ((v : ℕ) → v < 4 → get_or ws v [] ≡ take (shortest xs) (get_or xs v []))
    → (v i : ℕ) → i < shortest xs → letter ws v i ≡ letter xs v i
word_letters xs ws few four cut v i l = ⊎_elim within past (cases_lt v 4)
  where
    within : v < 4 → letter ws v i ≡ letter xs v i
    within h = ap (λ (s : Session). get_or s i 0) (cut v h) ∙ get_or-take (shortest xs) (get_or xs v []) i 0 l

    past : 4 ≤ v → letter ws v i ≡ letter xs v i
    past h = ap (λ (s : Session). get_or s i 0) (get_or_past ws v [] (omega arith) ∙ sym (get_or_past xs v [] (omega arith)))
