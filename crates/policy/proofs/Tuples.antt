-- The shortest session of a tuple, and a tuple with another session at a place.
use Rattle.std.proofs.Common.{◌≡◌, ℕ, zero, suc, ◌<◌, ◌≤◌, min, [], ◌∷◌, length, get_or, set, sym, refl, ap, ◌∙◌, subst, ⊎_elim, arith, length-set}
use Rattle.std.proofs.lemmas.List.{get_or-set_same, get_or-set_other}
use Rattle.std.proofs.lemmas.Bool.{cases_eq}
use Rattle.policy.specs.Sessions.{Session, Tuple, IsSession, IsTuple, shortest}

pub shortest_le : (xs : Tuple) (v : ℕ) → v < length xs → shortest xs ≤ length (get_or xs v [])
shortest_le [] v h = absurd (let z : ⊥ = omega arith in z)
shortest_le (x ∷ []) zero h = omega arith
shortest_le (x ∷ []) (suc v) h = absurd (let z : ⊥ = omega arith in z)
shortest_le (x ∷ (y ∷ xs)) zero h = omega arith
shortest_le (x ∷ (y ∷ xs)) (suc v) h = omega (arith, shortest_le (y ∷ xs) v (omega arith))

shortest_some : (xs : Tuple) → 0 < length xs → ((v : ℕ) → v < length xs → 1 ≤ length (get_or xs v [])) → 1 ≤ shortest xs
shortest_some [] l h = l
shortest_some (x ∷ []) l h = h 0 (omega arith)
shortest_some (x ∷ (y ∷ xs)) l h = omega (arith, h 0 (omega arith), shortest_some (y ∷ xs) (omega arith) (λ v w. h (suc v) (omega arith)))

-- the joined word has 1 to 128 steps
pub steps_between : (k : ℕ) (xs : Tuple) → 1 ≤ k → IsTuple k xs → (1 ≤ shortest xs) × (shortest xs ≤ 128)
steps_between k xs some is = (
  shortest_some xs (omega (arith, is.0)) (λ v l. (is.1 v (omega (arith, is.0))).0),
  omega (arith, is.0, shortest_le xs 0 (omega (arith, is.0)), (is.1 0 some).1),
)

-- the joined word is as long where a session of the same length takes a place
pub shortest_set : (xs : Tuple) (v : ℕ) (s : Session) → length s ≡ length (get_or xs v []) → shortest (set xs v s) ≡ shortest xs
shortest_set [] v s e = refl
shortest_set (x ∷ []) zero s e = e
shortest_set (x ∷ []) (suc v) s e = refl
shortest_set (x ∷ (y ∷ xs)) zero s e = ap (λ (n : ℕ). min n (shortest (y ∷ xs))) e
shortest_set (x ∷ (y ∷ xs)) (suc zero) s e = ap (λ (n : ℕ). min (length x) n) (shortest_set (y ∷ xs) zero s e)
shortest_set (x ∷ (y ∷ xs)) (suc (suc v)) s e = ap (λ (n : ℕ). min (length x) n) (shortest_set (y ∷ xs) (suc v) s e)

-- what holds of s at the place v, and of the session at any other place, holds of what the tuple has then
pub at_each : (xs : Tuple) (v : ℕ) (s : Session) → v < length xs → (P : ℕ → Session → Type 0) → P v s → ((u : ℕ) → P u (get_or xs u [])) → (u : ℕ) → P u (get_or (set xs v s) u [])
at_each xs v s place P new old u =
    ⊎_elim
    (λ e. subst (λ (w : ℕ). P w (get_or (set xs v s) w [])) (sym e) (subst (λ (y : Session). P v y) (sym (get_or-set_same xs v s [] place)) new))
    (λ ne. subst (λ (y : Session). P u y) (sym (get_or-set_other xs v u s [] ne)) (old u))
    (cases_eq u v)

pub tuple_set : (k : ℕ) (xs : Tuple) (v : ℕ) (s : Session) → v < length xs → IsTuple k xs → IsSession s → IsTuple k (set xs v s)
tuple_set k xs v s place is h = (length-set xs v s ∙ is.0, λ u l. at_each xs v s place (λ w y. w < k → IsSession y) (λ _. h) (λ w b. is.1 w b) u l)

-- sessions of one length are each the shortest
pub shortest_even : (xs : Tuple) (m : ℕ) → 0 < length xs → ((v : ℕ) → v < length xs → length (get_or xs v []) ≡ m) → shortest xs ≡ m
shortest_even [] m l h = absurd (let z : ⊥ = omega arith in z)
shortest_even (x ∷ []) m l h = h 0 (omega arith)
shortest_even (x ∷ (y ∷ xs)) m l h = omega (arith, h 0 (omega arith), shortest_even (y ∷ xs) m (omega arith) (λ v b. h (suc v) (omega arith)))
