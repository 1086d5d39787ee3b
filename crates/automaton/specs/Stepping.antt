-- One step of a run: the first edge that fits.
use Rattle.std.specs.Prelude.{◌≡◌, ℕ, zero, suc, ◌<◌, ◌≤◌, Bool, true, false, cond, ◌&&◌, List, [], ◌∷◌, length, get_or, take, find, zip, option_map, Some, None, Decides, Option, ◌==◌, bit_and, nat_eq, slice_index_or, refl}
use Rattle.std.proofs.Common.{⊎_elim, ap₂, ◌∙◌, arith}
use Rattle.std.proofs.Math.Path.{sym, ap}
use Rattle.std.proofs.lemmas.Option.{none-some}
use Rattle.std.specs.Int.Bits.{and_zero_r}
use Rattle.std.proofs.lemmas.List.{get_or-take, length-take-le}
use Rattle.std.specs.List.{list_all}
use Rattle.std.proofs.lemmas.Bool.{cases_Bool, false_from_ne_true}
use Rattle.std.proofs.lemmas.Bool.Decides.{Decides-and, Decides-eqb, Decides-like, same_from_decides, not_from_Decides}
use Rattle.policy.proofs.Places.{letters_at}
use Rattle.policy.proofs.Tested.{below_decides}
use Rattle.policy.specs.Sessions.{Letter, Tuple, letters}
use Rattle.policy.specs.Testing.{all_below}
use Rattle.automaton.specs.declared.edge.Edge.{Edge}
use Rattle.automaton.specs.declared.edge.Guard.{Guard}
use Rattle.automaton.specs.Runs.{none, nothing, column, Shows, Fits, Takes, Stuck}
use Rattle.automaton.specs.Testing.{shown, fits_test, next_state}

pub same_some : (x y : ℕ) → ◌≡◌ {A = Option ℕ} (Some x) (Some y) → x ≡ y
same_some x y e = cc

pub false_from : {P : Type 0} (r : Bool) → Decides r P → (P → ⊥) → r ≡ false
false_from r d h = false_from_ne_true r (λ e. h (d.0 e))

module _ (k : ℕ) (at : ℕ → Letter) where
  -- ---- one edge

  pub fits_decides : (e : Edge) (q : ℕ) → Decides (fits_test k at e q) (Fits k at e q)
  unfolding fits_test
  fits_decides e q =
      Decides-and _ _ (Decides-eqb e.from q)
      (below_decides (λ v. nat_eq (bit_and (at v) (get_or e.guards v nothing).mask) (get_or e.guards v nothing).value) _
      (λ v. Decides-eqb (bit_and (at v) (get_or e.guards v nothing).mask) (get_or e.guards v nothing).value) k)

  -- ---- the first edge that fits

  head_fits : (a : Edge) (es : List Edge) (q : ℕ) (b : Bool) → fits_test k at a q ≡ b → next_state k (a ∷ es) at q ≡ cond b (Some a.to) (next_state k es at q)
  head_fits a es q true e = ap (λ t. option_map (λ (x : Edge). x.to) (cond t (Some a) (find (λ x. fits_test k at x q) es))) e
  head_fits a es q false e = ap (λ t. option_map (λ (x : Edge). x.to) (cond t (Some a) (find (λ x. fits_test k at x q) es))) e

  earlier : (P : ℕ → Type 0) (n : ℕ) → (P 0 → ⊥) → ((j : ℕ) → j < n → P (suc j) → ⊥) → (j : ℕ) → j < suc n → P j → ⊥
  earlier P n first rest zero l p = first p
  earlier P n first rest (suc j) l p = rest j (omega arith) p

  pub next_takes : (es : List Edge) (q r : ℕ) → next_state k es at q ≡ Some r → Takes k es at q r
  next_takes [] q r e = absurd (none-some r e)
  next_takes (a ∷ es) q r e =
      ⊎_elim
      (λ t. record {
        row = 0;
        within = omega arith;
        fitting = (fits_decides a q).0 t;
        earliest = λ j l. absurd (let z : ⊥ = omega arith in z);
        enters = same_some a.to r (sym (head_fits a es q true t) ∙ e);
      })
      (λ f. let later = next_takes es q r (sym (head_fits a es q false f) ∙ e) in
      record {
        row = suc later.row;
        within = omega (arith, later.within);
        fitting = later.fitting;
        earliest = earlier (λ j. Fits k at (slice_index_or (a ∷ es) j none) q) later.row (not_from_Decides _ (fits_decides a q) f) later.earliest;
        enters = later.enters;
      })
      (cases_Bool (fits_test k at a q))

  takes_row : (es : List Edge) (q j : ℕ) → j < length es → Fits k at (slice_index_or es j none) q → ((h : ℕ) → h < j → Fits k at (slice_index_or es h none) q → ⊥) → next_state k es at q ≡ Some (get_or es j none).to
  takes_row [] q j l f no_earlier = absurd (let z : ⊥ = omega arith in z)
  takes_row (a ∷ es) q zero l f no_earlier = head_fits a es q true ((fits_decides a q).1 f)
  takes_row (a ∷ es) q (suc j) l f no_earlier =
      head_fits a es q false (false_from _ (fits_decides a q) (no_earlier 0 (omega arith))) ∙ takes_row es q j (omega arith) f (λ h lt. no_earlier (suc h) (omega arith))

  pub takes_next : (es : List Edge) (q r : ℕ) → Takes k es at q r → next_state k es at q ≡ Some r
  takes_next es q r t = takes_row es q t.row t.within t.fitting t.earliest ∙ ap Some t.enters

  -- ---- no edge fits

  pub none_stuck : (es : List Edge) (q : ℕ) → next_state k es at q ≡ None → Stuck k es at q
  none_stuck [] q e j l f = absurd (let z : ⊥ = omega arith in z)
  none_stuck (a ∷ es) q e j l f =
      ⊎_elim (λ t. none-some a.to (sym e ∙ head_fits a es q true t)) (λ no_fit. here no_fit (none_stuck es q (sym (head_fits a es q false no_fit) ∙ e)) j l f) (cases_Bool (fits_test k at a q))
    where
      here : fits_test k at a q ≡ false → Stuck k es at q → Stuck k (a ∷ es) at q
      here no_fit rest zero l f = not_from_Decides _ (fits_decides a q) no_fit f
      here no_fit rest (suc j) l f = rest j (omega arith) f

  pub stuck_none : (es : List Edge) (q : ℕ) → Stuck k es at q → next_state k es at q ≡ None
  stuck_none [] q h = refl
  stuck_none (a ∷ es) q h = head_fits a es q false (false_from _ (fits_decides a q) (h 0 (omega arith))) ∙ stuck_none es q (λ j l. h (suc j) (omega arith))

-- ---- letters beside the guards that they meet

zip_shows : (ls : List Letter) (gs : List Guard) → Decides (list_all (λ p. nat_eq (bit_and p.0 p.1.mask) p.1.value) (zip ls gs)) (Shows (length ls) (shown ls) gs)
zip_shows [] gs = (λ _ v l. absurd (let z : ⊥ = omega arith in z), λ _. refl)
zip_shows (a ∷ ls) [] = (λ _ v l. and_zero_r _, λ _. refl)
zip_shows (a ∷ ls) (g ∷ gs) =
    Decides-like _ both (λ h. (h 0 (omega arith), λ v l. h (suc v) (omega arith))) (Decides-and _ _ (Decides-eqb (bit_and a g.mask) g.value) (zip_shows ls gs))
  where
    both : (bit_and a g.mask ≡ g.value) × Shows (length ls) (shown ls) gs → Shows (length (a ∷ ls)) (shown (a ∷ ls)) (g ∷ gs)
    both h zero l = h.0
    both h (suc v) l = h.1 v (omega arith)

pub zip_fits : (ls : List Letter) (e : Edge) (q : ℕ) → e.from ≡ q → list_all (λ p. nat_eq (bit_and p.0 p.1.mask) p.1.value) (zip ls e.guards) ≡ fits_test (length ls) (shown ls) e q
zip_fits ls e q from = same_from_decides _ _ (Decides-like _ (λ s. (from, s)) (λ f. f.1) (zip_shows ls e.guards)) (fits_decides (length ls) (shown ls) e q)

-- ---- letters that the guards do not tell apart

below_same : (n : ℕ) (f g : ℕ → Bool) → ((v : ℕ) → v < n → f v ≡ g v) → all_below n f ≡ all_below n g
below_same zero f g h = refl
below_same (suc n) f g h = ap₂ ◌&&◌ (h n (omega arith)) (below_same n f g (λ v l. h v (omega arith)))

module _ (k : ℕ) (at by : ℕ → Letter) where
  fits_same : (e : Edge) (q : ℕ) → ((v : ℕ) → v < k → bit_and (at v) (get_or e.guards v nothing).mask ≡ bit_and (by v) (get_or e.guards v nothing).mask) → fits_test k at e q ≡ fits_test k by e q
  unfolding fits_test
  fits_same e q same = ap (λ b. (e.from == q) && b) (below_same k _ _ (λ v l. ap (λ (n : ℕ). nat_eq n (get_or e.guards v nothing).value) (same v l)))

  pub next_same : (es : List Edge) (q : ℕ)
      → ((j : ℕ) → j < length es → (v : ℕ) → v < k → bit_and (at v) (get_or (get_or es j none).guards v nothing).mask ≡ bit_and (by v) (get_or (get_or es j none).guards v nothing).mask)
      → next_state k es at q ≡ next_state k es by q
  next_same [] q same = refl
  next_same (a ∷ es) q same =
      head_fits k at a es q _ (fits_same a q (same 0 (omega arith)))
      ∙ ap (cond (fits_test k by a q) (Some a.to)) (next_same es q (λ j l. same (suc j) (omega arith)))
      ∙ sym (head_fits k by a es q _ refl)

-- the letters of a step, as a list
pub shown_same : (k : ℕ) (es : List Edge) (ws : Tuple) (i : ℕ) (ls : List Letter) (q : ℕ) → k ≤ 4 → ls ≡ letters ws i → next_state k es (shown ls) q ≡ next_state k es (column ws i) q
shown_same k es ws i ls q few e =
    ap (λ (l : List Letter). next_state k es (shown l) q) e
    ∙ next_same k (shown (letters ws i)) (column ws i) es q (λ j l v h. ap (λ (a : ℕ). bit_and a (get_or (get_or es j none).guards v nothing).mask) (letters_at ws i v (omega arith)))

-- those of the first places alone
pub shown_front : (k : ℕ) (es : List Edge) (ws : Tuple) (i : ℕ) (ls : List Letter) (q : ℕ) → k ≤ 4 → ls ≡ take k (letters ws i) → next_state (length ls) es (shown ls) q ≡ next_state k es (column ws i) q
shown_front k es ws i ls q few e =
    ap (λ (l : List Letter). next_state (length l) es (shown l) q) e
    ∙ ap (λ (n : ℕ). next_state n es (shown (take k (letters ws i))) q) (length-take-le k (letters ws i) few)
    ∙ next_same k (shown (take k (letters ws i))) (shown (letters ws i)) es q (λ j l v h. ap (λ (a : ℕ). bit_and a (get_or (get_or es j none).guards v nothing).mask) (get_or-take k (letters ws i) v 0 h))
    ∙ shown_same k es ws i (letters ws i) q few refl
