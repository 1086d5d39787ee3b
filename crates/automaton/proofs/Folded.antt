-- The run over all steps, as the fold over them.
use Rattle.std.proofs.Common.{◌≡◌, ℕ, ◌-◌, ◌<◌, List, [], ◌∷◌, Some, None, Option, sym, ap, subst, ◌∙◌, arith}
use Rattle.std.proofs.iter.Yields.{nat_range_steps}
use Rattle.std.specs.declared.ops.Range.{Range}
use Rattle.std.specs.Iterator.{YieldsThen}
use Rattle.std.specs.List.{FoldsTo}
use Rattle.std.specs.Option.{MatchOption}
use denote.Param.Members.{Mut, Called}
use Rattle.policy.specs.Sessions.{Tuple, on}
use Rattle.automaton.specs.declared.edge.Edge.{Edge}
use Rattle.automaton.specs.Runs.{column}
use Rattle.automaton.specs.Testing.{next_state, go_on, accepts}
use Rattle.automaton.specs.Running.{stops, goes}

-- f goes to the next state at each of the m steps
module _ {F : Type 0} (g : Mut F (ℕ × (ℕ × Unit {0})) (Option ℕ)) (f : F) (k : ℕ) (es : List Edge) (good : ℕ) (xs : Tuple) (m : ℕ)
    (calls : (q i : ℕ) (r : Option ℕ) (p : F) → i < m → Called g f (q, (i, tt)) r p → (p ≡ f) × (r ≡ next_state k es (column xs i) q)) where
  abbrev Turn : F × ℕ → ℕ → F × ℕ → Type 0
  Turn p i q = (v : Option ℕ) × Called g p.0 (p.1, (i, tt)) v q.0 × (v ≡ Some q.1)

  pub folded : (E : Type 0) (is : List ℕ) (o : Option ℕ) (p : F) (a : ℕ) (s u : Range ℕ) (q : ℕ) (r : Option ℕ) → s.end ≡ m → YieldsThen nat_range_steps s is o u
      → FoldsTo {P = F × ℕ} Turn (f, q) is (p, a)
      → MatchOption o (r ≡ Some a) (λ i. (v : Option ℕ) × (h : F) × (e : E) × Called g p (a, (i, tt)) v h × (v ≡ None) × (r ≡ None))
      → accepts k es good xs (m - s.start) s.start q ≡ go_on r (on good)
  folded E [] None p a s u q r e y c h =
      let z : m - s.start ≡ 0 = omega (arith, e, ap (λ (t : Range ℕ). t.end) y.1, ap (λ (t : Range ℕ). t.start) y.1, y.2.1.0) in
      ap (λ d. accepts k es good xs d s.start q) z
      ∙ ap (on good) (ap (λ (w : F × ℕ). w.1) c)
      ∙ ap (λ o. go_on o (on good)) (sym h)
  folded E [] (Some x) p a s u q r e y c h =
      let l : s.start < m = omega (arith, e, ap (λ (t : Range ℕ). t.end) y.1, ap (λ (t : Range ℕ). t.start) y.1, y.2.1.0) in
      let here : x ≡ s.start = y.2.1.1 ∙ sym (ap (λ (t : Range ℕ). t.start) y.1) in
      let back = subst (λ (w : F × ℕ). Called g w.0 (w.1, (x, tt)) h.0 h.1) (sym c) h.3 in
      let call = subst (λ (i : ℕ). Called g f (q, (i, tt)) h.0 h.1) here back in
      stops k es good xs m s.start q l (sym h.4 ∙ (calls q s.start h.0 h.1 l call).1)
      ∙ ap (λ o. go_on o (on good)) (sym h.5)
  folded E (x ∷ is) o p a s u q r e y c h =
      let j = y.1.0 in
      let w = c.0 in
      let l : s.start < m = omega (arith, e, y.1.1.1.0) in
      let call = subst (λ (i : ℕ). Called g f (q, (i, tt)) c.1.0 w.0) y.1.1.1.1 c.1.1 in
      let k' = calls q s.start c.1.0 w.0 l call in
      goes k es good xs m s.start q l w.1 (sym c.1.2 ∙ k'.1)
      ∙ ap (λ i. accepts k es good xs (m - i) i w.1) (sym y.1.1.1.2)
      ∙ folded E is o p a j u w.1 r (y.1.1.0 ∙ e) (y.0, y.1.2, y.2) (subst (λ (z : F × ℕ). FoldsTo {P = F × ℕ} Turn z is (p, a)) {x = w} {y = (f, w.1)} (λ i. (k'.0 i, w.1)) c.2) h
