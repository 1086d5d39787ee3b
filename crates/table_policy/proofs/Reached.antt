-- The sets of a table, by the ways down from its last node.
use Rattle.std.proofs.Common.{◌≡◌, ℕ, zero, suc, ◌-◌, ◌<◌, Bool, true, false, not, ◌⊎◌, ◌↔◌, List, [], ◌∷◌, length, get_or, sym, refl, subst, inl, inr, ⊎_elim, arith}
use Rattle.policy.specs.Sessions.{On}
use Rattle.rule.specs.declared.node.Node.{Node}
use Rattle.rule.specs.declared.node.Node.TheVariants.{True, At, Near, Not, And, Or, Next, Until}
use Rattle.rule.proofs.Tested.{table_fits}
use Rattle.rule.proofs.Unfold.{unfolds}
use Rattle.rule.specs.Nodes.{NodeFits, TableFits, node_rule, rules, rule_at, root}
use Rattle.rule.specs.Rule.{Rule, truth}
use Rattle.rule.specs.Standing.{Looks}
use Rattle.rule.specs.Tables.{nodes_of, rule_of}
use Rattle.rule.specs.Ways.{IsChild, Way, count_not, nots, sense, Tells, Reached}
use Rattle.table_policy.specs.declared.table_policy.TablePolicy.{TablePolicy}
use Rattle.table_policy.specs.Judged.{rule_judges, joined_only}
use Rattle.table_policy.specs.Masks.{mask}
use Rattle.table_policy.specs.Signals.{looks_mask, mask_looks}
use Rattle.table_policy.specs.Tables.{IsPolicyOf}

-- how a child is met
turn : Node → Bool → Bool
turn True p = p
turn (At v s) p = p
turn (Near v w n S) p = p
turn (Not c) p = not p
turn (And l r) p = p
turn (Or l r) p = p
turn (Next c) p = p
turn (Until l r) p = p

sense_turn : (n : Node) (p : Bool) (m : ℕ) → sense p (count_not n m) ≡ sense (turn n p) m
unfolding turn
sense_turn True p m = refl
sense_turn (At v s) p m = refl
sense_turn (Near v w n S) p m = refl
sense_turn (Not c) p m = refl
sense_turn (And l r) p m = refl
sense_turn (Or l r) p m = refl
sense_turn (Next c) p m = refl
sense_turn (Until l r) p m = refl

child_below : (k i : ℕ) (n : Node) (c : ℕ) → NodeFits k i n → IsChild n c → c < i
child_below k i True c fit h = absurd h
child_below k i (At v s) c fit h = absurd h
child_below k i (Near v w n S) c fit h = absurd h
child_below k i (Not d) c fit h = subst (λ (x : ℕ). x < i) h fit
child_below k i (And l r) c fit (inl h) = subst (λ (x : ℕ). x < i) h fit.0
child_below k i (And l r) c fit (inr h) = subst (λ (x : ℕ). x < i) h fit.1
child_below k i (Or l r) c fit (inl h) = subst (λ (x : ℕ). x < i) h fit.0
child_below k i (Or l r) c fit (inr h) = subst (λ (x : ℕ). x < i) h fit.1
child_below k i (Next d) c fit h = subst (λ (x : ℕ). x < i) h fit
child_below k i (Until l r) c fit (inl h) = subst (λ (x : ℕ). x < i) h fit.0
child_below k i (Until l r) c fit (inr h) = subst (λ (x : ℕ). x < i) h fit.1

module _ (fs : List Rule) (s : ℕ) where
  tells_looks : (p : Bool) (n : Node) → Tells p n s → Looks p (node_rule fs n) s
  tells_looks p True h = h
  tells_looks true (At v t) h = h
  tells_looks false (At v t) h = h
  tells_looks p (Near v w n S) h = h
  tells_looks p (Not c) h = absurd h
  tells_looks p (And l r) h = absurd h
  tells_looks p (Or l r) h = absurd h
  tells_looks p (Next c) h = absurd h
  tells_looks p (Until l r) h = absurd h

  child_looks : (p : Bool) (n : Node) (c : ℕ) → IsChild n c → Looks (turn n p) (get_or fs c truth) s → Looks p (node_rule fs n) s
  unfolding turn
  child_looks p True c h l = absurd h
  child_looks p (At v t) c h l = absurd h
  child_looks p (Near v w n S) c h l = absurd h
  child_looks p (Not d) c h l = subst (λ (x : ℕ). Looks (not p) (get_or fs x truth) s) (sym h) l
  child_looks p (And a b) c (inl h) l = inl (subst (λ (x : ℕ). Looks p (get_or fs x truth) s) (sym h) l)
  child_looks p (And a b) c (inr h) l = inr (subst (λ (x : ℕ). Looks p (get_or fs x truth) s) (sym h) l)
  child_looks p (Or a b) c (inl h) l = inl (subst (λ (x : ℕ). Looks p (get_or fs x truth) s) (sym h) l)
  child_looks p (Or a b) c (inr h) l = inr (subst (λ (x : ℕ). Looks p (get_or fs x truth) s) (sym h) l)
  child_looks p (Next d) c h l = subst (λ (x : ℕ). Looks p (get_or fs x truth) s) (sym h) l
  child_looks p (Until a b) c (inl h) l = inl (subst (λ (x : ℕ). Looks p (get_or fs x truth) s) (sym h) l)
  child_looks p (Until a b) c (inr h) l = inr (subst (λ (x : ℕ). Looks p (get_or fs x truth) s) (sym h) l)

  looks_cases : (p : Bool) (n : Node) → Looks p (node_rule fs n) s → Tells p n s ⊎ ((c : ℕ) × IsChild n c × Looks (turn n p) (get_or fs c truth) s)
  unfolding turn
  looks_cases p True h = absurd h
  looks_cases true (At v t) h = inl h
  looks_cases false (At v t) h = absurd h
  looks_cases p (Near v w n S) h = inl h
  looks_cases p (Not c) h = inr (c, refl, h)
  looks_cases p (And a b) (inl h) = inr (a, inl refl, h)
  looks_cases p (And a b) (inr h) = inr (b, inr refl, h)
  looks_cases p (Or a b) (inl h) = inr (a, inl refl, h)
  looks_cases p (Or a b) (inr h) = inr (b, inr refl, h)
  looks_cases p (Next c) h = inr (c, refl, h)
  looks_cases p (Until a b) (inl h) = inr (a, inl refl, h)
  looks_cases p (Until a b) (inr h) = inr (b, inr refl, h)

module _ (k : ℕ) (ns : List Node) (fits : TableFits k ns) (s : ℕ) where
  way_looks : (w : List ℕ) (i j : ℕ) (p : Bool) → i < length ns → Way ns i w j → Tells (sense p (nots ns i w)) (get_or ns j True) s → Looks p (rule_at ns i) s
  way_looks [] i j p l e t =
      subst (λ (f : Rule). Looks p f s) (sym (unfolds k ns i l (fits.each i l)))
      (tells_looks (rules ns) s p (get_or ns i True) (subst (λ (x : ℕ). Tells p (get_or ns x True) s) (sym e) t))
  way_looks (c ∷ cs) i j p l (child, rest) t =
      let n = get_or ns i True in
      let below : c < i = child_below k i n c (fits.each i l) child in
      subst (λ (f : Rule). Looks p f s) (sym (unfolds k ns i l (fits.each i l)))
      (child_looks (rules ns) s p n c child (way_looks cs c j (turn n p) (omega arith) rest
      (subst (λ (q : Bool). Tells q (get_or ns j True) s) (sense_turn n p (nots ns c cs)) t)))

  looks_way : (b i : ℕ) (p : Bool) → i < b → i < length ns → Looks p (rule_at ns i) s
      → (w : List ℕ) × (j : ℕ) × (j < length ns) × Way ns i w j × Tells (sense p (nots ns i w)) (get_or ns j True) s
  looks_way zero i p ib l h = absurd (let z : ⊥ = omega arith in z)
  looks_way (suc b) i p ib l h =
      ⊎_elim (λ t. ([], i, l, refl, t)) (λ q. next_way q (looks_way b q.0 (turn (get_or ns i True) p) (omega (arith, below q)) (omega (arith, below q)) q.2))
      (looks_cases (rules ns) s p (get_or ns i True) (subst (λ (f : Rule). Looks p f s) (unfolds k ns i l (fits.each i l)) h))
    where
      Under : Type 0
      Under = (c : ℕ) × IsChild (get_or ns i True) c × Looks (turn (get_or ns i True) p) (get_or (rules ns) c truth) s

      below : (q : Under) → q.0 < i
      below q = child_below k i (get_or ns i True) q.0 (fits.each i l) q.1

      next_way : (q : Under)
          → (w : List ℕ) × (j : ℕ) × (j < length ns) × Way ns q.0 w j × Tells (sense (turn (get_or ns i True) p) (nots ns q.0 w)) (get_or ns j True) s
          → (w : List ℕ) × (j : ℕ) × (j < length ns) × Way ns i w j × Tells (sense p (nots ns i w)) (get_or ns j True) s
      next_way q (w, j, jl, way, t) = (
        q.0 ∷ w,
        j,
        jl,
        (q.1, way),
        subst (λ (r : Bool). Tells r (get_or ns j True) s) (sym (sense_turn (get_or ns i True) p (nots ns q.0 w))) t,
      )

pub sets_reached : (p : Bool) (k : ℕ) (ns : List Node) (s : ℕ) → TableFits k ns → On (mask p (root ns)) s ↔ Reached p ns s
sets_reached p k ns s fits = (
  λ o. looks_way k ns fits s (length ns) (length ns - 1) p (omega (arith, fits.some)) (omega (arith, fits.some)) (mask_looks p (root ns) s o),
  λ r. looks_mask p (root ns) s (way_looks k ns fits s r.0 (length ns - 1) r.1 p (omega (arith, fits.some)) r.3 r.4),
)

-- a policy with the signals of its table's rule is the table's
pub policy_of : (p : TablePolicy) → IsPolicyOf p.table p
policy_of p =
    let t = p.table in
    let fits = table_fits t in
    record {
      table_kept = refl;
      exact = rule_judges t.places (rule_of t) fits.low;
      upright_reached = λ s. subst (λ (m : ℕ). On m s ↔ Reached true (nodes_of t) s) (sym p.up) (sets_reached true t.places (nodes_of t) s fits);
      inverted_reached = λ s. subst (λ (m : ℕ). On m s ↔ Reached false (nodes_of t) s) (sym p.down) (sets_reached false t.places (nodes_of t) s fits);
      joined_only = joined_only t.places (rule_of t);
    }
