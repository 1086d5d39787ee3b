-- The run over all steps, and the runs that fail.
use Rattle.std.specs.Prelude.{◌≡◌, ℕ, zero, suc, ◌+◌, ◌-◌, ◌/◌, ◌%◌, ◌^◌, ◌<◌, Bool, true, false, ◌⊎◌, ◌↔◌, List, [], ◌∷◌, length, Some, None, Decides, Option, slice_index, slice_index_or, refl}
use Rattle.std.proofs.Math.Logic.{inl, inr, ⊎_elim}
use Rattle.std.proofs.Common.{sym, ap, ap₂, subst, ◌∙◌}
use native.Mathlib.Omega.{arith}
use Rattle.std.proofs.lemmas.Bool.{false≢true, both_ways, eqb-true, ne_eqb, eq-eqb}
use Rattle.policy.specs.Sessions.{Tuple, On, IsTuple, shortest}
use Rattle.automaton.specs.declared.edge.Edge.{Edge}
use Rattle.automaton.specs.Runs.{column, Takes, Run, Accepted, Breaks, Stuck, Failed}
use Rattle.automaton.specs.Testing.{next_state, go_on, accepts}
use Rattle.automaton.specs.Stepping.{same_some, false_from, next_takes, takes_next, none_stuck, stuck_none}

-- ---- a step of the loop

module _ (k : ℕ) (es : List Edge) (good : ℕ) (xs : Tuple) (m i q : ℕ) (l : i < m) where
  step : accepts k es good xs (m - i) i q ≡ go_on (next_state k es (column xs i) q) (λ r. accepts k es good xs (m - (i + 1)) (i + 1) r)
  step = let e : m - i ≡ suc (m - (i + 1)) = omega arith in ap (λ d. accepts k es good xs d i q) e

  pub stops : None ≡ next_state k es (column xs i) q → accepts k es good xs (m - i) i q ≡ false
  stops e = step ∙ ap (λ o. go_on o (λ r. accepts k es good xs (m - (i + 1)) (i + 1) r)) (sym e)

  pub goes : (r : ℕ) → Some r ≡ next_state k es (column xs i) q → accepts k es good xs (m - i) i q ≡ accepts k es good xs (m - (i + 1)) (i + 1) r
  goes r e = step ∙ ap (λ o. go_on o (λ s. accepts k es good xs (m - (i + 1)) (i + 1) s)) (sym e)

-- ---- the run

go_some : (o : Option ℕ) (f : ℕ → Bool) → go_on o f ≡ true → (r : ℕ) × (o ≡ Some r) × (f r ≡ true)
go_some None f e = absurd (false≢true e)
go_some (Some r) f e = (r, refl, e)

module _ (k : ℕ) (es : List Edge) (good : ℕ) (xs : Tuple) where
  takes_at : {i j q p r s : ℕ} → i ≡ j → q ≡ p → r ≡ s → Takes k es (column xs i) q r → Takes k es (column xs j) p s
  takes_at {i = i} {j = j} {q = q} {p = p} {r = r} {s = s} a b c t =
      subst (λ (x : ℕ). Takes k es (column xs j) p x) c (subst (λ (x : ℕ). Takes k es (column xs j) x r) b (subst (λ (x : ℕ). Takes k es (column xs x) q r) a t))

  -- qs are the states of d steps, from the state q at the step i on
  pub record Path (d i q : ℕ) (qs : List ℕ) : Type 0 where
    pub long : length qs ≡ d + 1
    pub starts : slice_index_or qs 0 0 ≡ q
    pub steps : (j : ℕ) → j < d → Takes k es (column xs (i + j)) (slice_index qs j) (slice_index qs (j + 1))

  Accepting : ℕ → ℕ → ℕ → Type 0
  Accepting d i q = (qs : List ℕ) × Path d i q qs × On good (slice_index qs d)

  pub longer : (d i q r : ℕ) → next_state k es (column xs i) q ≡ Some r → (qs : List ℕ) → Path d (i + 1) r qs → Path (suc d) i q (q ∷ qs)
  longer d i q r e qs p = record {
    long = omega (arith, p.long);
    starts = refl;
    steps = at;
  }
    where
      at : (j : ℕ) → j < suc d → Takes k es (column xs (i + j)) (slice_index (q ∷ qs) j) (slice_index (q ∷ qs) (j + 1))
      at zero l = takes_at (omega arith) refl (sym p.starts) (next_takes k (column xs i) es q r e)
      at (suc j) l =
          let same : suc (j + 1) ≡ suc j + 1 = omega arith in
          takes_at (omega arith) refl (ap (λ (n : ℕ). slice_index (q ∷ qs) n) same) (p.steps j (omega arith))

  pub shorter : (d i q a : ℕ) (qs : List ℕ) → Path (suc d) i q (a ∷ qs) → (next_state k es (column xs i) q ≡ Some (slice_index qs 0)) × Path d (i + 1) (slice_index qs 0) qs
  shorter d i q a qs p = (
    takes_next k (column xs i) es q (slice_index qs 0) (takes_at (omega arith) p.starts refl (p.steps 0 (omega arith))),
    record {
      long = omega (arith, p.long);
      starts = refl;
      steps = λ j l. let same : suc j + 1 ≡ suc (j + 1) = omega arith in takes_at (omega arith) refl (ap (λ (n : ℕ). slice_index (a ∷ qs) n) same) (p.steps (suc j) (omega arith));
    },
  )

  accepts_runs : (d i q : ℕ) → accepts k es good xs d i q ≡ true → Accepting d i q
  unfolding Accepting
  accepts_runs zero i q e = (q ∷ [], record { long = refl; starts = refl; steps = λ j l. absurd (let z : ⊥ = omega arith in z) }, eqb-true (good / 2 ^ q % 2) 1 e)
  accepts_runs (suc d) i q e =
      let on = go_some (next_state k es (column xs i) q) (λ r. accepts k es good xs d (i + 1) r) e in
      let rest = accepts_runs d (i + 1) on.0 on.2 in
      (q ∷ rest.0, longer d i q on.0 on.1 rest.0 rest.1, rest.2)

  runs_accepts : (d i q : ℕ) (qs : List ℕ) → Path d i q qs → On good (slice_index qs d) → accepts k es good xs d i q ≡ true
  runs_accepts zero i q qs p g = eq-eqb (good / 2 ^ q % 2) 1 (subst (λ (x : ℕ). On good x) p.starts g)
  runs_accepts (suc d) i q [] p g = absurd (let z : ⊥ = omega (arith, p.long) in z)
  runs_accepts (suc d) i q (a ∷ qs) p g =
      let rest = shorter d i q a qs p in
      ap (λ o. go_on o (λ r. accepts k es good xs d (i + 1) r)) rest.0 ∙ runs_accepts d (i + 1) (slice_index qs 0) qs rest.1 g

  pub run_path : (n : ℕ) (qs : List ℕ) → Run k es xs n qs → Path n 0 0 qs
  run_path n qs r = record { long = r.long; starts = r.starts; steps = λ i l. takes_at (omega arith) refl refl (r.steps i l) }

  pub path_run : (n : ℕ) (qs : List ℕ) → Path n 0 0 qs → Run k es xs n qs
  path_run n qs p = record { long = p.long; starts = p.starts; steps = λ i l. takes_at (omega arith) refl refl (p.steps i l) }

  pub accepted_decides : Decides (accepts k es good xs (shortest xs) 0 0) (Accepted k es good xs)
  unfolding Accepting
  accepted_decides = (
    λ e. let h = accepts_runs (shortest xs) 0 0 e in (h.0, path_run (shortest xs) h.0 h.1, h.2),
    λ h. runs_accepts (shortest xs) 0 0 h.0 (run_path (shortest xs) h.0 h.1) h.2,
  )

-- ---- the runs that fail

cases_option : (o : Option ℕ) → (o ≡ None) ⊎ ((r : ℕ) × (o ≡ Some r))
cases_option None = inl refl
cases_option (Some r) = inr (r, refl)

module _ (k : ℕ) (es : List Edge) (good : ℕ) (xs : Tuple) where
  -- of d steps, from the state q at the step i on, n are made, and then the run is stuck or ends badly
  Failing : ℕ → ℕ → ℕ → Type 0
  Failing d i q =
      (n : ℕ) × (qs : List ℕ) × Path k es good xs n i q qs
      × (((n < d) × Stuck k es (column xs (i + n)) (slice_index qs n)) ⊎ ((n ≡ d) × (On good (slice_index qs n) → ⊥)))

  at_start : (i q : ℕ) → Path k es good xs 0 i q (q ∷ [])
  at_start i q = record { long = refl; starts = refl; steps = λ j l. absurd (let z : ⊥ = omega arith in z) }

  stuck_at : {i j q : ℕ} → i ≡ j → Stuck k es (column xs i) q → Stuck k es (column xs j) q
  stuck_at {q = q} e h = subst (λ (x : ℕ). Stuck k es (column xs x) q) e h

  fails : (d i q : ℕ) → accepts k es good xs d i q ≡ false → Failing d i q
  unfolding Failing
  fails zero i q e = (0, q ∷ [], at_start i q, inr (refl, λ o. both_ways _ e (eq-eqb (good / 2 ^ q % 2) 1 o)))
  fails (suc d) i q e =
      ⊎_elim
      (λ no_edge. (0, q ∷ [], at_start i q, inl (omega arith, stuck_at (omega arith) (none_stuck k (column xs i) es q no_edge))))
      (λ some.
      let rest = fails d (i + 1) some.0 (sym (ap (λ o. go_on o (λ r. accepts k es good xs d (i + 1) r)) some.1) ∙ e) in (
        suc rest.0,
        q ∷ rest.1,
        longer k es good xs rest.0 i q some.0 some.1 rest.1 rest.2,
        ⊎_elim (λ s. inl (omega (arith, s.0), stuck_at (omega arith) s.1)) (λ b. inr (ap suc b.0, b.1)) rest.3,
      ))
      (cases_option (next_state k es (column xs i) q))

  failing : (d i q n : ℕ) (qs : List ℕ) → Path k es good xs n i q qs
      → ((n < d) × Stuck k es (column xs (i + n)) (slice_index qs n)) ⊎ ((n ≡ d) × (On good (slice_index qs n) → ⊥)) → accepts k es good xs d i q ≡ false
  failing zero i q n qs p (inl s) = absurd (let z : ⊥ = omega (arith, s.0) in z)
  failing zero i q zero qs p (inr b) = ne_eqb (good / 2 ^ q % 2) 1 (λ o. b.1 (subst (λ (x : ℕ). On good x) (sym p.starts) o))
  failing zero i q (suc n) qs p (inr b) = absurd (let z : ⊥ = omega (arith, b.0) in z)
  failing (suc d) i q zero qs p (inl s) =
      ap (λ o. go_on o (λ r. accepts k es good xs d (i + 1) r))
      (stuck_none k (column xs i) es q (stuck_at (omega arith) (subst (λ (x : ℕ). Stuck k es (column xs (i + 0)) x) p.starts s.1)))
  failing (suc d) i q zero qs p (inr b) = absurd (let z : ⊥ = omega (arith, b.0) in z)
  failing (suc d) i q (suc n) [] p h = absurd (let z : ⊥ = omega (arith, p.long) in z)
  failing (suc d) i q (suc n) (a ∷ qs) p h =
      let rest = shorter k es good xs n i q a qs p in
      ap (λ o. go_on o (λ r. accepts k es good xs d (i + 1) r)) rest.0
      ∙ failing d (i + 1) (slice_index qs 0) n qs rest.1
      (⊎_elim (λ s. inl (omega (arith, s.0), stuck_at (omega arith) s.1)) (λ b. inr (omega (arith, b.0), b.1)) h)

  all_steps : Failed k es good xs → accepts k es good xs (shortest xs) 0 0 ≡ false
  all_steps f =
      failing (shortest xs) 0 0 f.0 f.1 (run_path k es good xs f.0 f.1 f.2) (⊎_elim (λ s. inl (s.0, stuck_at (omega arith) s.1)) inr f.3)

  all_failed : accepts k es good xs (shortest xs) 0 0 ≡ false → Failed k es good xs
  unfolding Failing
  all_failed e =
      let f = fails (shortest xs) 0 0 e in
      (f.0, f.1, path_run k es good xs f.0 f.1 f.2, ⊎_elim (λ s. inl (s.0, stuck_at (omega arith) s.1)) inr f.3)

pub breaks_by_failing : (k : ℕ) (es : List Edge) (good : ℕ) (xs : Tuple) → Breaks k es good xs ↔ (IsTuple k xs × Failed k es good xs)
breaks_by_failing k es good xs = (
  λ b. (b.0, all_failed k es good xs (false_from _ (accepted_decides k es good xs) b.1)),
  λ f. (f.0, λ a. both_ways _ (all_steps k es good xs f.1) ((accepted_decides k es good xs).1 a)),
)

module _ (k : ℕ) (es : List Edge) (xs : Tuple) where
  one_path : (d i q : ℕ) (qs rs : List ℕ) → Path k es 0 xs d i q qs → Path k es 0 xs d i q rs → qs ≡ rs
  one_path d i q [] rs p r = absurd (let z : ⊥ = omega (arith, p.long) in z)
  one_path d i q (a ∷ qs) [] p r = absurd (let z : ⊥ = omega (arith, r.long) in z)
  one_path zero i q (a ∷ []) (b ∷ []) p r = ap (λ (x : ℕ). x ∷ []) (p.starts ∙ sym r.starts)
  one_path zero i q (a ∷ (c ∷ qs)) (b ∷ rs) p r = absurd (let z : ⊥ = omega (arith, p.long) in z)
  one_path zero i q (a ∷ []) (b ∷ (c ∷ rs)) p r = absurd (let z : ⊥ = omega (arith, r.long) in z)
  one_path (suc d) i q (a ∷ qs) (b ∷ rs) p r =
      let x = shorter k es 0 xs d i q a qs p in
      let y = shorter k es 0 xs d i q b rs r in
      let same : slice_index_or rs 0 0 ≡ slice_index_or qs 0 0 = same_some (slice_index rs 0) (slice_index qs 0) (sym y.0 ∙ x.0) in
      ap₂ ◌∷◌ (p.starts ∙ sym r.starts) (one_path d (i + 1) (slice_index qs 0) qs rs x.1 (subst (λ (s : ℕ). Path k es 0 xs d (i + 1) s rs) same y.1))

pub one_run : (k : ℕ) (es : List Edge) (xs : Tuple) (n : ℕ) (qs rs : List ℕ) → Run k es xs n qs → Run k es xs n rs → qs ≡ rs
one_run k es xs n qs rs p r = one_path k es xs n 0 0 qs rs (run_path k es 0 xs n qs p) (run_path k es 0 xs n rs r)
