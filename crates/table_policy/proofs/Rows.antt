-- Rows of values and lists of signals, node by node.
use Rattle.std.proofs.Common.{◌≡◌, ℕ, suc, ◌+◌, ◌-◌, ◌<◌, ◌≤◌, Bool, false, List, [], ◌∷◌, ◌++◌, length, get_or, set, replicate, sym, ap, ◌∙◌, subst, arith, length-set, length-append, below_more}
use Rattle.std.proofs.lemmas.List.{get_or-set_same, get_or-set_other, get_or-replicate, get_or_append_left, get_or_at}
use Rattle.policy.specs.declared.signals.Signals.{Signals}
use Rattle.policy.specs.Sessions.{Letter, Tuple, letters}
use Rattle.rule.specs.declared.node.Node.{Node}
use Rattle.rule.specs.declared.node.Node.TheVariants.{True}
use Rattle.rule.proofs.Unfold.{unfolds}
use Rattle.rule.specs.Nodes.{TableFits, node_rule, rules, rule_at}
use Rattle.rule.specs.Rule.{Rule, truth}
use Rattle.table_policy.specs.Evaluating.{eval}
use Rattle.table_policy.specs.Inner.Rows.{RowIs, ValueIs, signals_read, Reads}
use Rattle.table_policy.specs.Deciding.{eval_past}

-- one more value of a row
pub row_more : (xs : Tuple) (m k : ℕ) (ns us : List Node) (i j : ℕ) (row later : List Bool) (ls : List Letter) (v : Bool) → TableFits k ns → us ≡ ns → i < m → j < length us → length row ≡ 64
    → RowIs xs m (rules ns) row (m - i) j → RowIs xs m (rules ns) later (m - suc i) (length ns) → ls ≡ letters xs i → ValueIs ls row later j (get_or us j True) v
    → (length (set row j v) ≡ 64) × RowIs xs m (rules ns) (set row j v) (m - i) (j + 1)
row_more xs m k ns us i j row later ls v fits same im ju long r x here value =
    let d = m - suc i in
    let left : suc d ≡ m - i = omega arith in
    let back : m - suc d ≡ i = omega arith in
    let jn : j < length ns = subst (λ (l : List Node). j < length l) same ju in
    let within : j < length row = omega (arith, fits.few) in
    let made = ap (λ (l : List Node). node_rule (rules ns) (get_or l j True)) same ∙ sym (unfolds k ns j jn (fits.each j jn)) in
    let new : v ≡ eval xs m (rule_at ns j) (m - i) =
    value xs m d (rules ns) (here ∙ ap (letters xs) (sym back)) (subst (λ (e : ℕ). RowIs xs m (rules ns) row e j) (sym left) r) (λ c l. x c (omega arith))
    (x j jn ∙ ap (λ (f : Rule). eval xs m f d) (sym made))
    ∙ ap (λ (f : Rule). eval xs m f (suc d)) made ∙ ap (eval xs m (rule_at ns j)) left in
    (length-set row j v ∙ long, below_more _ _ (λ c l. get_or-set_other row j c v false (omega arith) ∙ r c l) (get_or-set_same row j v false within ∙ new))

-- past the last step no node holds
pub row_none : (xs : Tuple) (m i : ℕ) (rs : List Rule) (n : ℕ) → n ≤ 64 → i ≡ m → RowIs xs m rs (replicate 64 false) (m - i) n
row_none xs m i rs n few e c l =
    let z : m - i ≡ 0 = omega arith in
    get_or-replicate 64 c false false (omega arith) ∙ sym (ap (eval xs m (get_or rs c truth)) z ∙ eval_past xs m (get_or rs c truth))

-- the signals of one more node
pub reads_more : (k : ℕ) (ns us : List Node) (xs read more : List Signals) (j : ℕ) (s : Signals) → TableFits k ns → us ≡ ns → j < length us → (length xs ≡ j) × Reads (rules ns) xs
    → read ≡ xs → ((rs : List Rule) → Reads rs read → s ≡ signals_read (node_rule rs (get_or us j True))) → more ≡ xs ++ (s ∷ [])
    → (length more ≡ j + 1) × Reads (rules ns) more
reads_more k ns us xs read more j s fits same ju (long, r) e is grown =
    (ap length grown ∙ length-append xs (s ∷ []) ∙ ap (λ (n : ℕ). n + 1) long, subst (Reads (rules ns)) (sym grown) each)
  where
    made : node_rule (rules ns) (get_or us j True) ≡ rule_at ns j
    made =
        let jn : j < length ns = subst (λ (l : List Node). j < length l) same ju in
        ap (λ (l : List Node). node_rule (rules ns) (get_or l j True)) same ∙ sym (unfolds k ns j jn (fits.each j jn))

    each : Reads (rules ns) (xs ++ (s ∷ []))
    each c l =
        below_more (λ c. get_or (xs ++ (s ∷ [])) c (signals_read truth) ≡ signals_read (rule_at ns c)) j
        (λ c l. get_or_append_left xs (s ∷ []) (signals_read truth) c (omega arith) ∙ r c (omega arith))
        (get_or_at xs s [] (signals_read truth) j long ∙ is (rules ns) (subst (Reads (rules ns)) (sym e) r) ∙ ap signals_read made)
        c (omega (arith, long, length-append xs (s ∷ [])))
