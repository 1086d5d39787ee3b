-- How the rules of nodes grow, node by node.
use Rattle.std.proofs.Common.{◌≡◌, ℕ, zero, suc, ◌+◌, ◌<◌, List, [], ◌∷◌, ◌++◌, length, get_or, sym, refl, ap, ◌∙◌, subst, ap₂, append_assoc, arith, length-append}
use Rattle.std.proofs.lemmas.List.{get_or_append_left, get_or_at}
use Rattle.rule.specs.declared.node.Node.{Node}
use Rattle.rule.specs.declared.node.Node.TheVariants.{True, At, Near, Not, And, Or, Next, Until}
use Rattle.rule.specs.Rule.{Rule, truth, negation, both, either, next, until}
use Rattle.rule.specs.Nodes.{NodeFits, node_rule, rules_after, rules, rule_at}

-- one node more, after rules xs that came after rs
pub rules_more : (rs xs : List Rule) (n : Node) (ns : List Node) (r : Rule) → node_rule (rs ++ xs) n ≡ r → rules_after (rs ++ xs) (n ∷ ns) ≡ rules_after (rs ++ (xs ++ (r ∷ []))) ns
unfolding rules_after
rules_more rs xs n ns r e = ap (λ x. rules_after (rs ++ xs ++ (x ∷ [])) ns) e ∙ ap (λ l. rules_after l ns) (append_assoc rs xs (r ∷ []))

pub rules_none : (rs : List Rule) → rules_after rs [] ≡ rs
unfolding rules_after
rules_none rs = refl

pub rules_append : (rs : List Rule) (ns ms : List Node) → rules_after rs (ns ++ ms) ≡ rules_after (rules_after rs ns) ms
unfolding rules_after
rules_append rs [] ms = refl
rules_append rs (n ∷ ns) ms = rules_append (rs ++ (node_rule rs n ∷ [])) ns ms

-- a node's rule is given by the rules of the nodes it is made of
node_rule_same : (k i : ℕ) (rs qs : List Rule) (n : Node) → NodeFits k i n → ((c : ℕ) → c < i → get_or rs c truth ≡ get_or qs c truth) → node_rule rs n ≡ node_rule qs n
node_rule_same k i rs qs True fit h = refl
node_rule_same k i rs qs (At v s) fit h = refl
node_rule_same k i rs qs (Near v w n S) fit h = refl
node_rule_same k i rs qs (Not f) fit h = ap negation (h f fit)
node_rule_same k i rs qs (And f g) fit h = ap₂ both (h f fit.0) (h g fit.1)
node_rule_same k i rs qs (Or f g) fit h = ap₂ either (h f fit.0) (h g fit.1)
node_rule_same k i rs qs (Next f) fit h = ap next (h f fit)
node_rule_same k i rs qs (Until f g) fit h = ap₂ until (h f fit.0) (h g fit.1)

-- what is unfolded stays
front : (rs : List Rule) (ns : List Node) (i : ℕ) → i < length rs → get_or (rules_after rs ns) i truth ≡ get_or rs i truth
unfolding rules_after
front rs [] i h = refl
front rs (n ∷ ns) i h =
    front (rs ++ (node_rule rs n ∷ [])) ns i (let e = length-append rs (node_rule rs n ∷ []) in omega arith)
    ∙ get_or_append_left rs (node_rule rs n ∷ []) truth i h

unfolds_after : (k : ℕ) (rs : List Rule) (ns : List Node) (i : ℕ) → i < length ns → NodeFits k (length rs + i) (get_or ns i True)
    → get_or (rules_after rs ns) (length rs + i) truth ≡ node_rule (rules_after rs ns) (get_or ns i True)
unfolding rules_after
unfolds_after k rs [] i h fit = absurd (let z : ⊥ = omega arith in z)
unfolds_after k rs (n ∷ ns) zero h fit =
    let f = node_rule rs n in
    let z : length rs + 0 ≡ length rs = omega arith in
    let long = length-append rs (f ∷ []) in
    let all : List Rule = rules_after (rs ++ (f ∷ [])) ns in
    ap (λ (x : ℕ). get_or all x truth) z
    ∙ front (rs ++ (f ∷ [])) ns (length rs) (omega arith)
    ∙ get_or_at rs f [] truth (length rs) refl
    ∙ node_rule_same k (length rs) rs all n (subst (λ (x : ℕ). NodeFits k x n) z fit) (λ c l. sym (front (rs ++ (f ∷ [])) ns c (omega arith) ∙ get_or_append_left rs (f ∷ []) truth c l))
unfolds_after k rs (n ∷ ns) (suc i) h fit =
    let qs : List Rule = rs ++ (node_rule rs n ∷ []) in
    let e : length qs + i ≡ length rs + suc i = omega (arith, length-append rs (node_rule rs n ∷ [])) in
    ap (λ (x : ℕ). get_or (rules_after qs ns) x truth) (sym e)
    ∙ unfolds_after k qs ns i (omega arith) (subst (λ (x : ℕ). NodeFits k x (get_or ns i True)) (sym e) fit)

-- the rule at an index is made of the rules of the nodes that its node is made of
pub unfolds : (k : ℕ) (ns : List Node) (i : ℕ) → i < length ns → NodeFits k i (get_or ns i True) → rule_at ns i ≡ node_rule (rules ns) (get_or ns i True)
unfolds k ns i h fit =
    let z : 0 + i ≡ i = omega arith in
    ap (rule_at ns) (sym z) ∙ unfolds_after k [] ns i h (subst (λ (x : ℕ). NodeFits k x (get_or ns i True)) (sym z) fit)
