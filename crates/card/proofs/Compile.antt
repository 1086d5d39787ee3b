-- The nodes that the reader makes of a form: how many, that they make a table, and the rule that
-- they unfold to.
use Rattle.std.proofs.Common.{◌≡◌, ℕ, zero, suc, ◌+◌, ◌-◌, ◌^◌, ◌<◌, ◌≤◌, List, [], ◌∷◌, ◌++◌, length, get_or, sym, refl, ap, ◌∙◌, subst, ap₂, append_assoc, append-nil, add-zero, arith, length-append}
use Rattle.std.proofs.lemmas.List.{get_or_append_left, get_or-append-add}
use Rattle.rule.specs.declared.node.Node.{Node}
use Rattle.rule.specs.declared.node.Node.TheVariants as node
use Rattle.rule.specs.Nodes.{node_rule, rules_after, rules, root, NodeFits, TableFits}
use Rattle.rule.specs.Rule as rule
use Rattle.rule.specs.Rule.{Rule}
use Rattle.rule.proofs.Unfold.{rules_more, rules_none, rules_append}
use Rattle.syntax.specs.declared.head.Binary.{Binary}
use Rattle.syntax.specs.declared.head.Binary.TheVariants.{And, Or, Until, Iff, Weak}
use Rattle.syntax.specs.declared.head.Unary.{Unary}
use Rattle.syntax.specs.declared.head.Unary.TheVariants.{Not, Next, Always}
use Rattle.card.specs.Grammar.{Formula, truth, at, near, one, two, unary_size, binary_size, size, signal, signals, unary_rule, binary_rule, meaning, Fits}
use Rattle.card.specs.Layout.{one_nodes, two_nodes}
use Rattle.card.proofs.Naming.{signal_below}

-- the nodes of a form, of which the first has the index n
abbrev pub compile : List (List ℕ) → ℕ → Formula → List Node
compile names n truth = node.True ∷ []
compile names n (at v s) = node.At (v - 1) (signal names s) ∷ []
compile names n (near v w l s ss) = node.Near (v - 1) (w - 1) l (signals names (2 ^ signal names s) ss) ∷ []
compile names n (one u f) = compile names n f ++ one_nodes u (n + size f - 1) (n + size f)
compile names n (two b f g) =
    compile names n f
    ++ (compile names (n + size f) g
    ++ two_nodes b (n + size f - 1) (n + size f + size g - 1) (n + size f + size g))

-- ---- how many

pub one_size : (u : Unary) (f n : ℕ) → length (one_nodes u f n) ≡ unary_size u
one_size Not f n = refl
one_size Next f n = refl
one_size Always f n = refl

pub two_size : (b : Binary) (f g n : ℕ) → length (two_nodes b f g n) ≡ binary_size b
two_size And f g n = refl
two_size Or f g n = refl
two_size Until f g n = refl
two_size Iff f g n = refl
two_size Weak f g n = refl

pub compile_size : (names : List (List ℕ)) (n : ℕ) (f : Formula) → length (compile names n f) ≡ size f
compile_size names n truth = refl
compile_size names n (at v s) = refl
compile_size names n (near v w l s ss) = refl
compile_size names n (one u f) =
    length-append (compile names n f) (one_nodes u (n + size f - 1) (n + size f))
    ∙ ap₂ ◌+◌ (compile_size names n f) (one_size u (n + size f - 1) (n + size f))
compile_size names n (two b f g) =
    let ns = two_nodes b (n + size f - 1) (n + size f + size g - 1) (n + size f + size g) in
    let a = length-append (compile names n f) (compile names (n + size f) g ++ ns) in
    let c = length-append (compile names (n + size f) g) ns in
    let x = compile_size names n f in
    let y = compile_size names (n + size f) g in
    let z = two_size b (n + size f - 1) (n + size f + size g - 1) (n + size f + size g) in
    omega arith

pub size_pos : (f : Formula) → 1 ≤ size f
size_pos truth = omega arith
size_pos (at v s) = omega arith
size_pos (near v w n s ss) = omega arith
size_pos (one u f) = omega (arith, size_pos f)
size_pos (two b f g) = omega (arith, size_pos f)

-- ---- that they make a table

-- each node fits its index, the first n
abbrev Each : ℕ → ℕ → List Node → Type 0
Each k n [] = Unit {0}
Each k n (x ∷ xs) = NodeFits k n x × Each k (n + 1) xs

each_append : (k n : ℕ) (xs ys : List Node) → Each k n xs → Each k (n + length xs) ys → Each k n (xs ++ ys)
each_append k n [] ys a b = subst (λ m. Each k m ys) (add-zero n) b
each_append k n (x ∷ xs) ys a b =
    let e : n + suc (length xs) ≡ n + 1 + length xs = omega arith in
    (a.0, each_append k (n + 1) xs ys a.1 (subst (λ m. Each k m ys) e b))

each_at : (k n : ℕ) (xs : List Node) → Each k n xs → (i : ℕ) → i < length xs → NodeFits k (n + i) (get_or xs i node.True)
each_at k n [] a i h = absurd (let z : ⊥ = omega arith in z)
each_at k n (x ∷ xs) a zero h = subst (λ m. NodeFits k m x) (sym (add-zero n)) a.0
each_at k n (x ∷ xs) a (suc i) h =
    let e : n + 1 + i ≡ n + suc i = omega arith in
    subst (λ m. NodeFits k m (get_or xs i node.True)) e (each_at k (n + 1) xs a.1 i (omega arith))

one_fits : (u : Unary) (k f n : ℕ) → f < n → Each k n (one_nodes u f n)
one_fits Not k f n h = (h, tt)
one_fits Next k f n h = (h, tt)
one_fits Always k f n h = (tt, ((omega arith), (((omega arith), (omega arith)), ((omega arith), tt))))

two_fits : (b : Binary) (k f g n : ℕ) → f < n → g < n → Each k n (two_nodes b f g n)
two_fits And k f g n h i = ((h, i), tt)
two_fits Or k f g n h i = ((h, i), tt)
two_fits Until k f g n h i = ((h, i), tt)
two_fits Iff k f g n h i = ((h, i), (omega arith, (omega arith, ((omega arith, omega arith), ((omega arith, omega arith), tt)))))
two_fits Weak k f g n h i = (h, (omega arith, ((omega arith, omega arith), ((omega arith, omega arith), (omega arith, tt)))))

each_fits : (names : List (List ℕ)) (k n : ℕ) (f : Formula) → length names ≤ 32 → Fits k names f → Each k n (compile names n f)
each_fits names k n truth few fits = (tt, tt)
each_fits names k n (at v s) few fits = ((omega (arith, fits.0, fits.1), omega (arith, signal_below names s fits.2)), tt)
each_fits names k n (near v w l s ss) few fits = ((omega (arith, fits.0, fits.1), omega (arith, fits.2, fits.3)), tt)
each_fits names k n (one u f) few fits =
    let m = size_pos f in
    each_append k n (compile names n f) (one_nodes u (n + size f - 1) (n + size f)) (each_fits names k n f few fits)
    (subst (λ l. Each k (n + l) (one_nodes u (n + size f - 1) (n + size f))) (sym (compile_size names n f)) (one_fits u k (n + size f - 1) (n + size f) (omega arith)))
each_fits names k n (two b f g) few fits =
    let ns = two_nodes b (n + size f - 1) (n + size f + size g - 1) (n + size f + size g) in
    let i = size_pos f in
    let j = size_pos g in
    each_append k n (compile names n f) (compile names (n + size f) g ++ ns) (each_fits names k n f few fits.0)
    (subst (λ l. Each k (n + l) (compile names (n + size f) g ++ ns)) (sym (compile_size names n f))
    (each_append k (n + size f) (compile names (n + size f) g) ns (each_fits names k (n + size f) g few fits.1)
    (subst (λ l. Each k (n + size f + l) ns) (sym (compile_size names (n + size f) g))
    (two_fits b k (n + size f - 1) (n + size f + size g - 1) (n + size f + size g) (omega arith) (omega arith)))))

pub compile_fits : (names : List (List ℕ)) (k : ℕ) (f : Formula) → 1 ≤ k → k ≤ 4 → length names ≤ 32 → size f ≤ 64 → Fits k names f → TableFits k (compile names 0 f)
compile_fits names k f low high few small fits =
    let l = compile_size names 0 f in
    let p = size_pos f in
    record {
      some = omega arith;
      few = omega arith;
      low = low;
      high = high;
      each = λ i h. let e : 0 + i ≡ i = omega arith in subst (λ m. NodeFits k m (get_or (compile names 0 f) i node.True)) e (each_at k 0 (compile names 0 f) (each_fits names k 0 f few fits) i h);
    }

-- ---- the rule that they unfold to

-- after the rules rs the nodes ns have as many rules as n says, of which the last is r
record Unfolds (rs : List Rule) (ns : List Node) (n : ℕ) (r : Rule) : Type 0 where
  es : List Rule
  is : rules_after rs ns ≡ rs ++ es
  long : length es ≡ n
  last : get_or es (n - 1) rule.truth ≡ r

module _ (rs : List Rule) where
  -- rules that are there already, and rules that came since
  old : (xs : List Rule) (i : ℕ) → i < length rs → get_or (rs ++ xs) i rule.truth ≡ get_or rs i rule.truth
  old xs i h = get_or_append_left rs xs rule.truth i h

  first : (xs : List Rule) → get_or (rs ++ xs) (length rs) rule.truth ≡ get_or xs 0 rule.truth
  first xs = ap (λ i. get_or (rs ++ xs) i rule.truth) (sym (add-zero (length rs))) ∙ get_or-append-add rs xs 0 rule.truth

  later : (xs : List Rule) (i : ℕ) → get_or (rs ++ xs) (length rs + i) rule.truth ≡ get_or xs i rule.truth
  later xs i = get_or-append-add rs xs i rule.truth

  start : (ns : List Node) → rules_after rs ns ≡ rules_after (rs ++ []) ns
  start ns = ap (λ l. rules_after l ns) (sym (append-nil rs))

  only : (n : Node) (r : Rule) → node_rule (rs ++ []) n ≡ r → Unfolds rs (n ∷ []) 1 r
  only n r e = record { es = r ∷ []; is = start (n ∷ []) ∙ rules_more rs [] n [] r e ∙ rules_none (rs ++ (r ∷ [])); long = refl; last = refl }

  one_unfolds : (u : Unary) (f : ℕ) (F : Rule) → f < length rs → get_or rs f rule.truth ≡ F → Unfolds rs (one_nodes u f (length rs)) (unary_size u) (unary_rule u F)
  one_unfolds Not f F h e = only (node.Not f) (rule.negation F) (ap rule.negation (old [] f h ∙ e))
  one_unfolds Next f F h e = only (node.Next f) (rule.next F) (ap rule.next (old [] f h ∙ e))
  one_unfolds Always f F h e =
      let n = length rs in
      let x1 : List Rule = rule.truth ∷ [] in
      let x2 : List Rule = rule.truth ∷ rule.negation F ∷ [] in
      let u = rule.until rule.truth (rule.negation F) in
      let x3 : List Rule = rule.truth ∷ rule.negation F ∷ u ∷ [] in
      let x4 : List Rule = rule.truth ∷ rule.negation F ∷ u ∷ rule.negation u ∷ [] in
      let n2 : List Node = node.Until n (n + 1) ∷ node.Not (n + 2) ∷ [] in
      record {
        es = x4;
        is =
            start (one_nodes Always f n)
            ∙ rules_more rs [] node.True (node.Not f ∷ n2) rule.truth refl
            ∙ rules_more rs x1 (node.Not f) n2 (rule.negation F) (ap rule.negation (old x1 f h ∙ e))
            ∙ rules_more rs x2 (node.Until n (n + 1)) (node.Not (n + 2) ∷ []) u (ap₂ rule.until (first x2) (later x2 1))
            ∙ rules_more rs x3 (node.Not (n + 2)) [] (rule.negation u) (ap rule.negation (later x3 2))
            ∙ rules_none (rs ++ x4);
        long = refl;
        last = refl;
      }

  two_unfolds : (b : Binary) (f g : ℕ) (F G : Rule) → f < length rs → g < length rs → get_or rs f rule.truth ≡ F → get_or rs g rule.truth ≡ G → Unfolds rs (two_nodes b f g (length rs)) (binary_size b) (binary_rule b F G)
  two_unfolds And f g F G h k e d = only (node.And f g) (rule.both F G) (ap₂ rule.both (old [] f h ∙ e) (old [] g k ∙ d))
  two_unfolds Or f g F G h k e d = only (node.Or f g) (rule.either F G) (ap₂ rule.either (old [] f h ∙ e) (old [] g k ∙ d))
  two_unfolds Until f g F G h k e d = only (node.Until f g) (rule.until F G) (ap₂ rule.until (old [] f h ∙ e) (old [] g k ∙ d))
  two_unfolds Iff f g F G h k e d =
      let n = length rs in
      let nF = rule.negation F in
      let nG = rule.negation G in
      let x1 : List Rule = rule.both F G ∷ [] in
      let x2 : List Rule = rule.both F G ∷ nF ∷ [] in
      let x3 : List Rule = rule.both F G ∷ nF ∷ nG ∷ [] in
      let x4 : List Rule = rule.both F G ∷ nF ∷ nG ∷ rule.both nF nG ∷ [] in
      let x5 : List Rule = rule.both F G ∷ nF ∷ nG ∷ rule.both nF nG ∷ rule.iff F G ∷ [] in
      let n4 : List Node = node.Or n (n + 3) ∷ [] in
      let n3 : List Node = node.And (n + 1) (n + 2) ∷ n4 in
      record {
        es = x5;
        is =
            start (two_nodes Iff f g n)
            ∙ rules_more rs [] (node.And f g) (node.Not f ∷ node.Not g ∷ n3) (rule.both F G) (ap₂ rule.both (old [] f h ∙ e) (old [] g k ∙ d))
            ∙ rules_more rs x1 (node.Not f) (node.Not g ∷ n3) nF (ap rule.negation (old x1 f h ∙ e))
            ∙ rules_more rs x2 (node.Not g) n3 nG (ap rule.negation (old x2 g k ∙ d))
            ∙ rules_more rs x3 (node.And (n + 1) (n + 2)) n4 (rule.both nF nG) (ap₂ rule.both (later x3 1) (later x3 2))
            ∙ rules_more rs x4 (node.Or n (n + 3)) [] (rule.iff F G) (ap₂ rule.either (first x4) (later x4 3))
            ∙ rules_none (rs ++ x5);
        long = refl;
        last = refl;
      }
  two_unfolds Weak f g F G h k e d =
      let n = length rs in
      let nF = rule.negation F in
      let nG = rule.negation G in
      let u = rule.until nG (rule.both nF nG) in
      let x1 : List Rule = nF ∷ [] in
      let x2 : List Rule = nF ∷ nG ∷ [] in
      let x3 : List Rule = nF ∷ nG ∷ rule.both nF nG ∷ [] in
      let x4 : List Rule = nF ∷ nG ∷ rule.both nF nG ∷ u ∷ [] in
      let x5 : List Rule = nF ∷ nG ∷ rule.both nF nG ∷ u ∷ rule.weak F G ∷ [] in
      let n4 : List Node = node.Not (n + 3) ∷ [] in
      let n3 : List Node = node.Until (n + 1) (n + 2) ∷ n4 in
      let n2 : List Node = node.And n (n + 1) ∷ n3 in
      record {
        es = x5;
        is =
            start (two_nodes Weak f g n)
            ∙ rules_more rs [] (node.Not f) (node.Not g ∷ n2) nF (ap rule.negation (old [] f h ∙ e))
            ∙ rules_more rs x1 (node.Not g) n2 nG (ap rule.negation (old x1 g k ∙ d))
            ∙ rules_more rs x2 (node.And n (n + 1)) n3 (rule.both nF nG) (ap₂ rule.both (first x2) (later x2 1))
            ∙ rules_more rs x3 (node.Until (n + 1) (n + 2)) n4 u (ap₂ rule.until (later x3 1) (later x3 2))
            ∙ rules_more rs x4 (node.Not (n + 3)) [] (rule.weak F G) (ap rule.negation (later x4 3))
            ∙ rules_none (rs ++ x5);
        long = refl;
        last = refl;
      }

  -- the last of the rules that came since, by its index
  newest : (xs : List Rule) (m : ℕ) → 1 ≤ m → get_or (rs ++ xs) (length rs + m - 1) rule.truth ≡ get_or xs (m - 1) rule.truth
  newest xs m h =
      let i : length rs + m - 1 ≡ length rs + (m - 1) = omega arith in
      ap (λ j. get_or (rs ++ xs) j rule.truth) i ∙ later xs (m - 1)

-- what nodes unfold to, and then more nodes
then : (rs : List Rule) (ns ms : List Node) (m n : ℕ) (q r : Rule) → 1 ≤ n → (a : Unfolds rs ns m q) → Unfolds (rs ++ a.es) ms n r → Unfolds rs (ns ++ ms) (m + n) r
then rs ns ms m n q r some a b =
    let l = length-append a.es b.es in
    record {
      es = a.es ++ b.es;
      is = rules_append rs ns ms ∙ ap (λ l. rules_after l ms) a.is ∙ b.is ∙ append_assoc rs a.es b.es;
      long = omega (arith, a.long, b.long);
      last =
          ap (λ i. get_or (a.es ++ b.es) i rule.truth) (let i : m + n - 1 ≡ length a.es + (n - 1) = omega (arith, a.long) in i)
          ∙ get_or-append-add a.es b.es (n - 1) rule.truth
          ∙ b.last;
    }

unfolded : (names : List (List ℕ)) (rs : List Rule) (f : Formula) → Unfolds rs (compile names (length rs) f) (size f) (meaning names f)
unfolded names rs truth = only rs node.True rule.truth refl
unfolded names rs (at v s) = only rs (node.At (v - 1) (signal names s)) (rule.at (v - 1) (signal names s)) refl
unfolded names rs (near v w l s ss) =
    let S = signals names (2 ^ signal names s) ss in
    only rs (node.Near (v - 1) (w - 1) l S) (rule.near (v - 1) (w - 1) l S) refl
unfolded names rs (one u f) =
    let a = unfolded names rs f in
    let p = size_pos f in
    let n : length (rs ++ a.es) ≡ length rs + size f = length-append rs a.es ∙ ap (λ l. length rs + l) a.long in
    then rs (compile names (length rs) f) (one_nodes u (length rs + size f - 1) (length rs + size f)) (size f) (unary_size u) (meaning names f) (unary_rule u (meaning names f)) (unary_some u) a
    (subst (λ m. Unfolds (rs ++ a.es) (one_nodes u (length rs + size f - 1) m) (unary_size u) (unary_rule u (meaning names f))) n
    (one_unfolds (rs ++ a.es) u (length rs + size f - 1) (meaning names f) (omega arith) (newest rs a.es (size f) p ∙ a.last)))
  where
    unary_some : (u : Unary) → 1 ≤ unary_size u
    unary_some Not = omega arith
    unary_some Next = omega arith
    unary_some Always = omega arith
unfolded names rs (two b f g) =
    let n = length rs + size f in
    let ns = two_nodes b (n - 1) (n + size g - 1) (n + size g) in
    let a = unfolded names rs f in
    let r1 = rs ++ a.es in
    let p = size_pos f in
    let q = size_pos g in
    let n1 : length r1 ≡ n = length-append rs a.es ∙ ap (λ l. length rs + l) a.long in
    let c : Unfolds r1 (compile names n g) (size g) (meaning names g) =
    subst (λ m. Unfolds r1 (compile names m g) (size g) (meaning names g)) n1 (unfolded names r1 g) in
    let r2 = r1 ++ c.es in
    let n2 : length r2 ≡ n + size g = length-append r1 c.es ∙ ap₂ ◌+◌ n1 c.long in
    let f_last : get_or r2 (n - 1) rule.truth ≡ meaning names f =
    old r1 c.es (n - 1) (omega arith) ∙ newest rs a.es (size f) p ∙ a.last in
    let g_last : get_or r2 (n + size g - 1) rule.truth ≡ meaning names g =
    ap (λ m. get_or r2 (m + size g - 1) rule.truth) (sym n1) ∙ newest r1 c.es (size g) q ∙ c.last in
    let d : Unfolds r2 ns (binary_size b) (binary_rule b (meaning names f) (meaning names g)) =
    subst (λ m. Unfolds r2 (two_nodes b (n - 1) (n + size g - 1) m) (binary_size b) (binary_rule b (meaning names f) (meaning names g))) n2
    (two_unfolds r2 b (n - 1) (n + size g - 1) (meaning names f) (meaning names g) (omega arith) (omega arith) f_last g_last) in
    let e : size f + (size g + binary_size b) ≡ size f + size g + binary_size b = omega arith in
    subst (λ m. Unfolds rs (compile names (length rs) f ++ (compile names n g ++ ns)) m (binary_rule b (meaning names f) (meaning names g))) e
    (then rs (compile names (length rs) f) (compile names n g ++ ns) (size f) (size g + binary_size b) (meaning names f) (binary_rule b (meaning names f) (meaning names g)) (omega arith) a
    (then r1 (compile names n g) ns (size g) (binary_size b) (meaning names g) (binary_rule b (meaning names f) (meaning names g)) (binary_some b) c d))
  where
    binary_some : (b : Binary) → 1 ≤ binary_size b
    binary_some And = omega arith
    binary_some Or = omega arith
    binary_some Until = omega arith
    binary_some Iff = omega arith
    binary_some Weak = omega arith

pub compile_root : (names : List (List ℕ)) (f : Formula) → root (compile names 0 f) ≡ meaning names f
compile_root names f =
    let a = unfolded names [] f in
    ap (λ l. get_or (rules (compile names 0 f)) (l - 1) rule.truth) (compile_size names 0 f)
    ∙ ap (λ rs. get_or rs (size f - 1) rule.truth) a.is
    ∙ a.last
