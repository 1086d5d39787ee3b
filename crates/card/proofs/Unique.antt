-- Tokens are those of one card at most.
use Rattle.std.proofs.Common.{◌≡◌, ℕ, Bool, true, false, List, [], ◌∷◌, Some, codes, sym, refl, ap, ◌∙◌, arith}
use Rattle.lexer.specs.Tokens.{Lexeme, Tokens, token, over, bad, open_bracket, close_bracket, line_end, word}
use Rattle.syntax.specs.declared.head.Binary.TheVariants.{And, Or, Until, Iff, Weak}
use Rattle.syntax.specs.declared.head.Head.{Head}
use Rattle.syntax.specs.declared.head.Head.TheVariants.{True, At, Near, One, Two}
use Rattle.syntax.specs.declared.head.Unary.TheVariants.{Not, Next, Always}
use Rattle.card.specs.Grammar.{Formula, truth, at, near, one, two, listed, spell, Written, declarations, spelled, Are}
use Rattle.syntax.specs.Words.{same, head_of}
use Rattle.card.proofs.Sound.{head_word}

-- the word of a form says which form it is
decoded : (h : Head) → head_of (head_word h) ≡ Some h
decoded True = refl
decoded At = refl
decoded Near = refl
decoded (One Not) = refl
decoded (One Next) = refl
decoded (One Always) = refl
decoded (Two And) = refl
decoded (Two Or) = refl
decoded (Two Until) = refl
decoded (Two Iff) = refl
decoded (Two Weak) = refl

heads : (h g : Head) (us vs : List Lexeme) → ◌≡◌ {A = List Lexeme} (open_bracket ∷ word (head_word h) ∷ us) (open_bracket ∷ word (head_word g) ∷ vs) → (h ≡ g) × (us ≡ vs)
heads h g us vs e =
    let p : head_word h ≡ head_word g = cc in
    let q : us ≡ vs = cc in
    let s : Some h ≡ Some g = sym (decoded h) ∙ ap head_of p ∙ decoded g in
    (cc, q)

lists : (ss ts : List (List ℕ)) (us vs : List Lexeme) → listed ss (close_bracket ∷ us) ≡ listed ts (close_bracket ∷ vs) → (ss ≡ ts) × (us ≡ vs)
lists [] [] us vs e = (refl, cc)
lists [] (t ∷ ts) us vs e = let z : ◌≡◌ {A = ℕ} 0 1 = cc in absurd (omega arith)
lists (s ∷ ss) [] us vs e = let z : ◌≡◌ {A = ℕ} 0 1 = cc in absurd (omega arith)
lists (s ∷ ss) (t ∷ ts) us vs e =
    let a : s ≡ t = cc in
    let b : listed ss (close_bracket ∷ us) ≡ listed ts (close_bracket ∷ vs) = cc in
    let q = lists ss ts us vs b in
    let c = q.0 in
    (cc, q.1)

clash : {B : Type 0} (h g : Head) (us vs : List Lexeme) → (h ≡ g → ◌≡◌ {A = ℕ} 0 1) → ◌≡◌ {A = List Lexeme} (open_bracket ∷ word (head_word h) ∷ us) (open_bracket ∷ word (head_word g) ∷ vs) → B
clash h g us vs k e = let z = k (heads h g us vs e).0 in absurd (omega arith)

same_formula : (f g : Formula) (us vs : List Lexeme) → spell f us ≡ spell g vs → (f ≡ g) × (us ≡ vs)
same_formula truth truth us vs e = (refl, cc)
same_formula truth (at v s) us vs e = clash True At _ _ (λ p. cc) e
same_formula truth (near v w n s ss) us vs e = clash True Near _ _ (λ p. cc) e
same_formula truth (one u g) us vs e = clash True (One u) _ _ (λ p. cc) e
same_formula truth (two b g k) us vs e = clash True (Two b) _ _ (λ p. cc) e
same_formula (at v s) truth us vs e = clash At True _ _ (λ p. cc) e
same_formula (at v s) (at v' s') us vs e =
    let a : v ≡ v' = cc in
    let b : s ≡ s' = cc in
    (cc, cc)
same_formula (at v s) (near v' w n s' ss) us vs e = clash At Near _ _ (λ p. cc) e
same_formula (at v s) (one u g) us vs e = clash At (One u) _ _ (λ p. cc) e
same_formula (at v s) (two b g k) us vs e = clash At (Two b) _ _ (λ p. cc) e
same_formula (near v w n s ss) truth us vs e = clash Near True _ _ (λ p. cc) e
same_formula (near v w n s ss) (at v' s') us vs e = clash Near At _ _ (λ p. cc) e
same_formula (near v w n s ss) (near v' w' n' s' ss') us vs e =
    let a : v ≡ v' = cc in
    let b : w ≡ w' = cc in
    let c : n ≡ n' = cc in
    let d : s ≡ s' = cc in
    let r : listed ss (close_bracket ∷ us) ≡ listed ss' (close_bracket ∷ vs) = cc in
    let q = lists ss ss' us vs r in
    let t = q.0 in
    (cc, q.1)
same_formula (near v w n s ss) (one u g) us vs e = clash Near (One u) _ _ (λ p. cc) e
same_formula (near v w n s ss) (two b g k) us vs e = clash Near (Two b) _ _ (λ p. cc) e
same_formula (one u f) truth us vs e = clash (One u) True _ _ (λ p. cc) e
same_formula (one u f) (at v s) us vs e = clash (One u) At _ _ (λ p. cc) e
same_formula (one u f) (near v w n s ss) us vs e = clash (One u) Near _ _ (λ p. cc) e
same_formula (one u f) (one u' g) us vs e =
    let p = heads (One u) (One u') _ _ e in
    let a = p.0 in
    let q = same_formula f g (close_bracket ∷ us) (close_bracket ∷ vs) p.1 in
    let b = q.0 in
    let c = q.1 in
    (cc, cc)
same_formula (one u f) (two b g k) us vs e = clash (One u) (Two b) _ _ (λ p. cc) e
same_formula (two b f h) truth us vs e = clash (Two b) True _ _ (λ p. cc) e
same_formula (two b f h) (at v s) us vs e = clash (Two b) At _ _ (λ p. cc) e
same_formula (two b f h) (near v w n s ss) us vs e = clash (Two b) Near _ _ (λ p. cc) e
same_formula (two b f h) (one u g) us vs e = clash (Two b) (One u) _ _ (λ p. cc) e
same_formula (two b f h) (two b' g k) us vs e =
    let p = heads (Two b) (Two b') _ _ e in
    let a = p.0 in
    let q = same_formula f g (spell h (close_bracket ∷ us)) (spell k (close_bracket ∷ vs)) p.1 in
    let r = same_formula h k (close_bracket ∷ us) (close_bracket ∷ vs) q.1 in
    let c = q.0 in
    let d = r.0 in
    let g = r.1 in
    (cc, cc)

abbrev tail : Formula → List Lexeme
tail f = open_bracket ∷ word (codes "rule") ∷ spell f (close_bracket ∷ line_end ∷ [])

-- a line about the rule is none about a signal
never : {B : Type 0} (us vs : List Lexeme) → ◌≡◌ {A = List Lexeme} (open_bracket ∷ word (codes "rule") ∷ us) (open_bracket ∷ word (codes "signal") ∷ vs) → B
never us vs e =
    let p : codes "rule" ≡ codes "signal" = cc in
    let q : ◌≡◌ {A = Bool} true false = ap (λ w. same w (codes "rule")) p in
    let z : ◌≡◌ {A = ℕ} 0 1 = cc in absurd (omega arith)

same_lines : (ss ts : List (List ℕ)) (f g : Formula) → declarations ss (tail f) ≡ declarations ts (tail g) → (ss ≡ ts) × (f ≡ g)
same_lines [] [] f g e = let p : spell f (close_bracket ∷ line_end ∷ []) ≡ spell g (close_bracket ∷ line_end ∷ []) = cc in (refl, (same_formula f g _ _ p).0)
same_lines [] (t ∷ ts) f g e = never _ _ e
same_lines (s ∷ ss) [] f g e = never _ _ (sym e)
same_lines (s ∷ ss) (t ∷ ts) f g e =
    let a : s ≡ t = cc in
    let r : declarations ss (tail f) ≡ declarations ts (tail g) = cc in
    let q = same_lines ss ts f g r in
    let b = q.0 in
    (cc, q.1)

one_card : (c d : Written) → spelled c ≡ spelled d → c ≡ d
one_card c d e =
    let a : c.sessions ≡ d.sessions = cc in
    let r : declarations c.names (tail c.rule) ≡ declarations d.names (tail d.rule) = cc in
    let q = same_lines c.names d.names c.rule d.rule r in
    λ i. record { sessions = a i; names = q.0 i; rule = q.1 i }

one_list : (ts : Tokens) (us vs : List Lexeme) → Are ts us → Are ts vs → us ≡ vs
one_list (token p t ts) [] vs a b = absurd a
one_list (token p t ts) (u ∷ us) [] a b = absurd b
one_list (token p t ts) (u ∷ us) (v ∷ vs) a b = let q = one_list ts us vs a.1 b.1 in let g = sym a.0 ∙ b.0 in λ i. g i ∷ q i
one_list (over p) [] [] a b = refl
one_list (over p) [] (v ∷ vs) a b = absurd b
one_list (over p) (u ∷ us) vs a b = absurd a
one_list (bad f) us vs a b = absurd a

-- tokens write one card at most
pub one_reading : (ts : Tokens) (c d : Written) → Are ts (spelled c) → Are ts (spelled d) → c ≡ d
one_reading ts c d a b = one_card c d (one_list ts (spelled c) (spelled d) a b)
