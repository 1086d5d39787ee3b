-- A card within the limits is accepted, and what is known of it then.
use Rattle.std.proofs.Common.{◌≡◌, ℕ, ◌+◌, ◌-◌, ◌^◌, ◌<◌, ◌≤◌, true, cond, not, ◌&&◌, ltb, leb, List, [], ◌∷◌, ◌++◌, length, drop, is_some, Some, codes, sym, refl, ap, ◌∙◌, append_assoc, append-nil, arith, length-append}
use lib.Bits.{bit_or}
use Rattle.std.proofs.lemmas.Bool.{ne_eqb, lt-ltb, le-leb, and_from}
use Rattle.lexer.specs.declared.fault.Layer.TheVariants.{Form, Line}
use Rattle.lexer.specs.Tokens.{Lexeme, Tokens, open_bracket, close_bracket, line_end, number, word}
use Rattle.rule.specs.declared.node.Node.{Node}
use Rattle.syntax.specs.declared.head.Binary.{Binary}
use Rattle.syntax.specs.declared.head.Binary.TheVariants.{And, Or, Until, Iff, Weak}
use Rattle.syntax.specs.declared.head.Head.{Head}
use Rattle.syntax.specs.declared.head.Head.TheVariants.{True, At, Near, One, Two}
use Rattle.syntax.specs.declared.head.Unary.{Unary}
use Rattle.syntax.specs.declared.head.Unary.TheVariants.{Not, Next, Always}
use Rattle.card.specs.Grammar.{Formula, truth, at, near, one, two, unary_word, binary_word, listed, spell, size, depth, signal, signals, Declared, AllDeclared, Fits, Written, declarations, spelled, Within, Are}
use Rattle.card.specs.Layout.{arity, head_nodes, one_nodes, two_nodes}
use Rattle.card.specs.Reading.{Due, Known, on, no, form, line, words, head, signal as a_signal, mask, numbers, place, limit, names, makes, parts, begun, named, marked, joined, closes, ends, opens, first_line, accepted, nothing, read_tokens}
use Rattle.syntax.specs.Words.{head_of}
use Rattle.syntax.specs.Signals.{signal_of}
use Rattle.card.proofs.Compile.{compile, compile_size, one_size, two_size}
use Rattle.card.proofs.Naming.{declared_found, undeclared_fresh, Fresh, distinct_fresh}
use Rattle.card.proofs.Plain.{accepts, went, placed}

-- the same but for the nodes
abbrev pub with_nodes : Known → List Node → Known
with_nodes x ns = record { sessions = x.sessions; names = x.names; nodes = ns }

-- the nodes of a form are added
abbrev pub extend : Formula → Known → Known
extend f x = with_nodes x (x.nodes ++ compile x.names (length x.nodes) f)

-- the index of its last node
abbrev pub last_node : Formula → Known → ℕ
last_node f x = length x.nodes + size f - 1

pub extend_size : (f : Formula) (x : Known) → length (extend f x).nodes ≡ length x.nodes + size f
extend_size f x = length-append x.nodes (compile x.names (length x.nodes) f) ∙ ap (λ n. length x.nodes + n) (compile_size x.names (length x.nodes) f)

-- ---- the parts of a form

c_close : (h : Head) (ns : List Node) (us : List Lexeme) (ds : List Due) (vs : List ℕ) (room : ℕ) (x : Known) → head_nodes h vs (length x.nodes) ≡ ns → length x.nodes + length ns ≤ 64 → accepts (close_bracket ∷ us) (makes h ∷ ds) vs room x ≡ accepts us ds ((length x.nodes + length ns - 1) ∷ drop (arity h) vs) (room + 1) (with_nodes x (x.nodes ++ ns))
c_close h ns us ds vs room x e small =
    ap (λ ms. went (accepts us) (cond (leb (length x.nodes + length ms) 64) (on ds ((length x.nodes + length ms - 1) ∷ drop (arity h) vs) (room + 1) (with_nodes x (x.nodes ++ ms))) (no 7 Form))) e
    ∙ ap (λ b. went (accepts us) (cond b (on ds ((length x.nodes + length ns - 1) ∷ drop (arity h) vs) (room + 1) (with_nodes x (x.nodes ++ ns))) (no 7 Form))) (le-leb (length x.nodes + length ns) 64 small)

c_place : (v : ℕ) (us : List Lexeme) (ds : List Due) (vs : List ℕ) (room : ℕ) (x : Known) → 1 ≤ v → v ≤ x.sessions → accepts (number v ∷ us) (numbers place ∷ ds) vs room x ≡ accepts us ds ((v - 1) ∷ vs) room x
c_place v us ds vs room x g h = ap (λ b. went (accepts us) (cond b (on ds ((v - 1) ∷ vs) room x) (no 6 Form))) (and_from (leb 1 v) (leb v x.sessions) (le-leb 1 v g) (le-leb v x.sessions h))

c_limit : (n : ℕ) (us : List Lexeme) (ds : List Due) (vs : List ℕ) (room : ℕ) (x : Known) → n ≤ 32 → accepts (number n ∷ us) (numbers limit ∷ ds) vs room x ≡ accepts us ds (n ∷ vs) room x
c_limit n us ds vs room x h = ap (λ b. went (accepts us) (cond b (on ds (n ∷ vs) room x) (no 6 Form))) (le-leb n 32 h)

c_signal : (s : List ℕ) (us : List Lexeme) (ds : List Due) (vs : List ℕ) (room : ℕ) (x : Known) → Declared x.names s → accepts (word s ∷ us) (words a_signal ∷ ds) vs room x ≡ accepts us ds (signal x.names s ∷ vs) room x
c_signal s us ds vs room x d = ap (λ o. went (accepts us) (named o ds vs room x)) (declared_found x.names s d)

c_mask : (s : List ℕ) (us : List Lexeme) (ds : List Due) (vs : List ℕ) (room : ℕ) (x : Known) → Declared x.names s → accepts (word s ∷ us) (words mask ∷ ds) vs room x ≡ accepts us ds ((2 ^ signal x.names s) ∷ vs) room x
c_mask s us ds vs room x d = ap (λ o. went (accepts us) (marked o ds vs room x)) (declared_found x.names s d)

-- the further names of `near`, and its closing bracket
c_names : (ss : List (List ℕ)) (us : List Lexeme) (ds : List Due) (vs : List ℕ) (S room : ℕ) (x : Known) → AllDeclared x.names ss → accepts (listed ss (close_bracket ∷ us)) (names ∷ ds) (S ∷ vs) room x ≡ accepts (close_bracket ∷ us) (makes Near ∷ ds) (signals x.names S ss ∷ vs) room x
c_names [] us ds vs S room x a = refl
c_names (s ∷ ss) us ds vs S room x a =
    ap (λ o. went (accepts (listed ss (close_bracket ∷ us))) (joined o ds (S ∷ vs) room x)) (declared_found x.names s a.0)
    ∙ c_names ss us ds vs (bit_or S (2 ^ signal x.names s)) room x a.1

c_head : (w : List ℕ) (h : Head) (us : List Lexeme) (ds : List Due) (vs : List ℕ) (room : ℕ) (x : Known) → 0 < room → head_of w ≡ Some h → accepts (open_bracket ∷ word w ∷ us) (form ∷ ds) vs room x ≡ accepts us (parts h ++ ds) vs (room - 1) x
c_head w h us ds vs room x some e =
    ap (λ b. went (accepts (word w ∷ us)) (cond b (no 4 Form) (on (words head ∷ ds) vs (room - 1) x))) (ne_eqb room 0 (λ z. omega arith))
    ∙ ap (λ o. went (accepts us) (begun o ds vs (room - 1) x)) e

unary_head : (u : Unary) → head_of (unary_word u) ≡ Some (One u)
unary_head Not = refl
unary_head Next = refl
unary_head Always = refl

binary_head : (b : Binary) → head_of (binary_word b) ≡ Some (Two b)
binary_head And = refl
binary_head Or = refl
binary_head Until = refl
binary_head Iff = refl
binary_head Weak = refl

-- the bracket that was opened is closed again
back : (us : List Lexeme) (ds : List Due) (vs : List ℕ) (room i j : ℕ) (x : Known) (ns ms : List Node) → 0 < room → i ≡ j → ns ≡ ms → accepts us ds (i ∷ vs) (room - 1 + 1) (with_nodes x ns) ≡ accepts us ds (j ∷ vs) room (with_nodes x ms)
back us ds vs room i j x ns ms h p q =
    let r : room - 1 + 1 ≡ room = omega arith in
    λ k. accepts us ds (p k ∷ vs) (r k) (with_nodes x (q k))

pub complete : (f : Formula) (us : List Lexeme) (ds : List Due) (vs : List ℕ) (room : ℕ) (x : Known) → Fits x.sessions x.names f → depth f ≤ room → length x.nodes + size f ≤ 64 → accepts (spell f us) (form ∷ ds) vs room x ≡ accepts us ds (last_node f x ∷ vs) room (extend f x)
complete truth us ds vs room x fits deep small =
    c_head (codes "true") True (close_bracket ∷ us) ds vs room x (omega arith) refl
    ∙ c_close True (compile x.names (length x.nodes) truth) us ds vs (room - 1) x refl small
    ∙ back us ds vs room (last_node truth x) (last_node truth x) x (extend truth x).nodes (extend truth x).nodes (omega arith) refl refl
complete (at v s) us ds vs room x fits deep small =
    let f = at v s in
    let k = makes At ∷ ds in
    c_head (codes "at") At (number v ∷ word s ∷ close_bracket ∷ us) ds vs room x (omega arith) refl
    ∙ c_place v (word s ∷ close_bracket ∷ us) (words a_signal ∷ k) vs (room - 1) x fits.0 fits.1
    ∙ c_signal s (close_bracket ∷ us) k ((v - 1) ∷ vs) (room - 1) x fits.2
    ∙ c_close At (compile x.names (length x.nodes) f) us ds (signal x.names s ∷ (v - 1) ∷ vs) (room - 1) x refl small
    ∙ back us ds vs room (last_node f x) (last_node f x) x (extend f x).nodes (extend f x).nodes (omega arith) refl refl
complete (near v w n s ss) us ds vs room x fits deep small =
    let f = near v w n s ss in
    let us1 = word s ∷ listed ss (close_bracket ∷ us) in
    let k = words mask ∷ names ∷ ds in
    let S = signals x.names (2 ^ signal x.names s) ss in
    c_head (codes "near") Near (number v ∷ number w ∷ number n ∷ us1) ds vs room x (omega arith) refl
    ∙ c_place v (number w ∷ number n ∷ us1) (numbers place ∷ numbers limit ∷ k) vs (room - 1) x fits.0 fits.1
    ∙ c_place w (number n ∷ us1) (numbers limit ∷ k) ((v - 1) ∷ vs) (room - 1) x fits.2 fits.3
    ∙ c_limit n us1 k ((w - 1) ∷ (v - 1) ∷ vs) (room - 1) x fits.4
    ∙ c_mask s (listed ss (close_bracket ∷ us)) (names ∷ ds) (n ∷ (w - 1) ∷ (v - 1) ∷ vs) (room - 1) x fits.5
    ∙ c_names ss us ds (n ∷ (w - 1) ∷ (v - 1) ∷ vs) (2 ^ signal x.names s) (room - 1) x fits.6
    ∙ c_close Near (compile x.names (length x.nodes) f) us ds (S ∷ n ∷ (w - 1) ∷ (v - 1) ∷ vs) (room - 1) x refl small
    ∙ back us ds vs room (last_node f x) (last_node f x) x (extend f x).nodes (extend f x).nodes (omega arith) refl refl
complete (one u f) us ds vs room x fits deep small =
    let y = extend f x in
    let i = last_node f x in
    let m = length x.nodes + size f in
    let ns = one_nodes u i m in
    let e : length y.nodes ≡ m = extend_size f x in
    let z = one_size u i m in
    let last : length y.nodes + length ns - 1 ≡ last_node (one u f) x = omega arith in
    c_head (unary_word u) (One u) (spell f (close_bracket ∷ us)) ds vs room x (omega arith) (unary_head u)
    ∙ complete f (close_bracket ∷ us) (makes (One u) ∷ ds) vs (room - 1) x fits (omega arith) (omega arith)
    ∙ c_close (One u) ns us ds (i ∷ vs) (room - 1) y (ap (one_nodes u i) e) (omega arith)
    ∙ back us ds vs room (length y.nodes + length ns - 1) (last_node (one u f) x) x (y.nodes ++ ns) (extend (one u f) x).nodes (omega arith) last (append_assoc x.nodes (compile x.names (length x.nodes) f) ns)
complete (two b f g) us ds vs room x fits deep small =
    let n = length x.nodes in
    let y = extend f x in
    let F = compile x.names n f in
    let i = last_node f x in
    let e : length y.nodes ≡ n + size f = extend_size f x in
    let G = compile x.names (n + size f) g in
    let w : Known = extend g y in
    let w' : Known = with_nodes x (y.nodes ++ G) in
    let j = n + size f + size g - 1 in
    let m = n + size f + size g in
    let ns = two_nodes b i j m in
    let same : w ≡ w' = ap (λ k. with_nodes x (y.nodes ++ compile x.names k g)) e in
    let gl : last_node g y ≡ j = ap (λ k. k + size g - 1) e in
    let e2 : length w'.nodes ≡ m = sym (ap (λ (k : Known). length k.nodes) same) ∙ extend_size g y ∙ ap (λ k. k + size g) e in
    let z = two_size b i j m in
    let last : length w'.nodes + length ns - 1 ≡ last_node (two b f g) x = omega arith in
    c_head (binary_word b) (Two b) (spell f (spell g (close_bracket ∷ us))) ds vs room x (omega arith) (binary_head b)
    ∙ complete f (spell g (close_bracket ∷ us)) (form ∷ makes (Two b) ∷ ds) vs (room - 1) x fits.0 (omega arith) (omega arith)
    ∙ complete g (close_bracket ∷ us) (makes (Two b) ∷ ds) (i ∷ vs) (room - 1) y fits.1 (omega arith) (omega arith)
    ∙ (λ k. accepts (close_bracket ∷ us) (makes (Two b) ∷ ds) (gl k ∷ i ∷ vs) (room - 1) (same k))
    ∙ c_close (Two b) ns us ds (j ∷ i ∷ vs) (room - 1) w' (ap (two_nodes b i j) e2) (omega arith)
    ∙ back us ds vs room (length w'.nodes + length ns - 1) (last_node (two b f g) x) x (w'.nodes ++ ns) (extend (two b f g) x).nodes (omega arith) last
    (append_assoc y.nodes G ns ∙ append_assoc x.nodes F (G ++ ns))

-- ---- the lines

abbrev pub with_names : Known → List (List ℕ) → Known
with_names x ns = record { sessions = x.sessions; names = ns; nodes = x.nodes }

c_lines : (ss : List (List ℕ)) (us : List Lexeme) (vs : List ℕ) (x : Known) → Fresh x.names ss → length x.names + length ss ≤ 32 → accepts (declarations ss us) (line ∷ []) vs 12 x ≡ accepts us (line ∷ []) vs 12 (with_names x (x.names ++ ss))
c_lines [] us vs x d h = ap (λ ns. accepts us (line ∷ []) vs 12 (with_names x ns)) (sym (append-nil x.names))
c_lines (s ∷ ss) us vs x d h =
    let y = with_names x (x.names ++ (s ∷ [])) in
    let ds = closes ∷ ends ∷ line ∷ [] in
    let new : (not (is_some (signal_of x.names s)) && ltb (length x.names) 32) ≡ true =
    ap (λ b. not b && ltb (length x.names) 32) (undeclared_fresh x.names s d.0) ∙ lt-ltb (length x.names) 32 (omega arith) in
    ap (λ b. went (accepts (close_bracket ∷ line_end ∷ declarations ss us)) (cond b (on ds vs 11 y) (no 5 Line))) new
    ∙ c_lines ss us vs y d.1 (omega (arith, length-append x.names (s ∷ [])))
    ∙ ap (λ ns. accepts us (line ∷ []) vs 12 (with_names x ns)) (append_assoc x.names (s ∷ []) ss)

-- what is known of a card in the end
abbrev pub known_of : Written → Known
known_of c = record { sessions = c.sessions; names = c.names; nodes = compile c.names 0 c.rule }

-- each card within the limits is accepted, whatever the positions of its tokens
pub accepted_if : (ts : Tokens) (c : Written) → Are ts (spelled c) → Within c → read_tokens ts ≡ accepted (known_of c)
accepted_if ts c a w =
    let k = c.sessions in
    let x : Known = record { sessions = k; names = []; nodes = [] } in
    let y : Known = with_names x c.names in
    let us = open_bracket ∷ word (codes "rule") ∷ spell c.rule (close_bracket ∷ line_end ∷ []) in
    let ds = closes ∷ ends ∷ line ∷ [] in
    let range : (leb 1 k && leb k 4) ≡ true = and_from (leb 1 k) (leb k 4) (le-leb 1 k w.least) (le-leb k 4 w.most) in
    placed ts (spelled c) (opens first_line ∷ []) [] 12 nothing (known_of c) a
    (ap (λ b. went (accepts (close_bracket ∷ line_end ∷ declarations c.names us)) (cond b (on ds [] 11 x) (no 6 Line))) range
    ∙ c_lines c.names us [] x (distinct_fresh c.names w.distinct) (omega (arith, w.few))
    ∙ complete c.rule (close_bracket ∷ line_end ∷ []) (closes ∷ ends ∷ []) [] 11 y w.fits (omega (arith, w.shallow)) (omega (arith, w.small)))
