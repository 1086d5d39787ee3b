-- Accepted tokens of a form are those of a form of the grammar, within the limits.
use Rattle.std.proofs.Common.{◌≡◌, ℕ, zero, suc, ◌+◌, ◌-◌, ◌^◌, ◌<◌, ◌≤◌, Bool, true, false, cond, ◌&&◌, eqb, leb, List, [], ◌∷◌, ◌++◌, length, drop, Some, None, codes, Option, sym, refl, ap, ◌∙◌, subst, arith}
use lib.Bits.{bit_or}
use Rattle.std.proofs.lemmas.Bool.{and_parts, leb-true, eqb-false}
use Rattle.lexer.specs.declared.fault.Layer.{Layer}
use Rattle.lexer.specs.declared.fault.Layer.TheVariants.{Form}
use Rattle.lexer.specs.Tokens.{Lexeme, open_bracket, close_bracket, line_end, number, word}
use Rattle.rule.specs.declared.node.Node.{Node}
use Rattle.syntax.specs.declared.head.Binary.TheVariants.{And, Or, Until, Iff, Weak}
use Rattle.syntax.specs.declared.head.Head.{Head}
use Rattle.syntax.specs.declared.head.Head.TheVariants.{True, At, Near, One, Two}
use Rattle.syntax.specs.declared.head.Unary.TheVariants.{Not, Next, Always}
use Rattle.card.specs.Grammar.{Formula, truth, at, near, one, two, unary_word, binary_word, listed, spell, size, depth, Declared, AllDeclared, Fits}
use Rattle.card.specs.Layout.{arity, head_nodes}
use Rattle.card.specs.Reading.{Due, Opens, Words, Numbers, Known, on, no, opens, formula, inside, form, opens_layer, words_layer, numbers_layer, worded, numbered, words, head, signal, mask, numbers, place, limit, names, makes, parts, begun, named, marked, joined, adding}
use Rattle.syntax.specs.Words.{same, head_of}
use Rattle.syntax.specs.Signals.{signal_of}
use Rattle.card.proofs.Compile.{one_size, two_size}
use Rattle.card.proofs.Complete.{with_nodes, extend, last_node, extend_size, complete}
use Rattle.card.proofs.Naming.{impossible, same_is, found_declared}
use Rattle.card.proofs.Plain.{accepts, went}

-- an opening bracket that cannot come
stray : {B : Type 0} (b : Bool) (us : List Lexeme) (l : Layer) (o : Known) → went (accepts us) (cond b (no 4 l) (no 3 l)) ≡ Some o → B
stray true us l o e = impossible o e
stray false us l o e = impossible o e

-- ---- one token

-- a word is read, and leads to a step
pub record WordRead (k : Words) (us : List Lexeme) (ds : List Due) (vs : List ℕ) (room : ℕ) (x o : Known) : Type 0 where
  pub w : List ℕ
  pub rest : List Lexeme
  pub is : us ≡ word w ∷ rest
  pub goes : went (accepts rest) (worded w k ds vs room x) ≡ Some o

pub i_word : (k : Words) (us : List Lexeme) (ds : List Due) (vs : List ℕ) (room : ℕ) (x o : Known) → accepts us (words k ∷ ds) vs room x ≡ Some o → WordRead k us ds vs room x o
i_word k [] ds vs room x o e = impossible o e
i_word k (open_bracket ∷ us) ds vs room x o e = stray (eqb room 0) us (words_layer k) o e
i_word k (close_bracket ∷ us) ds vs room x o e = impossible o e
i_word k (line_end ∷ us) ds vs room x o e = impossible o e
i_word k (number n ∷ us) ds vs room x o e = impossible o e
i_word k (word w ∷ us) ds vs room x o e = record { w = w; rest = us; is = refl; goes = e }

-- the same of a number
pub record NumberRead (k : Numbers) (us : List Lexeme) (ds : List Due) (vs : List ℕ) (room : ℕ) (x o : Known) : Type 0 where
  pub n : ℕ
  pub rest : List Lexeme
  pub is : us ≡ number n ∷ rest
  pub goes : went (accepts rest) (numbered n k ds vs room x) ≡ Some o

pub i_number : (k : Numbers) (us : List Lexeme) (ds : List Due) (vs : List ℕ) (room : ℕ) (x o : Known) → accepts us (numbers k ∷ ds) vs room x ≡ Some o → NumberRead k us ds vs room x o
i_number k [] ds vs room x o e = impossible o e
i_number k (open_bracket ∷ us) ds vs room x o e = stray (eqb room 0) us (numbers_layer k) o e
i_number k (close_bracket ∷ us) ds vs room x o e = impossible o e
i_number k (line_end ∷ us) ds vs room x o e = impossible o e
i_number k (number n ∷ us) ds vs room x o e = record { n = n; rest = us; is = refl; goes = e }
i_number k (word w ∷ us) ds vs room x o e = impossible o e

-- an opening bracket is read, and a bracket may open
pub record Opened (b : Opens) (us : List Lexeme) (ds : List Due) (vs : List ℕ) (room : ℕ) (x o : Known) : Type 0 where
  pub rest : List Lexeme
  pub is : us ≡ open_bracket ∷ rest
  pub some : 0 < room
  pub goes : accepts rest (inside b ++ ds) vs (room - 1) x ≡ Some o

pub i_open : (b : Opens) (us : List Lexeme) (ds : List Due) (vs : List ℕ) (room : ℕ) (x o : Known) → accepts us (opens b ∷ ds) vs room x ≡ Some o → Opened b us ds vs room x o
i_open b [] ds vs room x o e = impossible o e
i_open b (open_bracket ∷ us) ds vs room x o e = go (eqb room 0) refl e
  where
    go : (c : Bool) → eqb room 0 ≡ c → went (accepts us) (cond c (no 4 (opens_layer b)) (on (inside b ++ ds) vs (room - 1) x)) ≡ Some o → Opened b (open_bracket ∷ us) ds vs room x o
    go true t f = impossible o f
    go false t f = let z = eqb-false room 0 t in record { rest = us; is = refl; some = omega arith; goes = f }
i_open b (close_bracket ∷ us) ds vs room x o e = impossible o e
i_open b (line_end ∷ us) ds vs room x o e = impossible o e
i_open b (number n ∷ us) ds vs room x o e = impossible o e
i_open b (word w ∷ us) ds vs room x o e = impossible o e

-- ---- the parts of a form

record Headed (us : List Lexeme) (ds : List Due) (vs : List ℕ) (room : ℕ) (x o : Known) : Type 0 where
  w : List ℕ
  h : Head
  rest : List Lexeme
  is : us ≡ word w ∷ rest
  begins : head_of w ≡ Some h
  goes : accepts rest (parts h ++ ds) vs room x ≡ Some o

i_head : (us : List Lexeme) (ds : List Due) (vs : List ℕ) (room : ℕ) (x o : Known) → accepts us (words head ∷ ds) vs room x ≡ Some o → Headed us ds vs room x o
i_head us ds vs room x o e = let a = i_word head us ds vs room x o e in go a (head_of a.w) refl a.goes
  where
    go : (a : WordRead head us ds vs room x o) (h : Option Head) → head_of a.w ≡ h → went (accepts a.rest) (begun h ds vs room x) ≡ Some o → Headed us ds vs room x o
    go a None t f = impossible o f
    go a (Some h) t f = record { w = a.w; h = h; rest = a.rest; is = a.is; begins = t; goes = f }

record Numbered (P : ℕ → Type 0) (value : ℕ → ℕ) (us : List Lexeme) (ds : List Due) (vs : List ℕ) (room : ℕ) (x o : Known) : Type 0 where
  n : ℕ
  rest : List Lexeme
  is : us ≡ number n ∷ rest
  fits : P n
  goes : accepts rest ds (value n ∷ vs) room x ≡ Some o

i_place : (us : List Lexeme) (ds : List Due) (vs : List ℕ) (room : ℕ) (x o : Known) → accepts us (numbers place ∷ ds) vs room x ≡ Some o → Numbered (λ v. (1 ≤ v) × (v ≤ x.sessions)) (λ v. v - 1) us ds vs room x o
i_place us ds vs room x o e = let a = i_number place us ds vs room x o e in go a (leb 1 a.n && leb a.n x.sessions) refl a.goes
  where
    go : (a : NumberRead place us ds vs room x o) (b : Bool) → (leb 1 a.n && leb a.n x.sessions) ≡ b → went (accepts a.rest) (cond b (on ds ((a.n - 1) ∷ vs) room x) (no 6 Form)) ≡ Some o → Numbered (λ v. (1 ≤ v) × (v ≤ x.sessions)) (λ v. v - 1) us ds vs room x o
    go a false t f = impossible o f
    go a true t f = let p = and_parts (leb 1 a.n) (leb a.n x.sessions) t in record { n = a.n; rest = a.rest; is = a.is; fits = (leb-true 1 a.n p.0, leb-true a.n x.sessions p.1); goes = f }

i_limit : (us : List Lexeme) (ds : List Due) (vs : List ℕ) (room : ℕ) (x o : Known) → accepts us (numbers limit ∷ ds) vs room x ≡ Some o → Numbered (λ n. n ≤ 32) (λ n. n) us ds vs room x o
i_limit us ds vs room x o e = let a = i_number limit us ds vs room x o e in go a (leb a.n 32) refl a.goes
  where
    go : (a : NumberRead limit us ds vs room x o) (b : Bool) → leb a.n 32 ≡ b → went (accepts a.rest) (cond b (on ds (a.n ∷ vs) room x) (no 6 Form)) ≡ Some o → Numbered (λ n. n ≤ 32) (λ n. n) us ds vs room x o
    go a false t f = impossible o f
    go a true t f = record { n = a.n; rest = a.rest; is = a.is; fits = leb-true a.n 32 t; goes = f }

record Named (value : ℕ → ℕ) (us : List Lexeme) (ds : List Due) (vs : List ℕ) (room : ℕ) (x o : Known) : Type 0 where
  s : List ℕ
  i : ℕ
  rest : List Lexeme
  is : us ≡ word s ∷ rest
  fits : Declared x.names s
  goes : accepts rest ds (value i ∷ vs) room x ≡ Some o

i_signal : (us : List Lexeme) (ds : List Due) (vs : List ℕ) (room : ℕ) (x o : Known) → accepts us (words signal ∷ ds) vs room x ≡ Some o → Named (λ i. i) us ds vs room x o
i_signal us ds vs room x o e = let a = i_word signal us ds vs room x o e in go a (signal_of x.names a.w) refl a.goes
  where
    go : (a : WordRead signal us ds vs room x o) (i : Option ℕ) → signal_of x.names a.w ≡ i → went (accepts a.rest) (named i ds vs room x) ≡ Some o → Named (λ i. i) us ds vs room x o
    go a None t f = impossible o f
    go a (Some i) t f = record { s = a.w; i = i; rest = a.rest; is = a.is; fits = found_declared x.names a.w i t; goes = f }

i_mask : (us : List Lexeme) (ds : List Due) (vs : List ℕ) (room : ℕ) (x o : Known) → accepts us (words mask ∷ ds) vs room x ≡ Some o → Named (λ i. 2 ^ i) us ds vs room x o
i_mask us ds vs room x o e = let a = i_word mask us ds vs room x o e in go a (signal_of x.names a.w) refl a.goes
  where
    go : (a : WordRead mask us ds vs room x o) (i : Option ℕ) → signal_of x.names a.w ≡ i → went (accepts a.rest) (marked i ds vs room x) ≡ Some o → Named (λ i. 2 ^ i) us ds vs room x o
    go a None t f = impossible o f
    go a (Some i) t f = record { s = a.w; i = i; rest = a.rest; is = a.is; fits = found_declared x.names a.w i t; goes = f }

-- the closing bracket of a form finds room for its nodes
closed : (ns : List Node) (us : List Lexeme) (ds : List Due) (vs : List ℕ) (room : ℕ) (x o : Known) → went (accepts us) (adding ns ds vs room x) ≡ Some o → length x.nodes + length ns ≤ 64
closed ns us ds vs room x o e = go (leb (length x.nodes + length ns) 64) refl e
  where
    go : (b : Bool) → leb (length x.nodes + length ns) 64 ≡ b → went (accepts us) (cond b (on ds ((length x.nodes + length ns - 1) ∷ vs) (room + 1) (with_nodes x (x.nodes ++ ns))) (no 7 Form)) ≡ Some o → length x.nodes + length ns ≤ 64
    go false t f = impossible o f
    go true t f = leb-true (length x.nodes + length ns) 64 t

record Closed (n : ℕ) (us : List Lexeme) : Type 0 where
  rest : List Lexeme
  is : us ≡ close_bracket ∷ rest
  small : n ≤ 64

i_makes : (h : Head) (us : List Lexeme) (ds : List Due) (vs : List ℕ) (room : ℕ) (x o : Known) → accepts us (makes h ∷ ds) vs room x ≡ Some o → Closed (length x.nodes + length (head_nodes h vs (length x.nodes))) us
i_makes h [] ds vs room x o e = impossible o e
i_makes h (open_bracket ∷ us) ds vs room x o e = stray (eqb room 0) us Form o e
i_makes h (close_bracket ∷ us) ds vs room x o e = record { rest = us; is = refl; small = closed (head_nodes h vs (length x.nodes)) us ds (drop (arity h) vs) room x o e }
i_makes h (line_end ∷ us) ds vs room x o e = impossible o e
i_makes h (number n ∷ us) ds vs room x o e = impossible o e
i_makes h (word w ∷ us) ds vs room x o e = impossible o e

record Listed (us : List Lexeme) (x : Known) : Type 0 where
  ss : List (List ℕ)
  rest : List Lexeme
  is : us ≡ listed ss (close_bracket ∷ rest)
  fits : AllDeclared x.names ss
  small : length x.nodes + 1 ≤ 64

i_names : (us : List Lexeme) (ds : List Due) (S : ℕ) (vs : List ℕ) (room : ℕ) (x o : Known) → accepts us (names ∷ ds) (S ∷ vs) room x ≡ Some o → Listed us x
i_names [] ds S vs room x o e = impossible o e
i_names (open_bracket ∷ us) ds S vs room x o e = stray (eqb room 0) us Form o e
i_names (close_bracket ∷ us) ds S vs room x o e = record { ss = []; rest = us; is = refl; fits = tt; small = closed (head_nodes Near (S ∷ vs) (length x.nodes)) us ds (drop 4 (S ∷ vs)) room x o e }
i_names (line_end ∷ us) ds S vs room x o e = impossible o e
i_names (number n ∷ us) ds S vs room x o e = impossible o e
i_names (word w ∷ us) ds S vs room x o e = go (signal_of x.names w) refl e (λ i f. i_names us ds (bit_or S (2 ^ i)) vs room x o f)
  where
    go : (i : Option ℕ) → signal_of x.names w ≡ i → went (accepts us) (joined i ds (S ∷ vs) room x) ≡ Some o → ((i : ℕ) → accepts us (names ∷ ds) (bit_or S (2 ^ i) ∷ vs) room x ≡ Some o → Listed us x) → Listed (word w ∷ us) x
    go None t f k = impossible o f
    go (Some i) t f k =
        let q = k i f in
        record { ss = w ∷ q.ss; rest = q.rest; is = ap (λ l. word w ∷ l) q.is; fits = (found_declared x.names w i t, q.fits); small = q.small }

-- ---- the word of a form

abbrev pub head_word : Head → List ℕ
head_word True = codes "true"
head_word At = codes "at"
head_word Near = codes "near"
head_word (One u) = unary_word u
head_word (Two b) = binary_word b

pick : (w : List ℕ) (h g : Head) (rest : Option Head) → (rest ≡ Some h → w ≡ head_word h) → cond (same w (head_word g)) (Some g) rest ≡ Some h → w ≡ head_word h
pick w h g rest k e = go (same w (head_word g)) refl e
  where
    go : (b : Bool) → same w (head_word g) ≡ b → cond b (Some g) rest ≡ Some h → w ≡ head_word h
    go true t f = let q : g ≡ h = cc in same_is w (head_word g) t ∙ ap head_word q
    go false t f = k f

word_is : (w : List ℕ) (h : Head) → head_of w ≡ Some h → w ≡ head_word h
word_is w h e =
    pick w h True _ (pick w h At _ (pick w h Near _ (pick w h (One Not) _ (pick w h (One Next) _ (pick w h (One Always) _
    (pick w h (Two And) _ (pick w h (Two Or) _ (pick w h (Two Until) _ (pick w h (Two Iff) _ (pick w h (Two Weak) None (impossible h))))))))))) e

-- ---- a form

-- the tokens begin with those of a form f
pub record FormRead (room : ℕ) (us : List Lexeme) (x : Known) : Type 0 where
  pub f : Formula
  pub rest : List Lexeme
  pub is : us ≡ spell f rest
  pub fits : Fits x.sessions x.names f
  pub shallow : depth f ≤ room
  pub small : length x.nodes + size f ≤ 64

-- and then the reading goes on
pub form_goes : (room : ℕ) (us : List Lexeme) (ds : List Due) (vs : List ℕ) (x o : Known) (q : FormRead room us x) → accepts us (form ∷ ds) vs room x ≡ Some o → accepts q.rest ds (last_node q.f x ∷ vs) room (extend q.f x) ≡ Some o
form_goes room us ds vs x o q e =
    sym (complete q.f q.rest ds vs room x q.fits q.shallow q.small)
    ∙ ap (λ l. accepts l (form ∷ ds) vs room x) (sym q.is)
    ∙ e

Reader : ℕ → Type 0
Reader r = (us : List Lexeme) (ds : List Due) (vs : List ℕ) (x o : Known) → accepts us (form ∷ ds) vs r x ≡ Some o → FormRead r us x

by_head : (h : Head) (r : ℕ) → Reader r → (us : List Lexeme) (ds : List Due) (vs : List ℕ) (x o : Known) → accepts us (parts h ++ ds) vs r x ≡ Some o → FormRead (suc r) (open_bracket ∷ word (head_word h) ∷ us) x
unfolding Reader
by_head True r ih us ds vs x o e =
    let q = i_makes True us ds vs r x o e in
    record { f = truth; rest = q.rest; is = ap (λ l. open_bracket ∷ word (codes "true") ∷ l) q.is; fits = tt; shallow = omega arith; small = q.small }
by_head At r ih us ds vs x o e =
    let v = i_place us (words signal ∷ makes At ∷ ds) vs r x o e in
    let s = i_signal v.rest (makes At ∷ ds) ((v.n - 1) ∷ vs) r x o v.goes in
    let q = i_makes At s.rest ds (s.i ∷ (v.n - 1) ∷ vs) r x o s.goes in
    record {
      f = at v.n s.s;
      rest = q.rest;
      is = ap (λ l. open_bracket ∷ word (codes "at") ∷ l) (v.is ∙ ap (λ l. number v.n ∷ l) (s.is ∙ ap (λ l. word s.s ∷ l) q.is));
      fits = (v.fits.0, v.fits.1, s.fits);
      shallow = omega arith;
      small = q.small;
    }
by_head Near r ih us ds vs x o e =
    let k = words mask ∷ names ∷ ds in
    let v = i_place us (numbers place ∷ numbers limit ∷ k) vs r x o e in
    let w = i_place v.rest (numbers limit ∷ k) ((v.n - 1) ∷ vs) r x o v.goes in
    let n = i_limit w.rest k ((w.n - 1) ∷ (v.n - 1) ∷ vs) r x o w.goes in
    let s = i_mask n.rest (names ∷ ds) (n.n ∷ (w.n - 1) ∷ (v.n - 1) ∷ vs) r x o n.goes in
    let q = i_names s.rest ds (2 ^ s.i) (n.n ∷ (w.n - 1) ∷ (v.n - 1) ∷ vs) r x o s.goes in
    record {
      f = near v.n w.n n.n s.s q.ss;
      rest = q.rest;
      is = ap (λ l. open_bracket ∷ word (codes "near") ∷ l) (v.is ∙ ap (λ l. number v.n ∷ l) (w.is ∙ ap (λ l. number w.n ∷ l) (n.is ∙ ap (λ l. number n.n ∷ l) (s.is ∙ ap (λ l. word s.s ∷ l) q.is))));
      fits = (v.fits.0, v.fits.1, w.fits.0, w.fits.1, n.fits, s.fits, q.fits);
      shallow = omega arith;
      small = q.small;
    }
by_head (One u) r ih us ds vs x o e =
    let a = ih us (makes (One u) ∷ ds) vs x o e in
    let y = extend a.f x in
    let q = i_makes (One u) a.rest ds (last_node a.f x ∷ vs) r y o (form_goes r us (makes (One u) ∷ ds) vs x o a e) in
    record {
      f = one u a.f;
      rest = q.rest;
      is = ap (λ l. open_bracket ∷ word (unary_word u) ∷ l) (a.is ∙ ap (spell a.f) q.is);
      fits = a.fits;
      shallow = omega (arith, a.shallow);
      small = omega (arith, q.small, extend_size a.f x, one_size u (last_node a.f x) (length y.nodes));
    }
by_head (Two b) r ih us ds vs x o e =
    let a = ih us (form ∷ makes (Two b) ∷ ds) vs x o e in
    let y = extend a.f x in
    let i = last_node a.f x in
    let ea = form_goes r us (form ∷ makes (Two b) ∷ ds) vs x o a e in
    let c = ih a.rest (makes (Two b) ∷ ds) (i ∷ vs) y o ea in
    let z = extend c.f y in
    let j = last_node c.f y in
    let q = i_makes (Two b) c.rest ds (j ∷ i ∷ vs) r z o (form_goes r a.rest (makes (Two b) ∷ ds) (i ∷ vs) y o c ea) in
    record {
      f = two b a.f c.f;
      rest = q.rest;
      is = ap (λ l. open_bracket ∷ word (binary_word b) ∷ l) (a.is ∙ ap (spell a.f) (c.is ∙ ap (spell c.f) q.is));
      fits = (a.fits, c.fits);
      shallow = omega (arith, a.shallow, c.shallow);
      small = omega (arith, q.small, extend_size a.f x, extend_size c.f y, two_size b i j (length z.nodes));
    }

pub sound : (room : ℕ) (us : List Lexeme) (ds : List Due) (vs : List ℕ) (x o : Known) → accepts us (form ∷ ds) vs room x ≡ Some o → FormRead room us x
unfolding Reader
sound zero us ds vs x o e = let a = i_open formula us ds vs 0 x o e in absurd (let z : ⊥ = omega (arith, a.some) in z)
sound (suc r) us ds vs x o e =
    let a = i_open formula us ds vs (suc r) x o e in
    let down : suc r - 1 ≡ r = omega arith in
    let b = i_head a.rest ds vs r x o (ap (λ n. accepts a.rest (words head ∷ ds) vs n x) (sym down) ∙ a.goes) in
    let is : us ≡ open_bracket ∷ word (head_word b.h) ∷ b.rest = a.is ∙ ap (λ l. open_bracket ∷ l) (b.is ∙ ap (λ w. word w ∷ b.rest) (word_is b.w b.h b.begins)) in
    subst (λ l. FormRead (suc r) l x) (sym is) (by_head b.h r (sound r) b.rest ds vs x o b.goes)
