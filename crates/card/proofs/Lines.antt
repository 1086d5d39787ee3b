-- Accepted tokens are those of a card of the grammar, within the limits.
use Rattle.std.proofs.Common.{◌≡◌, ℕ, zero, suc, ◌+◌, ◌<◌, ◌≤◌, Bool, true, false, cond, not, ◌&&◌, ltb, leb, ◌⊎◌, List, [], ◌∷◌, ◌++◌, length, is_some, Some, None, codes, sym, refl, ap, ◌∙◌, subst, inl, inr, append_assoc, append-nil, arith, length-append}
use Rattle.std.proofs.lemmas.Bool.{and_parts, leb-true, ltb-true, not-true}
use Rattle.lexer.specs.declared.fault.Layer.TheVariants.{Line}
use Rattle.lexer.specs.Tokens.{Lexeme, Tokens, open_bracket, close_bracket, line_end, number, word}
use Rattle.syntax.specs.declared.head.Topic.TheVariants as topic
use Rattle.card.specs.Grammar.{Formula, spell, size, depth, Fits, Written, declarations, spelled, Within, Are}
use Rattle.card.specs.Reading.{Due, Known, on, no, line, words, sessions_word, topic, new_name, numbers, sessions, closes, ends, opens, first_line, later_line, after_topic, lined, accepted, nothing, read_tokens}
use Rattle.syntax.specs.Words.{same}
use Rattle.syntax.specs.Signals.{signal_of, is_new}
use Rattle.card.proofs.Complete.{extend, last_node, with_names, known_of, accepted_if}
use Rattle.card.proofs.Naming.{impossible, same_is, fresh_undeclared, Fresh, fresh_distinct}
use Rattle.card.proofs.Plain.{accepts, went, unplaced}
use Rattle.card.proofs.Sound.{WordRead, i_word, NumberRead, i_number, i_open, sound, form_goes}

-- a token is read, and it is this one
record Went (t : Lexeme) (us : List Lexeme) (ds : List Due) (vs : List ℕ) (room : ℕ) (x o : Known) : Type 0 where
  rest : List Lexeme
  is : us ≡ t ∷ rest
  goes : accepts rest ds vs room x ≡ Some o

i_closes : (us : List Lexeme) (ds : List Due) (vs : List ℕ) (x o : Known) → accepts us (closes ∷ ds) vs 11 x ≡ Some o → Went close_bracket us ds vs 12 x o
i_closes [] ds vs x o e = impossible o e
i_closes (open_bracket ∷ us) ds vs x o e = impossible o e
i_closes (close_bracket ∷ us) ds vs x o e = record { rest = us; is = refl; goes = e }
i_closes (line_end ∷ us) ds vs x o e = impossible o e
i_closes (number n ∷ us) ds vs x o e = impossible o e
i_closes (word w ∷ us) ds vs x o e = impossible o e

i_ends : (us : List Lexeme) (ds : List Due) (vs : List ℕ) (x o : Known) → accepts us (ends ∷ ds) vs 12 x ≡ Some o → Went line_end us ds vs 12 x o
i_ends [] ds vs x o e = impossible o e
i_ends (open_bracket ∷ us) ds vs x o e = impossible o e
i_ends (close_bracket ∷ us) ds vs x o e = impossible o e
i_ends (line_end ∷ us) ds vs x o e = record { rest = us; is = refl; goes = e }
i_ends (number n ∷ us) ds vs x o e = impossible o e
i_ends (word w ∷ us) ds vs x o e = impossible o e

i_sessions_word : (us : List Lexeme) (ds : List Due) (vs : List ℕ) (x o : Known) → accepts us (words sessions_word ∷ ds) vs 11 x ≡ Some o → Went (word (codes "sessions")) us ds vs 11 x o
i_sessions_word us ds vs x o e = let a = i_word sessions_word us ds vs 11 x o e in go a (same a.w (codes "sessions")) refl a.goes
  where
    go : (a : WordRead sessions_word us ds vs 11 x o) (b : Bool) → same a.w (codes "sessions") ≡ b → went (accepts a.rest) (cond b (on ds vs 11 x) (no 3 Line)) ≡ Some o → Went (word (codes "sessions")) us ds vs 11 x o
    go a true t f = record { rest = a.rest; is = a.is ∙ ap (λ v. word v ∷ a.rest) (same_is a.w (codes "sessions") t); goes = f }
    go a false t f = impossible o f

record Sessions (us : List Lexeme) (ds : List Due) (vs : List ℕ) (x o : Known) : Type 0 where
  k : ℕ
  rest : List Lexeme
  is : us ≡ number k ∷ rest
  least : 1 ≤ k
  most : k ≤ 4
  goes : accepts rest ds vs 11 (record { sessions = k; names = x.names; nodes = x.nodes }) ≡ Some o

i_sessions : (us : List Lexeme) (ds : List Due) (vs : List ℕ) (x o : Known) → accepts us (numbers sessions ∷ ds) vs 11 x ≡ Some o → Sessions us ds vs x o
i_sessions us ds vs x o e = let a = i_number sessions us ds vs 11 x o e in go a (leb 1 a.n && leb a.n 4) refl a.goes
  where
    go : (a : NumberRead sessions us ds vs 11 x o) (b : Bool) → (leb 1 a.n && leb a.n 4) ≡ b → went (accepts a.rest) (cond b (on ds vs 11 (record { sessions = a.n; names = x.names; nodes = x.nodes })) (no 6 Line)) ≡ Some o → Sessions us ds vs x o
    go a true t f = let p = and_parts (leb 1 a.n) (leb a.n 4) t in record { k = a.n; rest = a.rest; is = a.is; least = leb-true 1 a.n p.0; most = leb-true a.n 4 p.1; goes = f }
    go a false t f = impossible o f

Signal : (us : List Lexeme) (vs : List ℕ) (x o : Known) → Type 0
Signal us vs x o = Went (word (codes "signal")) us (after_topic topic.Signal) vs 11 x o

Rule : (us : List Lexeme) (vs : List ℕ) (x o : Known) → Type 0
Rule us vs x o = Went (word (codes "rule")) us (after_topic topic.Rule) vs 11 x o

i_topic : (us : List Lexeme) (vs : List ℕ) (x o : Known) → accepts us (words topic ∷ []) vs 11 x ≡ Some o → Signal us vs x o ⊎ Rule us vs x o
unfolding Signal Rule
i_topic us vs x o e = let a = i_word topic us [] vs 11 x o e in go a (same a.w (codes "signal")) refl (same a.w (codes "rule")) refl a.goes
  where
    go : (a : WordRead topic us [] vs 11 x o) (b : Bool) → same a.w (codes "signal") ≡ b → (c : Bool) → same a.w (codes "rule") ≡ c → went (accepts a.rest) (lined (cond b (Some topic.Signal) (cond c (Some topic.Rule) None)) [] vs 11 x) ≡ Some o → Signal us vs x o ⊎ Rule us vs x o
    go a true t c u f = inl (record { rest = a.rest; is = a.is ∙ ap (λ v. word v ∷ a.rest) (same_is a.w (codes "signal") t); goes = f })
    go a false t true u f = inr (record { rest = a.rest; is = a.is ∙ ap (λ v. word v ∷ a.rest) (same_is a.w (codes "rule") u); goes = f })
    go a false t false u f = impossible o f

record News (us : List Lexeme) (ds : List Due) (vs : List ℕ) (x o : Known) : Type 0 where
  s : List ℕ
  rest : List Lexeme
  is : us ≡ word s ∷ rest
  few : length x.names < 32
  fresh : is_some (signal_of x.names s) ≡ false
  goes : accepts rest ds vs 11 (with_names x (x.names ++ (s ∷ []))) ≡ Some o

i_new : (us : List Lexeme) (ds : List Due) (vs : List ℕ) (x o : Known) → accepts us (words new_name ∷ ds) vs 11 x ≡ Some o → News us ds vs x o
i_new us ds vs x o e = let a = i_word new_name us ds vs 11 x o e in go a (is_new x.names a.w) refl a.goes
  where
    go : (a : WordRead new_name us ds vs 11 x o) (b : Bool) → is_new x.names a.w ≡ b → went (accepts a.rest) (cond b (on ds vs 11 (with_names x (x.names ++ (a.w ∷ [])))) (no 5 Line)) ≡ Some o → News us ds vs x o
    go a true t f =
        let p = and_parts (not (is_some (signal_of x.names a.w))) (ltb (length x.names) 32) t in
        record { s = a.w; rest = a.rest; is = a.is; few = ltb-true (length x.names) 32 p.1; fresh = not-true (is_some (signal_of x.names a.w)) p.0; goes = f }
    go a false t f = impossible o f

i_over : (us : List Lexeme) (vs : List ℕ) (room : ℕ) (x o : Known) → accepts us [] vs room x ≡ Some o → us ≡ []
i_over [] vs room x o e = refl
i_over (t ∷ us) vs room x o e = impossible o e

abbrev tail : Formula → List Lexeme
tail f = open_bracket ∷ word (codes "rule") ∷ spell f (close_bracket ∷ line_end ∷ [])

-- the lines after the first
record Lined (us : List Lexeme) (x : Known) : Type 0 where
  ss : List (List ℕ)
  f : Formula
  is : us ≡ declarations ss (tail f)
  fresh : Fresh x.names ss
  few : length x.names + length ss ≤ 32
  fits : Fits x.sessions (x.names ++ ss) f
  shallow : depth f ≤ 11
  small : length x.nodes + size f ≤ 64

ruled : (us rest : List Lexeme) (vs : List ℕ) (x o : Known) → us ≡ open_bracket ∷ rest → length x.names ≤ 32 → Rule rest vs x o → Lined us x
unfolding Rule
ruled us rest vs x o e h a =
    let ds = closes ∷ ends ∷ [] in
    let b = sound 11 a.rest ds vs x o a.goes in
    let ws = last_node b.f x ∷ vs in
    let y = extend b.f x in
    let c = i_closes b.rest (ends ∷ []) ws y o (form_goes 11 a.rest ds vs x o b a.goes) in
    let d = i_ends c.rest [] ws y o c.goes in
    let z = i_over d.rest ws 12 y o d.goes in
    record {
      ss = [];
      f = b.f;
      is = e ∙ ap (λ l. open_bracket ∷ l) (a.is ∙ ap (λ l. word (codes "rule") ∷ l) (b.is ∙ ap (spell b.f) (c.is ∙ ap (λ l. close_bracket ∷ l) (d.is ∙ ap (λ l. line_end ∷ l) z))));
      fresh = tt;
      few = omega arith;
      fits = subst (λ ns. Fits x.sessions ns b.f) (sym (append-nil x.names)) b.fits;
      shallow = b.shallow;
      small = b.small;
    }

signalled : (n : ℕ) (us rest : List Lexeme) (vs : List ℕ) (x o : Known) → ((us : List Lexeme) (x : Known) → length us ≤ n → length x.names ≤ 32 → accepts us (line ∷ []) vs 12 x ≡ Some o → Lined us x) → length us ≤ suc n → us ≡ open_bracket ∷ rest → Signal rest vs x o → Lined us x
unfolding Signal
signalled n us rest vs x o ih long e a =
    let b = i_new a.rest (closes ∷ ends ∷ line ∷ []) vs x o a.goes in
    let y = with_names x (x.names ++ (b.s ∷ [])) in
    let c = i_closes b.rest (ends ∷ line ∷ []) vs y o b.goes in
    let d = i_ends c.rest (line ∷ []) vs y o c.goes in
    let is : us ≡ open_bracket ∷ word (codes "signal") ∷ word b.s ∷ close_bracket ∷ line_end ∷ d.rest = e ∙ ap (λ l. open_bracket ∷ l) (a.is ∙ ap (λ l. word (codes "signal") ∷ l) (b.is ∙ ap (λ l. word b.s ∷ l) (c.is ∙ ap (λ l. close_bracket ∷ l) d.is))) in
    let names = length-append x.names (b.s ∷ []) in
    let q = ih d.rest y (omega (arith, ap length is)) (omega (arith, b.few)) d.goes in
    record {
      ss = b.s ∷ q.ss;
      f = q.f;
      is = is ∙ ap (λ l. open_bracket ∷ word (codes "signal") ∷ word b.s ∷ close_bracket ∷ line_end ∷ l) q.is;
      fresh = (fresh_undeclared x.names b.s b.fresh, q.fresh);
      few = omega (arith, q.few);
      fits = subst (λ ns. Fits x.sessions ns q.f) (append_assoc x.names (b.s ∷ []) q.ss) q.fits;
      shallow = q.shallow;
      small = q.small;
    }

sound_lines : (n : ℕ) (us : List Lexeme) (vs : List ℕ) (x o : Known) → length us ≤ n → length x.names ≤ 32 → accepts us (line ∷ []) vs 12 x ≡ Some o → Lined us x
sound_lines zero us vs x o long few e = let a = i_open later_line us [] vs 12 x o e in absurd (let z : ⊥ = omega (arith, ap length a.is) in z)
sound_lines (suc n) us vs x o long few e =
    let a = i_open later_line us [] vs 12 x o e in
    elim (i_topic a.rest vs x o a.goes) [
      | inl b ↦ signalled n us a.rest vs x o (λ us x l f e. sound_lines n us vs x o l f e) long a.is b
      | inr b ↦ ruled us a.rest vs x o a.is few b
    ]

-- a card of the grammar that the tokens write
pub record CardRead (ts : Tokens) (o : Known) : Type 0 where
  pub card : Written
  pub are : Are ts (spelled card)
  pub within : Within card
  pub is : o ≡ known_of card

-- each accepted card is one of the grammar, within the limits
pub accepted_only : (ts : Tokens) (o : Known) → read_tokens ts ≡ accepted o → CardRead ts o
accepted_only ts o e =
    let u = unplaced ts (opens first_line ∷ []) [] 12 nothing o e in
    let a = i_open first_line u.us [] [] 12 nothing o u.same in
    let b = i_sessions_word a.rest (numbers sessions ∷ closes ∷ ends ∷ line ∷ []) [] nothing o a.goes in
    let c = i_sessions b.rest (closes ∷ ends ∷ line ∷ []) [] nothing o b.goes in
    let x : Known = record { sessions = c.k; names = []; nodes = [] } in
    let d = i_closes c.rest (ends ∷ line ∷ []) [] x o c.goes in
    let f = i_ends d.rest (line ∷ []) [] x o d.goes in
    let q = sound_lines (length f.rest) f.rest [] x o (omega arith) (omega arith) f.goes in
    let card : Written = record { sessions = c.k; names = q.ss; rule = q.f } in
    let is : u.us ≡ spelled card = a.is ∙ ap (λ l. open_bracket ∷ l) (b.is ∙ ap (λ l. word (codes "sessions") ∷ l) (c.is ∙ ap (λ l. number c.k ∷ l) (d.is ∙ ap (λ l. close_bracket ∷ l) (f.is ∙ ap (λ l. line_end ∷ l) q.is)))) in
    let are : Are ts (spelled card) = subst (Are ts) is u.are in
    let within : Within card = record { least = c.least; most = c.most; few = omega (arith, q.few); distinct = fresh_distinct q.ss q.fresh; fits = q.fits; shallow = omega (arith, q.shallow); small = omega (arith, q.small) } in
    let same = accepted_if ts card are within in
    record { card = card; are = are; within = within; is = cc }
