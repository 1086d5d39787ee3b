-- What the reading of a card says in the words of the grammar.
use Rattle.std.proofs.Common.{◌≡◌, ℕ, ◌≤◌, Bool, true, false, cond, ltb, ◌⊎◌, List, [], ◌∷◌, length, Ok, Err, Result, sym, refl, ap, ◌∙◌, subst, inl, inr, arith}
use Rattle.std.proofs.lemmas.Bool.{ltb-false, le-ltb}
use Rattle.lexer.specs.declared.fault.Layer.TheVariants.{Line}
use Rattle.lexer.specs.declared.fault.Report.{Report}
use Rattle.lexer.specs.declared.fault.TokenFault.{TokenFault}
use Rattle.lexer.specs.declared.fault.TokenFault.TheVariants.{Long, Byte, Run}
use Rattle.lexer.specs.Faults.{token_report}
use Rattle.lexer.specs.Lines.{OnLine, Lined, FaultOnLine}
use Rattle.lexer.specs.Tokens.{Tokens, token, over, bad, card_tokens}
use Rattle.lexer.proofs.Lining.{lined}
use Rattle.rule.specs.Nodes.{root, TableFits}
use Rattle.syntax.specs.declared.fault.LineFault.{LineFault}
use Rattle.syntax.specs.Faults.{line_report}
use Rattle.card.specs.declared.card.Card.{Card}
use Rattle.card.specs.Cards.{card_known, said, Writes, Decided, LinedFault}
use Rattle.card.specs.Grammar.{Written}
use Rattle.card.specs.Reading.{Due, Known, Step, on, no, admit, layer, accepted, refused, settled, run, opens, first_line, nothing, read_tokens, reading}
use Rattle.card.proofs.Compile.{compile_size, compile_fits, compile_root}
use Rattle.card.proofs.Complete.{known_of, accepted_if}
use Rattle.card.proofs.Lines.{accepted_only}
use Rattle.card.proofs.Unique.{one_reading}

short_reading : (bytes : List ℕ) → length bytes ≤ 4096 → reading bytes ≡ read_tokens (card_tokens bytes)
short_reading bytes h = ap (λ b. cond b (refused (token_report Long)) (read_tokens (card_tokens bytes))) (le-ltb 4096 (length bytes) h)

-- ---- an accepted card

record Accepted (bytes : List ℕ) (x : Known) : Type 0 where
  pub written : Written
  pub writes : Writes bytes written
  pub is : x ≡ known_of written
  pub only : (v : Written) → Writes bytes v → v ≡ written

accepted_card : (bytes : List ℕ) (x : Known) → reading bytes ≡ accepted x → Accepted bytes x
accepted_card bytes x e = go (ltb 4096 (length bytes)) refl e
  where
    go : (b : Bool) → ltb 4096 (length bytes) ≡ b → cond b (refused (token_report Long)) (read_tokens (card_tokens bytes)) ≡ accepted x → Accepted bytes x
    go true t f = let z : ◌≡◌ {A = ℕ} 0 1 = cc in absurd (omega arith)
    go false t f =
        let q = accepted_only (card_tokens bytes) x f in
        record {
          written = q.card;
          writes = record { short = ltb-false 4096 (length bytes) t; derives = q.are; within = q.within };
          is = q.is;
          only = λ v w. one_reading (card_tokens bytes) v q.card w.derives q.are;
        }

-- its nodes make a table
pub accepted_fits : (bytes : List ℕ) (x : Known) → accepted x ≡ reading bytes → TableFits x.sessions x.nodes
accepted_fits bytes x e =
    let a = accepted_card bytes x (sym e) in
    let w = a.written in
    let within = a.writes.within in
    subst (λ (y : Known). TableFits y.sessions y.nodes) (sym a.is)
    (compile_fits w.names w.sessions w.rule within.least within.most within.few within.small within.fits)

-- ---- a refused card

refused_card : (bytes : List ℕ) (r : Report) → reading bytes ≡ refused r → (w : Written) → Writes bytes w → ⊥
refused_card bytes r e w writes =
    let p : refused r ≡ accepted (known_of w) = sym e ∙ short_reading bytes writes.short ∙ accepted_if (card_tokens bytes) w writes.derives writes.within in
    let z : ◌≡◌ {A = ℕ} 0 1 = cc in omega arith

-- the line of a fault

abbrev OnItsLine : List ℕ → Report → Type 0
OnItsLine bytes r = (r ≡ token_report Long) ⊎ OnLine bytes r.at

bad_lined : (bytes : List ℕ) (f : TokenFault) → FaultOnLine bytes f → OnItsLine bytes (token_report f)
bad_lined bytes Long l = inl refl
bad_lined bytes (Byte p) l = inr l
bad_lined bytes (Run p) l = inr l

-- the report of an outcome, which is refused
same_report : (bytes : List ℕ) (q r : Report) → refused q ≡ refused r → OnItsLine bytes q → OnItsLine bytes r
same_report bytes q r e = let p : q ≡ r = cc in subst (OnItsLine bytes) p

run_lined : (bytes : List ℕ) (ts : Tokens) (ds : List Due) (vs : List ℕ) (room : ℕ) (x : Known) (r : Report) → Lined bytes ts → run ts ds vs room x ≡ refused r → OnItsLine bytes r
run_lined bytes (bad f) ds vs room x r l e = same_report bytes (token_report f) r e (bad_lined bytes f l)
run_lined bytes (over p) [] vs room x r l e = let z : ◌≡◌ {A = ℕ} 0 1 = cc in absurd (omega arith)
run_lined bytes (over p) (d ∷ ds) vs room x r l e = same_report bytes (record { number = 3; at = p; layer = layer d }) r e (inr l)
run_lined bytes (token p t ts) [] vs room x r l e = same_report bytes (record { number = 3; at = p; layer = Line }) r e (inr l.0)
run_lined bytes (token p t ts) (d ∷ ds) vs room x r l e = go (admit d ds vs room x t) e (λ es ws k y f. run_lined bytes ts es ws k y r l.1 f)
  where
    go : (s : Step) → settled p (run ts) s ≡ refused r → ((es : List Due) (ws : List ℕ) (k : ℕ) (y : Known) → run ts es ws k y ≡ refused r → OnItsLine bytes r) → OnItsLine bytes r
    go (on es ws k y) f h = h es ws k y f
    go (no n m) f h = same_report bytes (record { number = n; at = p; layer = m }) r f (inr l.0)

refused_lined : (bytes : List ℕ) (r : Report) → Lined bytes (card_tokens bytes) → reading bytes ≡ refused r → OnItsLine bytes r
refused_lined bytes r l e = go (ltb 4096 (length bytes)) e
  where
    go : (b : Bool) → cond b (refused (token_report Long)) (read_tokens (card_tokens bytes)) ≡ refused r → OnItsLine bytes r
    go true f = same_report bytes (token_report Long) r f (inl refl)
    go false f = run_lined bytes (card_tokens bytes) (opens first_line ∷ []) [] 12 nothing r l f

-- ---- what an answer that is the definition's says

pub decided : (bytes : List ℕ) (r : Result Card LineFault) → said r ≡ reading bytes → Decided bytes r
decided bytes (Ok c) e =
    let a = accepted_card bytes (card_known c) (sym e) in
    let w = a.written in (
      w,
      a.writes,
      record {
        sessions = ap (λ (y : Known). y.sessions) a.is;
        names = ap (λ (y : Known). y.names) a.is;
        rule = ap (λ (y : Known). root y.nodes) a.is ∙ compile_root w.names w.rule;
        nodes = ap (λ (y : Known). length y.nodes) a.is ∙ compile_size w.names 0 w.rule;
      },
      a.only,
    )
decided bytes (Err f) e = refused_card bytes (line_report f) (sym e)

pub fault_lined : (bytes : List ℕ) (r : Result Card LineFault) → said r ≡ reading bytes → LinedFault bytes r
fault_lined bytes (Ok c) e = tt
fault_lined bytes (Err f) e = refused_lined bytes (line_report f) (lined bytes) (sym e)
