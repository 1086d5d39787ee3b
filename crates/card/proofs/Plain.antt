-- The reading of tokens with no regard to their positions.
use Rattle.std.proofs.Common.{◌≡◌, ℕ, List, [], ◌∷◌, Some, None, Option, sym, refl, ap, ◌∙◌, subst, arith}
use Rattle.lexer.specs.Tokens.{Lexeme, Tokens, token, over, bad}
use Rattle.card.specs.Grammar.{Are}
use Rattle.card.specs.Reading.{Due, Known, Step, on, no, admit, accepted, settled, run}

-- the reading goes on with what a token leads to
abbrev pub went : (List Due → List ℕ → ℕ → Known → Option Known) → Step → Option Known
went k (on ds vs room x) = k ds vs room x
went k (no n l) = None

-- what is known at the end, if the tokens are accepted
abbrev pub accepts : List Lexeme → List Due → List ℕ → ℕ → Known → Option Known
accepts [] [] vs room x = Some x
accepts [] (d ∷ ds) vs room x = None
accepts (t ∷ ts) [] vs room x = None
accepts (t ∷ ts) (d ∷ ds) vs room x = went (accepts ts) (admit d ds vs room x t)

-- what is accepted so is accepted with positions
pub placed : (ts : Tokens) (us : List Lexeme) (ds : List Due) (vs : List ℕ) (room : ℕ) (x y : Known) → Are ts us → accepts us ds vs room x ≡ Some y → run ts ds vs room x ≡ accepted y
placed (token p t ts) [] ds vs room x y a e = absurd a
placed (token p t ts) (u ∷ us) [] vs room x y a e = let z : ◌≡◌ {A = ℕ} 0 1 = cc in absurd (omega arith)
placed (token p t ts) (u ∷ us) (d ∷ ds) vs room x y a e =
    go (admit d ds vs room x t) (subst (λ v. went (accepts us) (admit d ds vs room x v) ≡ Some y) (sym a.0) e) (λ es ws r z f. placed ts us es ws r z y a.1 f)
  where
    go : (s : Step) → went (accepts us) s ≡ Some y → ((es : List Due) (ws : List ℕ) (r : ℕ) (z : Known) → accepts us es ws r z ≡ Some y → run ts es ws r z ≡ accepted y) → settled p (run ts) s ≡ accepted y
    go (on es ws r z) f k = k es ws r z f
    go (no n l) f k = let z : ◌≡◌ {A = ℕ} 0 1 = cc in absurd (omega arith)
placed (over p) [] [] vs room x y a e = let q : x ≡ y = cc in ap accepted q
placed (over p) [] (d ∷ ds) vs room x y a e = let z : ◌≡◌ {A = ℕ} 0 1 = cc in absurd (omega arith)
placed (over p) (u ∷ us) ds vs room x y a e = absurd a
placed (bad f) us ds vs room x y a e = absurd a

-- and the other way round
pub record Unplaced (ts : Tokens) (ds : List Due) (vs : List ℕ) (room : ℕ) (x y : Known) : Type 0 where
  pub us : List Lexeme
  pub are : Are ts us
  pub same : accepts us ds vs room x ≡ Some y

pub unplaced : (ts : Tokens) (ds : List Due) (vs : List ℕ) (room : ℕ) (x y : Known) → run ts ds vs room x ≡ accepted y → Unplaced ts ds vs room x y
unplaced (token p t ts) [] vs room x y e = let z : ◌≡◌ {A = ℕ} 0 1 = cc in absurd (omega arith)
unplaced (token p t ts) (d ∷ ds) vs room x y e = go (admit d ds vs room x t) refl e (λ es ws r z f. unplaced ts es ws r z y f)
  where
    go : (s : Step) → admit d ds vs room x t ≡ s → settled p (run ts) s ≡ accepted y → ((es : List Due) (ws : List ℕ) (r : ℕ) (z : Known) → run ts es ws r z ≡ accepted y → Unplaced ts es ws r z y) → Unplaced (token p t ts) (d ∷ ds) vs room x y
    go (on es ws r z) h f k =
        let q = k es ws r z f in
        record { us = t ∷ q.us; are = (refl, q.are); same = ap (went (accepts q.us)) h ∙ q.same }
    go (no n l) h f k = let z : ◌≡◌ {A = ℕ} 0 1 = cc in absurd (omega arith)
unplaced (over p) [] vs room x y e = let q : x ≡ y = cc in record { us = []; are = tt; same = ap Some q }
unplaced (over p) (d ∷ ds) vs room x y e = let z : ◌≡◌ {A = ℕ} 0 1 = cc in absurd (omega arith)
unplaced (bad f) ds vs room x y e = let z : ◌≡◌ {A = ℕ} 0 1 = cc in absurd (omega arith)
