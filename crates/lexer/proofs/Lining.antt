-- Each token has the line of its place.
use Rattle.std.proofs.Common.{◌≡◌, ℕ, ◌+◌, Bool, false, cond, eqb, List, [], ◌∷◌, ◌++◌, length, sym, refl, ap, ◌∙◌, subst, append_assoc, arith, length-append}
use Rattle.std.proofs.lemmas.List.{take_at}
use Rattle.std.proofs.lemmas.Bool.Decides.{nat_tests}
use Rattle.lexer.specs.declared.fault.Position.{Position}
use Rattle.lexer.specs.declared.kind.Kind.{Kind}
use Rattle.lexer.specs.Lines.{line_ends, OnLine, Lined}
use Rattle.lexer.specs.Tokens.{Tokens, kind, wordy, begins, put, line_after, after, tokens, start, card_tokens}

ends_push : (xs : List ℕ) (b : ℕ) → line_ends (xs ++ (b ∷ [])) ≡ line_ends xs + cond (eqb b 10) 1 0
ends_push [] b = omega arith
ends_push (x ∷ xs) b = let e = ends_push xs b in omega arith

-- a byte ends a line where it is a line end
line_after_byte : (b n : ℕ) → line_after (kind b) n ≡ n + cond (eqb b 10) 1 0
line_after_byte b n = grind (arith, nat_tests)

-- what a byte starts is at its position
put_lined : (card : List ℕ) (p : Position) (k : Kind) (on : Bool) (bs : List ℕ) (ts : Tokens) → OnLine card p → Lined card ts → Lined card (put p (begins k on p bs) ts)
put_lined card p k on bs ts a l = grind (arith, a, l)

here : (front bs : List ℕ) (p : Position) → p.place ≡ length front → p.line ≡ 1 + line_ends front → OnLine (front ++ bs) p
here front bs p e l = l ∙ ap (λ xs. 1 + line_ends xs) (sym (take_at front bs p.place (sym e)))

lined_after : (front bs : List ℕ) (on : Bool) (p : Position) → p.place ≡ length front → p.line ≡ 1 + line_ends front → Lined (front ++ bs) (tokens on p bs)
lined_after front [] on p e l = here front [] p e l
lined_after front (b ∷ bs) on p e l =
    let rest = lined_after (front ++ (b ∷ [])) bs (wordy (kind b)) (after (kind b) p) (omega (arith, length-append front (b ∷ []))) (line_after_byte b p.line ∙ omega (arith, ends_push front b)) in
    put_lined (front ++ (b ∷ bs)) p (kind b) on (b ∷ bs) (tokens (wordy (kind b)) (after (kind b) p) bs) (here front (b ∷ bs) p e l)
    (subst (λ xs. Lined xs (tokens (wordy (kind b)) (after (kind b) p) bs)) (append_assoc front (b ∷ []) bs) rest)

pub lined : (card : List ℕ) → Lined card (card_tokens card)
lined card = lined_after [] card false start refl refl
