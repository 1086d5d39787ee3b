-- How the tokens of a card go on from a position.
use Rattle.std.proofs.Common.{◌≡◌, ℕ, suc, ◌+◌, ◌<◌, ◌≤◌, true, false, List, [], ◌∷◌, length, get_or, drop, sym, ap, ◌∙◌, add-zero, arith, zero}
use Rattle.std.proofs.lemmas.List.{drop-drop}
use Rattle.std.proofs.lemmas.List.Sums.{take_while-cons}
use Rattle.lexer.specs.declared.fault.Position.{Position}
use Rattle.lexer.specs.declared.kind.Kind.{Kind}
use Rattle.lexer.specs.declared.kind.Kind.TheVariants.{Space}
use Rattle.lexer.specs.Tokens.{kind, wordy, run, begins, put, tokens}
use Rattle.lexer.specs.Places.{tokens_at}

-- n bytes further in the same line
abbrev pub forward : ℕ → Position → Position
forward n p = record { place = p.place + n; line = p.line }

here : (p : Position) (bs : List ℕ) → tokens false p bs ≡ tokens false (forward 0 p) bs
here p bs = ap (λ n. tokens false (record { place = n; line = p.line }) bs) (sym (add-zero p.place))

further : (p : Position) (n : ℕ) (bs : List ℕ) → tokens false (forward n (forward 1 p)) bs ≡ tokens false (forward (suc n) p) bs
further p n bs = ap (λ m. tokens false (record { place = m; line = p.line }) bs) (omega arith)

-- spaces are left behind
spaces_pass : (n : ℕ) (p : Position) (bs : List ℕ) → n ≤ length bs → ((i : ℕ) → i < n → kind (get_or bs i 0) ≡ Space) → tokens false p bs ≡ tokens false (forward n p) (drop n bs)
spaces_pass zero p bs l h = here p bs
spaces_pass (suc n) p [] l h = absurd (omega (arith, l))
spaces_pass (suc n) p (b ∷ bs) l h =
    let first : tokens false p (b ∷ bs) ≡ tokens false (forward 1 p) bs = grind (arith, h 0 (omega arith)) in
    first ∙ spaces_pass n (forward 1 p) bs (omega (arith, l)) (λ i k. h (suc i) (omega (arith, k))) ∙ further p n (drop n bs)

pub after_spaces : (card : List ℕ) (p : Position) (n : ℕ) → n ≤ length (drop p.place card) → ((i : ℕ) → i < n → kind (get_or (drop p.place card) i 0) ≡ Space) → tokens_at card (forward n p) ≡ tokens_at card p
after_spaces card p n l h =
    sym (spaces_pass n p (drop p.place card) l h ∙ ap (tokens false (forward n p)) (drop-drop n p.place card))

-- a run that goes on is left behind
run_passes : (p : Position) (bs : List ℕ) → tokens true p bs ≡ tokens false (forward (length (run bs)) p) (drop (length (run bs)) bs)
run_passes p [] = here p []
run_passes p (b ∷ bs) =
    grind (arith, take_while-cons (λ c. wordy (kind c)) b bs, run_passes (forward 1 p) bs ∙ further p (length (run bs)) (drop (length (run bs)) bs), here p (b ∷ bs))

-- a run is read at p, and the tokens after it are those at its end
pub run_read : (card : List ℕ) (p : Position) (k : Kind) → 0 < length (drop p.place card) → k ≡ kind (get_or (drop p.place card) 0 0) → wordy k ≡ true → tokens_at card p ≡ put p (begins k false p (drop p.place card)) (tokens_at card (forward (length (run (drop p.place card))) p))
run_read card p k h e w =
    let xs = drop p.place card in
    first xs h e ∙ ap (λ ys. put p (begins k false p xs) (tokens false (forward (length (run xs)) p) ys)) (drop-drop (length (run xs)) p.place card)
  where
    first : (xs : List ℕ) → 0 < length xs → k ≡ kind (get_or xs 0 0) → tokens false p xs ≡ put p (begins k false p xs) (tokens false (forward (length (run xs)) p) (drop (length (run xs)) xs))
    first [] h e = absurd (omega (arith, h))
    first (b ∷ bs) h e = grind (arith, e, w, run_passes p (b ∷ bs))
