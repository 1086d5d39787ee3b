use Rattle.std.proofs.Common.{◌≡◌, ℕ, List, [], ◌∷◌, ◌++◌, length, codes, refl}
use Rattle.lexer.specs.declared.fault.Layer.TheVariants.{Form, Line}
use Rattle.card.specs.Reading.{reading, Outcome, accepted, refused, faulty}

abbrev count : Outcome → List ℕ
count (accepted x) = x.sessions ∷ length x.names ∷ length x.nodes ∷ []
count (refused r) = []

good : count (reading (codes "(sessions 2)" ++ (10 ∷ codes "(signal tariff)") ++ (10 ∷ codes "(signal load)") ++ (10 ∷ codes "(signal feed)") ++ (10 ∷ codes "(rule (weak (near 1 2 0 feed) (not (near 1 2 0 tariff))))") ++ (10 ∷ []))) ≡ 2 ∷ 3 ∷ 8 ∷ []
good = refl

nine : reading (codes "(sessions 9)") ≡ faulty 6 (record { place = 10; line = 1 }) Line
nine = refl

unknown : reading (codes "(sessions 1)" ++ (10 ∷ codes "(rule (at 1 ab))") ++ (10 ∷ [])) ≡ faulty 5 (record { place = 25; line = 2 }) Form
unknown = refl

deep : reading (codes "(sessions 1)" ++ (10 ∷ codes "(rule (not (not (not (not (not (not (not (not (not (not (not (")) ≡ faulty 4 (record { place = 74; line = 2 }) Form
deep = refl
