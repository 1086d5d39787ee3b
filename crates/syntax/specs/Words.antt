-- The words that begin forms and lines.
use Rattle.std.specs.Prelude.{ℕ, Bool, cond, List, Some, None, codes, Option, bytes_eq}
use Rattle.syntax.specs.declared.head.Binary.TheVariants.{And, Or, Until, Iff, Weak}
use Rattle.syntax.specs.declared.head.Head.{Head}
use Rattle.syntax.specs.declared.head.Head.TheVariants.{True, At, Near, One, Two}
use Rattle.syntax.specs.declared.head.Topic.{Topic}
use Rattle.syntax.specs.declared.head.Topic.TheVariants.{Signal, Rule}
use Rattle.syntax.specs.declared.head.Unary.TheVariants.{Not, Next, Always}

-- whether two words have the same bytes
abbrev pub same : List ℕ → List ℕ → Bool
same = bytes_eq

-- the form that a word begins
abbrev pub head_of : List ℕ → Option Head
head_of w =
    cond (same w (codes "true")) (Some True)
    (cond (same w (codes "at")) (Some At)
    (cond (same w (codes "near")) (Some Near)
    (cond (same w (codes "not")) (Some (One Not))
    (cond (same w (codes "next")) (Some (One Next))
    (cond (same w (codes "always")) (Some (One Always))
    (cond (same w (codes "and")) (Some (Two And))
    (cond (same w (codes "or")) (Some (Two Or))
    (cond (same w (codes "until")) (Some (Two Until))
    (cond (same w (codes "iff")) (Some (Two Iff))
    (cond (same w (codes "weak")) (Some (Two Weak)) None))))))))))

-- what a line after the first is about, by its word
abbrev pub topic_of : List ℕ → Option Topic
topic_of w = cond (same w (codes "signal")) (Some Signal) (cond (same w (codes "rule")) (Some Rule) None)
