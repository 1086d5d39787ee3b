-- The nodes that each form adds to a table. A shorthand is written out with its parts shared.
use Rattle.std.specs.Prelude.{ℕ, ◌+◌, List, [], ◌∷◌, slice_index}
use Rattle.rule.specs.declared.node.Node.{Node}
use Rattle.rule.specs.declared.node.Node.TheVariants as node
use Rattle.syntax.specs.declared.head.Binary.{Binary}
use Rattle.syntax.specs.declared.head.Binary.TheVariants.{And, Or, Until, Iff, Weak}
use Rattle.syntax.specs.declared.head.Head.{Head}
use Rattle.syntax.specs.declared.head.Head.TheVariants.{True, At, Near, One, Two}
use Rattle.syntax.specs.declared.head.Unary.{Unary}
use Rattle.syntax.specs.declared.head.Unary.TheVariants.{Not, Next, Always}

-- the nodes of a form over the node f, of which the first has the index n
abbrev pub one_nodes : Unary → ℕ → ℕ → List Node
one_nodes Not f n = node.Not f ∷ []
one_nodes Next f n = node.Next f ∷ []
one_nodes Always f n = node.True ∷ node.Not f ∷ node.Until n (n + 1) ∷ node.Not (n + 2) ∷ []

-- the same of a form over the nodes f and g
abbrev pub two_nodes : Binary → ℕ → ℕ → ℕ → List Node
two_nodes And f g n = node.And f g ∷ []
two_nodes Or f g n = node.Or f g ∷ []
two_nodes Until f g n = node.Until f g ∷ []
two_nodes Iff f g n = node.And f g ∷ node.Not f ∷ node.Not g ∷ node.And (n + 1) (n + 2) ∷ node.Or n (n + 3) ∷ []
two_nodes Weak f g n = node.Not f ∷ node.Not g ∷ node.And n (n + 1) ∷ node.Until (n + 1) (n + 2) ∷ node.Not (n + 3) ∷ []

-- how many values a form has: none, a place and a signal, two places with a limit and a set of
-- signals, one node, two nodes
abbrev pub arity : Head → ℕ
arity True = 0
arity At = 2
arity Near = 4
arity (One u) = 1
arity (Two b) = 2

-- the nodes of a form with these values, of which the last comes first
abbrev pub head_nodes : Head → List ℕ → ℕ → List Node
head_nodes True vs n = node.True ∷ []
head_nodes At vs n = node.At (slice_index vs 1) (slice_index vs 0) ∷ []
head_nodes Near vs n = node.Near (slice_index vs 3) (slice_index vs 2) (slice_index vs 1) (slice_index vs 0) ∷ []
head_nodes (One u) vs n = one_nodes u (slice_index vs 0) n
head_nodes (Two b) vs n = two_nodes b (slice_index vs 1) (slice_index vs 0) n
