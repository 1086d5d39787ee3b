-- Inner: what the engine holds on the way. No public contract cites it.
use Rattle.std.specs.Prelude.{◌≡◌, ℕ, suc, ◌-◌, ◌<◌, Bool, true, false, List, length, slice_index_or}
use Rattle.policy.specs.declared.signals.Signals.{Signals}
use Rattle.policy.specs.Sessions.{Letter, Tuple, letters}
use Rattle.rule.specs.declared.node.Node.{Node}
use Rattle.rule.specs.Nodes.{node_rule}
use Rattle.rule.specs.Rule.{Rule, truth}
use Rattle.table_policy.specs.Evaluating.{eval}
use Rattle.table_policy.specs.Masks.{mask}

-- the first n values of a row are those of the rules where d of the m steps are left
abbrev pub RowIs : Tuple → ℕ → List Rule → List Bool → ℕ → ℕ → Type 0
RowIs xs m rs row d n = (c : ℕ) → c < n → slice_index_or row c false ≡ eval xs m (slice_index_or rs c truth) d

-- v is the value of a node at an index, where the row holds those of the nodes before it at a step,
-- and the later row those of the nodes up to it at the next
abbrev pub ValueIs : List Letter → List Bool → List Bool → ℕ → Node → Bool → Type 0
ValueIs ls row later j n v =
    (xs : Tuple) (m d : ℕ) (rs : List Rule) → ls ≡ letters xs (m - suc d) → RowIs xs m rs row (suc d) j → RowIs xs m rs later d j
    → slice_index_or later j false ≡ eval xs m (node_rule rs n) d → v ≡ eval xs m (node_rule rs n) (suc d)

-- the signals that a rule reads
abbrev pub signals_read : Rule → Signals
signals_read f = record { upright = mask true f; inverted = mask false f }

-- the signals are those that the first rules read
abbrev pub Reads : List Rule → List Signals → Type 0
Reads rs xs = (c : ℕ) → c < length xs → slice_index_or xs c (signals_read truth) ≡ signals_read (slice_index_or rs c truth)
