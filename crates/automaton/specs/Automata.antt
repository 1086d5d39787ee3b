-- An automaton as a policy.
use Rattle.std.specs.Prelude.{◌≡◌, ℕ, ◌↔◌, List}
use Rattle.fixed_vec.specs.Items.{items_of}
use Rattle.policy.specs.Policy.{Meaning, Judges}
use Rattle.policy.specs.Sessions.{Tuple, IsTuple}
use Rattle.policy.specs.Testing.{stands_test}
use Rattle.automaton.specs.declared.automaton.Automaton.{Automaton}
use Rattle.automaton.specs.declared.edge.Edge.{Edge}
use Rattle.automaton.specs.Runs.{AutomatonFits, Run, Breaks, Failed, StandsFor}
use Rattle.automaton.specs.Testing.{breaks_test}

abbrev pub edges_of : Automaton → List Edge
edges_of a = items_of a.edges

abbrev pub automaton_means : Automaton → Meaning
automaton_means a = record { arity = a.places; breaks = breaks_test a.places (edges_of a) a.good; stands = stands_test a.signals a.signals }

-- the automaton of k places and n states, of these good states and edges
pub record IsAutomaton (k n good : ℕ) (es : List Edge) (a : Automaton) : Type 0 where
  pub fits : AutomatonFits k n good es
  pub states_kept : a.states ≡ n
  pub good_kept : a.good ≡ good
  pub edges_kept : edges_of a ≡ es
  -- a tuple breaks it exactly where no run is accepted, and a session stands exactly as defined
  pub exact : Judges (automaton_means a) k (Breaks k es good) (StandsFor k es)
  -- that is exactly where a run fails
  pub failing : (xs : Tuple) → Breaks k es good xs ↔ (IsTuple k xs × Failed k es good xs)
  -- and there is at most one run over so many steps
  pub one_run : (xs : Tuple) (m : ℕ) (qs rs : List ℕ) → Run k es xs m qs → Run k es xs m rs → qs ≡ rs
