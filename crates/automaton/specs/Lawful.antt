-- An automaton keeps the laws of a policy.
use Rattle.policy.specs.Policy.{Lawful}
use Rattle.automaton.specs.declared.automaton.Automaton.{Automaton}
use Rattle.automaton.specs.Automata.{automaton_means, edges_of}
use Rattle.automaton.specs.Judged.{automaton_lawful}

pub lawful : (a : Automaton) → Lawful (automaton_means a)
lawful a = automaton_lawful a.places (edges_of a) a.good a.signals a.seen a.sound.0 a.sound.1
