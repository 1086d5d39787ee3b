use Rattle.automaton.specs.Automata.{edges_of}
use Rattle.automaton.specs.Judged.{told_standing}
use Rattle.automaton.proofs.automaton.methods.AutomatonPolicy.stands_for.Goals as goal

pub returns : goal.returns
returns c =
    let self = c.args.self.now in
    told_standing self.places (edges_of self) self.signals _ _ c.args.s.now c.args.t.now c.stands_for.result self.seen (cc) (cc) c.stands_for.ensures
