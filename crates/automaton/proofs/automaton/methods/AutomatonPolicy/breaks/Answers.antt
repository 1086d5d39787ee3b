use Rattle.std.proofs.Common.{◌≤◌, length, ◌∙◌, arith}
use Rattle.std.proofs.lemmas.List.{length-map}
use Rattle.policy.proofs.Places.{word_letters}
use Rattle.policy.specs.Sessions.{sessions}
use Rattle.automaton.specs.Automata.{edges_of}
use Rattle.automaton.specs.Judged.{told, no_tuple, by_word}
use Rattle.automaton.proofs.automaton.methods.AutomatonPolicy.breaks.Goals as goal

pub returns-then-is_tuple : goal.returns-then-is_tuple
returns-then-is_tuple c =
    let a = c.args.self.now in
    let xs = sessions c.args.tuple.now in
    let w = c.new.result in
    let is = c.is_tuple.ensures.0 c.if-is_tuple.true in
    let few : length xs ≤ 4 = omega (arith, is.0, a.sound.1) in
    told a.places (edges_of a) a.good xs _
    (by_word a.places (edges_of a) a.good xs (sessions w.places) w.steps c.accepts.result is c.new.ensures.steps
    (word_letters xs (sessions w.places) few (length-map w.places _ ∙ c.new.ensures.four) c.new.ensures.each) c.accepts.ensures)

pub returns-else-is_tuple-clause-same : goal.returns-else-is_tuple-clause-same
returns-else-is_tuple-clause-same c =
    let a = c.args.self.now in
    c.if-is_tuple.false ∙ no_tuple a.places (edges_of a) a.good (sessions c.args.tuple.now) c.is_tuple.result c.is_tuple.ensures c.if-is_tuple.false
