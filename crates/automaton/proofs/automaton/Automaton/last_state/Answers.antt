use Rattle.std.proofs.Common.{rules, ◌≡◌, ℕ, ◌-◌, take, ap, ◌∙◌, refl, arith}
use Rattle.policy.specs.Sessions.{letters, sessions}
use Rattle.automaton.specs.Automata.{edges_of}
use Rattle.automaton.specs.Stepping.{shown_front}
use Rattle.automaton.specs.Testing.{accepts}
use Rattle.automaton.proofs.Folded.{folded}
use Rattle.automaton.proofs.automaton.Automaton.last_state.Goals as goal

pub returns : goal.returns
returns c = λ good.
    let a = c.args.self.now in
    let w = c.args.word.now in
    let f = c.try_fold.ensures.ran in
    let next = λ (q i : ℕ). shown_front a.places (edges_of a) (sessions w.places) i (take a.places (letters (sessions w.places) i)) q a.sound.1 refl in
    let whole : w.steps ≡ w.steps - 0 = omega arith in
    ap (λ d. accepts a.places (edges_of a) good (sessions w.places) d 0 0) whole
    ∙ folded _ _ a.places (edges_of a) good (sessions w.places) w.steps (λ q i r p l call. (search rules, search rules ∙ next q i))
    _ f.0 f.1 f.2 f.3 _ _ 0 _ c.len.ensures f.4 f.5 f.6
