use Rattle.std.proofs.Common.{rules, tests, bit_and, nat_eq, ◌∙◌}
use Rattle.std.proofs.lemmas.Iterator.{YieldsList-from_slice, YieldsList-from_zip}
use Rattle.std.proofs.lemmas.Iterator.Search.{all_from_yields_List}
use Rattle.automaton.specs.Stepping.{zip_fits}
use Rattle.automaton.proofs.edge.Edge.fits.Goals as goal

pub returns-then-self-state : goal.returns-then-self-state
returns-then-self-state c =
    all_from_yields_List (λ p. nat_eq (bit_and p.0 p.1.mask) p.1.value) c.all.new.self _ c.all.result c.all.ensures.ran
    (YieldsList-from_zip (YieldsList-from_slice c.args.letters.now cc) (YieldsList-from_slice c.args.self.now.guards cc)) (λ x b q k. search (rules, tests))
    ∙ zip_fits c.args.letters.now c.args.self.now c.args.state c.if-self-state.true
