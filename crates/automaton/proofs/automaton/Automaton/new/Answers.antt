use Rattle.std.proofs.Common.{rules, ◌≡◌, refl}
use Rattle.fixed_vec.specs.Items.{items_of}
use Rattle.std.proofs.lemmas.Bool.Decides.{not_from_Decides}
use Rattle.automaton.specs.Judged.{joined_only, kept_judges}
use Rattle.automaton.specs.Ranges.{range_fits, fits_range}
use Rattle.automaton.specs.Running.{breaks_by_failing, one_run}
use Rattle.automaton.proofs.automaton.Automaton.new.Goals as goal

pub returns-then-not-in_range-clause-made : goal.returns-then-not-in_range-clause-made
returns-then-not-in_range-clause-made c =
    λ fits. not_from_Decides c.in_range.result c.in_range.ensures c.if-not-in_range.true (fits_range c.args.places c.args.states c.args.good c.args.edges.now fits)

pub returns-clause-made : goal.returns-clause-made
returns-clause-made c =
    let k = c.args.places in
    let es = c.args.edges.now in
    let range = c.in_range.ensures.0 c.if-not-in_range.false in
    let held : items_of c.extend.new.self ≡ es = search rules in
    record {
      fits = range_fits k c.args.states c.args.good es range;
      states_kept = refl;
      good_kept = refl;
      edges_kept = held;
      exact = kept_judges k es (items_of c.extend.new.self) c.args.good c.signals_of-signals.result held c.signals_of-signals.ensures;
      failing = breaks_by_failing k es c.args.good;
      one_run = λ xs m qs rs. one_run k es xs m qs rs;
    }

pub returns-clause-joined : goal.returns-clause-joined
returns-clause-joined c = joined_only c.args.places (items_of c.extend.new.self) c.args.good
