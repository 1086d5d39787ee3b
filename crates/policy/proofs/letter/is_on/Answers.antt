use Rattle.std.proofs.Common.{sym, ◌∙◌, arith}
use Rattle.std.proofs.lemmas.Bool.{ne_eqb, le-ltb}
use Rattle.policy.proofs.Digits.{on_below}
use Rattle.policy.proofs.letter.is_on.Goals as goal

pub returns-else-signal-lt-SIGNALS : goal.returns-else-signal-lt-SIGNALS
returns-else-signal-lt-SIGNALS c =
    le-ltb c.args.signal 32 c.if-signal-lt-SIGNALS.false
    ∙ sym (ne_eqb _ 1 (λ o. let l = on_below c.args.letter 32 c.ranges.letter.fits c.args.signal o in omega arith))
