use Rattle.std.proofs.Common.{◌≡◌, ◌∙◌, rules, tests}
use Rattle.std.proofs.lemmas.Iterator.{YieldsList-from_slice}
use Rattle.std.proofs.lemmas.Iterator.Search.{position_from_yields_List}
use Rattle.syntax.specs.Signals.{signal_of}
use Rattle.syntax.specs.Named.{names_of}
use Rattle.syntax.proofs.Finding.{holds, position_is_signal}
use Rattle.syntax.proofs.names.Names.find.Goals as goal

pub returns-clause-value : goal.returns-clause-value
returns-clause-value c =
    let w = c.args.word.now in
    let found : c.position.result ≡ signal_of (names_of c.args.self.now) w =
    position_from_yields_List (holds w) _ _ c.position.result c.position.ensures.ran (YieldsList-from_slice _ cc) (λ x b q k. search (rules, tests))
    ∙ position_is_signal w _ in
    search rules
