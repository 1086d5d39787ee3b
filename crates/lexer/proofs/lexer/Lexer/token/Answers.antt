use Rattle.std.proofs.Common.{rules, arith, refl}
use Rattle.lexer.specs.declared.kind.Kind.TheVariants.{Letter, Digit}
use Rattle.lexer.proofs.Steps.{run_read}
use Rattle.lexer.proofs.lexer.Lexer.token.Goals as goal

pub returns-else-text-gt-MOST_LETTERS-clause-reads : goal.returns-else-text-gt-MOST_LETTERS-clause-reads
returns-else-text-gt-MOST_LETTERS-clause-reads c =
    let l = c.args.self.now in
    grind (arith, run_read l.card.now l.at Letter (search rules) (search rules) refl)

pub returns-in_ok-value-in-Digit-clause-reads : goal.returns-in_ok-value-in-Digit-clause-reads
returns-in_ok-value-in-Digit-clause-reads c =
    let l = c.args.self.now in
    grind (arith, run_read l.card.now l.at Digit (search rules) (search rules) refl)
