use Rattle.std.proofs.Common.{rules}
use Rattle.std.proofs.iter.runs.Made.{chains}
use Rattle.lexer.proofs.Steps.{after_spaces}
use Rattle.lexer.proofs.lexer.Lexer.skip_spaces.Goals as goal

pub returns-clause-same : goal.returns-clause-same
returns-clause-same c =
    after_spaces c.args.self.now.card.now c.args.self.now.at c.unwrap_or.result (search (rules, chains)) (search (rules, chains))
