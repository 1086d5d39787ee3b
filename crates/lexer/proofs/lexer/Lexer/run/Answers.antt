use Rattle.std.proofs.Common.{take, rules, sym, ap, ◌∙◌}
use Rattle.std.proofs.iter.runs.Made.{chains}
use Rattle.std.proofs.lemmas.List.Sums.{prefix_len_is}
use Rattle.lexer.specs.Tokens.{kind, wordy, run}
use Rattle.lexer.proofs.lexer.Lexer.run.Goals as goal

pub returns-clause-bytes : goal.returns-clause-bytes
returns-clause-bytes c =
    let bs = c.rest-rest.result.now in
    let end = prefix_len_is (λ b. wordy (kind b)) bs c.unwrap_or.result 0 (search (rules, chains)) (search (rules, chains)) (search (rules, chains)) in
    ap (λ n. take n bs) (sym end) ∙ ap run c.rest-rest.ensures.bytes
