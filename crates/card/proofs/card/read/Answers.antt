use Rattle.std.proofs.Common.{rules, Ok}
use Rattle.card.specs.Holding.{drafted}
use Rattle.card.proofs.Main.{accepted_fits, decided, fault_lined}
use Rattle.card.proofs.card.read.Goals as goal

pub returns-in_err-draft-clause-grammar : goal.returns-in_err-draft-clause-grammar
returns-in_err-draft-clause-grammar c = decided _ _ (search rules)

pub returns-in_err-draft-clause-lines : goal.returns-in_err-draft-clause-lines
returns-in_err-draft-clause-lines c = fault_lined _ _ (search rules)

pub unwrap-table-requires : goal.unwrap-table-requires
unwrap-table-requires c = let fits = accepted_fits c.args.card.now (drafted c.in_ok-draft.draft) c.in_ok-draft.ensures in search rules

pub returns-clause-grammar : goal.returns-clause-grammar
returns-clause-grammar c = decided c.args.card.now (Ok (record { names = c.in_ok-draft.draft.names; table = c.unwrap-table.result })) (search rules)
