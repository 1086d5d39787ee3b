use Rattle.std.proofs.Common.{rules}
use Rattle.std.proofs.lemmas.Iterator.{YieldsList-from_slice}
use Rattle.std.proofs.lemmas.Iterator.Consumers.{YieldsList-from_copied}
use Rattle.policy.proofs.Places.{shorter, shortest_by_turns}
use Rattle.policy.proofs.joined_word.methods.first_to_end.Goals as goal

pub returns : goal.returns
returns c = shortest_by_turns _ (λ p q x t. shorter p.1 x q.1 (search (rules, t)) (search (rules, t))) c.args.tuple.now c.copied.result _ c.reduce.result c.reduce.ensures.ran (YieldsList-from_copied (YieldsList-from_slice c.args.tuple.now cc))
