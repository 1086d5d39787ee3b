use Rattle.std.proofs.Common.{rules}
use Rattle.policy.proofs.Places.{sessions_at}
use Rattle.policy.proofs.tuple.all_sessions.Goals as goal

pub returns : goal.returns
returns c = search (rules, sessions_at c.args.tuple.now)
