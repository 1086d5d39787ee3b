use Rattle.table_policy.proofs.Reached.{policy_of}
use Rattle.table_policy.proofs.table_policy.TablePolicy.new.Goals as goal

pub returns : goal.returns
returns c = policy_of _
