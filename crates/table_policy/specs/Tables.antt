-- A table as a policy.
use Rattle.std.specs.Prelude.{◌≡◌, ℕ, ◌<◌, true, false, ◌↔◌}
use Rattle.policy.specs.Policy.{Meaning, Judges}
use Rattle.policy.specs.Sessions.{On, Tuple, IsTuple, letter, shortest}
use Rattle.policy.specs.Testing.{stands_test}
use Rattle.rule.specs.declared.table.Table.{Table}
use Rattle.rule.specs.Meaning.{Breaks}
use Rattle.rule.specs.Rule.{Rule}
use Rattle.rule.specs.Standing.{StandsFor}
use Rattle.rule.specs.Tables.{nodes_of, rule_of}
use Rattle.rule.specs.Ways.{Reached}
use Rattle.table_policy.specs.declared.table_policy.TablePolicy.{TablePolicy}
use Rattle.table_policy.specs.Evaluating.{breaks_test}
use Rattle.table_policy.specs.Masks.{mask}

abbrev pub rule_means : ℕ → Rule → Meaning
rule_means k f = record { arity = k; breaks = breaks_test k f; stands = stands_test (mask true f) (mask false f) }

abbrev pub table_means : TablePolicy → Meaning
table_means p = rule_means p.table.places (rule_of p.table)

-- the policy of a table
pub record IsPolicyOf (t : Table) (p : TablePolicy) : Type 0 where
  pub table_kept : p.table ≡ t
  -- a tuple breaks it exactly where the rule does not hold, and a session stands exactly as defined
  pub exact : Judges (table_means p) t.places (Breaks t.places (rule_of t)) (StandsFor (rule_of t))
  -- its sets are the signals of the nodes on the ways from the rule down
  pub upright_reached : (s : ℕ) → On p.signals.upright s ↔ Reached true (nodes_of t) s
  pub inverted_reached : (s : ℕ) → On p.signals.inverted s ↔ Reached false (nodes_of t) s
  -- tuples with the same joined word are judged alike, whatever follows it
  pub joined_only : (xs ys : Tuple) → IsTuple t.places xs → IsTuple t.places ys → shortest xs ≡ shortest ys → ((v i : ℕ) → i < shortest xs → letter xs v i ≡ letter ys v i) → (table_means p).breaks xs ≡ (table_means p).breaks ys
