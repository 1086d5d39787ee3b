-- The laws of a policy, from those of the relations that its answers are.
use Rattle.std.proofs.Common.{ℕ, ◌<◌, ◌≤◌, [], length, get_or, set, sym, subst}
use Rattle.policy.specs.Policy.{Meaning, Lawful, Judges}
use Rattle.policy.specs.Sessions.{Session, IsSession, Tuple, IsTuple}

module _ {Breaks : Tuple → Type 0} {Stands : Session → Session → Type 0} (m : Meaning) (k : ℕ) (j : Judges m k Breaks Stands) where
  pub lawful_by : 1 ≤ k → k ≤ 4 → ((xs : Tuple) → Breaks xs → IsTuple k xs) → ((s t : Session) → Stands s t → IsSession s × IsSession t)
      → ((s : Session) → IsSession s → Stands s s) → ((r s t : Session) → Stands r s → Stands s t → Stands r t)
      → ((xs : Tuple) (v : ℕ) (s : Session) → v < length xs → Stands s (get_or xs v []) → Breaks xs → Breaks (set xs v s)) → Lawful m
  lawful_by some few tuples sessions itself chain swaps = record {
    some_place = subst (λ (x : ℕ). 1 ≤ x) (sym j.arity_is) some;
    few_places = subst (λ (x : ℕ). x ≤ 4) (sym j.arity_is) few;
    only_tuples = λ xs b. subst (λ (x : ℕ). IsTuple x xs) (sym j.arity_is) (tuples xs ((j.breaks_where xs).0 b));
    only_sessions = λ s t e. sessions s t ((j.stands_where s t).0 e);
    reflexive = λ s is. (j.stands_where s s).1 (itself s is);
    transitive = λ r s t e d. (j.stands_where r t).1 (chain r s t ((j.stands_where r s).0 e) ((j.stands_where s t).0 d));
    substitutes = λ xs v s l e b. (j.breaks_where (set xs v s)).1 (swaps xs v s l ((j.stands_where s (get_or xs v [])).0 e) ((j.breaks_where xs).0 b));
  }
