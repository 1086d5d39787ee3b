-- The truth of a rule as a test, from the last step back. `Judged` says that it is the meaning.
use Rattle.std.specs.Prelude.{ℕ, zero, suc, ◌-◌, Bool, true, false, not, ◌&&◌, ◌||◌, nat_le}
use Rattle.policy.specs.Sessions.{Tuple, on, letter, shortest}
use Rattle.policy.specs.Testing.{tuple_test}
use Rattle.rule.specs.Meaning.{differing}
use Rattle.rule.specs.Rule.{Rule, truth, at, near, negation, both, either, next, until}

-- `until`, from the truth of its parts at each number of steps that are left
unfoldable pub until_back : (ℕ → Bool) → (ℕ → Bool) → ℕ → Bool
until_back f g zero = false
until_back f g (suc d) = g (suc d) || (f (suc d) && until_back f g d)

-- the truth of a rule where d of the m steps are left, at the step m - d; past the last nothing holds
abbrev pub eval : Tuple → ℕ → Rule → ℕ → Bool
eval xs m truth zero = false
eval xs m truth (suc d) = true
eval xs m (at v s) zero = false
eval xs m (at v s) (suc d) = on (letter xs v (m - suc d)) s
eval xs m (near v w n S) zero = false
eval xs m (near v w n S) (suc d) = nat_le (differing S (letter xs v (m - suc d)) (letter xs w (m - suc d))) n
eval xs m (negation f) zero = false
eval xs m (negation f) (suc d) = not (eval xs m f (suc d))
eval xs m (both f g) zero = false
eval xs m (both f g) (suc d) = eval xs m f (suc d) && eval xs m g (suc d)
eval xs m (either f g) zero = false
eval xs m (either f g) (suc d) = eval xs m f (suc d) || eval xs m g (suc d)
eval xs m (next f) zero = false
eval xs m (next f) (suc d) = eval xs m f d
eval xs m (until f g) d = until_back (eval xs m f) (eval xs m g) d

-- a tuple of k sessions, and the rule is not true at its first step
unfoldable pub breaks_test : ℕ → Rule → Tuple → Bool
breaks_test k f xs = tuple_test k xs && not (eval xs (shortest xs) f (shortest xs))
