-- Sessions, tuples and standing by tests, which the meaning of a policy is made of.
use Rattle.std.specs.Prelude.{ℕ, zero, suc, Bool, true, ◌&&◌, [], length, ◌==◌, bit_and, nat_le, slice_index, slice_index_or}
use Rattle.policy.specs.Sessions.{Letter, Session, Tuple}

abbrev pub all_below : ℕ → (ℕ → Bool) → Bool
all_below zero test = true
all_below (suc n) test = test n && all_below n test

abbrev pub session_test : Session → Bool
session_test s = nat_le 1 (length s) && nat_le (length s) 128

unfoldable pub tuple_test : ℕ → Tuple → Bool
tuple_test k xs = length xs == k && all_below k (λ v. session_test (slice_index_or xs v []))

-- each signal of the set S that is on in a is on in b
abbrev pub covers : ℕ → Letter → Letter → Bool
covers S a b = bit_and (bit_and S a) b == bit_and S a

unfoldable pub stands_test : ℕ → ℕ → Session → Session → Bool
stands_test P Q s t =
    session_test s && (session_test t && (length s == length t && all_below (length s) (λ i. covers P (slice_index s i) (slice_index t i) && covers Q (slice_index t i) (slice_index s i))))
