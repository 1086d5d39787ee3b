-- What an automaton is made of is in range.
use Rattle.std.specs.Prelude.{◌≡◌, ℕ, ◌+◌, ◌/◌, ◌%◌, ◌^◌, ◌<◌, List}
use Rattle.std.proofs.Common.{⊎_elim, sym, ap, ◌∙◌, pow_pos, shr-shr, div-lt_iff_lt-mul, one-mul, arith}
use Rattle.std.proofs.lemmas.Bool.{cases_eq}
use Rattle.std.proofs.lemmas.Nat.Bits.{bit_at-lt, bit_at-zero, same_from_bits}
use Rattle.policy.proofs.Digits.{digit, on_below}
use Rattle.policy.specs.Sessions.{On}
use Rattle.automaton.specs.declared.edge.Edge.{Edge}
use Rattle.automaton.specs.Runs.{AutomatonFits}
use Rattle.automaton.specs.Testing.{InRange}

-- ---- the bits of a number below a power of 2

below_from_bits : (a n : ℕ) → ((q : ℕ) → On a q → q < n) → a < 2 ^ n
below_from_bits a n h =
    let off : (x : ℕ) → digit (a / 2 ^ n) x ≡ 0 = λ x.
    ⊎_elim
    (λ o. let lt = h (n + x) (sym (ap (λ (y : ℕ). y % 2) (shr-shr a n x)) ∙ o) in omega arith)
    (λ ne. omega (arith, bit_at-lt (a / 2 ^ n) x))
    (cases_eq (digit (a / 2 ^ n) x) 1) in
    let z : a / 2 ^ n ≡ 0 = same_from_bits (a / 2 ^ n) 0 (λ x. off x ∙ sym (bit_at-zero x)) in
    let small : a / 2 ^ n < 1 = omega arith in
    rw (← one-mul (2 ^ n)) ((div-lt_iff_lt-mul (pow_pos n)).0 small)

pub range_fits : (k n good : ℕ) (es : List Edge) → InRange k n good es → AutomatonFits k n good es
range_fits k n good es r = record {
  some_place = r.0;
  few_places = r.1;
  some_state = r.2;
  few_states = r.3;
  good_states = on_below good n r.4;
  few_edges = r.5;
  from_states = λ j l. (r.6 j l).0;
  to_states = λ j l. (r.6 j l).1;
}

pub fits_range : (k n good : ℕ) (es : List Edge) → AutomatonFits k n good es → InRange k n good es
fits_range k n good es f =
    (f.some_place, f.few_places, f.some_state, f.few_states, below_from_bits good n f.good_states, f.few_edges, λ j l. (f.from_states j l, f.to_states j l))
