-- The signals that a rule reads, as a number.
use Rattle.std.specs.Prelude.{ℕ, ◌^◌, Bool, true, false, not, bit_or}
use Rattle.rule.specs.Rule.{Rule, truth, at, near, negation, both, either, next, until}

-- the set of the signals that a rule reads upright (true) or inverted (false)
abbrev pub mask : Bool → Rule → ℕ
mask p truth = 0
mask true (at v t) = 2 ^ t
mask false (at v t) = 0
mask p (near v w n S) = S
mask p (negation f) = mask (not p) f
mask p (both f g) = bit_or (mask p f) (mask p g)
mask p (either f g) = bit_or (mask p f) (mask p g)
mask p (next f) = mask p f
mask p (until f g) = bit_or (mask p f) (mask p g)
