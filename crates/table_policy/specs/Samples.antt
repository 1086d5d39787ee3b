-- Worked samples: a rule, a tuple of sessions, and whether the rule holds there.
use Rattle.std.specs.Prelude.{ℕ, Bool, true, false, List, [], ◌∷◌, MatchBool}
use Rattle.policy.specs.Sessions.{Tuple, IsTuple}
use Rattle.rule.specs.Meaning.{Holds, Breaks}
use Rattle.rule.specs.Rule.{Rule, truth, at, near, negation, next, until, always, weak}

pub record Sample : Type 0 where
  pub places : ℕ
  pub rule : Rule
  pub tuple : Tuple
  pub holds : Bool

-- the rule holds at the first step of the tuple's joined word, or the tuple breaks it, as is said
abbrev pub Right : Sample → Type 0
Right s = IsTuple s.places s.tuple × MatchBool s.holds (Holds s.tuple s.rule 0) (Breaks s.places s.rule s.tuple)

-- there is no second step
abbrev pub one_step : Rule
one_step = negation (next truth)

-- signal 0 is on until signal 1 is
abbrev pub x_until_y : Rule
x_until_y = until (at 0 0) (at 0 1)

-- two sessions differ in at most one of the signals 0 and 1
abbrev pub close_by : Rule
close_by = always (near 0 1 1 3)

-- two sessions agree on the signal 2 until they differ in the signal 0
abbrev pub same_feed : Rule
same_feed = weak (near 0 1 0 4) (negation (near 0 1 0 1))

abbrev pub samples : List Sample
samples =
    record { places = 1; rule = one_step; tuple = (0 ∷ []) ∷ []; holds = true }
    ∷ record { places = 1; rule = one_step; tuple = (0 ∷ 0 ∷ []) ∷ []; holds = false }
    ∷ record { places = 1; rule = x_until_y; tuple = (1 ∷ 1 ∷ 2 ∷ []) ∷ []; holds = true }
    ∷ record { places = 1; rule = x_until_y; tuple = (1 ∷ 1 ∷ []) ∷ []; holds = false }
    ∷ record { places = 1; rule = x_until_y; tuple = (2 ∷ []) ∷ []; holds = true }
    ∷ record { places = 2; rule = close_by; tuple = (0 ∷ []) ∷ (3 ∷ []) ∷ []; holds = false }
    ∷ record { places = 2; rule = close_by; tuple = (0 ∷ []) ∷ (1 ∷ 3 ∷ []) ∷ []; holds = true }
    ∷ record { places = 2; rule = same_feed; tuple = (1 ∷ 5 ∷ []) ∷ (1 ∷ 1 ∷ []) ∷ []; holds = false }
    ∷ record { places = 2; rule = same_feed; tuple = (1 ∷ 5 ∷ []) ∷ (1 ∷ 0 ∷ []) ∷ []; holds = true }
    ∷ []
