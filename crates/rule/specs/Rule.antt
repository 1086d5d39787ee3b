-- Rules. A rule speaks of the sessions of some places, counted from 0, step by step.
use Rattle.std.specs.Prelude.{ℕ}

-- `at v s`: signal s is on at place v. `near v w n S`: places v and w differ in at most n of the
-- signals of the set S, a number whose bit s says that signal s is in it.
pub data Rule : Type 0 where
  truth : Rule
  at : ℕ → ℕ → Rule
  near : ℕ → ℕ → ℕ → ℕ → Rule
  negation : Rule → Rule
  both : Rule → Rule → Rule
  either : Rule → Rule → Rule
  next : Rule → Rule
  until : Rule → Rule → Rule

-- the shorthands

abbrev pub iff : Rule → Rule → Rule
iff f g = either (both f g) (both (negation f) (negation g))

abbrev pub always : Rule → Rule
always f = negation (until truth (negation f))

abbrev pub weak : Rule → Rule → Rule
weak f g = negation (until (negation g) (both (negation f) (negation g)))
