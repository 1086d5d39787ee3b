-- Two policies as one.
use Rattle.std.specs.Prelude.{◌≡◌, ℕ, ◌&&◌, ◌||◌, length, ◌==◌}
use Rattle.policy.specs.declared.pair.Pair.{Pair}
use Rattle.policy.specs.declared.pair.UnlikePlaces.{UnlikePlaces}
use Rattle.policy.specs.declared.policy.Policy as policy
use Rattle.policy.specs.Policy.{Meaning}
use Rattle.policy.specs.Sessions.{Session, Tuple}

-- A tuple breaks the two where it breaks one, and a session stands where it does under both. What
-- has not as many sessions as the first has places breaks nothing, so the laws hold of any two
-- policies; where both have as many places the test adds nothing.
abbrev pub both : Meaning → Meaning → Meaning
both a b = record {
  arity = a.arity;
  breaks = λ xs. (length xs == a.arity) && (a.breaks xs || b.breaks xs);
  stands = λ s t. a.stands s t && b.stands s t;
}

-- the refusal of two policies with different numbers of places
abbrev pub unlike_number : ℕ
unlike_number = 9

module _ {A B : Type 0} (p : policy.Ghosts A) (q : policy.Ghosts B) where
  abbrev pub pair_means : Pair A B → Meaning
  pair_means r = both (p.meaning r.first) (q.meaning r.second)

  -- the pair of a and b, which have the same number of places
  pub record Paired (a : A) (b : B) (r : Pair A B) : Type 0 where
    pub first_kept : r.first ≡ a
    pub second_kept : r.second ≡ b
    pub alike : (p.meaning a).arity ≡ (q.meaning b).arity
    pub arity_is : (pair_means r).arity ≡ (p.meaning a).arity
    pub breaks_either : (xs : Tuple) → (pair_means r).breaks xs ≡ ((p.meaning a).breaks xs || (q.meaning b).breaks xs)
    pub stands_both : (s t : Session) → (pair_means r).stands s t ≡ ((p.meaning a).stands s t && (q.meaning b).stands s t)

  -- a and b have not, and both come back
  pub record Unlike (a : A) (b : B) (e : UnlikePlaces A B) : Type 0 where
    pub first_kept : e.first ≡ a
    pub second_kept : e.second ≡ b
    pub unlike : (p.meaning a).arity ≡ (q.meaning b).arity → ⊥
