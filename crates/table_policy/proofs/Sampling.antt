-- What is said of the worked samples is what the meaning of rules gives, by one test.
use Rattle.std.proofs.Common.{◌≡◌, Bool, true, false, not, ◌&&◌, leb, List, [], ◌∷◌, Decides, MatchBool, sym, refl, ◌∙◌}
use Rattle.std.specs.List.{AllByRecursion}
use Rattle.std.proofs.lemmas.Bool.{and_parts, leb-true, false≢true}
use Rattle.policy.proofs.Tested.{tuple_decides}
use Rattle.policy.proofs.Tuples.{steps_between}
use Rattle.policy.specs.Sessions.{apart, counted, shortest}
use Rattle.policy.specs.Testing.{tuple_test}
use Rattle.table_policy.specs.Evaluating.{eval, until_back}
use Rattle.table_policy.specs.Samples.{Sample, Right, samples}
use Rattle.table_policy.specs.Deciding.{eval_holds}

abbrev value : Sample → Bool
value s = eval s.tuple (shortest s.tuple) s.rule (shortest s.tuple)

abbrev right_test : Sample → Bool
right_test s = leb 1 s.places && (tuple_test s.places s.tuple && not (apart (value s) s.holds))

abbrev all_right_test : List Sample → Bool
all_right_test [] = true
all_right_test (s ∷ ss) = right_test s && all_right_test ss

same : (a b : Bool) → not (apart a b) ≡ true → a ≡ b
same true true e = refl
same true false e = absurd (false≢true e)
same false true e = absurd (false≢true e)
same false false e = refl

decided : {P Q : Type 0} (a b : Bool) → Decides a P → ((P → ⊥) → Q) → a ≡ b → MatchBool b P Q
decided a true d q e = d.0 e
decided a false d q e = q (λ p. false≢true (sym e ∙ d.1 p))

right : (s : Sample) → right_test s ≡ true → Right s
right s e =
    let p = and_parts _ _ e in
    let q = and_parts _ _ p.1 in
    let is = (tuple_decides s.places s.tuple).0 q.0 in
    let some = (steps_between s.places s.tuple (leb-true _ _ p.0) is).0 in
    (is, decided (value s) s.holds (eval_holds s.tuple s.rule some) (λ n. (is, n)) (same (value s) s.holds q.1))

each_right : (ss : List Sample) → all_right_test ss ≡ true → AllByRecursion Right ss
each_right [] e = tt
each_right (s ∷ ss) e = let p = and_parts _ _ e in (right s p.0, each_right ss p.1)

passed : all_right_test samples ≡ true
unfolding tuple_test until_back counted
passed = refl

pub samples_right : AllByRecursion Right samples
samples_right = each_right samples passed
