-- What the tests of sessions and tuples tell.
use Rattle.std.proofs.Common.{◌≡◌, ℕ, ◌<◌, ◌≤◌, Bool, true, ◌&&◌, leb, [], length, get_or, Decides, refl, subst}
use Rattle.std.proofs.lemmas.Bool.{leb-true, le-leb}
use Rattle.std.proofs.lemmas.Bool.Decides.{Decides-and, Decides-eqb, Decides-like, Decides-below_and}
use Rattle.policy.specs.Sessions.{On, Session, Tuple, IsSession, IsTuple}
use Rattle.policy.specs.Standing.{StandsBy}
use Rattle.policy.specs.Testing.{all_below, session_test, tuple_test, covers, stands_test}
use Rattle.policy.proofs.Digits.{covers_decides}

pub leb_decides : (a b : ℕ) → Decides (leb a b) (a ≤ b)
leb_decides a b = (leb-true a b, le-leb a b)

-- a test of each number below n
pub below_decides : (test : ℕ → Bool) (P : ℕ → Type 0) → ((i : ℕ) → Decides (test i) (P i)) → (n : ℕ) → Decides (all_below n test) ((i : ℕ) → i < n → P i)
below_decides test P each n = Decides-below_and test P (λ n. all_below n test) each refl (λ _. refl) n

pub session_decides : (s : Session) → Decides (session_test s) (IsSession s)
session_decides s = Decides-and _ _ (leb_decides 1 (length s)) (leb_decides (length s) 128)

pub tuple_decides : (k : ℕ) (xs : Tuple) → Decides (tuple_test k xs) (IsTuple k xs)
unfolding tuple_test
tuple_decides k xs = Decides-and _ _ (Decides-eqb (length xs) k) (below_decides (λ v. session_test (get_or xs v [])) (λ v. IsSession (get_or xs v [])) (λ v. session_decides (get_or xs v [])) k)

-- what two sets of signals carry over at a step
abbrev pub Carried : ℕ → ℕ → Session → Session → ℕ → Type 0
Carried P Q s t i = ((x : ℕ) → On P x → On (get_or s i 0) x → On (get_or t i 0) x) × ((x : ℕ) → On Q x → On (get_or t i 0) x → On (get_or s i 0) x)

pub carried_decides : (P Q : ℕ) (s t : Session) (i : ℕ) → Decides (covers P (get_or s i 0) (get_or t i 0) && covers Q (get_or t i 0) (get_or s i 0)) (Carried P Q s t i)
carried_decides P Q s t i = Decides-and _ _ (covers_decides P (get_or s i 0) (get_or t i 0)) (covers_decides Q (get_or t i 0) (get_or s i 0))

pub stands_decides : (P Q : ℕ) (s t : Session) → Decides (stands_test P Q s t) (StandsBy P Q s t)
unfolding stands_test
stands_decides P Q s t =
    Decides-like _
    (λ h. record { from = h.0; to = h.1.0; equally_long = h.1.1.0; upright = λ i l. (h.1.1.1 i l).0; inverted = λ i l. (h.1.1.1 i l).1 })
    (λ h. (h.from, (h.to, (h.equally_long, λ i l. (h.upright i l, h.inverted i l)))))
    (Decides-and _ _ (session_decides s) (Decides-and _ _ (session_decides t) (Decides-and _ _ (Decides-eqb (length s) (length t))
    (below_decides _ (Carried P Q s t) (λ i. carried_decides P Q s t i) (length s)))))

-- equally long sessions stand by what is carried over at each step
pub stands_throughout : (P Q : ℕ) (s t : Session) (r : Bool) → length s ≡ length t → IsSession s
    → Decides r ((i : ℕ) → i < length s → (covers P (get_or s i 0) (get_or t i 0) && covers Q (get_or t i 0) (get_or s i 0)) ≡ true) → Decides r (StandsBy P Q s t)
stands_throughout P Q s t r e is =
    Decides-like r
    (λ h. record {
      from = is;
      to = subst (λ (n : ℕ). (1 ≤ n) × (n ≤ 128)) e is;
      equally_long = e;
      upright = λ i l. ((carried_decides P Q s t i).0 (h i l)).0;
      inverted = λ i l. ((carried_decides P Q s t i).0 (h i l)).1;
    })
    (λ h i l. (carried_decides P Q s t i).1 (h.upright i l, h.inverted i l))
