-- The laws of the two layouts, and of a store.
use Rattle.std.specs.Prelude.{◌≡◌, ℕ, zero, suc, ◌+◌, ◌*◌, ◌<◌, ◌≤◌, true, List, [], ◌∷◌, ◌++◌, map, length, take, drop, Some, None, vec_items, sum_by, Option, slice_index_or, min, refl}
use Rattle.std.proofs.Common.{sym, ap, ◌∙◌, arith, length-take, length-drop, take-add}
use Rattle.std.specs.List.{AllByRecursion, slice_get}
use Rattle.std.specs.Option.{option_map}
use Rattle.std.proofs.lemmas.List.{length-take-le}
use Rattle.std.proofs.lemmas.Option.{slice_get-get_or}
use Rattle.std.proofs.lemmas.List.Elements.{All-from_recursion}
use Rattle.std.proofs.lemmas.List.Sums.{sum_by-cons, sum_by-le, sum_by_more_le}
use Rattle.std.proofs.ByRecursion.{All-get_or}
use Rattle.std.proofs.lemmas.Bool.{and_parts, and_from, leb-true, le-leb}
use Rattle.store.specs.declared.header.Header.{Header}
use Rattle.store.specs.declared.limits.Limits.{Limits}
use Rattle.store.specs.Entries.{Entry, InRange, Within, letters_in}
use Rattle.store.specs.Layouts.{LieEndToEnd, LieInSlots, by_len, front, joined, letters_of, room_of, spread}
use Rattle.store.specs.Inner.Kept.{all_short}
use Rattle.store.specs.Limits.{slot_limits, packed_limits}
use Rattle.store.specs.Memory.{Memory}
use Rattle.store.specs.Leaves.{unused}
use Rattle.store.specs.Spreads.{all_wide, head_of, header_pair, spread_heads, spread_nth, length_spread}

pub short_true : (hs : List Header) → all_short hs ≡ true → AllByRecursion (λ h. h.len ≤ 128) hs
short_true [] t = tt
short_true (h ∷ hs) t = let p = and_parts _ _ t in (leb-true _ _ p.0, short_true hs p.1)

pub true_short : (hs : List Header) → AllByRecursion (λ h. h.len ≤ 128) hs → all_short hs ≡ true
true_short [] short = refl
true_short (h ∷ hs) short = and_from _ _ (le-leb _ _ short.0) (true_short hs short.1)

pub short_push : (hs : List Header) (h : Header) → all_short hs ≡ true → h.len ≤ 128 → all_short (hs ++ h ∷ []) ≡ true
short_push [] h short le = and_from _ _ (le-leb _ _ le) refl
short_push (x ∷ hs) h short le = let p = and_parts _ _ short in and_from _ _ p.0 (short_push hs h p.1 le)

-- 64 sessions have at most 8192 letters
pub letters_small : (hs : List Header) → length hs ≤ 64 → AllByRecursion (λ h. h.len ≤ 128) hs → letters_of hs ≤ 8192
letters_small hs few short = omega (arith, sum_by-le (λ (h : Header). h.len) 128 hs (All-from_recursion (λ h. h.len ≤ 128) hs short))

-- slots of 128 letters
pub slots_sum : (hs : List Header) → room_of (λ _. 128) hs ≡ 128 * length hs
slots_sum [] = refl
slots_sum (h ∷ hs) = omega (arith, sum_by-cons (λ (x : Header). 128) h hs, slots_sum hs)

pub slots_before : (hs : List Header) (i : ℕ) → room_of (λ _. 128) (take i hs) ≡ 128 * min i (length hs)
slots_before hs i = omega (arith, slots_sum (take i hs), length-take i hs)

pub slots_in_range : (n : ℕ) → 128 ≤ n → InRange (slot_limits n)
slots_in_range n le = record { some_session = omega arith; few_sessions = omega arith; some_letters = omega arith; few_letters = omega arith }

pub slots_room : (n : ℕ) (hs : List Header) → length hs ≤ (slot_limits n).sessions → letters_of hs ≤ (slot_limits n).letters → room_of (λ _. 128) hs ≤ (slot_limits n).letters
slots_room n hs few letters = omega (arith, slots_sum hs)

-- end to end
pub packed_wide : (n : ℕ) → n ≤ 128 → n ≤ n
packed_wide n le = omega arith

pub packed_in_range : (n : ℕ) → 128 ≤ n → InRange (packed_limits n)
packed_in_range n le = record { some_session = omega arith; few_sessions = omega arith; some_letters = omega arith; few_letters = omega arith }

pub packed_room : (n : ℕ) (hs : List Header) → length hs ≤ (packed_limits n).sessions → letters_of hs ≤ (packed_limits n).letters → room_of (λ k. k) hs ≤ (packed_limits n).letters
packed_room n hs few letters = letters

pub nth_within : {X : Type 0} (xs : List X) (i : ℕ) (x : X) → slice_get xs i ≡ Some x → i < length xs
nth_within [] i x e = let z : ◌≡◌ {A = ℕ} 0 1 = cc in absurd (omega arith)
nth_within (y ∷ ys) zero x e = omega arith
nth_within (y ∷ ys) (suc i) x e = omega (arith, nth_within ys i x e)

abbrev letters_or : Option Entry → List ℕ
letters_or None = []
letters_or (Some e) = e.letters

pub sum_by_map : {X Y : Type 0} (g : Y → ℕ) (f : X → Y) (xs : List X) → sum_by g (map f xs) ≡ sum_by (λ x. g (f x)) xs
sum_by_map g f [] = refl
sum_by_map g f (x ∷ xs) = omega (arith, sum_by-cons g (f x) (map f xs), sum_by_map g f xs, sum_by-cons (λ y. g (f y)) x xs)

-- what is read off the headers alone
pub letters_spread : (es : List Entry) (hs : List Header) → map head_of es ≡ map header_pair hs → letters_in es ≡ letters_of hs
letters_spread es hs heads = sym (sum_by_map (λ p. p.1) head_of es) ∙ ap (sum_by (λ p. p.1)) heads ∙ sum_by_map (λ p. p.1) header_pair hs

module _ (f : ℕ → ℕ) (hs : List Header) (m : List ℕ) (wide : AllByRecursion (λ h. h.len ≤ f h.len) hs) (inside : room_of f hs ≤ length m) where
  -- a session ends inside the memory
  pub run_inside : (i : ℕ) → i < length hs → room_of f (take i hs) + (slice_index_or hs i unused).len ≤ length m
  run_inside i lt = omega (arith, sum_by_more_le (by_len f) hs i unused lt, All-get_or (λ h. h.len ≤ f h.len) hs i unused lt wide)

  pub run_long : (i : ℕ) → i < length hs → length (take (slice_index_or hs i unused).len (drop (room_of f (take i hs)) m)) ≡ (slice_index_or hs i unused).len
  run_long i lt = length-take-le (slice_index_or hs i unused).len (drop (room_of f (take i hs)) m) (omega (arith, length-drop (room_of f (take i hs)) m, run_inside i lt))

pub slot_start : (hs : List Header) (i : ℕ) → i ≤ length hs → 128 * i ≡ room_of (λ _. 128) (take i hs)
slot_start hs i le = omega (arith, slots_sum (take i hs), length-take-le i hs le)

pub lie_in_slots : (hs : List Header) (m : Memory) → AllByRecursion (λ h. h.len ≤ 128) hs → room_of (λ _. 128) hs ≤ length (vec_items m) → LieInSlots (spread (by_len (λ _. 128)) hs (vec_items m)) m
lie_in_slots hs memory short inside i e there =
    let m = vec_items memory in
    let f : ℕ → ℕ = λ _. 128 in
    let lt : i < length hs = omega (arith, nth_within (spread (by_len f) hs m) i e there, length_spread (by_len f) hs m) in
    let here : Some e ≡ Some (front (slice_index_or hs i unused) (drop (room_of f (take i hs)) m)) = sym there ∙ spread_nth (by_len f) hs m i ∙ ap (option_map (λ h. front h (drop (room_of f (take i hs)) m))) (slice_get-get_or hs i unused lt) in
    let letters : e.letters ≡ take (slice_index_or hs i unused).len (drop (room_of f (take i hs)) m) = ap (λ o. letters_or o) here in
    let long : length e.letters ≡ (slice_index_or hs i unused).len = ap length letters ∙ run_long f hs m short inside i lt in
    letters ∙ ap (λ n. take n (drop (room_of f (take i hs)) m)) (sym long) ∙ ap (λ n. take (length e.letters) (drop n m)) (sym (slot_start hs i (omega arith)))

packed_front : (hs : List Header) (m : List ℕ) → letters_of hs ≤ length m → joined (spread (by_len (λ k. k)) hs m) ≡ take (letters_of hs) m
packed_front [] m le = refl
packed_front (h ∷ hs) m le =
    let s = sum_by-cons (λ (x : Header). x.len) h hs in
    ap (λ xs. take h.len m ++ xs) (packed_front hs (drop h.len m) (omega (arith, length-drop h.len m)))
    ∙ sym (take-add h.len (letters_of hs) m)
    ∙ ap (λ n. take n m) (sym s)

pub lie_end_to_end : (hs : List Header) (m : Memory) → AllByRecursion (λ h. h.len ≤ 128) hs → room_of (λ k. k) hs ≤ length (vec_items m) → LieEndToEnd (spread (by_len (λ k. k)) hs (vec_items m)) m
lie_end_to_end hs memory short inside =
    let m = vec_items memory in
    let f : ℕ → ℕ = λ k. k in
    packed_front hs m inside ∙ ap (λ n. take n m) (sym (letters_spread (spread (by_len f) hs m) hs (spread_heads (by_len f) hs m (all_wide f packed_wide hs short) inside)))

-- a store's entries are within its limits
short_spread : (f : Header → ℕ) (hs : List Header) (m : List ℕ) → AllByRecursion (λ h. h.len ≤ 128) hs → AllByRecursion (λ e. length e.letters ≤ 128) (spread f hs m)
short_spread f [] m short = tt
short_spread f (h ∷ hs) m short = (omega (arith, length-take h.len m, short.0), short_spread f hs (drop (f h) m) short.1)

pub spread_within : (f : ℕ → ℕ) → ((n : ℕ) → n ≤ 128 → n ≤ f n) → (b : Limits) → InRange b → (hs : List Header) (m : List ℕ) → AllByRecursion (λ h. h.len ≤ 128) hs → length hs ≤ b.sessions → letters_of hs ≤ b.letters → room_of f hs ≤ length m → Within b (spread (by_len f) hs m)
spread_within f wide b r hs m short few room inside = record {
  some_session = r.some_session;
  few_sessions = r.few_sessions;
  some_letters = r.some_letters;
  few_letters = r.few_letters;
  kept = omega (arith, length_spread (by_len f) hs m);
  room = omega (arith, letters_spread (spread (by_len f) hs m) hs (spread_heads (by_len f) hs m (all_wide f wide hs short) inside));
  short = short_spread (by_len f) hs m short;
}
