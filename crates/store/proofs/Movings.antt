-- A turn of the loop that moves sessions down.
use Rattle.std.proofs.Common.{◌≡◌, ℕ, ◌+◌, ◌<◌, ◌≤◌, true, false, List, [], ◌∷◌, ◌++◌, length, get_or, take, drop, sym, refl, ap, ◌∙◌, arith, length-drop}
use lib.Seq.{paste}
use Rattle.std.specs.List.{AllByRecursion}
use Rattle.std.proofs.lemmas.List.Edits.{length-paste}
use Rattle.std.proofs.ByRecursion.{All-take, All-get_or}
use Rattle.std.proofs.lemmas.List.{take_more, length-take-le}
use Rattle.std.proofs.lemmas.List.Sums.{sum_by_more, sum_by_more_le, sum_by_push}
use Rattle.store.specs.declared.header.Header.{Header}
use Rattle.store.specs.Entries.{mentions, without_from}
use Rattle.store.specs.Layouts.{by_len, front, room_of, spread}
use Rattle.store.specs.Leaves.{unused, left_named, left_stays, all_left, sum_by_left_le, length_left_le}
use Rattle.store.specs.Spreads.{all_wide, spread_push, spread_put, length_spread}
use Rattle.store.proofs.Pastes.{drop_later, drop_past}

-- ks are the headers that stay of the first i of hs, whose sessions end at `to`, and the memory
-- from `from` on, where the next session starts, is as it was
pub record Moving (f : ℕ → ℕ) (ps : List ℕ) (hs : List Header) (m₀ : List ℕ) (ks : List Header) (m : List ℕ) (i from to : ℕ) : Type 0 where
  pub from_is : from ≡ room_of f (take i hs)
  pub to_is : to ≡ room_of f ks
  pub headers_left : ks ≡ without_from 0 ps (take i hs)
  pub entries_left : spread (by_len f) ks m ≡ without_from 0 ps (spread (by_len f) (take i hs) m₀)
  pub memory_rest : drop from m ≡ drop from m₀
  pub memory_long : length m ≡ length m₀
  pub wide : AllByRecursion (λ x. x.len ≤ f x.len) hs
  pub inside : room_of f hs ≤ length m₀

pub moving_none : {f : ℕ → ℕ} {ps : List ℕ} {hs hs' ks : List Header} {m : List ℕ} → ((n : ℕ) → n ≤ 128 → n ≤ f n) → AllByRecursion (λ x. x.len ≤ 128) hs → hs ≡ hs' → room_of f hs' ≤ length m → ks ≡ [] → Moving f ps hs m ks m 0 0 0
moving_none {f} {ps} {hs} {hs'} {ks} {m} wide short e inside none = record {
  from_is = refl;
  to_is = sym (ap (room_of f) none);
  headers_left = none;
  entries_left = ap (λ xs. spread (by_len f) xs m) none;
  memory_rest = refl;
  memory_long = refl;
  wide = all_wide f wide hs short;
  inside = omega (arith, ap (room_of f) e);
}

module _ {f : ℕ → ℕ} {ps : List ℕ} {hs : List Header} {m₀ : List ℕ} {ks : List Header} {m : List ℕ} {i from to : ℕ}
    (h : Moving f ps hs m₀ ks m i from to) (lt : i < length hs) where
  abbrev x : Header
  x = get_or hs i unused

  -- the next session ends inside
  pub next_le : from + f x.len ≤ length m₀
  next_le = omega (arith, h.from_is, h.inside, sum_by_more_le (by_len f) hs i unused lt)

  pub to_le : to ≤ from
  to_le = omega (arith, h.to_is, ap (room_of f) h.headers_left, sum_by_left_le ps (by_len f) 0 (take i hs), h.from_is)

  wide_here : x.len ≤ f x.len
  wide_here = All-get_or (λ x. x.len ≤ f x.len) hs i unused lt h.wide

  pub run_le : from + x.len ≤ length m
  run_le = omega (arith, next_le, wide_here, h.memory_long)

  wide_left : AllByRecursion (λ x. x.len ≤ f x.len) ks
  wide_left = rw h.headers_left (all_left ps (λ x. x.len ≤ f x.len) 0 (take i hs) (All-take (λ x. x.len ≤ f x.len) i hs h.wide))

  size : length (take i hs) ≡ i
  size = length-take-le i hs (omega arith)

  -- there is room for its header
  pub few_left : length hs ≤ 64 → length ks < 64
  few_left few = omega (arith, ap length h.headers_left, length_left_le ps 0 (take i hs), size)

  more : take (i + 1) hs ≡ take i hs ++ x ∷ []
  more = take_more hs i unused lt

  from_more : from + f x.len ≡ room_of f (take (i + 1) hs)
  from_more = rw h.from_is (sym (sum_by_more (by_len f) hs i unused lt))

  -- the next session, as it was and as it is
  entries_more : spread (by_len f) (take (i + 1) hs) m₀ ≡ spread (by_len f) (take i hs) m₀ ++ front x (drop from m) ∷ []
  entries_more =
      let same : drop (room_of f (take i hs)) m₀ ≡ drop from m = ap (λ a. drop a m₀) (sym h.from_is) ∙ sym h.memory_rest in
      ap (λ xs. spread (by_len f) xs m₀) more ∙ spread_push (by_len f) (take i hs) m₀ x ∙ ap (λ xs. spread (by_len f) (take i hs) m₀ ++ front x xs ∷ []) same

  rest_more : drop (from + f x.len) m ≡ drop (from + f x.len) m₀
  rest_more = drop_later m m₀ from (from + f x.len) (omega arith) h.memory_rest

  -- it leaves
  pub moving_named : mentions i ps ≡ true → Moving f ps hs m₀ ks m (i + 1) (from + f x.len) to
  moving_named t = record {
    from_is = from_more;
    to_is = h.to_is;
    headers_left = h.headers_left ∙ sym (ap (without_from 0 ps) more ∙ left_named ps (take i hs) x i size t);
    entries_left = h.entries_left ∙ sym (ap (without_from 0 ps) entries_more ∙ left_named ps (spread (by_len f) (take i hs) m₀) (front x (drop from m)) i (length_spread (by_len f) (take i hs) m₀ ∙ size) t);
    memory_rest = rest_more;
    memory_long = h.memory_long;
    wide = h.wide;
    inside = h.inside;
  }

  -- it stays, and moves down
  pub moving_stays : {ks' : List Header} {m' : List ℕ} → ks' ≡ ks ++ x ∷ [] → m' ≡ paste m to (drop from m) x.len → mentions i ps ≡ false → Moving f ps hs m₀ ks' m' (i + 1) (from + f x.len) (to + f x.len)
  moving_stays {ks'} {m'} kept moved t =
      let enough : x.len ≤ length (drop from m) = omega (arith, run_le, length-drop from m) in
      let room : to + x.len ≤ length m = omega (arith, run_le, to_le) in
      record {
        from_is = from_more;
        to_is = omega (arith, h.to_is, ap (room_of f) kept, sum_by_push (by_len f) ks x);
        headers_left = kept ∙ ap (λ xs. xs ++ x ∷ []) h.headers_left ∙ sym (ap (without_from 0 ps) more ∙ left_stays ps (take i hs) x i size t);
        entries_left =
            rw (kept, moved) (spread_put (by_len f) ks m (drop from m) x to h.to_is wide_left room enough)
            ∙ ap (λ es. es ++ front x (drop from m) ∷ []) h.entries_left
            ∙ sym (ap (without_from 0 ps) entries_more ∙ left_stays ps (spread (by_len f) (take i hs) m₀) (front x (drop from m)) i (length_spread (by_len f) (take i hs) m₀ ∙ size) t);
        memory_rest = rw moved (drop_past m to (drop from m) x.len (from + f x.len) (omega arith) enough (omega (arith, to_le, wide_here)) ∙ rest_more);
        memory_long = ap length moved ∙ length-paste m to (drop from m) x.len room enough ∙ h.memory_long;
        wide = h.wide;
        inside = h.inside;
      }
