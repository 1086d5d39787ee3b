-- An exchange: the test, and the new session behind those that are left.
use Rattle.std.proofs.Common.{◌≡◌, ℕ, ◌+◌, ◌≤◌, Bool, true, ◌&&◌, List, [], ◌∷◌, ◌++◌, map, length, drop, vec_items, vec_len, nat_le, sym, ap, ◌∙◌, arith}
use lib.Seq.{paste}
use Rattle.std.specs.Vec.{with_items}
use Rattle.std.specs.List.{AllByRecursion}
use Rattle.std.proofs.lemmas.Bool.{and_parts, leb-true}
use Rattle.std.proofs.lemmas.List.{take_all, take_at, length-map, length_push}
use Rattle.std.proofs.lemmas.List.Sums.{sum_by_push}
use Rattle.store.specs.declared.header.Header.{Header}
use Rattle.store.specs.declared.memory_store.MemoryStore.{MemoryStore}
use Rattle.store.specs.declared.limits.Limits.{Limits}
use Rattle.store.specs.Entries.{Entry, exchanged, letters_in, takes, without_from}
use Rattle.store.specs.Headers.{headers_in}
use Rattle.store.specs.Layouts.{by_len, letters_of, room_of, spread}
use Rattle.store.specs.Inner.Kept.{has_room}
use Rattle.store.specs.Laws.{letters_spread, short_true}
use Rattle.store.specs.Leaves.{map_left, all_left}
use Rattle.store.specs.Memory.{Memory}
use Rattle.store.specs.Stores.{entries_in, limits_in}
use Rattle.store.specs.Spreads.{all_wide, head_of, header_pair, spread_heads, spread_put}

module _ {L : _} {g : _} (s : MemoryStore L g) (wide : (n : ℕ) → n ≤ 128 → n ≤ g.pitch n) (inside : room_of g.pitch (headers_in s.headers) ≤ length (vec_items s.memory)) (ps : List ℕ) (e : Entry) where
  abbrev f : ℕ → ℕ
  f = g.pitch

  abbrev es : List Entry
  es = entries_in s

  abbrev hs : List Header
  hs = headers_in s.headers

  -- the headers of the sessions that are left
  abbrev left : List Header
  left = without_from 0 ps hs

  widths : AllByRecursion (λ h. h.len ≤ f h.len) hs
  widths = all_wide f wide hs (short_true hs s.headers.short)

  left_heads : map head_of (without_from 0 ps es) ≡ map header_pair left
  left_heads = map_left head_of ps 0 es ∙ ap (without_from 0 ps) (spread_heads (by_len f) hs (vec_items s.memory) widths inside) ∙ sym (map_left header_pair ps 0 hs)

  takes_is : takes (limits_in s) ps es e ≡ has_room (limits_in s) left (length e.letters)
  takes_is =
      let b = limits_in s in
      let stay = without_from 0 ps es in
      let counts : length (stay ++ e ∷ []) ≡ length left + 1 = length_push stay e ∙ ap (λ n. n + 1) (sym (length-map stay head_of) ∙ ap length left_heads ∙ length-map left header_pair) in
      let totals : letters_in (stay ++ e ∷ []) ≡ letters_of left + length e.letters = sum_by_push (λ (x : Entry). length x.letters) stay e ∙ ap (λ n. n + length e.letters) (letters_spread stay left left_heads) in
      ap (λ n. nat_le (length e.letters) 128 && (nat_le n b.sessions && nat_le (letters_in (stay ++ e ∷ [])) b.letters)) counts
      ∙ ap (λ n. nat_le (length e.letters) 128 && (nat_le (length left + 1) b.sessions && nat_le n b.letters)) totals

  pub test_is : {t : Bool} {n : ℕ} {b : Limits} → n ≡ vec_len s.memory → b ≡ g.limits n → t ≡ has_room b left (length e.letters) → t ≡ takes (limits_in s) ps es e
  test_is {t} {n} {b} size limits test = test ∙ ap (λ b. has_room b left (length e.letters)) (limits ∙ ap g.limits size) ∙ sym takes_is

  parts : has_room (limits_in s) left (length e.letters) ≡ true → (length e.letters ≤ 128) × (length left + 1 ≤ (limits_in s).sessions) × (letters_of left + length e.letters ≤ (limits_in s).letters)
  parts test =
      let p = and_parts _ _ test in
      let q = and_parts _ _ p.1 in
      (leb-true _ _ p.0, leb-true _ _ q.0, leb-true _ _ q.1)

  -- there is room behind those that are left
  pub room_after : true ≡ takes (limits_in s) ps es e → ((hs : List Header) → length hs ≤ (limits_in s).sessions → letters_of hs ≤ (limits_in s).letters → room_of f hs ≤ (limits_in s).letters) → room_of f left + length e.letters ≤ (limits_in s).letters
  room_after test room =
      let new : Header = record { number = 0; len = length e.letters } in
      let p = parts (sym (test ∙ takes_is)) in
      omega (arith, room (left ++ new ∷ []) (omega (arith, length_push left new, p.1)) (omega (arith, sum_by_push (λ (h : Header). h.len) left new, p.2)), sum_by_push (by_len f) left new, wide (length e.letters) p.0)

  -- the new session lies behind those that are left
  pub exchange_is : (ks : List Header) (m₁ m₂ : List ℕ) (end : ℕ) → end ≡ room_of f left → end + length e.letters ≤ length m₁ → spread (by_len f) left m₁ ≡ without_from 0 ps es → ks ≡ left ++ record { number = e.number; len = length e.letters } ∷ [] → m₂ ≡ paste m₁ end e.letters (length e.letters) → spread (by_len f) ks m₂ ≡ exchanged ps es e
  exchange_is ks m₁ m₂ end at fits stays headers written =
      let new : Header = record { number = e.number; len = length e.letters } in
      rw (headers, written) (spread_put (by_len f) left m₁ e.letters new end at (all_left ps (λ h. h.len ≤ f h.len) 0 hs widths) fits (omega arith))
      ∙ ap (λ (xs : List ℕ). spread (by_len f) left m₁ ++ (record { number = e.number; letters = xs } ∷ [])) (take_all (length e.letters) e.letters (omega arith))
      ∙ ap (λ xs. xs ++ e ∷ []) stays

-- what a Vec holds after its letters were written
pub refilled_items : (v : Memory) (ws : List ℕ) → length ws ≡ vec_len v → vec_items (with_items v ws) ≡ ws
refilled_items v ws e = take_at ws (drop (length ws) (vec_items v)) (vec_len v) e
