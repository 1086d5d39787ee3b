-- The session at a place of a store.
use Rattle.std.proofs.Common.{◌≡◌, ℕ, zero, suc, ◌+◌, ◌-◌, ◌<◌, ◌≤◌, true, false, List, [], ◌∷◌, ◌++◌, map, length, get_or, take, drop, Some, None, leb, vec_items, refl, sym, ap, ◌∙◌, subst, arith, zero-add}
use lib.Seq.{paste}
use Rattle.std.specs.List.{AllByRecursion, slice_get}
use Rattle.std.specs.Option.{option_map}
use Rattle.std.proofs.lemmas.Bool.{le-leb, lt-leb}
use Rattle.std.proofs.lemmas.List.Edits.{paste_all}
use Rattle.std.proofs.lemmas.Option.{get_or_from_slice_get}
use Rattle.store.specs.declared.header.Header.{Header}
use Rattle.store.specs.declared.memory_store.MemoryStore.{MemoryStore}
use Rattle.store.specs.Entries.{read, read_at, written}
use Rattle.store.specs.Headers.{headers_in}
use Rattle.store.specs.Layouts.{by_len, front, room_of, spread}
use Rattle.store.specs.Laws.{nth_within, run_inside, run_long, short_true}
use Rattle.store.specs.Leaves.{unused}
use Rattle.store.specs.Spreads.{all_wide, head_of, header_pair, spread_heads, spread_nth}
use Rattle.store.specs.Stores.{entries_in}

nth_map : {X Y : Type 0} (f : X → Y) (xs : List X) (i : ℕ) → slice_get (map f xs) i ≡ option_map f (slice_get xs i)
nth_map f [] i = refl
nth_map f (x ∷ xs) zero = refl
nth_map f (x ∷ xs) (suc i) = nth_map f xs i

-- a run of letters, copied to the front of a buffer
copy_is : (b m m₁ b' : List ℕ) (from at k : ℕ) → m₁ ≡ m → from ≡ at → b' ≡ paste b 0 (take (from + k - from) (drop from m₁)) (length (take (from + k - from) (drop from m₁))) → b' ≡ take k (drop at m) ++ drop (length (take k (drop at m))) b
copy_is b m m₁ b' from at k same e h =
    let whole : from + k - from ≡ k = omega arith in
    let run : take (from + k - from) (drop from m₁) ≡ take k (drop at m) = ap (λ n. take n (drop from m₁)) whole ∙ ap (λ a. take k (drop a m₁)) e ∙ ap (λ xs. take k (drop at xs)) same in
    h ∙ ap (λ xs. paste b 0 xs (length xs)) run ∙ paste_all b 0 (take k (drop at m)) (length (take k (drop at m))) refl ∙ ap (λ n. take k (drop at m) ++ drop n b) (zero-add (length (take k (drop at m))))

module _ {L : _} {g : _} (s : MemoryStore L g) (wide : (n : ℕ) → n ≤ 128 → n ≤ g.pitch n) (inside : room_of g.pitch (headers_in s.headers) ≤ length (vec_items s.memory)) where
  abbrev f : ℕ → ℕ
  f = g.pitch

  abbrev hs : List Header
  hs = headers_in s.headers

  abbrev m : List ℕ
  m = vec_items s.memory

  widths : AllByRecursion (λ h. h.len ≤ f h.len) hs
  widths = all_wide f wide hs (short_true hs s.headers.short)

  -- the pair at a place is that of the entry there
  pub entry_is : (i : ℕ) → option_map header_pair (slice_get hs i) ≡ option_map head_of (slice_get (entries_in s) i)
  entry_is i = sym (nth_map header_pair hs i) ∙ ap (λ xs. slice_get xs i) (sym (spread_heads (by_len f) hs m widths inside)) ∙ nth_map head_of (spread (by_len f) hs m) i

  pub reads_none : (i room : ℕ) → slice_get hs i ≡ None → read_at (entries_in s) i room ≡ None
  reads_none i room none = ap (λ o. read o room) (spread_nth (by_len f) hs m i ∙ ap (option_map (λ h. front h (drop (room_of f (take i hs)) m))) none)

  module _ (i room : ℕ) (h : Header) (some : slice_get hs i ≡ Some h) where
    abbrev start : ℕ
    start = room_of f (take i hs)

    lt : i < length hs
    lt = nth_within hs i h some

    is : get_or hs i unused ≡ h
    is = get_or_from_slice_get hs i h unused some

    -- it ends inside the memory
    pub ends : start + h.len ≤ length m
    ends = subst (λ (x : Header). start + x.len ≤ length m) is (run_inside f hs m widths inside i lt)

    pub long : length (take h.len (drop start m)) ≡ h.len
    long = subst (λ (x : Header). length (take x.len (drop start m)) ≡ x.len) is (run_long f hs m widths inside i lt)

    here : read_at (entries_in s) i room ≡ read (Some (front h (drop start m))) room
    here = ap (λ o. read o room) (spread_nth (by_len f) hs m i ∙ ap (option_map (λ h. front h (drop start m))) some)

    pub reads_long : room < h.len → read_at (entries_in s) i room ≡ None
    reads_long gt = let no' : leb (length (take h.len (drop start m))) room ≡ false = lt-leb _ _ (omega (arith, long)) in here ∙ rw no'

    pub reads_here : h.len ≤ room → read_at (entries_in s) i room ≡ Some (take h.len (drop start m))
    reads_here le = let yes' : leb (length (take h.len (drop start m))) room ≡ true = le-leb _ _ (omega (arith, long)) in here ∙ rw yes'

    pub count_is : h.len ≤ room → Some h.len ≡ option_map length (read_at (entries_in s) i room)
    count_is le = sym (ap (option_map length) (reads_here le) ∙ ap Some long)

    pub copied : (b m₁ b' : List ℕ) (from : ℕ) → h.len ≤ room → m₁ ≡ m → from ≡ start → b' ≡ paste b 0 (take (from + h.len - from) (drop from m₁)) (length (take (from + h.len - from) (drop from m₁))) → b' ≡ written (read_at (entries_in s) i room) b
    copied b m₁ b' from le same e by = copy_is b m m₁ b' from start h.len same e by ∙ sym (ap (λ o. written o b) (reads_here le))
