-- Sessions that lie in the memory one after another.
use Rattle.std.specs.Prelude.{◌≡◌, ℕ, zero, suc, ◌+◌, ◌≤◌, List, [], ◌∷◌, ◌++◌, map, length, take, drop, sum_by, refl}
use Rattle.std.proofs.Common.{sym, ap, ◌∙◌, arith, length-drop}
use Rattle.std.proofs.Math.Seq.{paste}
use Rattle.std.specs.List.{AllByRecursion, slice_get}
use Rattle.std.specs.Option.{option_map}
use Rattle.std.proofs.lemmas.List.Edits.{take-paste}
use Rattle.std.proofs.ByRecursion.{All-weaker}
use Rattle.std.proofs.lemmas.List.{drop-drop, take-take, drop-take, length-take-le, take_at, drop_at}
use Rattle.std.proofs.lemmas.List.Sums.{sum_by-cons}
use Rattle.store.specs.declared.header.Header.{Header}
use Rattle.store.specs.Entries.{Entry}
use Rattle.store.specs.Layouts.{front, spread}

-- the number and the length of an entry
abbrev pub head_of : Entry → ℕ × ℕ
head_of e = (e.number, length e.letters)

abbrev pub header_pair : Header → ℕ × ℕ
header_pair h = (h.number, h.len)

-- no session reaches past where the next one starts
pub all_wide : (f : ℕ → ℕ) → ((n : ℕ) → n ≤ 128 → n ≤ f n) → (hs : List Header) → AllByRecursion (λ h. h.len ≤ 128) hs → AllByRecursion (λ h. h.len ≤ f h.len) hs
all_wide f wide hs short = All-weaker (λ h. h.len ≤ 128) (λ h. h.len ≤ f h.len) (λ h. wide h.len) hs short

module _ (f : Header → ℕ) where
  -- a session more at the end
  pub spread_push : (hs : List Header) (m : List ℕ) (h : Header) → spread f (hs ++ h ∷ []) m ≡ spread f hs m ++ front h (drop (sum_by f hs) m) ∷ []
  spread_push [] m h = refl
  spread_push (x ∷ hs) m h =
      let at : drop (sum_by f hs) (drop (f x) m) ≡ drop (sum_by f (x ∷ hs)) m = drop-drop (sum_by f hs) (f x) m ∙ ap (λ a. drop a m) (sym (sum_by-cons f x hs)) in
      ap (λ es. front x m ∷ es) (spread_push hs (drop (f x) m) h ∙ ap (λ xs. spread f hs (drop (f x) m) ++ front h xs ∷ []) at)

  -- they are read off the letters up to their end alone
  pub spread_front : (hs : List Header) (m m' : List ℕ) (a : ℕ) → AllByRecursion (λ h. h.len ≤ f h) hs → sum_by f hs ≤ a → take a m ≡ take a m' → spread f hs m ≡ spread f hs m'
  spread_front [] m m' a wide le e = refl
  spread_front (h ∷ hs) m m' a wide le e =
      let s = sum_by-cons f h hs in
      let le' : f h + sum_by f hs ≤ a = omega arith in
      let small : h.len ≤ a = omega (arith, wide.0) in
      let here : take h.len m ≡ take h.len m' = sym (take-take h.len a m small) ∙ ap (take h.len) e ∙ take-take h.len a m' small in
      let both : take (f h + sum_by f hs) m ≡ take (f h + sum_by f hs) m' = sym (take-take _ a m le') ∙ ap (take (f h + sum_by f hs)) e ∙ take-take _ a m' le' in
      let rest : take (sum_by f hs) (drop (f h) m) ≡ take (sum_by f hs) (drop (f h) m') = sym (drop-take (f h) (sum_by f hs) m) ∙ ap (drop (f h)) both ∙ drop-take (f h) (sum_by f hs) m' in
      let more = spread_front hs (drop (f h) m) (drop (f h) m') (sum_by f hs) wide.1 (omega arith) rest in
      rw (here, more)

  pub spread_heads : (hs : List Header) (m : List ℕ) → AllByRecursion (λ h. h.len ≤ f h) hs → sum_by f hs ≤ length m → map head_of (spread f hs m) ≡ map header_pair hs
  spread_heads [] m wide le = refl
  spread_heads (h ∷ hs) m wide le =
      let s = sum_by-cons f h hs in
      let here : length (take h.len m) ≡ h.len = length-take-le h.len m (omega (arith, wide.0)) in
      let rest = spread_heads hs (drop (f h) m) wide.1 (omega (arith, length-drop (f h) m)) in
      rw (here, rest)

  pub spread_nth : (hs : List Header) (m : List ℕ) (i : ℕ) → slice_get (spread f hs m) i ≡ option_map (λ h. front h (drop (sum_by f (take i hs)) m)) (slice_get hs i)
  spread_nth [] m i = refl
  spread_nth (h ∷ hs) m zero = refl
  spread_nth (h ∷ hs) m (suc i) =
      let at : drop (sum_by f (take i hs)) (drop (f h) m) ≡ drop (sum_by f (h ∷ take i hs)) m = drop-drop (sum_by f (take i hs)) (f h) m ∙ ap (λ a. drop a m) (sym (sum_by-cons f h (take i hs))) in
      spread_nth hs (drop (f h) m) i ∙ ap (λ xs. option_map (λ h'. front h' xs) (slice_get hs i)) at

  -- letters written behind them make one more
  pub spread_put : (hs : List Header) (m xs : List ℕ) (h : Header) (to : ℕ) → to ≡ sum_by f hs → AllByRecursion (λ h. h.len ≤ f h) hs → to + h.len ≤ length m → h.len ≤ length xs → spread f (hs ++ h ∷ []) (paste m to xs h.len) ≡ spread f hs m ++ front h xs ∷ []
  spread_put hs m xs h to at wide fits enough =
      let m' = paste m to xs h.len in
      let both : take (to + h.len) m' ≡ take to m ++ take h.len xs = take-paste m to xs h.len (omega arith) enough in
      let size : length (take to m) ≡ to = length-take-le to m (omega arith) in
      let before : take to m' ≡ take to m = sym (take-take to (to + h.len) m' (omega arith)) ∙ ap (take to) both ∙ take_at (take to m) (take h.len xs) to size in
      let back : take h.len (drop to m') ≡ take h.len xs = sym (drop-take to h.len m') ∙ ap (drop to) both ∙ drop_at (take to m) (take h.len xs) to size in
      let same : spread f hs m' ≡ spread f hs m = spread_front hs m' m to wide (omega arith) before in
      let letters : take h.len (drop (sum_by f hs) m') ≡ take h.len xs = ap (λ a. take h.len (drop a m')) (sym at) ∙ back in
      spread_push hs m' h ∙ rw (same, letters)

  pub length_spread : (hs : List Header) (m : List ℕ) → length (spread f hs m) ≡ length hs
  length_spread [] m = refl
  length_spread (h ∷ hs) m = ap suc (length_spread hs (drop (f h) m))
