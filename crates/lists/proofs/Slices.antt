-- Laws of parts of lists: `keep` of a slice that grows by one, slices joined, and lists that are the same from a place on.
use mathlib.Core.Path.{◌≡◌, ap, sym, ◌∙◌}
use mathlib.Core.Bool.{Bool}
use mathlib.Core.List.{List, [], ◌∷◌, ◌++◌}
use Prim.Native.Nat.{ℕ, ◌+◌, ◌-◌, ◌≤◌, ◌<◌}
use native.Mathlib.Numerals.{add-one}
use native.Mathlib.Omega.{arith}
use lib.ListN.{length, get_or, take, drop}
use lib.Seq.{slice, length-take-le, take-suc, take-add, drop_at, drop-append-le, drop-drop}
use Rattle.lists.specs.Lists.{put, keep}
use Rattle.lists.proofs.Keep.{keep_append}

module _ {A : Type 0} where
  slice_more :
      (d : A) (from to : ℕ) (l : List A) → from ≤ to → to < length l → slice from (to + 1) l ≡ slice from to l ++ (get_or l to d ∷ [])
  slice_more d from to l h k =
      let e : length (take to l) ≡ to = length-take-le to l (omega arith) in
      let h' : from ≤ length (take to l) = omega arith in
      rw (add-one, take-suc l to d, drop-append-le)

  module _ (test : A → Bool) (d : A) (from to : ℕ) (l : List A) (ordered : from ≤ to) (inside : to < length l) where
    pub keep_slice_more : keep test (slice from (to + 1) l) ≡ keep test (slice from to l) ++ put (test (get_or l to d)) (get_or l to d) []
    keep_slice_more = rw (slice_more d from to l ordered inside, keep_append)

  pub slice_join :
      (l : List A) (from mid to : ℕ) → from ≤ mid → mid ≤ to → to ≤ length l → slice from mid l ++ slice mid to l ≡ slice from to l
  slice_join l from mid to h k inside =
      let past : mid + (to - mid) ≡ to = omega arith in
      let long : length (take mid l) ≡ mid = length-take-le mid l (omega arith) in
      let whole : take to l ≡ take mid l ++ take (to - mid) (drop mid l) =
      ap (λ (t : ℕ). take t l) (sym past) ∙ take-add mid (to - mid) l in
      let second : drop mid (take to l) ≡ take (to - mid) (drop mid l) = ap (drop mid) whole ∙ drop_at (take mid l) _ mid long in
      rw (second, whole, drop-append-le from (take mid l) (take (to - mid) (drop mid l)) (omega arith))

  -- lists that are the same from i on
  module _ (i : ℕ) (l' l : List A) (same : drop i l' ≡ drop i l) where
    pub drop_further : (j : ℕ) → i ≤ j → drop j l' ≡ drop j l
    drop_further j h =
        let n : j ≡ i + (j - i) = omega arith in
        rw (n, ← drop-drop (j - i) i l', ← drop-drop (j - i) i l, same)
