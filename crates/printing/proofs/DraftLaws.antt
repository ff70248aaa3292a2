-- Laws of a text that is being written.
--   begun             the text of some bytes is one that is being written
--   grown             .. and some bytes more are written
--   spaced-next       the stops that the loop writes, one more
use mathlib.Core.Path.{◌≡◌, refl, ap, sym, ◌∙◌}
use mathlib.Core.List.{List, [], ◌∷◌, ◌++◌, append_assoc}
use Prim.Native.Nat.{ℕ, zero, suc, ◌+◌, ◌-◌, ◌≤◌, ◌<◌}
use native.Mathlib.Numerals.{add-one}
use native.Mathlib.Omega.{arith}
use lib.ListN.{length, get_or, take, length-append}
use lib.Seq.{take-append_seam, drop-append_seam}
use borrow.Rule.Slice.PartMut.{put_mid}
use Rattle.std.proofs.lemmas.List.{drop-replicate}
use Rattle.lists.specs.Lists.{padded}
use Rattle.lists.proofs.Padded.{take-padded}
use Rattle.report_format.specs.Text.{ascii, decimal, spaced}
use Rattle.printing.specs.Promise.{text_places, text_of}
use Rattle.printing.specs.Code.{Begun}
use Rattle.printing.specs.declared.Text.{Text}

written : (t : Text) (xs : List ℕ) → t ≡ text_of xs → take t.length t.bytes ≡ xs
unfolding text_of
written t xs e = rw e (take-padded text_places xs)

pub begun : (t : Text) (xs : List ℕ) → t ≡ text_of xs → length xs ≤ text_places → Begun t
unfolding text_of
begun t xs e h = record {
  within = omega (arith, ap (λ (u : Text). u.length) e, h);
  padded = e ∙ ap text_of (sym (written t xs e));
}

padded_more : (n : ℕ) (xs ys : List ℕ) → put_mid (length xs) (length ys) (padded n xs) ys ≡ padded n (xs ++ ys)
unfolding padded
padded_more n xs ys =
    let left : n - length xs - length ys ≡ n - length (xs ++ ys) = omega (arith, length-append xs ys) in
    rw (take-append_seam, drop-append_seam, drop-replicate, left) (sym (append_assoc xs ys _))

pub grown :
    (t : Text) (xs ys : List ℕ) (k : ℕ) (zs : List ℕ) → Begun t → take t.length t.bytes ≡ xs → k ≡ length ys → zs ≡ ys
    → ◌≡◌ {A = Text} (record { bytes = put_mid t.length k t.bytes zs; length = t.length + length ys }) (text_of (xs ++ ys))
unfolding text_of
grown t xs ys k zs b e f g =
    rw (f, g, b.padded ∙ ap text_of e, padded_more text_places xs ys, length-append xs ys)

spaced_suc : (xs : List ℕ) (k : ℕ) → k < length xs → spaced (take (suc k) xs) ≡ spaced (take k xs) ++ spaced (get_or xs k 0 ∷ [])
unfolding spaced
spaced_suc [] k h = absurd (omega arith)
spaced_suc (x ∷ xs) zero h = refl
spaced_suc (x ∷ xs) (suc k) h = rw (spaced_suc xs k (omega arith)) (sym (append_assoc (ascii " " ++ decimal x) _ _))

pub spaced-next :
    (xs : List ℕ) (k : ℕ) → k < length xs → spaced (take (k + 1) xs) ≡ spaced (take k xs) ++ spaced (get_or xs k 0 ∷ [])
spaced-next xs k h = rw add-one (spaced_suc xs k h)
