-- Laws of lists that squeezing a lane rests on: what one turn of `squeeze` and of `resize` does, and how many records `resize` leaves.
use mathlib.Core.Path.{◌≡◌, refl, ap, ◌∙◌}
use mathlib.Core.Bool.{Bool, true, false, cond}
use mathlib.Core.List.{List, [], ◌∷◌, ◌++◌, map, append_assoc}
use Prim.Native.Nat.{ℕ, suc, ◌+◌, ◌≤◌, ◌<◌}
use native.Mathlib.Numerals.{add-one}
use native.Mathlib.Omega.{arith}
use lib.ListN.{length, get_or, take, drop, set, length-append, length-drop, length-map}
use lib.Seq.{slice, slice-cons, length-slice, length-take-le, take-suc-set, take-set-lt, drop-set-lt}
use Rattle.stops.specs.Code.{empty_record}
use Rattle.stops.specs.declared.node_record.Record.{Record}
use Rattle.records.specs.Code.{Sifted}
use Rattle.records.proofs.SiftLaws.{sifted_passes, sifted_fails}

-- the record at i is kept if it passes, and left out if not
pub sifted_kept :
    (test : Record → Bool) (l : List Record) (i : ℕ) (l' : List Record) (e : ℕ) → Sifted test l 0 i 0 l' e → i < length l
    → (l'' : List Record) (e'' : ℕ) → e'' ≡ cond (test (get_or l' i empty_record)) (e + 1) e
    → l'' ≡ cond (test (get_or l' i empty_record)) (set l' e (get_or l' i empty_record)) l' → Sifted test l 0 (i + 1) 0 l'' e''
sifted_kept test l i l' e sifted inside l'' e'' next stored = go (test x) refl next stored
  where
    x : Record
    x = get_or l' i empty_record

    go : (b : Bool) → test x ≡ b → e'' ≡ cond b (e + 1) e → l'' ≡ cond b (set l' e x) l' → Sifted test l 0 (i + 1) 0 l'' e''
    go true passes n s =
        rw n (sifted_passes test l 0 0 i l' e sifted (omega arith) (omega arith) inside x refl passes l'' s)
    go false fails n s =
        rw (n, s) (sifted_fails test l 0 0 i l' e sifted (omega arith) (omega arith) inside x refl fails)

module _ {A : Type 0} (f : A → A) where
  -- the list with f of its elements from i to j
  abbrev pub changed : ℕ → ℕ → List A → List A
  changed i j l = take i l ++ (map f (slice i j l) ++ drop j l)

  pub change_again :
      (i j : ℕ) (l l₁ : List A) (d : A) → i < j → j ≤ length l → l₁ ≡ set l i (f (get_or l i d)) → changed (i + 1) j l₁ ≡ changed i j l
  change_again i j l l₁ d h k e = rw (e, add-one, front, middle, back, slice-cons i j l d h k) (append_assoc (take i l) (x ∷ []) _)
    where
      x : A
      x = f (get_or l i d)

      front : take (suc i) (set l i x) ≡ take i l ++ (x ∷ [])
      front = take-suc-set l i x (omega arith)

      middle : slice (suc i) j (set l i x) ≡ slice (suc i) j l
      middle = ap (drop (suc i)) (take-set-lt j l i x h) ∙ drop-set-lt (suc i) (take j l) i x (omega arith)

      back : drop j (set l i x) ≡ drop j l
      back = drop-set-lt j l i x h

  pub length-changed : (i j : ℕ) (l : List A) → i ≤ j → j ≤ length l → length (changed i j l) ≡ length l
  length-changed i j l h k =
      simp (length-append, length-map)
      (omega (arith, length-take-le i l (omega arith), length-slice i j l k, length-drop j l))
