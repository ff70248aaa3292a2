-- Laws of the view of words as records: how many there are, which words make the one at i (`record_at`), what six stores, a part dropped
-- and parts joined do to it, that `words` is its other way, and that 32-bit words make records of 32-bit words (`Small`). Most go by
-- `by_sixes`, induction on words six at a time.
use mathlib.Core.Path.{◌≡◌, refl, ap, sym, ◌∙◌}
use mathlib.Core.List.Memᴰ
use mathlib.Core.List.{List, [], ◌∷◌, ◌++◌, append_assoc}
use mathlib.Core.Logic.{◌⊎◌, inl, inr}
use Prim.Native.Nat.{ℕ, zero, suc, ◌+◌, ◌*◌, ◌/◌, ◌%◌, ◌≤◌, ◌<◌}
use native.Mathlib.Nat.{add-zero}
use native.Mathlib.Omega.{arith}
use lib.ListN.{length, get_or, take, drop, set, length-drop, drop_of_length-le}
use lib.Seq.{sets, sets-eq, set_split, drop-drop, get_or-drop}
use Rattle.sizes.specs.Sizes.{record_words}
use Rattle.lists.specs.Lists.{In}
use Rattle.stops.specs.Code.{empty_record}
use Rattle.stops.specs.declared.node_record.Record.{Record}
use Rattle.records.specs.Code.{records, six, words}

by_sixes :
    (P : List ℕ → Type 0) → ((w : List ℕ) → length w < record_words → P w) → ((a b c d e f : ℕ) (w : List ℕ) → P w → P (a ∷ b ∷ c ∷ d ∷ e ∷ f ∷ w))
    → (w : List ℕ) → P w
by_sixes P short more [] = short _ (omega arith)
by_sixes P short more (a ∷ []) = short _ (omega arith)
by_sixes P short more (a ∷ b ∷ []) = short _ (omega arith)
by_sixes P short more (a ∷ b ∷ c ∷ []) = short _ (omega arith)
by_sixes P short more (a ∷ b ∷ c ∷ d ∷ []) = short _ (omega arith)
by_sixes P short more (a ∷ b ∷ c ∷ d ∷ e ∷ []) = short _ (omega arith)
by_sixes P short more (a ∷ b ∷ c ∷ d ∷ e ∷ f ∷ w) = more a b c d e f w (by_sixes P short more w)

short_empty : (w : List ℕ) → length w < record_words → records w ≡ []
unfolding records
short_empty [] h = refl
short_empty (a ∷ []) h = refl
short_empty (a ∷ b ∷ []) h = refl
short_empty (a ∷ b ∷ c ∷ []) h = refl
short_empty (a ∷ b ∷ c ∷ d ∷ []) h = refl
short_empty (a ∷ b ∷ c ∷ d ∷ e ∷ []) h = refl
short_empty (a ∷ b ∷ c ∷ d ∷ e ∷ f ∷ w) h = absurd (omega arith)

-- how many
pub length-records : (w : List ℕ) → length (records w) ≡ length w / record_words
unfolding records
length-records =
    by_sixes (λ w. length (records w) ≡ length w / record_words) (λ w h. rw (short_empty w h) (omega arith)) (λ a b c d e f w again. omega arith)

pub same-records : (w w' : List ℕ) → length w' ≡ length w → length (records w') ≡ length (records w)
same-records w w' e = length-records w' ∙ ap (λ (j : ℕ). j / record_words) e ∙ sym (length-records w)

pub words_inside : (w : List ℕ) (i : ℕ) → i < length (records w) → record_words * i + 5 < length w
words_inside w i h = omega (arith, length-records w)

-- a part dropped
drop-six : (w : List ℕ) → records (drop record_words w) ≡ drop 1 (records w)
unfolding records
drop-six =
    by_sixes (λ w. records (drop record_words w) ≡ drop 1 (records w))
    (λ w h. short_empty (drop record_words w) (omega (arith, length-drop record_words w)) ∙ sym (ap (drop 1) (short_empty w h)))
    (λ a b c d e f w again. refl)

pub records-drop : (k : ℕ) (w : List ℕ) → records (drop (record_words * k) w) ≡ drop k (records w)
records-drop zero w = refl
records-drop (suc k) w =
    let n : record_words * suc k ≡ record_words + record_words * k = omega arith in
    let m : suc k ≡ 1 + k = omega arith in
    rw (n, m, ← drop-drop (record_words * k) record_words w, ← drop-drop k 1 (records w), records-drop k (drop record_words w), drop-six w)

-- the record at i
abbrev pub record_at : List ℕ → ℕ → Record
record_at w i = record {
  size = get_or w (record_words * i) 0;
  set = get_or w (record_words * i + 1) 0;
  path = get_or w (record_words * i + 2) 0;
  bound = get_or w (record_words * i + 3) 0;
  first = get_or w (record_words * i + 4) 0;
  second = get_or w (record_words * i + 5) 0;
}

record_first : (w : List ℕ) → 0 < length (records w) → get_or (records w) 0 empty_record ≡ record_at w 0
unfolding records
record_first =
    by_sixes (λ w. 0 < length (records w) → get_or (records w) 0 empty_record ≡ record_at w 0)
    (λ w h k. absurd (omega (arith, length-records w)))
    (λ a b c d e f w again k. refl)

pub records_at : (w : List ℕ) (i : ℕ) → i < length (records w) → get_or (records w) i empty_record ≡ record_at w i
records_at w i h =
    let here : get_or (records w) i empty_record ≡ get_or (records (drop (record_words * i) w)) 0 empty_record =
    rw (records-drop i w, get_or-drop i (records w) 0 empty_record, add-zero) in
    let some : 0 < length (records (drop (record_words * i) w)) = rw (records-drop i w, length-drop) (omega arith) in
    here ∙ record_first (drop (record_words * i) w) some ∙ simp (get_or-drop, add-zero)

-- parts joined
abbrev Joins : List ℕ → List ℕ → Type 0
Joins v w = (k : ℕ) → k ≤ length (records w) → records (take (record_words * k) w ++ v) ≡ take k (records w) ++ records v

pub records_join : (k : ℕ) (w v : List ℕ) → k ≤ length (records w) → records (take (record_words * k) w ++ v) ≡ take k (records w) ++ records v
unfolding records
records_join k w v = by_sixes (Joins v) short more w k
  where
    short : (w : List ℕ) → length w < record_words → Joins v w
    short w h zero j = refl
    short w h (suc k) j = absurd (omega (arith, length-records w))

    more : (a b c d e f : ℕ) (w : List ℕ) → Joins v w → Joins v (a ∷ b ∷ c ∷ d ∷ e ∷ f ∷ w)
    more a b c d e f w again zero j = refl
    more a b c d e f w again (suc k) j =
        let n : record_words * suc k ≡ suc (suc (suc (suc (suc (suc (record_words * k)))))) = omega arith in
        rw (n, again k (omega arith))

-- six stores, one after another (`lib.Seq.sets`)
pub records_store : (w : List ℕ) (i : ℕ) (x : Record) → i < length (records w) → records (sets w (record_words * i) (six x)) ≡ set (records w) i x
unfolding records six
records_store w i x h =
    let inside : record_words * i + record_words ≤ length w = omega (arith, words_inside w i h) in
    let n : record_words * i + record_words ≡ record_words * suc i = omega arith in
    let k : i ≤ length (records w) = omega arith in
    ap records (sets-eq (six x) w (record_words * i) inside)
    ∙ rw (append_assoc, records_join i w (six x ++ drop (record_words * i + record_words) w) k, n, records-drop (suc i) w, set_split (records w) i x h)

-- the other way
pub records-words : (xs : List Record) → records (words xs) ≡ xs
unfolding records words six
records-words [] = refl
records-words (x ∷ xs) = ap (λ (l : List Record). x ∷ l) (records-words xs)

pub words-records : (w : List ℕ) → length w % record_words ≡ 0 → words (records w) ≡ w
unfolding records words six
words-records =
    by_sixes (λ w. length w % record_words ≡ 0 → words (records w) ≡ w)
    (λ w h k. rw (short_empty w h) (sym (drop_of_length-le w {i = 0} (omega arith))))
    (λ a b c d e f w again k. rw (again (omega arith)))

-- what 32-bit words hold
pub record Small (x : Record) : Type 0 where
  pub size : x.size < 4294967296
  pub set : x.set < 4294967296
  pub path : x.path < 4294967296
  pub bound : x.bound < 4294967296
  pub first : x.first < 4294967296
  pub second : x.second < 4294967296

abbrev HoldsSmall : List ℕ → Type 0
HoldsSmall w = ((i : ℕ) → get_or w i 0 < 4294967296) → (x : Record) → In x (records w) → Small x

pub records_small : (w : List ℕ) → ((i : ℕ) → get_or w i 0 < 4294967296) → (x : Record) → In x (records w) → Small x
unfolding records
records_small = by_sixes HoldsSmall short more
  where
    short : (w : List ℕ) → length w < record_words → HoldsSmall w
    short w h small x m = absurd (Memᴰ.not-nil (rw (short_empty w h) at m))

    more : (a b c d e f : ℕ) (w : List ℕ) → HoldsSmall w → HoldsSmall (a ∷ b ∷ c ∷ d ∷ e ∷ f ∷ w)
    more a b c d e f w again small x m = go (Memᴰ.cases_cons m)
      where
        go : (x ≡ record { size = a; set = b; path = c; bound = d; first = e; second = f }) ⊎ In x (records w) → Small x
        go (inl e) = rw e (record { size = small 0; set = small 1; path = small 2; bound = small 3; first = small 4; second = small 5 })
        go (inr n) = again (λ i. small (suc (suc (suc (suc (suc (suc i))))))) x n
