-- How many active nodes stay.
--   beaten_here, beaten_later, beaten_none    whether a child of some dominates a record: the first one does, or one behind it, or there is none
--   stays_not, stays_else                     a record stays if it is up to the limit and no child dominates it
--   staying-none, staying_more                those that stay of some records: of none, and of one more
--   staying_parts                             those of the nodes before the branched one, and of those behind it
--   staying_few, staying-all                  they are among the others, and are these where no child takes part and U did not fall
--   far_more, active_few                      what else holds of a change
use mathlib.Core.Path.{◌≡◌, refl, sym, ap, subst, ◌∙◌}
use mathlib.Core.Bool.{Bool, true, false, not, ◌&&◌, and-true}
use mathlib.Core.List.{List, [], ◌∷◌}
use mathlib.Core.Logic.{◌⊎◌, inl, inr}
use Prim.Native.Nat.{ℕ, suc, ◌+◌, ◌-◌, ◌^◌, ◌≤◌, ◌<◌}
use native.Mathlib.Numerals.{add-one}
use native.Mathlib.Omega.{arith}
use lib.Dec.{T, leb, le→leb}
use lib.ListN.{length, get_or, take, length-append}
use lib.Seq.{slice, slice_empty, slice-cons}
use mir.Val.{bool_byte}
use borrow.Author.Tests.{lt-ltb, leb-true, lt-leb, le-leb}
use Rattle.lists.specs.Lists.{keep}
use Rattle.lists.proofs.Keep.{keep_append, keep_all}
use Rattle.lists.proofs.Numbers.{keep_parts}
use Rattle.lists.proofs.Slices.{slice_join}
use Rattle.stops.specs.Code.{empty_record, rec_dominates, First}
use Rattle.stops.specs.declared.node_record.Record.{Record}
use Rattle.records.specs.Code.{in_slot, slots}
use Rattle.records.proofs.SlotLaws.{slots-first, slots-none}
use Rattle.lanes.specs.Sizes.{gone}
use Rattle.lanes.specs.Code.{sized, is_live, live_in, others_of}
use Rattle.lanes.specs.declared.layout.Layout.{Layout}
use Rattle.lanes.proofs.LiveLaws.{live_append, live_more, live_less, live_few, others_few}
use Rattle.replacement.specs.Code.{is_beaten, is_staying, staying_of, Changing}
use Rattle.replacement.specs.declared.change.Change.{Change}

module _ (kids : List Record) (x : Record) where
  pub beaten_none : is_beaten (slots 0 kids) x ≡ false
  beaten_none = rw (slots-none kids)

  module _ {left s : ℕ} (o : First left s) where
    pub beaten_here : rec_dominates (in_slot kids s) x ≡ true → is_beaten (slots left kids) x ≡ true
    beaten_here e = rw (slots-first kids o, e)

    pub beaten_later : rec_dominates (in_slot kids s) x ≡ false → is_beaten (slots left kids) x ≡ is_beaten (slots (left - 2 ^ (s - 1)) kids) x
    beaten_later e = rw (slots-first kids o, e)

-- a record above the limit does not stay, and another does if no child dominates it
module _ (limit : ℕ) (ys : List Record) (x : Record) where
  pub stays_not : limit < x.bound → false ≡ is_staying limit ys (sized x)
  unfolding is_staying sized
  stays_not h = rw (lt-leb x.bound limit h)

  pub stays_else : x.bound ≤ limit → not (is_beaten ys (sized x)) ≡ is_staying limit ys (sized x)
  unfolding is_staying sized
  stays_else h = rw (le-leb x.bound limit h)

pub one_or_none : (b : Bool) → bool_byte b ≤ 1
one_or_none true = omega arith
one_or_none false = omega arith

-- those that stay of the records from one place to another
abbrev pub staying_in : ℕ → List Record → List Record → ℕ → ℕ → ℕ
staying_in limit ys recs from to = length (keep (is_staying limit ys) (live_in (slice from to recs)))

module _ (limit : ℕ) (ys recs : List Record) (small : limit < gone) where
  staying_live : (x : Record) → is_staying limit ys (sized x) ≡ true → is_live x ≡ true
  unfolding is_staying sized is_live
  staying_live x e = go (leb x.bound limit) refl e
    where
      go : (b : Bool) → leb x.bound limit ≡ b → (b && not (is_beaten ys (sized x))) ≡ true → is_live x ≡ true
      go true l s = lt-ltb x.bound gone (omega (arith, leb-true x.bound limit l))
      go false l s = absurd (subst T (sym s) tt)

  -- of one record
  staying_one : (x : Record) → length (keep (is_staying limit ys) (live_in (x ∷ []))) ≡ bool_byte (is_staying limit ys (sized x))
  unfolding live_in
  staying_one x = go (is_live x) (is_staying limit ys (sized x)) refl refl
    where
      go : (l s : Bool) → is_live x ≡ l → is_staying limit ys (sized x) ≡ s → length (keep (is_staying limit ys) (live_in (x ∷ []))) ≡ bool_byte s
      go true true live e = rw (live_more x [] live, e)
      go true false live e = rw (live_more x [] live, e)
      go false true live e = absurd (subst T (sym (staying_live x e) ∙ live) tt)
      go false false live e = rw (live_less x [] live)

  pub staying-none : (from : ℕ) → staying_in limit ys recs from from ≡ 0
  unfolding live_in
  staying-none from = rw (slice_empty from recs)

  pub staying_more :
      (from i : ℕ) → from ≤ i → i < length recs
      → staying_in limit ys recs from (i + 1) ≡ staying_in limit ys recs from i + bool_byte (is_staying limit ys (sized (get_or recs i empty_record)))
  staying_more from i h k =
      let x = get_or recs i empty_record in
      let one : slice i (i + 1) recs ≡ x ∷ [] =
      slice-cons i (i + 1) recs empty_record (omega arith) (omega arith) ∙ rw (add-one i, slice_empty (suc i) recs) in
      rw (
        ← slice_join recs from i (i + 1) h (omega arith) (omega arith),
        one,
        live_append (slice from i recs) (x ∷ []),
        keep_append (is_staying limit ys) (live_in (slice from i recs)) (live_in (x ∷ [])),
        length-append (keep (is_staying limit ys) (live_in (slice from i recs))) (keep (is_staying limit ys) (live_in (x ∷ []))),
        staying_one x,
      )

module _ (recs : List Record) (p : Layout) (i : ℕ) (c : Change) (kids : List Record) where
  pub staying_parts :
      length (staying_of recs p i c kids)
      ≡ staying_in c.limit (slots c.taking kids) recs 0 i + staying_in c.limit (slots c.taking kids) recs (i + 1) p.used
  unfolding staying_of
  staying_parts =
      let test = is_staying c.limit (slots c.taking kids) in
      rw (
        add-one i,
        keep_append test (live_in (take i recs)) (live_in (slice (suc i) p.used recs)),
        length-append (keep test (live_in (take i recs))) (keep test (live_in (slice (suc i) p.used recs))),
      )

  module _ (h : Changing recs p i c kids) where
    others-count : suc (length (others_of p.used i recs)) ≡ p.active
    others-count = others_few recs p.used (omega (arith, h.front, h.whole)) i h.inside h.live ∙ sym h.counted

    pub staying_few : suc (length (staying_of recs p i c kids)) ≤ p.active
    unfolding staying_of
    staying_few =
        omega (arith, others-count, keep_parts (is_staying c.limit (slots c.taking kids)) (others_of p.used i recs))

    pub staying-all : c.taking ≡ 0 → c.fell ≡ false → suc (length (staying_of recs p i c kids)) ≡ p.active
    unfolding staying_of is_staying
    staying-all none kept =
        ap (λ (l : List Record). suc (length l))
        (keep_all (is_staying c.limit (slots c.taking kids)) (others_of p.used i recs)
        (λ x m. rw (none, beaten_none kids x, and-true) (le→leb x.bound c.limit (h.right kept x m))))
        ∙ others-count

    -- what else the change is: the far end grows by at most one, and the numbers are those of the pool
    pub far_more : c.far ≤ p.far + 1
    far_more = go h.back
      where
        go : ((c.far ≡ 0) × (p.far ≡ 0)) ⊎ (c.far ≡ p.far + 1) → c.far ≤ p.far + 1
        go (inl e) = omega arith
        go (inr e) = omega arith

    pub active_few : p.active ≤ p.used
    active_few = omega (arith, h.counted, live_few recs p.used)
