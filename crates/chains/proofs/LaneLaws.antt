-- From the records of a lane to the nodes that it shows: a record is free of the ones if and only if it is free of the others.
--   lane_front, any-far      a lane from the pool's first place on is its front; one from its last place on has the records of its far end
--   free-front, free-far     so a record is free of the lane if it is free of the nodes
--   free-others              nodes of other sets do not matter
use mathlib.Core.Path.{◌≡◌, refl, ap, sym, ◌∙◌}
use mathlib.Core.Bool.{Bool, true, false, not, ◌&&◌, ◌||◌, and-false, or_comm}
use mathlib.Core.List.{List, ◌∷◌, map, map-append}
use Prim.Native.Nat.{ℕ, zero, suc, ◌-◌, ◌≤◌, ◌<◌}
use native.Mathlib.Omega.{arith}
use borrow.Author.Tests.{ne_eqb}
use lib.Dec.{T, leb, leb→le, lt→ltb}
use lib.ListN.{length, get_or, take}
use lib.Seq.{slice, take-suc, drop-cons, drop-length}
use Rattle.lists.specs.Lists.{put, keep, any}
use Rattle.lists.proofs.Any.{any-keep, any_same}
use Rattle.lists.proofs.Keep.{any_append}
use Rattle.lists.proofs.Map.{any-map, map-from}
use Rattle.lists.proofs.Tests.{same_tests, and_left, and_right, and_both}
use Rattle.stops.specs.Code.{empty_record, rec_dominates}
use Rattle.stops.specs.declared.node_record.Record.{Record}
use Rattle.lanes.specs.Sizes.{gone}
use Rattle.lanes.specs.Code.{sized, is_live, live_in, live_of, others_of, far_of, rec_at, lane_of}
use Rattle.lanes.proofs.LiveLaws.{live_append, lane_cut}
use Rattle.chains.specs.Code.{is_rival, is_free}
use Rattle.chains.proofs.WalkLaws.{any_more, sets_apart}

pub lane_front : (recs : List Record) (used : ℕ) → used ≤ length recs → lane_of recs 0 used ≡ map sized (take used recs)
lane_front recs zero inside = refl
lane_front recs (suc k) inside =
    let last : suc k - 1 ≡ k = omega arith in
    map-from (rec_at recs 0) 0 k k (omega arith)
    ∙ rw (last, lane_front recs k (omega arith), take-suc recs k empty_record inside, map-append)

pub any-far :
    (test : Record → Bool) (recs : List Record) (far : ℕ) → 0 < length recs → far ≤ length recs
    → any test (lane_of recs (length recs) far) ≡ any test (far_of far recs)
any-far test recs zero some inside = let none : length recs - 0 ≡ length recs = omega arith in rw (none, drop-length)
any-far test recs (suc k) some inside =
    let at : ℕ = length recs - suc k in
    let first : rec_at recs (length recs) k ≡ sized (get_or recs at empty_record) = rw (ne_eqb (length recs) 0 (λ e. omega arith)) in
    let behind : suc at ≡ length recs - k = omega arith in
    any_more (rec_at recs (length recs)) test k
    ∙ or_comm (any test (lane_of recs (length recs) k)) (test (rec_at recs (length recs) k))
    ∙ rw (first, any-far test recs k some (omega arith), drop-cons recs at empty_record (omega arith), ← behind)

-- a gone record's bound is above every limit
live_rival : (limit : ℕ) → limit < gone → (x y : Record) → (is_live y && is_rival limit x (sized y)) ≡ is_rival limit x (sized y)
unfolding is_live sized
live_rival limit below x y = same_tests (is_live y && rival) rival (and_right (is_live y) rival) both
  where
    rival : Bool
    rival = is_rival limit x (sized y)

    both : T rival → T (is_live y && rival)
    both t =
        let low = leb→le y.bound limit (and_left (leb y.bound limit) (rec_dominates (sized y) x) t) in
        and_both (is_live y) rival (lt→ltb y.bound gone (omega arith)) t

module _ (limit : ℕ) (recs : List Record) (x : Record) where
  pub free-front : limit < gone → (used : ℕ) → used ≤ length recs → is_free limit (lane_of recs 0 used) x ≡ is_free limit (live_of used recs) x
  unfolding is_free live_in
  free-front below used inside =
      let ys = take used recs in
      ap not
      (ap (any rival) (lane_front recs used inside) ∙ any-map sized shown rival ys (λ y m. refl)
      ∙ sym (any_same (λ y. is_live y && shown y) shown ys (λ y m. live_rival limit below x y))
      ∙ sym (any-keep shown is_live ys)
      ∙ sym (any-map sized shown rival (keep is_live ys) (λ y m. refl)))
    where
      rival : Record → Bool
      rival y = is_rival limit x y

      shown : Record → Bool
      shown y = is_rival limit x (sized y)

  pub free-far :
      (far : ℕ) → 0 < length recs → far ≤ length recs → is_free limit (lane_of recs (length recs) far) x ≡ is_free limit (far_of far recs) x
  unfolding is_free
  free-far far some inside = ap not (any-far (is_rival limit x) recs far some inside)

-- a record of another set is no rival
apart :
    (limit : ℕ) (x y : Record) (ys : List Record) → (y.set ≡ x.set → ⊥)
    → any (is_rival limit x) (live_in (y ∷ ys)) ≡ any (is_rival limit x) (live_in ys)
unfolding live_in sized
apart limit x y ys other = go (is_live y)
  where
    go : (b : Bool) → any (is_rival limit x) (map sized (put b y (keep is_live ys))) ≡ any (is_rival limit x) (map sized (keep is_live ys))
    go true = rw (← sets_apart (sized y) x other, and-false)
    go false = refl

pub free-others :
    (limit : ℕ) (recs : List Record) (x : Record) (used i : ℕ) → i < used → used ≤ length recs → ((get_or recs i empty_record).set ≡ x.set → ⊥)
    → is_free limit (live_of used recs) x ≡ is_free limit (others_of used i recs) x
unfolding is_free
free-others limit recs x used i below inside other =
    let rival : Record → Bool = is_rival limit x in
    let before = live_in (take i recs) in
    let y = get_or recs i empty_record in
    let ys = slice (suc i) used recs in
    ap not
    (ap (any rival) (ap live_in (lane_cut recs used inside i below) ∙ live_append (take i recs) (y ∷ ys))
    ∙ any_append rival before (live_in (y ∷ ys))
    ∙ ap (λ (b : Bool). any rival before || b) (apart limit x y ys other)
    ∙ sym (any_append rival before (live_in ys)))
