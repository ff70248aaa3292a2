-- What the loops of this crate need that fill an array of a number for each place.
--   filled, entered_more      what is filled from a place on, and entered at one place after the other
--   row_ends, row_on          what a row makes of the places of the stops of a set, some cells after the others
--   from_another               the leg into a stop from another one, above every cost from the stop itself
--   Joined, joined_starts, joined_again, joined_ends    the invariant of a loop that goes through the rows of the stops of a set: at last the least
--                             leg into each stop from another one stands at its place
use mathlib.Core.Path.{◌≡◌, refl, ap, ◌∙◌}
use mathlib.Core.Bool.{Bool, true, false, not, cond}
use mathlib.Core.List.Memᴰ
use mathlib.Core.List.{List, [], ◌∷◌}
use mathlib.Core.Logic.{◌⊎◌, inl, inr, ◌≢◌}
use Prim.Native.Nat.{ℕ, suc, ◌+◌, ◌-◌, ◌^◌, ◌≤◌, ◌<◌, min}
use native.Mathlib.Omega.{arith}
use lib.Dec.{eqb}
use lib.Pow.{pow_mono}
use lib.ListN.{length, get_or, set, replicate, length-set}
use borrow.Rule.Slice.PartMut.{put_mid, mid_of}
use Rattle.std.proofs.lemmas.List.{places as places-law}
use lib.Seq.{get_or-set_same, get_or-set_other}
use Rattle.sizes.specs.Sizes.{most_stops, places, above_every_cost}
use Rattle.lists.specs.Lists.{In, put, least, without}
use Rattle.lists.proofs.Tests.{compared, ordered}
use Rattle.lists.proofs.Numbers.{least_small}
use Rattle.stops.specs.Legs.{row_leg, legs}
use Rattle.stops.specs.Code.{stops_in, First, Cheap}
use Rattle.stops.proofs.SetBits.{stops_in_range, stops_in-without}
use Rattle.stops.proofs.SetLoops.{lower, Lowered, lowered_again, lowered_ends}
use Rattle.carried.specs.Carried.{among}
use Rattle.carried.specs.Code.{Table, Several, lessened, Entered}
use Rattle.carried.proofs.SetLaws.{others_some}

-- what is filled from place a on
pub filled :
    (a k : ℕ) {v : ℕ} {xs ys : List ℕ} → length xs ≡ places → a + k ≡ places → ys ≡ replicate (length (mid_of a k xs)) v
    → Entered (λ s. v) xs (put_mid a k xs ys) a places
filled a k {v} {xs} h whole e = rw (e, n) record {
  done = λ s p q. grind (arith, places-law);
  early = λ s p. grind (arith, places-law);
  late = λ s p. grind (arith, places-law);
  room = grind (arith, places-law);
}
  where
    n : length (mid_of a k xs) ≡ k
    n = grind (arith, places-law)

-- numbers are entered at one place after the other
pub entered_more :
    {new : ℕ → ℕ} {xs₀ xs : List ℕ} {a s v : ℕ} → Entered new xs₀ xs a s → a ≤ s → s < places → v ≡ new s
    → Entered new xs₀ (set xs s v) a (s + 1)
entered_more {new} {xs₀} {xs} {a} {s} {v} x some few e = record {
  done = λ j p q. go j p q (compared j s);
  early = λ j p. other j (λ q. let z : j ≡ s = q in omega arith) ∙ x.early j p;
  late = λ j p. other j (λ q. let z : j ≡ s = q in omega arith) ∙ x.late j (omega arith);
  room = length-set xs s v ∙ x.room;
}
  where
    other : (j : ℕ) → j ≢ s → get_or (set xs s v) j 0 ≡ get_or xs j 0
    other j d = get_or-set_other xs s j v 0 d

    go : (j : ℕ) → a ≤ j → j < s + 1 → (j ≡ s) ⊎ (j ≢ s) → get_or (set xs s v) j 0 ≡ new j
    go j p q (inl z) = rw z (get_or-set_same xs s v 0 (omega (arith, x.room)) ∙ e)
    go j p q (inr n) = other j n ∙ x.done j p (omega arith)

-- What the cells of a row up to stop k make of the places of the stops of a set that reaches no further: all that the row makes of them. And cells joined
-- behind others do as if all had joined at once.
module _ (row : List ℕ) (r : ℕ) {xs ys : List ℕ} (k : ℕ) (x : Entered (lessened row r xs) xs ys 1 (suc k)) where
  pub row_ends :
      {rest : ℕ} → rest < 2 ^ most_stops → rest < 2 ^ k
      → ((s : ℕ) → In s (stops_in rest) → get_or ys s 0 ≡ lessened row r xs s) × (length ys ≡ places)
  row_ends {rest} h f = (λ s i. go s i (ordered s k), x.room)
    where
      go : (s : ℕ) → In s (stops_in rest) → (s ≤ k) ⊎ (k < s) → get_or ys s 0 ≡ lessened row r xs s
      go s i (inl q) = x.done s (stops_in_range rest h s i).0 (omega arith)
      go s i (inr q) = absurd (omega (arith, (stops_in-without rest h s i).0, pow_mono {i = k} {j = s - 1} (omega arith)))

  pub row_on : {zs : List ℕ} (m : ℕ) → k ≤ m → Entered (lessened row r ys) ys zs (suc k) (suc m) → Entered (lessened row r xs) xs zs 1 (suc m)
  unfolding lessened
  row_on {zs} m less y = record {
    done = λ s a b. go s a b (ordered s k);
    early = λ s a. y.early s (omega arith) ∙ x.early s a;
    late = λ s a. y.late s a ∙ x.late s (omega arith);
    room = y.room;
  }
    where
      go : (s : ℕ) → 1 ≤ s → s < suc m → (s ≤ k) ⊎ (k < s) → get_or zs s 0 ≡ lessened row r xs s
      go s a b (inl q) = y.early s (omega arith) ∙ x.done s a (omega arith)
      go s a b (inr q) =
          y.done s (omega arith) b ∙ ap (λ (v : ℕ). min v (cond (eqb s r) above_every_cost (get_or row s 0))) (x.late s (omega arith))

-- the leg into s from r, above every cost from s itself
abbrev pub from_another : Table → ℕ → ℕ → ℕ
from_another t s r = cond (eqb s r) above_every_cost (row_leg t r s)

-- taken from the left, with a first value that is not too small, the least value is the least
lower-least : {A : Type 0} (f : A → ℕ) (v : ℕ) (x : A) (xs : List A) → lower f v (x ∷ xs) ≡ min v (least f (x ∷ xs))
lower-least f v x [] = refl
lower-least f v x (y ∷ ys) = lower-least f (min v (f x)) y ys ∙ omega arith

-- what is above every value may stand for a number's own
lower-without :
    (f : ℕ → ℕ) (m s v : ℕ) (xs : List ℕ) → v ≤ m → lower (λ r. cond (eqb s r) m (f r)) v xs ≡ lower f v (without s xs)
lower-without f m s v [] h = refl
lower-without f m s v (x ∷ xs) h = go (eqb s x) (λ w. lower-without f m s w xs)
  where
    go :
        (b : Bool) → ((w : ℕ) → w ≤ m → lower (λ r. cond (eqb s r) m (f r)) w xs ≡ lower f w (without s xs))
        → lower (λ r. cond (eqb s r) m (f r)) (min v (cond b m (f x))) xs ≡ lower f v (put (not b) x (without s xs))
    go true again = let e : min v m ≡ v = omega arith in rw e (again v h)
    go false again = again (min v (f x)) (omega arith)

-- so the least leg from another stop is found
lower-among : (f : ℕ → ℕ) (m : ℕ) → ((r : ℕ) → f r ≤ m) → (r : ℕ) (xs : List ℕ) → In r xs → lower f m xs ≡ least f xs
lower-among f m h r [] i = absurd (Memᴰ.not-nil i)
lower-among f m h r (x ∷ xs) i = lower-least f m x xs ∙ omega (arith, least_small f m h (x ∷ xs))

-- The invariant of a loop through the rows of the stops of rest: with the rows of the stops left, each place gets the least leg into it.
pub record Joined (t : Table) (rest : ℕ) (into : List ℕ) (left : ℕ) : Type 0 where
  pub small : left < 2 ^ most_stops
  pub each :
      (s : ℕ) → In s (stops_in rest)
      → Lowered (from_another t s) (lower (from_another t s) above_every_cost (stops_in rest)) (get_or into s 0) left
  pub room : length into ≡ places

pub joined_starts :
    (t : Table) (rest : ℕ) (into : List ℕ) → rest < 2 ^ most_stops → ((s : ℕ) → 1 ≤ s → s < places → get_or into s 0 ≡ above_every_cost)
    → length into ≡ places → Joined t rest into rest
joined_starts t rest into h e room = record {
  small = h;
  each = λ s i.
      let (a, b) = stops_in_range rest h s i in
      record { small = h; same = ap (λ (v : ℕ). lower (from_another t s) v (stops_in rest)) (e s a (omega arith)) };
  room = room;
}

pub joined_again :
    {t : Table} {rest left left' : ℕ} {into into' : List ℕ} (r : ℕ) → Joined t rest into left → First left r → left' ≡ left - 2 ^ (r - 1)
    → ((s : ℕ) → In s (stops_in rest) → get_or into' s 0 ≡ lessened (get_or t r []) r into s) → length into' ≡ places → Joined t rest into' left'
unfolding row_leg lessened
joined_again r l o e h room = record {
  small = omega (arith, l.small, o.less);
  each = λ s i. lowered_again r (l.each s i) o e (h s i);
  room = room;
}

-- where each stop has others beside it, it is the least leg from another one
pub joined_ends :
    (t : Table) {rest left : ℕ} {into : List ℕ} → Several rest → Cheap t → Joined t rest into left → left ≡ 0 → (s : ℕ) → In s (stops_in rest)
    → get_or into s 0 ≡ among (legs t) (stops_in rest) s
unfolding legs among
joined_ends t {rest} v cheap l e s i =
    let (r, j) = others_some t v s i in
    lowered_ends (l.each s i) e
    ∙ lower-without (λ r. row_leg t r s) above_every_cost s above_every_cost (stops_in rest) (omega arith)
    ∙ lower-among (λ r. row_leg t r s) above_every_cost (λ r. omega (arith, cheap.leg r s)) r (without s (stops_in rest)) j
