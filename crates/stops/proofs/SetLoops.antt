-- What a loop over the stops of a set needs: it takes the first stop of what is left out, and lowers or adds to what it has so far.
--   first_out, first_only, behind_small    the first stop of a set, by its trailing zeros, and what is behind it
--   Lowered, lowered_starts, lowered_again, lowered_ends    the invariant of a loop that looks for the least value over a set
--   least_alone, least_beside    the least value over a place and a set
--   Summed, summed_starts, summed_again, summed_ends    the same for a sum; summed-most: no sum on the way is above the last
--   Passed, passed_starts, passed_again, passed_ends    the same for what is done stop by stop
--   into_set                the cheapest leg into a stop, of sets that are numbers
--   ahead_none, ahead-plain, ahead-close    and what a bound adds
--   remainder_small, ahead_small    what a bound adds is small where the legs are
use mathlib.Core.Path.{◌≡◌, refl, ap, sym, subst, ◌∙◌}
use mathlib.Core.Bool.{Bool, true, false}
use mathlib.Core.List.Memᴰ
use mathlib.Core.List.{List, [], ◌∷◌}
use mathlib.Core.Logic.{◌⊎◌, inl, inr, ◌≢◌}
use Prim.Native.Nat.{ℕ, suc, ◌+◌, ◌-◌, ◌*◌, ◌^◌, ◌≤◌, ◌<◌, min}
use native.Mathlib.Nat.{mul-le-mul_right, suc-mul}
use native.Mathlib.Omega.{arith}
use lib.Count.{count_trailing_zeros}
use lib.ListN.{length, get_or}
use lib.Pow.{pow_pos}
use Rattle.sizes.specs.Sizes.{most_stops}
use Rattle.lists.specs.Lists.{In, sum, least, without}
use Rattle.lists.proofs.Tests.{compared}
use Rattle.lists.proofs.Members.{in_head, in_behind}
use Rattle.lists.proofs.Numbers.{sum_mono, sum_const, least_small}
use Rattle.stops.specs.Legs.{Legs, row_leg, legs}
use Rattle.stops.specs.Bounds.{is_close, cheapest_into, remainder}
use Rattle.stops.specs.Code.{stops_in, First, ahead_by, ahead, Within}
use Rattle.stops.specs.Examples
use Rattle.stops.proofs.SetBits.{stops_in_zero, stops_in-next, stops_in-without}
use Rattle.stops.proofs.SetJoin.{stops_in_ascends}

-- a set that is not empty has a first stop: the one that stands above its trailing zeros
module _ (m : ℕ) (some : 0 < m) (small : m < 2 ^ most_stops) where
  pub first_out : (r : ℕ) → r ≡ count_trailing_zeros 32 m + 1 → First m r
  first_out r e =
      let (f, g, h) = stops_in-next m small some in
      let back : count_trailing_zeros 32 m ≡ r - 1 = omega arith in
      let split : stops_in m ≡ r ∷ stops_in (m - 2 ^ (r - 1)) = h ∙ rw (← e, back) in
      record {
        some = omega arith;
        few = omega arith;
        member = rw split in_head;
        others = split;
        behind = λ s i. stops_in_ascends m small r (stops_in (m - 2 ^ (r - 1))) split s i;
        less = omega (arith, pow_pos (r - 1));
      }

  -- and no other
  pub first_only : (r : ℕ) → First m r → count_trailing_zeros 32 m ≡ r - 1
  first_only r o =
      let same : count_trailing_zeros 32 m + 1 ≡ r = ap (λ (xs : List ℕ). get_or xs 0 0) (sym (stops_in-next m small some).2 ∙ o.others) in
      omega arith

-- what is behind the first stop is small
pub behind_small : {m left r : ℕ} → m < 2 ^ most_stops → First m r → ((s : ℕ) → First m s → left ≡ m - 2 ^ (s - 1)) → left < 2 ^ most_stops
behind_small {r = r} h o e = omega (arith, e r o)

module _ {A : Type 0} (f : A → ℕ) where
  -- the least of v and of f over xs, taken from the left
  abbrev pub lower : ℕ → List A → ℕ
  lower v [] = v
  lower v (x ∷ xs) = lower (min v (f x)) xs

  lower-min : (v w : ℕ) (xs : List A) → lower (min v w) xs ≡ min v (lower w xs)
  lower-min v w [] = refl
  lower-min v w (x ∷ xs) =
      let apart : min (min v w) (f x) ≡ min v (min w (f x)) = omega arith in
      ap (λ (u : ℕ). lower u xs) apart ∙ lower-min v (min w (f x)) xs

  lower-least : (x : A) (xs : List A) → lower (f x) xs ≡ least f (x ∷ xs)
  lower-least x [] = refl
  lower-least x (y ∷ ys) = lower-min (f x) (f y) ys ∙ ap (min (f x)) (lower-least y ys)

-- The least value over a set is found so: with `low` the least of the stops passed and `left` the others, what is still to be found is
-- the least of `low` and of the values over `left`, and that stays `goal`.
pub record Lowered (f : ℕ → ℕ) (goal low left : ℕ) : Type 0 where
  pub small : left < 2 ^ most_stops
  pub same : lower f low (stops_in left) ≡ goal

pub lowered_starts :
    (f : ℕ → ℕ) (set r left : ℕ) → set < 2 ^ most_stops → First set r → left ≡ set - 2 ^ (r - 1) → Lowered f (least f (stops_in set)) (f r) left
lowered_starts f set r left h o e = rw (o.others, e) record { small = omega arith; same = lower-least f r (stops_in (set - 2 ^ (r - 1))) }

pub lowered_again :
    {f : ℕ → ℕ} {goal low left low' left' : ℕ} (r : ℕ) → Lowered f goal low left → First left r → left' ≡ left - 2 ^ (r - 1)
    → low' ≡ min low (f r) → Lowered f goal low' left'
lowered_again r l o e g = record {
  small = omega arith;
  same = rw (e, g) (rw o.others at l.same);
}

pub lowered_ends : {f : ℕ → ℕ} {goal low left : ℕ} → Lowered f goal low left → left ≡ 0 → low ≡ goal
lowered_ends l e = rw (e, stops_in_zero) at l.same

-- the least value over a place and a set: that of the place alone, or the lesser of its value and of the set's least
pub least_alone : (f : ℕ → ℕ) (place set : ℕ) → set ≡ 0 → f place ≡ least f (place ∷ stops_in set)
least_alone f place set e = rw (e, stops_in_zero)

pub least_beside :
    (f : ℕ → ℕ) (place set : ℕ) → 0 < set → set < 2 ^ most_stops → min (f place) (least f (stops_in set)) ≡ least f (place ∷ stops_in set)
least_beside f place set some small = rw (stops_in-next set small some).2

-- A sum over the set `rest` is found so: `total` and the values over what is left add up to `goal`, and what is left is of the set.
pub record Summed (f : ℕ → ℕ) (rest goal total left : ℕ) : Type 0 where
  pub small : left < 2 ^ most_stops
  pub among : (s : ℕ) → In s (stops_in left) → In s (stops_in rest)
  pub same : sum f (stops_in left) + total ≡ goal

pub summed_starts : {f : ℕ → ℕ} {rest goal total : ℕ} → rest < 2 ^ most_stops → sum f (stops_in rest) + total ≡ goal → Summed f rest goal total rest
summed_starts h e = record { small = h; among = λ s i. i; same = e }

module _ {f : ℕ → ℕ} {rest goal total left : ℕ} (l : Summed f rest goal total left) where
  pub summed_most : (r : ℕ) → First left r → total + f r ≤ goal
  summed_most r o = omega (arith, ap (sum f) o.others, l.same)

  pub summed_again :
      {total' left' : ℕ} (r : ℕ) → First left r → left' ≡ left - 2 ^ (r - 1) → total' ≡ total + f r → Summed f rest goal total' left'
  summed_again r o e g = rw e record {
    small = omega arith;
    among = λ s i. l.among s (rw o.others (Memᴰ.tail i));
    same = omega (arith, ap (sum f) o.others, l.same);
  }

  pub summed_ends : left ≡ 0 → total ≡ goal
  summed_ends e = omega (arith, rw (e, stops_in_zero) at l.same)

-- A loop does something for each stop of the set `rest` in turn: each of them is among those left, or it is done.
pub record Passed (Done : ℕ → Type 0) (rest left : ℕ) : Type 0 where
  pub small : left < 2 ^ most_stops
  pub among : (s : ℕ) → In s (stops_in left) → In s (stops_in rest)
  pub each : (s : ℕ) → In s (stops_in rest) → In s (stops_in left) ⊎ Done s

pub passed_starts : {Done : ℕ → Type 0} {rest : ℕ} → rest < 2 ^ most_stops → Passed Done rest rest
passed_starts h = record { small = h; among = λ s i. i; each = λ s i. inl i }

module _ {Done : ℕ → Type 0} {rest left : ℕ} (l : Passed Done rest left) where
  -- what is done now is done for the first stop left, and stays done for the others
  pub passed_again :
      {Done' : ℕ → Type 0} {left' r : ℕ} → First left r → left' ≡ left - 2 ^ (r - 1) → Done' r
      → ((s : ℕ) → In s (stops_in rest) → s ≢ r → Done s → Done' s) → Passed Done' rest left'
  passed_again {Done'} {r = r} o e now stays = rw e record {
    small = omega (arith, l.small);
    among = λ s m. l.among s (rw o.others (Memᴰ.tail m));
    each = λ s m. go s m (compared s r) (l.each s m);
  }
    where
      go : (s : ℕ) → In s (stops_in rest) → (s ≡ r) ⊎ (s ≢ r) → In s (stops_in left) ⊎ Done s → In s (stops_in (left - 2 ^ (r - 1))) ⊎ Done' s
      go s m (inl q) was = inr (subst Done' (sym q) now)
      go s m (inr n) (inl there) = inl (in_behind (rw o.others at there) n)
      go s m (inr n) (inr was) = inr (stays s m n was)

  pub passed_ends : left ≡ 0 → (s : ℕ) → In s (stops_in rest) → Done s
  passed_ends e s m = go (l.each s m)
    where
      go : In s (stops_in left) ⊎ Done s → Done s
      go (inl i) = absurd (Memᴰ.not-nil (rw (e, stops_in_zero) at i))
      go (inr q) = q

-- the cheapest leg into a stop of a set, from the others as a set
pub into_set :
    (t : List (List ℕ)) (place rest others s : ℕ) → rest < 2 ^ most_stops → In s (stops_in rest) → others ≡ rest - 2 ^ (s - 1)
    → least (λ p. row_leg t p s) (place ∷ stops_in others) ≡ cheapest_into (legs t) place (stops_in rest) s
unfolding legs cheapest_into
into_set t place rest others s h i e = rw (e, (stops_in-without rest h s i).1)

module _ (m : ℕ) (L : Legs) (w : Within m L) (place : ℕ) where
  into_small : (rest : List ℕ) (s : ℕ) → cheapest_into L place rest s ≤ m
  unfolding cheapest_into
  into_small rest s = least_small (λ r. L.leg r s) m (λ r. w.leg r s) (place ∷ without s rest)

  pub remainder_small : (rest : List ℕ) → remainder L place rest ≤ length rest * m + m
  unfolding remainder
  remainder_small rest =
      omega (
        arith,
        sum_mono (cheapest_into L place rest) (λ s. m) rest (λ s i. into_small rest s),
        sum_const m rest,
        least_small L.home m w.home rest,
      )

  pub ahead_small : (k bound : ℕ) (rest : List ℕ) → length rest ≤ k → ahead bound L place rest ≤ suc k * m
  unfolding ahead
  ahead_small k bound rest h = go (is_close bound) rest h
    where
      go : (b : Bool) (rest : List ℕ) → length rest ≤ k → ahead_by b L place rest ≤ suc k * m
      go b [] h = omega (arith, suc-mul k m, w.home place)
      go false (r ∷ rest) h = omega arith
      go true (r ∷ rest) h = omega (arith, suc-mul k m, mul-le-mul_right m h, remainder_small (r ∷ rest))

-- what a bound adds, by whether a stop is left and by which bound it is
pub ahead_none : (bound : ℕ) (L : Legs) (place rest : ℕ) → rest ≡ 0 → L.home place ≡ ahead bound L place (stops_in rest)
unfolding ahead
ahead_none bound L place rest e = rw (e, stops_in_zero)

module _ (L : Legs) (place rest : ℕ) (some : 0 < rest) (small : rest < 2 ^ most_stops) where
  pub ahead-plain : (bound : ℕ) → is_close bound ≡ false → 0 ≡ ahead bound L place (stops_in rest)
  unfolding ahead
  ahead-plain bound e = rw (e, (stops_in-next rest small some).2)

  pub ahead-close : (bound : ℕ) → is_close bound ≡ true → remainder L place (stops_in rest) ≡ ahead bound L place (stops_in rest)
  unfolding ahead
  ahead-close bound e = rw (e, (stops_in-next rest small some).2)
