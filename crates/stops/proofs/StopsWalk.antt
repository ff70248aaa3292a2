-- The stops of a table are a day that keeps every law of `Walk`, whatever the legs and the legs home.
--   stops_walk       the laws; rows-walk: the same of the day of the planner's rows
--   place-last, after_stop, path_further   a node is where its last stop is, a stop leads to itself, and adds its leg to any path
--   cost-day         the cost by the legs of the rows is that of their day
--   close_ge_plain   of the two bounds, close is at least plain
-- and, where no leg of the rows is above the dearest (`Cheap`), how large the numbers of such a day can be:
--   further_small, path_small, ahead_small    what a stop adds, a path cost, and what a bound adds
--   order_below                               every order is cheaper than "above every cost"
use mathlib.Core.Path.{◌≡◌, refl}
use mathlib.Core.Bool.{Bool, true, false, not, ◌&&◌, ◌||◌, cond}
use mathlib.Core.List.{List, [], ◌∷◌}
use mathlib.Core.Logic.{◌⊎◌, inl, inr}
use Prim.Native.Nat.{ℕ, suc, ◌+◌, ◌*◌, ◌≤◌, ◌<◌}
use native.Mathlib.Omega.{arith}
use lib.Dec.{T, T_not, ltb, eqb, eqb→eq}
use lib.ListN.{length}
use Rattle.sizes.specs.Sizes.{most_stops, dearest, above_every_cost}
use Rattle.lists.specs.Lists.{same}
use Rattle.lists.proofs.Tests.{and_parts, parts_and, either, equal_eqb, Tied, tied_cases, cases_tied}
use Rattle.lists.proofs.Same.{same_equal, same_refl}
use Rattle.orders.specs.Orders.{Node, set_of, left, last, smaller, extend, Order}
use Rattle.orders.proofs.Sets.{last-extend}
use Rattle.orders.proofs.Smaller.{tied_le, le_tied}
use Rattle.orders.proofs.Tree.{complete_empty}
use Rattle.orders.proofs.Order.{order-length}
use Rattle.days.proofs.Walk.{Alike, Walk, walk_closer}
use Rattle.stops.specs.Legs.{Legs, path, cost, legs}
use Rattle.stops.specs.Bounds.{is_close, plain, remainder, close, bound_by, dominates}
use Rattle.stops.specs.Stops.{day, day_on}
use Rattle.stops.specs.Code.{ahead_by, ahead, reckoning, reckon_on, Cheap}
use Rattle.stops.proofs.Paths as paths
use Rattle.stops.proofs.Ahead.{ahead_grows, ahead_closer}
use Rattle.stops.proofs.SetLoops as loops

module _ (n : ℕ) (L : Legs) where
  bound_ahead : (k : ℕ) (x : Node) → bound_by k n L x ≡ path L x + ahead k L (last x) (left n x)
  unfolding bound_by plain close cost ahead
  bound_ahead k x = rw (complete_empty n x) (go (is_close k) (left n x))
    where
      go :
          (b : Bool) (rest : List ℕ)
          → cond b (cond (same rest []) (cost L x) (path L x + remainder L (last x) rest)) (cond (same rest []) (cost L x) (path L x))
          ≡ path L x + ahead_by b L (last x) rest
      go true [] = refl
      go true (r ∷ rs) = refl
      go false [] = refl
      go false (r ∷ rs) = omega arith

  -- the last part of dominance: of two nodes of one set and one last stop, w goes first
  abbrev GoesFirst : Node → Node → Type 0
  GoesFirst w x = Tied (path L w) (path L x) (smaller w x)

  dominates_parts : (w x : Node) → T (dominates n L w x) → T (not (same w x)) × (set_of n w ≡ set_of n x) × (last w ≡ last x) × GoesFirst w x
  unfolding dominates
  dominates_parts w x h =
      let (d, s, l, p) =
      and_parts (not (same w x)) (same (set_of n w) (set_of n x)) (eqb (last w) (last x))
      (ltb (path L w) (path L x) || eqb (path L w) (path L x) && smaller w x) h in
      (d, same_equal (set_of n w) (set_of n x) s, eqb→eq (last w) (last x) l, tied_cases (path L w) (path L x) (smaller w x) p)

  parts_dominate : (w x : Node) → T (not (same w x)) → set_of n w ≡ set_of n x → last w ≡ last x → GoesFirst w x → T (dominates n L w x)
  unfolding dominates
  parts_dominate w x d s l p =
      parts_and (not (same w x)) (same (set_of n w) (set_of n x)) (eqb (last w) (last x))
      (ltb (path L w) (path L x) || eqb (path L w) (path L x) && smaller w x) d
      (rw s (same_refl (set_of n x)))
      (equal_eqb (last w) (last x) l)
      (cases_tied (path L w) (path L x) (smaller w x) p)

  dominator_alike : (w x : Node) → T (dominates n L w x) → Alike n (day n L) (reckoning L) w x
  unfolding day reckoning
  dominator_alike w x h =
      let (d, s, l, p) = dominates_parts w x h in
      let (low, tie) = tied_le (path L w) (path L x) w x p in
      record { stops = s; place = l; cheaper = low; tie = tie }

  alike_dominates : (w x : Node) → Alike n (day n L) (reckoning L) w x → (w ≡ x) ⊎ T (dominates n L w x)
  unfolding day reckoning
  alike_dominates w x a = go (either (same w x)) (le_tied (path L w) (path L x) w x a.cheaper a.tie)
    where
      go : T (same w x) ⊎ T (not (same w x)) → (w ≡ x) ⊎ GoesFirst w x → (w ≡ x) ⊎ T (dominates n L w x)
      go (inl h) k = inl (same_equal w x h)
      go (inr h) (inl e) = inl e
      go (inr h) (inr p) = inr (parts_dominate w x h a.stops a.place p)

  never_itself : (x : Node) → T (dominates n L x x) → ⊥
  never_itself x h = T_not (same x x) (dominates_parts x x h).0 (same_refl x)

  pub stops_walk : Walk n 3 (day n L) (reckoning L)
  unfolding day reckoning path last cost ahead
  stops_walk = record {
    path_root = refl;
    place_root = refl;
    path-extend = λ x s m. paths.path-extend L x s;
    place-extend = λ x s m. last-extend x s;
    bound_ahead = λ k h x. bound_ahead k x;
    cost-ahead = λ k h x. refl;
    ahead_grows = λ k h place s rest d m. ahead_grows k L place s rest d m;
    ahead_closer = λ j k h place rest. ahead_closer j k h L place rest;
    dominator_alike = dominator_alike;
    alike_dominates = alike_dominates;
    irreflexive = never_itself;
  }

  pub close_ge_plain : (x : Node) → plain n L x ≤ close n L x
  unfolding day bound_by is_close
  close_ge_plain x = walk_closer stops_walk 1 0 (inl (refl, refl)) (omega arith) x

pub rows_walk : (n : ℕ) (rows : List (List ℕ)) → Walk n 3 (day_on n rows) (reckon_on rows)
unfolding day_on reckon_on
rows_walk n rows = stops_walk n (legs rows)

pub place-last : (rows : List (List ℕ)) (x : Node) → (reckon_on rows).place x ≡ last x
unfolding reckon_on reckoning
place-last rows x = refl

pub after_stop : (rows : List (List ℕ)) (place s : ℕ) → (reckon_on rows).after place s ≡ s
unfolding reckon_on reckoning
after_stop rows place s = refl

pub path_further :
    (n : ℕ) (rows : List (List ℕ)) (x : Node) (s : ℕ)
    → (day_on n rows).path (extend x s) ≡ (day_on n rows).path x + (reckon_on rows).further ((reckon_on rows).place x) s
unfolding day_on day reckon_on reckoning
path_further n rows x s = paths.path-extend (legs rows) x s

pub cost-day : (n : ℕ) (rows : List (List ℕ)) (x : Node) → cost (legs rows) x ≡ (day_on n rows).cost x
unfolding day_on day
cost-day n rows x = refl

module _ (rows : List (List ℕ)) (cheap : Cheap rows) where
  pub further_small : (place s : ℕ) → (reckon_on rows).further place s ≤ dearest
  unfolding reckon_on reckoning
  further_small place s = cheap.leg place s

  pub path_small : (n : ℕ) (x : Node) → (day_on n rows).path x ≤ length x * dearest
  unfolding day_on day
  path_small n x = paths.path_small dearest (legs rows) cheap x

  pub ahead_small :
      (k bound place : ℕ) (rest : List ℕ) → length rest ≤ k → (reckon_on rows).ahead bound place rest ≤ suc k * dearest
  unfolding reckon_on reckoning
  ahead_small k bound place rest h = loops.ahead_small dearest (legs rows) cheap place k bound rest h

  -- at most 16 stops, and no cost above 1,100,000: an order costs at most 18,700,000
  pub order_below : (n : ℕ) → n ≤ most_stops → (x : Node) → Order n x → (day_on n rows).cost x < above_every_cost
  unfolding day_on day
  order_below n few x o = omega (arith, paths.cost_small dearest (legs rows) cheap x, order-length n x o)
