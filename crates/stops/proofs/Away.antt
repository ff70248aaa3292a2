-- Request A.5: the rows of a day that ends away have zeros for its legs home. So its figures are those that the request words (`day_away`), by the
-- legs of the same table's day that ends at home.
--   away_path, away_bound, away_dominates, away_cost    path cost, bounds, dominance, an order's cost
--   path_below       an order that ends at home costs no less than its path
--   unread_rows      what the table says of flying home is nowhere in the rows
use mathlib.Core.Path.{◌≡◌, refl, ap₂, ◌∙◌}
use mathlib.Core.Bool.{Bool, true, false, not, ◌&&◌, cond}
use mathlib.Core.List.{List, [], ◌∷◌}
use mathlib.Core.Logic.{◌≢◌}
use Prim.Native.Nat.{ℕ, suc, ◌+◌, ◌≤◌}
use native.Mathlib.Omega.{arith}
use lib.Dec.{T, eqb, leb, leb→le}
use Rattle.sizes.specs.Sizes.{most_stops, places}
use Rattle.lists.specs.Lists.{sum, least, from}
use Rattle.lists.proofs.Tests.{neq, cond_zero}
use Rattle.lists.proofs.Map.{map_same}
use Rattle.lists.proofs.Numbers.{sum_const, least_small}
use Rattle.orders.specs.Orders.{Node, left, last, complete, Partial, Order}
use Rattle.orders.proofs.Tree.{complete-left}
use Rattle.orders.proofs.Order.{order_partial, order-complete}
use Rattle.stops.specs.Tables.{entry, charge, flying, counted, in_rows, rows}
use Rattle.stops.specs.Legs.{Legs, legs, path_from, path, cost}
use Rattle.stops.specs.Bounds.{is_close, plain, cheapest_into, remainder, close, bound_by}
use Rattle.stops.specs.Stops.{day, day_on}
use Rattle.stops.specs.Away.{close_away, day_away, day_away_on}
use Rattle.stops.proofs.Paths.{dominates-same}
use Rattle.stops.proofs.LegTable.{leg_in_rows, leg-flying, counted_home}
use Rattle.stops.proofs.Charges.{path_pays, plain_pays, close_pays, cost_pays}

-- legs whose legs home count nothing
abbrev unhomed : Legs → Legs
unhomed L = record { leg = L.leg; home = λ s. 0 }

-- by such legs, cost and bounds are as worded
module _ (n : ℕ) (L : Legs) (x : Node) where
  unhomed-path : path (unhomed L) x ≡ path L x
  unfolding path
  unhomed-path = go 0 x
    where
      go : (place : ℕ) (x : Node) → path_from (unhomed L) place x ≡ path_from L place x
      go place [] = refl
      go place (s ∷ x) = omega (arith, go s x)

  unhomed-cost : cost (unhomed L) x ≡ path L x
  unfolding cost
  unhomed-cost = omega (arith, unhomed-path)

  unhomed-plain : plain n (unhomed L) x ≡ path L x
  unfolding plain
  unhomed-plain = go (complete n x)
    where
      go : (b : Bool) → cond b (cost (unhomed L) x) (path (unhomed L) x) ≡ path L x
      go true = unhomed-cost
      go false = unhomed-path

  unhomed-close : close n (unhomed L) x ≡ close_away n L x
  unfolding close close_away remainder cheapest_into
  unhomed-close = go (complete n x) refl
    where
      none : least (λ s. 0) (left n x) ≤ 0
      none = least_small (λ s. 0) 0 (λ s. omega arith) (left n x)

      go :
          (b : Bool) → complete n x ≡ b
          → cond b (cost (unhomed L) x) (path (unhomed L) x + remainder (unhomed L) (last x) (left n x))
          ≡ path L x + sum (cheapest_into L (last x) (left n x)) (left n x)
      go true e = rw (complete-left n x (rw e tt)) (omega (arith, unhomed-cost))
      go false e = omega (arith, unhomed-path, none)

module _ (n : ℕ) (some : 1 ≤ n) (few : n ≤ most_stops) (table : List ℕ) where
  -- a day's legs to the stops are the same, however it ends; and no leg home counts on one that ends away
  abbrev homeward : Legs
  homeward = legs (rows n false table)

  abbrev awayward : Legs
  awayward = legs (rows n true table)

  stops_alike : (i j : ℕ) → i ≤ n → 1 ≤ j → j ≤ n → i ≢ j → awayward.leg i j ≡ (unhomed homeward).leg i j + 0
  unfolding legs
  stops_alike i j h stop k apart = omega (arith, leg-flying n table few true i j h k stop, leg-flying n table few false i j h k stop)

  no_leg_home : (s : ℕ) → 1 ≤ s → s ≤ n → ◌≡◌ {A = ℕ} (awayward.home s) 0
  unfolding legs rows
  no_leg_home s h k = leg_in_rows n (counted true (flying n table)) few s 0 k (omega arith) ∙ counted_home (flying n table) s

  module _ (x : Node) (p : Partial n x) where
    pub away_path : (day_on n (rows n true table)).path x ≡ (day_away_on n (rows n false table)).path x
    unfolding day_on day day_away_on day_away
    away_path =
        omega (
          arith,
          path_pays n some awayward (unhomed homeward) (λ j. 0) stops_alike no_leg_home x p,
          sum_const 0 x,
          unhomed-path n homeward x,
        )

    pub away_bound : (k : ℕ) → (day_on n (rows n true table)).bound k x ≡ (day_away_on n (rows n false table)).bound k x
    unfolding day_on day day_away_on day_away bound_by
    away_bound k = ap₂ (λ (a b : ℕ). cond (is_close k) a b) near far
      where
        near : close n awayward x ≡ close_away n homeward x
        near =
            omega (
              arith,
              close_pays n some awayward (unhomed homeward) (λ j. 0) stops_alike no_leg_home x p,
              sum_const 0 (from 0 (suc n)),
              unhomed-close n homeward x,
            )

        far : plain n awayward x ≡ path homeward x
        far =
            omega (
              arith,
              plain_pays n some awayward (unhomed homeward) (λ j. 0) stops_alike no_leg_home x p,
              sum_const 0 x,
              cond_zero (complete n x),
              unhomed-plain n homeward x,
            )

  pub away_dominates :
      (y z : Node) → Partial n y → Partial n z
      → (day_on n (rows n true table)).dominates y z ≡ (day_away_on n (rows n false table)).dominates y z
  unfolding day_on day day_away_on day_away
  away_dominates y z p q = dominates-same n awayward homeward y z (away_path y p) (away_path z q)

  pub away_cost : (x : Node) → Order n x → (day_on n (rows n true table)).cost x ≡ (day_away_on n (rows n false table)).cost x
  unfolding day_on day day_away_on day_away
  away_cost x o =
      omega (
        arith,
        cost_pays n some awayward (unhomed homeward) (λ j. 0) stops_alike no_leg_home x (order_partial n x o) (order-complete n x o),
        sum_const 0 x,
        unhomed-cost n homeward x,
      )

-- an order that ends at home costs no less than its path
pub path_below : (n : ℕ) (rows : List (List ℕ)) (x : Node) → (day_on n rows).path x ≤ (day_on n rows).cost x
unfolding day_on day cost
path_below n rows x = omega arith

-- the rows have nothing of what the table says of flying home
pub unread_rows :
    (n : ℕ) (table other : List ℕ) → ((i j : ℕ) → i ≤ n → 1 ≤ j → j ≤ n → entry n table i j ≡ entry n other i j)
    → rows n true table ≡ rows n true other
unfolding rows in_rows counted flying charge
unread_rows n table other alike =
    map_same _ _ (from 0 places)
    (λ i h.
    map_same _ _ (from 0 places)
    (λ j k. at i j (leb i n) (leb j n) (eqb j 0) (leb→le i n) (leb→le j n) (λ t. neq j 0 t)))
  where
    at :
        (i j : ℕ) (inside near home : Bool) → (T inside → i ≤ n) → (T near → j ≤ n) → (T (not home) → j ≢ 0)
        → cond (inside && near) (cond home 0 (entry n table i j + entry n table j j)) 0
        ≡ cond (inside && near) (cond home 0 (entry n other i j + entry n other j j)) 0
    at i j true true true h k stop = refl
    at i j true true false h k stop =
        let some : 1 ≤ j = omega (arith, stop tt) in
        ap₂ ◌+◌ (alike i j (h tt) some (k tt)) (alike j j (k tt) some (k tt))
    at i j true false home h k stop = refl
    at i j false near home h k stop = refl
