-- What landing charges add (request A.4). L and M are legs from place to place, the places are those up to n, and flying by L from one place to
-- another costs what it costs by M and f of the place landed at. Nothing is asked of a leg from a place to itself, for none is flown.
--   path_pays     a path pays f of each of its stops
--   plain_pays    the plain bound: of the stops flown, and of home where none is left
--   close_pays    the close bound: of every place
--   cost_pays     an order: of every place
-- And so of the days of a table:
--   day_path_pays, day_plain_pays, day_close_pays, day_cost_pays    the planner's, against that of the legs alone
--   uncharged_rows      where there are no charges, the two are one
--   diagonal_path, diagonal_bound, diagonal_dominates, diagonal_cost    with any other costs on the diagonal of the rows, a day is the same
use mathlib.Core.Path.{◌≡◌, refl, sym, subst}
use mathlib.Core.Bool.{Bool, true, false, ◌&&◌, cond}
use mathlib.Core.List.Memᴰ
use mathlib.Core.List.{List, [], ◌∷◌}
use mathlib.Core.Logic.{◌⊎◌, inl, inr, ◌≢◌}
use Prim.Native.Nat.{ℕ, suc, ◌+◌, ◌≤◌}
use native.Mathlib.Omega.{arith}
use lib.Dec.{T, T_not, eqb, leb, leb→le}
use Rattle.sizes.specs.Sizes.{most_stops, places}
use Rattle.lists.specs.Lists.{In, sum, least, without, from, Distinct, more}
use Rattle.lists.proofs.Tests.{and_right, neq, cond_zero}
use Rattle.lists.proofs.Map.{map_same}
use Rattle.lists.proofs.Members.{in_head, in_keep}
use Rattle.lists.proofs.Numbers.{least_adds, sum_adds, sum_const}
use Rattle.orders.specs.Orders.{Node, flown, left, last, complete, Partial, Order}
use Rattle.orders.proofs.Sets.{in_flown, in_left, last_in}
use Rattle.orders.proofs.Tree.{complete-left, left-complete, last-flown}
use Rattle.orders.proofs.Partial.{partial_sum}
use Rattle.orders.proofs.Order.{order_partial, order-complete, order-sum}
use Rattle.stops.specs.Tables.{entry, charge, flying, counted, in_rows, rows, leg_rows, landing}
use Rattle.stops.specs.Legs.{Legs, row_leg, legs, path_from, path, cost}
use Rattle.stops.specs.Bounds.{is_close, plain, cheapest_into, remainder, close, bound_by}
use Rattle.stops.specs.Stops.{day, day_on}
use Rattle.stops.proofs.Paths.{dominates-same}
use Rattle.stops.proofs.LegTable.{leg_in_rows}

module _
    (n : ℕ) (some : 1 ≤ n) (L M : Legs) (f : ℕ → ℕ)
    (legs-pay : (i j : ℕ) → i ≤ n → 1 ≤ j → j ≤ n → i ≢ j → L.leg i j ≡ M.leg i j + f j)
    (home-pays : (s : ℕ) → 1 ≤ s → s ≤ n → L.home s ≡ M.home s + f 0) where
  path_from_pays :
      (place : ℕ) (x : Node) → place ≤ n → ((s : ℕ) → In s x → (1 ≤ s) × (s ≤ n)) → Distinct (place ∷ x)
      → path_from L place x ≡ path_from M place x + sum f x
  path_from_pays place [] near stops d = refl
  path_from_pays place (s ∷ x) near stops (more new d) =
      let (h, k) = stops s in_head in
      omega (
        arith,
        legs-pay place s near h k (λ e. new (rw e in_head)),
        path_from_pays s x k (λ r m. stops r (Memᴰ.tail m)) d,
      )

  module _ (x : Node) (p : Partial n x) where
    -- home, and then the stops of x
    home_first : Distinct (0 ∷ x)
    home_first = more (λ (m : In 0 x). omega (arith, (p.only 0 m).0)) p.once

    near : (s : ℕ) → In s (0 ∷ x) → s ≤ n
    near s m = go (Memᴰ.cases_cons m)
      where
        go : (s ≡ 0) ⊎ In s x → s ≤ n
        go (inl e) = omega arith
        go (inr k) = (p.only s k).1

    pub path_pays : path L x ≡ path M x + sum f x
    unfolding path
    path_pays = path_from_pays 0 x (omega arith) p.only home_first

    -- a stop that is left is not where the node ends
    elsewhere : (s : ℕ) → In s (left n x) → last x ≢ s
    elsewhere s m e = go (Memᴰ.cases_cons (last_in x))
      where
        go : (last x ≡ 0) ⊎ In (last x) x → ⊥
        go (inl z) = omega (arith, e, z, (in_left n x s m).0)
        go (inr k) = T_not (flown x s) (in_left n x s m).2 (in_flown x s (rw (← e) k))

    into_pays : (s : ℕ) → In s (left n x) → cheapest_into L (last x) (left n x) s ≡ cheapest_into M (last x) (left n x) s + f s
    unfolding cheapest_into
    into_pays s m =
        least_adds (λ r. L.leg r s) (λ r. M.leg r s) (f s) (last x) (without s (left n x))
        (λ r k. let h = among r (Memᴰ.cases_cons k) in legs-pay r s h.0 (in_left n x s m).0 (in_left n x s m).1 h.1)
      where
        among : (r : ℕ) → (r ≡ last x) ⊎ In r (without s (left n x)) → (r ≤ n) × (r ≢ s)
        among r (inl e) = rw e (near (last x) (last_in x), elsewhere s m)
        among r (inr k) =
            let (i, apart) = in_keep _ (left n x) r k in
            ((in_left n x r i).1, λ e. neq s r apart (rw e refl))

    remainder_pays :
        (r : ℕ) (rest : List ℕ) → left n x ≡ r ∷ rest
        → remainder L (last x) (left n x) ≡ remainder M (last x) (left n x) + (sum f (left n x) + f 0)
    unfolding remainder
    remainder_pays r rest e =
        let homes : least L.home (r ∷ rest) ≡ least M.home (r ∷ rest) + f 0 =
        least_adds L.home M.home (f 0) r rest (λ s m. let h = in_left n x s (rw e m) in home-pays s h.0 h.1) in
        omega (
          arith,
          sum_adds (cheapest_into L (last x) (left n x)) (cheapest_into M (last x) (left n x)) f (left n x) into_pays,
          subst (λ (l : List ℕ). least L.home l ≡ least M.home l + f 0) (sym e) homes,
        )

    pub cost_pays : T (complete n x) → cost L x ≡ cost M x + (sum f x + f 0)
    unfolding cost
    cost_pays whole =
        let h = p.only (last x) (last-flown n some x whole) in
        omega (arith, path_pays, home-pays (last x) h.0 h.1)

    pub plain_pays : plain n L x ≡ plain n M x + (sum f x + cond (complete n x) (f 0) 0)
    unfolding plain
    plain_pays = go (complete n x) (λ t. t)
      where
        go :
            (b : Bool) → (T b → T (complete n x))
            → cond b (cost L x) (path L x) ≡ cond b (cost M x) (path M x) + (sum f x + cond b (f 0) 0)
        go true whole = cost_pays (whole tt)
        go false whole = omega (arith, path_pays)

    pub close_pays : close n L x ≡ close n M x + sum f (from 0 (suc n))
    unfolding close
    close_pays = go (complete n x) refl (left n x) refl
      where
        go :
            (b : Bool) → complete n x ≡ b → (rest : List ℕ) → left n x ≡ rest
            → cond b (cost L x) (path L x + remainder L (last x) (left n x))
            ≡ cond b (cost M x) (path M x + remainder M (last x) (left n x)) + sum f (from 0 (suc n))
        go true e rest none =
            let whole : T (complete n x) = rw e tt in
            let flown-all : sum f (left n x) ≡ 0 = rw (complete-left n x whole) refl in
            omega (arith, cost_pays whole, partial_sum n f x p, flown-all)
        go false e [] none = absurd (rw e at (left-complete n x none))
        go false e (r ∷ rest) left_is = omega (arith, path_pays, remainder_pays r rest left_is, partial_sum n f x p)

-- THE DAYS OF A TABLE

-- two days over rows, where costs are g's and f of the place landed at
module _
    (n : ℕ) (some : 1 ≤ n) (few : n ≤ most_stops) (costs g : ℕ → ℕ → ℕ) (f : ℕ → ℕ)
    (pays : (i j : ℕ) → i ≤ n → j ≤ n → i ≢ j → costs i j ≡ g i j + f j) where
  at_place : (i j : ℕ) → i ≤ n → j ≤ n → i ≢ j → row_leg (in_rows n costs) i j ≡ row_leg (in_rows n g) i j + f j
  at_place i j h k apart = rw (leg_in_rows n costs few i j h k, leg_in_rows n g few i j h k) (pays i j h k apart)

  row_pays : (i j : ℕ) → i ≤ n → 1 ≤ j → j ≤ n → i ≢ j → row_leg (in_rows n costs) i j ≡ row_leg (in_rows n g) i j + f j
  row_pays i j h stop k apart = at_place i j h k apart

  home_row_pays : (s : ℕ) → 1 ≤ s → s ≤ n → row_leg (in_rows n costs) s 0 ≡ row_leg (in_rows n g) s 0 + f 0
  home_row_pays s h k = at_place s 0 k (omega arith) (λ e. omega arith)

  module _ (x : Node) (p : Partial n x) where
    rows-path : (day_on n (in_rows n costs)).path x ≡ (day_on n (in_rows n g)).path x + sum f x
    unfolding day_on day legs
    rows-path = path_pays n some (legs (in_rows n costs)) (legs (in_rows n g)) f row_pays home_row_pays x p

    rows-plain :
        (k : ℕ) → is_close k ≡ false
        → (day_on n (in_rows n costs)).bound k x ≡ (day_on n (in_rows n g)).bound k x + (sum f x + cond (complete n x) (f 0) 0)
    unfolding day_on day legs bound_by
    rows-plain k e = rw e (plain_pays n some (legs (in_rows n costs)) (legs (in_rows n g)) f row_pays home_row_pays x p)

    rows-close :
        (k : ℕ) → is_close k ≡ true
        → (day_on n (in_rows n costs)).bound k x ≡ (day_on n (in_rows n g)).bound k x + sum f (from 0 (suc n))
    unfolding day_on day legs bound_by
    rows-close k e = rw e (close_pays n some (legs (in_rows n costs)) (legs (in_rows n g)) f row_pays home_row_pays x p)

  rows-cost :
      (x : Node) → Order n x → (day_on n (in_rows n costs)).cost x ≡ (day_on n (in_rows n g)).cost x + sum f (from 0 (suc n))
  unfolding day_on day legs
  rows-cost x o =
      omega (
        arith,
        cost_pays n some (legs (in_rows n costs)) (legs (in_rows n g)) f row_pays home_row_pays x (order_partial n x o) (order-complete n x o),
        order-sum n f x o,
      )

-- the planner's day, against that of the legs alone
module _ (n : ℕ) (some : 1 ≤ n) (few : n ≤ most_stops) (away : Bool) (table : List ℕ) where
  charges_paid :
      (i j : ℕ) → i ≤ n → j ≤ n → i ≢ j
      → counted away (flying n table) i j ≡ counted away (entry n table) i j + landing n away table j
  unfolding counted flying landing
  charges_paid i j h k apart = go (away && eqb j 0)
    where
      go : (b : Bool) → cond b 0 (entry n table i j + charge n table j) ≡ cond b 0 (entry n table i j) + cond b 0 (charge n table j)
      go true = refl
      go false = refl

  abbrev own : ℕ → ℕ → ℕ
  own = counted away (flying n table)

  abbrev leg : ℕ → ℕ → ℕ
  leg = counted away (entry n table)

  module _ (x : Node) (p : Partial n x) where
    pub day_path_pays : (day_on n (rows n away table)).path x ≡ (day_on n (leg_rows n away table)).path x + sum (landing n away table) x
    unfolding rows leg_rows
    day_path_pays = rows-path n some few own leg (landing n away table) charges_paid x p

    pub day_plain_pays :
        (k : ℕ) → is_close k ≡ false
        → (day_on n (rows n away table)).bound k x
        ≡ (day_on n (leg_rows n away table)).bound k x + (sum (landing n away table) x + cond (complete n x) (landing n away table 0) 0)
    unfolding rows leg_rows
    day_plain_pays = rows-plain n some few own leg (landing n away table) charges_paid x p

    pub day_close_pays :
        (k : ℕ) → is_close k ≡ true
        → (day_on n (rows n away table)).bound k x ≡ (day_on n (leg_rows n away table)).bound k x + sum (landing n away table) (from 0 (suc n))
    unfolding rows leg_rows
    day_close_pays = rows-close n some few own leg (landing n away table) charges_paid x p

  pub day_cost_pays :
      (x : Node) → Order n x
      → (day_on n (rows n away table)).cost x ≡ (day_on n (leg_rows n away table)).cost x + sum (landing n away table) (from 0 (suc n))
  unfolding rows leg_rows
  day_cost_pays = rows-cost n some few own leg (landing n away table) charges_paid

-- the planner's rows, but for what stands on their diagonal
module _
    (n : ℕ) (some : 1 ≤ n) (few : n ≤ most_stops) (costs g : ℕ → ℕ → ℕ)
    (apart : (i j : ℕ) → i ≤ n → j ≤ n → i ≢ j → costs i j ≡ g i j) where
  nothing_added : (i j : ℕ) → i ≤ n → j ≤ n → i ≢ j → costs i j ≡ g i j + 0
  nothing_added i j h k e = omega (arith, apart i j h k e)

  module _ (x : Node) (p : Partial n x) where
    pub diagonal_path : (day_on n (in_rows n costs)).path x ≡ (day_on n (in_rows n g)).path x
    diagonal_path = omega (arith, rows-path n some few costs g (λ j. 0) nothing_added x p, sum_const 0 x)

    pub diagonal_bound : (k : ℕ) → (day_on n (in_rows n costs)).bound k x ≡ (day_on n (in_rows n g)).bound k x
    diagonal_bound k = go (is_close k) refl
      where
        go : (b : Bool) → is_close k ≡ b → (day_on n (in_rows n costs)).bound k x ≡ (day_on n (in_rows n g)).bound k x
        go true e = omega (arith, rows-close n some few costs g (λ j. 0) nothing_added x p k e, sum_const 0 (from 0 (suc n)))
        go false e =
            omega (arith, rows-plain n some few costs g (λ j. 0) nothing_added x p k e, sum_const 0 x, cond_zero (complete n x))

  pub diagonal_dominates :
      (y z : Node) → Partial n y → Partial n z → (day_on n (in_rows n costs)).dominates y z ≡ (day_on n (in_rows n g)).dominates y z
  unfolding day_on day
  diagonal_dominates y z p q = dominates-same n (legs (in_rows n costs)) (legs (in_rows n g)) y z (diagonal_path y p) (diagonal_path z q)

  pub diagonal_cost : (x : Node) → Order n x → (day_on n (in_rows n costs)).cost x ≡ (day_on n (in_rows n g)).cost x
  diagonal_cost x o = omega (arith, rows-cost n some few costs g (λ j. 0) nothing_added x o, sum_const 0 (from 0 (suc n)))

-- where no place has a charge, the rows are those of the legs alone
pub uncharged_rows :
    (n : ℕ) (away : Bool) (table : List ℕ) → ((j : ℕ) → j ≤ n → charge n table j ≡ 0) → rows n away table ≡ leg_rows n away table
unfolding rows leg_rows in_rows counted flying
uncharged_rows n away table none =
    map_same _ _ (from 0 places)
    (λ i h.
    map_same _ _ (from 0 places)
    (λ j k. at i j (leb i n && leb j n) (away && eqb j 0) (λ t. leb→le j n (and_right (leb i n) (leb j n) t))))
  where
    at :
        (i j : ℕ) (b home : Bool) → (T b → j ≤ n)
        → cond b (cond home 0 (entry n table i j + charge n table j)) 0 ≡ cond b (cond home 0 (entry n table i j)) 0
    at i j true true k = refl
    at i j true false k = omega (arith, none j (k tt))
    at i j false home k = refl
