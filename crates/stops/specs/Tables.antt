-- The table of a day, what flying costs by it, and the planner's rows: document 01, "Legs and orders"; document 02, A.4 and A.5.
use Rattle.std.specs.Prelude.{Bool, ◌&&◌, cond, List, map, ℕ, suc, ◌+◌, ◌*◌, leb, eqb, get_or}
use Rattle.sizes.specs.Sizes.{places}
use Rattle.lists.specs.Lists.{from}

-- The table has n + 1 rows of n + 1 numbers, one row after another: entry i, j is the leg from place i to place j.
unfoldable pub entry : ℕ → List ℕ → ℕ → ℕ → ℕ
entry n table i j = get_or table (i * suc n + j) 0

-- Request A.4: on the diagonal stands what a landing at a place is charged, home (place 0) included.
unfoldable pub charge : ℕ → List ℕ → ℕ → ℕ
charge n table j = entry n table j j

-- Flying from i to j costs the leg and the landing at j. Whoever flies home pays home's charge.
unfoldable pub flying : ℕ → List ℕ → ℕ → ℕ → ℕ
flying n table i j = entry n table i j + charge n table j

-- Request A.5: what a flight counts on a day. On one that ends away, at its last stop, no leg home (to place 0) counts; all else counts what it
-- costs.
unfoldable pub counted : Bool → (ℕ → ℕ → ℕ) → ℕ → ℕ → ℕ
counted away costs i j = cond (away && eqb j 0) 0 (costs i j)

-- What it costs from place to place, in rows of equal length, whatever n is: zeros stand where there is no such place.
unfoldable pub in_rows : ℕ → (ℕ → ℕ → ℕ) → List (List ℕ)
in_rows n costs = map (λ i. map (λ j. cond (leb i n && leb j n) (costs i j) 0) (from 0 places)) (from 0 places)

-- The planner's rows have the costs of flying that count, on a day that ends away or at home. Nobody flies from a place to itself, so that a
-- cell on the diagonal, which has the place's charge twice, is never reckoned with.
unfoldable pub rows : ℕ → Bool → List ℕ → List (List ℕ)
rows n away table = in_rows n (counted away (flying n table))

-- To compare with: the legs alone, which on a day that ends at home are document 01's rows; and what a landing counts, its charge, but at home
-- nothing where no leg home counts.
unfoldable pub leg_rows : ℕ → Bool → List ℕ → List (List ℕ)
leg_rows n away table = in_rows n (counted away (entry n table))

unfoldable pub landing : ℕ → Bool → List ℕ → ℕ → ℕ
landing n away table j = cond (away && eqb j 0) 0 (charge n table j)
