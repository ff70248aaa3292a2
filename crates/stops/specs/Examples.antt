-- Worked examples on document 01's table T: the costs of its six orders, case k on the bounds, and dominance. They stand beside
-- the definitions, and the laws name this module so that it is checked before them: a wrong definition is met here first.
use Rattle.std.specs.Prelude.{◌≡◌, refl, Bool, true, false, List, [], ◌∷◌, map, ℕ}
use Rattle.orders.specs.Orders.{flown, set_of, left, last, size, complete, extensions, level, orders}
use Rattle.days.specs.Days.{Day}
use Rattle.stops.specs.Tables.{entry, charge, flying, counted, in_rows, rows}
use Rattle.stops.specs.Legs.{Legs, row_leg, legs, path, cost}
use Rattle.stops.specs.Bounds.{plain, cheapest_into, remainder, close, ends_away, is_close, bound_by, dominates}
use Rattle.stops.specs.Stops.{day, day_on}
use Rattle.stops.specs.Away.{close_away, day_away}

-- the day of a table, with every definition that it rests on open: a proof that says `unfolding computed_day` computes it
unfoldable pub computed_day : ℕ → Bool → List ℕ → Day
unfolding flown set_of left last size complete extensions entry charge flying counted in_rows rows row_leg legs path cost plain cheapest_into remainder close is_close bound_by dominates day day_on
computed_day n away table = day_on n (rows n away table)

-- One stop, with charges of 7 at home and 11 at the stop (request A.4): 3 out and 11 to land; 5 back and 7 to land. Row by row; home is not
-- flown to from home, nor the stop from itself.
flying_costs : map (λ i. map (flying 1 (7 ∷ 3 ∷ 5 ∷ 11 ∷ []) i) (0 ∷ 1 ∷ [])) (0 ∷ 1 ∷ []) ≡ (14 ∷ 14 ∷ []) ∷ (12 ∷ 22 ∷ []) ∷ []
unfolding computed_day
flying_costs = refl

-- the legs of T
legs_t : Legs
unfolding level orders computed_day
legs_t = legs (rows 3 false (0 ∷ 4 ∷ 7 ∷ 9 ∷ 5 ∷ 0 ∷ 2 ∷ 6 ∷ 3 ∷ 8 ∷ 0 ∷ 1 ∷ 6 ∷ 5 ∷ 4 ∷ 0 ∷ []))

-- the six orders of T and what each costs
six-orders :
    orders 3 ≡ (1 ∷ 2 ∷ 3 ∷ []) ∷ (1 ∷ 3 ∷ 2 ∷ []) ∷ (2 ∷ 1 ∷ 3 ∷ []) ∷ (2 ∷ 3 ∷ 1 ∷ []) ∷ (3 ∷ 1 ∷ 2 ∷ []) ∷ (3 ∷ 2 ∷ 1 ∷ []) ∷ []
unfolding legs_t
six-orders = refl

six_costs : map (cost legs_t) (orders 3) ≡ 13 ∷ 17 ∷ 27 ∷ 18 ∷ 19 ∷ 26 ∷ []
unfolding legs_t
six_costs = refl

-- case k: the close bounds of e and of its three children
case_k : map (close 3 legs_t) ([] ∷ (1 ∷ []) ∷ (2 ∷ []) ∷ (3 ∷ []) ∷ []) ≡ 10 ∷ 10 ∷ 18 ∷ 19 ∷ []
unfolding legs_t
case_k = refl

plain_bounds : map (plain 3 legs_t) ([] ∷ (1 ∷ []) ∷ (2 ∷ []) ∷ (3 ∷ []) ∷ (1 ∷ 2 ∷ 3 ∷ []) ∷ []) ≡ 0 ∷ 4 ∷ 7 ∷ 9 ∷ 13 ∷ []
unfolding legs_t
plain_bounds = refl

-- Two orders of one set with one last stop: the cheaper path dominates, the dearer does not.
cheaper_dominates : dominates 3 legs_t (1 ∷ 2 ∷ 3 ∷ []) (2 ∷ 1 ∷ 3 ∷ []) ≡ true
unfolding legs_t
cheaper_dominates = refl

dearer_does_not : dominates 3 legs_t (2 ∷ 1 ∷ 3 ∷ []) (1 ∷ 2 ∷ 3 ∷ []) ≡ false
unfolding legs_t
dearer_does_not = refl

-- Of equal paths with one set and last stop the smaller order dominates, and the larger does not (request A.8).
even_legs : Legs
even_legs = record { leg = λ r s. 1; home = λ s. 1 }

smaller-dominates : dominates 3 even_legs (1 ∷ 2 ∷ 3 ∷ []) (2 ∷ 1 ∷ 3 ∷ []) ≡ true
unfolding legs_t even_legs
smaller-dominates = refl

larger_does_not : dominates 3 even_legs (2 ∷ 1 ∷ 3 ∷ []) (1 ∷ 2 ∷ 3 ∷ []) ≡ false
unfolding legs_t even_legs
larger_does_not = refl

-- 12 and 21 have one set, and 12 has the cheaper path, but their last stops differ.
last_stops_differ : dominates 3 legs_t (1 ∷ 2 ∷ []) (2 ∷ 1 ∷ []) ≡ false
unfolding legs_t
last_stops_differ = refl

-- A node does not dominate itself.
never_itself : dominates 3 legs_t (1 ∷ 2 ∷ []) (1 ∷ 2 ∷ []) ≡ false
unfolding legs_t
never_itself = refl

-- T with charges, of 2 at home and of 10, 20 and 40 at the stops (request A.4): what it costs to fly 1, 12 and 123
charged_t : Legs
unfolding level orders computed_day
charged_t = legs (rows 3 false (2 ∷ 4 ∷ 7 ∷ 9 ∷ 5 ∷ 10 ∷ 2 ∷ 6 ∷ 3 ∷ 8 ∷ 20 ∷ 1 ∷ 6 ∷ 5 ∷ 4 ∷ 40 ∷ []))

charged_paths : map (path charged_t) ([] ∷ (1 ∷ []) ∷ (1 ∷ 2 ∷ []) ∷ (1 ∷ 2 ∷ 3 ∷ []) ∷ []) ≡ 0 ∷ 14 ∷ 36 ∷ 77 ∷ []
unfolding charged_t
charged_paths = refl

-- each order's legs and 72
charged_costs : map (cost charged_t) (orders 3) ≡ 85 ∷ 89 ∷ 99 ∷ 90 ∷ 91 ∷ 98 ∷ []
unfolding charged_t
charged_costs = refl

-- case k's bounds and 72; plain, the stops flown alone
charged-close : map (close 3 charged_t) ([] ∷ (1 ∷ []) ∷ (2 ∷ []) ∷ (3 ∷ []) ∷ []) ≡ 82 ∷ 82 ∷ 90 ∷ 91 ∷ []
unfolding charged_t
charged-close = refl

charged-plain : map (plain 3 charged_t) ([] ∷ (1 ∷ []) ∷ (2 ∷ []) ∷ (3 ∷ []) ∷ (1 ∷ 2 ∷ 3 ∷ []) ∷ []) ≡ 0 ∷ 14 ∷ 27 ∷ 49 ∷ 85 ∷ []
unfolding charged_t
charged-plain = refl

-- The same table on a day that ends away (request A.5), and what its orders cost then: each 2 and its last leg less.
away_t : Legs
unfolding level orders computed_day
away_t = legs (rows 3 true (2 ∷ 4 ∷ 7 ∷ 9 ∷ 5 ∷ 10 ∷ 2 ∷ 6 ∷ 3 ∷ 8 ∷ 20 ∷ 1 ∷ 6 ∷ 5 ∷ 4 ∷ 40 ∷ []))

away_costs : map (cost away_t) (orders 3) ≡ 77 ∷ 84 ∷ 91 ∷ 83 ∷ 86 ∷ 91 ∷ []
unfolding away_t
away_costs = refl

-- what is flown costs what it did; the leg home counts at no node
away_plain : map (plain 3 away_t) ([] ∷ (1 ∷ []) ∷ (2 ∷ []) ∷ (3 ∷ []) ∷ (1 ∷ 2 ∷ 3 ∷ []) ∷ []) ≡ 0 ∷ 14 ∷ 27 ∷ 49 ∷ 77 ∷ []
unfolding away_t
away_plain = refl

-- of e: into 1 from home (4), into 2 from 1 (2), into 3 from 2 (1), and 70 to land at the three
away_close : map (close 3 away_t) ([] ∷ (1 ∷ []) ∷ (2 ∷ []) ∷ (3 ∷ []) ∷ (1 ∷ 2 ∷ 3 ∷ []) ∷ []) ≡ 77 ∷ 77 ∷ 83 ∷ 86 ∷ 77 ∷ []
unfolding away_t
away_close = refl

-- The same as request A.5 words it, by the legs of the day that ends at home: bound 3 of e and of 1, 2, 3 and 123, and what the orders cost.
worded_close : map ((day_away 3 charged_t).bound 3) ([] ∷ (1 ∷ []) ∷ (2 ∷ []) ∷ (3 ∷ []) ∷ (1 ∷ 2 ∷ 3 ∷ []) ∷ []) ≡ 77 ∷ 77 ∷ 83 ∷ 86 ∷ 77 ∷ []
unfolding charged_t close_away day_away
worded_close = refl

worded_costs : map (day_away 3 charged_t).cost (orders 3) ≡ 77 ∷ 84 ∷ 91 ∷ 83 ∷ 86 ∷ 91 ∷ []
unfolding charged_t day_away
worded_costs = refl

-- which bound a number names, 0 to 3: whether it is close, and whether for a day that ends away
bounds_named : (map is_close (0 ∷ 1 ∷ 2 ∷ 3 ∷ []) ≡ false ∷ true ∷ false ∷ true ∷ []) × (map ends_away (0 ∷ 1 ∷ 2 ∷ 3 ∷ []) ≡ false ∷ false ∷ true ∷ true ∷ [])
unfolding is_close ends_away
bounds_named = (refl, refl)
