-- Worked examples of orders and nodes of three stops. They stand beside the definitions, and the laws name this module so that it is checked
-- before them.
use Rattle.std.specs.Prelude.{◌≡◌, refl, true, false, List, [], ◌∷◌}
use Rattle.orders.specs.Orders.{Node, flown, set_of, left, mask, last, smaller, size, complete, extensions, count, is_order, level, orders}
use Rattle.orders.specs.Pairs.{Pair, pairs_of, respects, orders_with, waits, ready, children}

-- stop 3, then stop 1, with every definition that the examples rest on open
node : Node
unfolding flown set_of left mask last size complete extensions count is_order level orders respects orders_with waits ready children
node = 3 ∷ 1 ∷ []

its_set : set_of 3 node ≡ 1 ∷ 3 ∷ []
unfolding node
its_set = refl

-- bits 0 and 2
its_mask : mask (set_of 3 node) ≡ 5
unfolding node
its_mask = refl

its_last : last node ≡ 1
unfolding node
its_last = refl

-- e ends at home
last_of_e : last [] ≡ 0
unfolding node
last_of_e = refl

its_child : children 3 [] node ≡ (3 ∷ 1 ∷ 2 ∷ []) ∷ []
unfolding node
its_child = refl

-- e's children, in ascending stop order
children_ascend : children 3 [] [] ≡ (1 ∷ []) ∷ (2 ∷ []) ∷ (3 ∷ []) ∷ []
unfolding node
children_ascend = refl

not_complete : complete 3 node ≡ false
unfolding node
not_complete = refl

an_order : is_order 3 (3 ∷ 1 ∷ 2 ∷ []) ≡ true
unfolding node
an_order = refl

twice_no_order : is_order 3 (3 ∷ 1 ∷ 3 ∷ []) ≡ false
unfolding node
twice_no_order = refl

-- COMPARISON STOP BY STOP (request A.8)

-- where two orders first differ, the lesser stop decides, whatever is behind it
first_difference : smaller (1 ∷ 2 ∷ 3 ∷ []) (1 ∷ 3 ∷ 2 ∷ []) ≡ true
first_difference = refl

first_stop_first : smaller (2 ∷ 1 ∷ []) (1 ∷ 2 ∷ []) ≡ false
first_stop_first = refl

not_itself : smaller node node ≡ false
unfolding node
not_itself = refl

-- what ends goes before what goes on
shorter_first : smaller (1 ∷ []) (1 ∷ 2 ∷ []) ≡ true
shorter_first = refl

-- PAIRS (request A.6)

-- 3 is to be flown before 1: two bytes
pair : List Pair
unfolding node
pair = pairs_of (3 ∷ 1 ∷ [])

-- the pick-up stands first
first_before_second : pair ≡ (3, 1) ∷ []
unfolding pair
first_before_second = refl

-- a node that has neither stop, or the first alone, respects the pair; one that has the second alone does not
neither_stop : respects pair (2 ∷ []) ≡ true
unfolding pair
neither_stop = refl

picked_up : respects pair (3 ∷ 2 ∷ []) ≡ true
unfolding pair
picked_up = refl

dropped_first : respects pair (2 ∷ 1 ∷ []) ≡ false
unfolding pair
dropped_first = refl

-- three of the six orders
half_of_the_orders : orders_with 3 pair ≡ (2 ∷ 3 ∷ 1 ∷ []) ∷ (3 ∷ 1 ∷ 2 ∷ []) ∷ (3 ∷ 2 ∷ 1 ∷ []) ∷ []
unfolding pair
half_of_the_orders = refl

-- e has no child by 1, while 3 is to come; once it is flown, 1 need not wait
not_yet : children 3 pair [] ≡ (2 ∷ []) ∷ (3 ∷ []) ∷ []
unfolding pair
not_yet = refl

then_allowed : children 3 pair (3 ∷ []) ≡ (3 ∷ 1 ∷ []) ∷ (3 ∷ 2 ∷ []) ∷ []
unfolding pair
then_allowed = refl

-- two pairs, both looked at
two_wait : children 4 (pairs_of (3 ∷ 1 ∷ 2 ∷ 4 ∷ [])) [] ≡ (2 ∷ []) ∷ (3 ∷ []) ∷ []
unfolding pair
two_wait = refl

two_pairs : orders_with 4 (pairs_of (3 ∷ 1 ∷ 2 ∷ 4 ∷ []))
    ≡ (2 ∷ 3 ∷ 1 ∷ 4 ∷ []) ∷ (2 ∷ 3 ∷ 4 ∷ 1 ∷ []) ∷ (2 ∷ 4 ∷ 3 ∷ 1 ∷ []) ∷ (3 ∷ 1 ∷ 2 ∷ 4 ∷ []) ∷ (3 ∷ 2 ∷ 1 ∷ 4 ∷ []) ∷ (3 ∷ 2 ∷ 4 ∷ 1 ∷ []) ∷ []
unfolding pair
two_pairs = refl
