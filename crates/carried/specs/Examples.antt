-- Worked examples on document 01's table T: what e and node 1 hold, the corrections, and what they carry to their children, beside the
-- children's own remainders. They stand beside the definitions, and the laws name this module so that it is checked before them: a wrong definition is met here
-- first.
use Rattle.std.specs.Prelude.{◌≡◌, refl, true, false, List, [], ◌∷◌, map, ℕ, ◌+◌}
use Rattle.lists.specs.Lists.{without}
use Rattle.stops.specs.Tables.{rows}
use Rattle.stops.specs.Legs.{Legs, legs, path}
use Rattle.stops.specs.Bounds.{cheapest_into, remainder, close}
use Rattle.stops.specs.Examples.{computed_day}
use Rattle.carried.specs.Carried.{held_sum, among, from_place, correction, carried_sum, carried_home, carried}

-- the legs of T
legs_t : Legs
unfolding computed_day held_sum among from_place correction carried_sum carried_home carried
legs_t = legs (rows 3 false (0 ∷ 4 ∷ 7 ∷ 9 ∷ 5 ∷ 0 ∷ 2 ∷ 6 ∷ 3 ∷ 8 ∷ 0 ∷ 1 ∷ 6 ∷ 5 ∷ 4 ∷ 0 ∷ []))

-- the stops 1, 2 and 3, which e leaves; it is at home
abbrev of_e : List ℕ
of_e = 1 ∷ 2 ∷ 3 ∷ []

-- The shares of e: into 1 from home (4), into 2 from 1 (2), into 3 from 2 (1). It holds their sum.
shares : map (cheapest_into legs_t 0 of_e) of_e ≡ 4 ∷ 2 ∷ 1 ∷ []
unfolding legs_t
shares = refl

holds : held_sum legs_t 0 of_e ≡ 7
unfolding legs_t
holds = refl

-- Only the share of 1 came from home. Without home the cheapest leg into 1 is that from 3 (5), which costs 1 more; 2 and 3 are not corrected.
from_home : map (from_place legs_t 0 of_e) of_e ≡ true ∷ false ∷ false ∷ []
unfolding legs_t
from_home = refl

from-others : map (among legs_t of_e) of_e ≡ 5 ∷ 2 ∷ 1 ∷ []
unfolding legs_t
from-others = refl

corrections : map (correction legs_t 0 of_e) of_e ≡ 1 ∷ 0 ∷ 0 ∷ []
unfolding legs_t
corrections = refl

-- The sums of the three children. That by 1 takes away 4 and corrects nothing; those by 2 and by 3 take away 2 and 1, and correct stop 1.
child_sums : map (carried_sum legs_t 0 of_e) of_e ≡ 3 ∷ 6 ∷ 7 ∷ []
unfolding legs_t
child_sums = refl

-- The legs home are 5, 3 and 6. The cheapest is from 2: the children by 1 and by 3 keep it, and that by 2 looks again, and finds the one from 1.
child_homes : map (carried_home legs_t of_e) of_e ≡ 3 ∷ 5 ∷ 3 ∷ []
unfolding legs_t
child_homes = refl

-- what is carried to the three children, and what document 01 reckons for each from the stops that it leaves
carried_from_e : map (carried legs_t 0 of_e) of_e ≡ 6 ∷ 11 ∷ 10 ∷ []
unfolding legs_t
carried_from_e = refl

reckoned_anew : map (λ k. remainder legs_t k (without k of_e)) of_e ≡ 6 ∷ 11 ∷ 10 ∷ []
unfolding legs_t
reckoned_anew = refl

-- with the legs that are flown, 4, 7 and 9, case k's bounds of the three
close_of_children : map (λ k. path legs_t (k ∷ []) + carried legs_t 0 of_e k) of_e ≡ 10 ∷ 18 ∷ 19 ∷ []
unfolding legs_t
close_of_children = refl

-- Node 1 is at 1 and leaves 2 and 3. Its shares are those into 2 from 1 (2) and into 3 from 2 (1). The first came from the place; without it the leg
-- from 3 (4) is left, which costs 2 more.
abbrev of_one : List ℕ
of_one = 2 ∷ 3 ∷ []

holds_two : held_sum legs_t 1 of_one ≡ 3
unfolding legs_t
holds_two = refl

corrections_two : map (correction legs_t 1 of_one) of_one ≡ 2 ∷ 0 ∷ []
unfolding legs_t
corrections_two = refl

-- Node 12 gets 3 less 2, which is the leg into 3 from 2; node 13 gets 3 less 1 and 2 more, which is the leg into 2 from 3.
child_sums_two : map (carried_sum legs_t 1 of_one) of_one ≡ 1 ∷ 4 ∷ []
unfolding legs_t
child_sums_two = refl

-- 2 gave the cheapest leg home (3): without it there is that from 3 (6). 3 did not.
child_homes_two : map (carried_home legs_t of_one) of_one ≡ 6 ∷ 3 ∷ []
unfolding legs_t
child_homes_two = refl

carried_from_one : map (carried legs_t 1 of_one) of_one ≡ 7 ∷ 7 ∷ []
unfolding legs_t
carried_from_one = refl

reckoned_anew_two : map (λ k. remainder legs_t k (without k of_one)) of_one ≡ 7 ∷ 7 ∷ []
unfolding legs_t
reckoned_anew_two = refl

-- The bounds of 12 and 13: one stop is left, so each is what the order costs.
close_of_two : map (λ k. path legs_t (1 ∷ k ∷ []) + carried legs_t 1 of_one k) of_one ≡ 13 ∷ 17 ∷ []
unfolding legs_t
close_of_two = refl

close_anew_two : map (close 3 legs_t) ((1 ∷ 2 ∷ []) ∷ (1 ∷ 3 ∷ []) ∷ []) ≡ 13 ∷ 17 ∷ []
unfolding legs_t
close_anew_two = refl

-- Where a leg from another stop is as cheap as that from the place, nothing is to be corrected: three stops with every leg 1.
legs_tied : Legs
unfolding computed_day held_sum among from_place correction carried_sum carried_home carried
legs_tied = legs (rows 3 false (0 ∷ 1 ∷ 1 ∷ 1 ∷ 1 ∷ 0 ∷ 1 ∷ 1 ∷ 1 ∷ 1 ∷ 0 ∷ 1 ∷ 1 ∷ 1 ∷ 1 ∷ 0 ∷ []))

tied : map (from_place legs_tied 0 of_e) of_e ≡ true ∷ true ∷ true ∷ []
unfolding legs_tied
tied = refl

tied_stays : map (correction legs_tied 0 of_e) of_e ≡ 0 ∷ 0 ∷ 0 ∷ []
unfolding legs_tied
tied_stays = refl

-- T with landing charges of 1, 2 and 3 at its stops and 2 at home, on a day that ends away: no leg home counts. The shares of e are 5, 4 and 4.
legs_away : Legs
unfolding computed_day held_sum among from_place correction carried_sum carried_home carried
legs_away = legs (rows 3 true (2 ∷ 4 ∷ 7 ∷ 9 ∷ 5 ∷ 1 ∷ 2 ∷ 6 ∷ 3 ∷ 8 ∷ 2 ∷ 1 ∷ 6 ∷ 5 ∷ 4 ∷ 3 ∷ []))

carried_away : map (carried legs_away 0 of_e) of_e ≡ 8 ∷ 10 ∷ 10 ∷ []
unfolding legs_away
carried_away = refl

reckoned_away : map (λ k. remainder legs_away k (without k of_e)) of_e ≡ 8 ∷ 10 ∷ 10 ∷ []
unfolding legs_away
reckoned_away = refl
