-- Cases of request A.5: days that end away, worked out by hand and by the second planner (`away_cases_hold`, in proofs/CasesHold).
use Rattle.std.specs.Prelude.{refl, List, [], ◌∷◌, ℕ, replicate}
use Rattle.answer.specs.Cases.{call, found, computed, Case, reports, answers, causes, bounds, Holds, order123}
use Rattle.answer.specs.ChargeCases.{charged_t}

-- Case a's choices on table T with charges of 2, 10, 20 and 40, and the day ends away: 4, 2 and 1, and 70 to land at the three stops. Every step
-- is case a's.
pub a : Case
a = reports (call 3 charged_t 0 1 3 [] 9) (found 77 order123 3 7 3 1 4)

pub away_a : Holds a
unfolding a charged_t computed
away_a = refl

-- The same with plain: 2.
pub a₂ : Case
a₂ = reports (call 3 charged_t 0 1 2 [] 9) (found 77 order123 10 16 5 1 5)

pub away_a₂ : Holds a₂
unfolding a₂ charged_t computed
away_a₂ = refl

-- One stop, out 3 and 11 to land; the leg back, 5, and home's charge, 7, do not count, neither in the cost nor in the record's bound.
pub h : Case
h =
    answers (call 1 (7 ∷ 3 ∷ 5 ∷ 11 ∷ []) 0 0 2 [] 1)
    (record { report = found 14 (1 ∷ replicate 15 0) 1 2 0 1 1; pool = 1 ∷ 1 ∷ 14 ∷ 14 ∷ 0 ∷ 0 ∷ [] })

pub away_h : Holds h
unfolding h computed
away_h = refl

-- Plain bounds: the path cost, at complete nodes too.
pub plain : Case
plain = bounds (call 3 charged_t 0 0 2 [] 9) ([] ∷ (1 ∷ []) ∷ (1 ∷ 2 ∷ []) ∷ (1 ∷ 2 ∷ 3 ∷ []) ∷ []) (0 ∷ 14 ∷ 36 ∷ 77 ∷ [])

pub plain_away : Holds plain
unfolding plain charged_t computed
plain_away = refl

-- Close bounds: with the cheapest legs into the stops left; case k's, without their legs home, and 70 to land at the three stops.
pub close : Case
close = bounds (call 3 charged_t 0 0 3 [] 9) ([] ∷ (1 ∷ []) ∷ (2 ∷ []) ∷ (3 ∷ []) ∷ (1 ∷ 2 ∷ 3 ∷ []) ∷ []) (77 ∷ 77 ∷ 83 ∷ 86 ∷ 77 ∷ [])

pub close_away_lem : Holds close
unfolding close charged_t computed
close_away_lem = refl

-- Two stops, with a dear leg home from stop 2. A day that ends at home flies 21 (5 and 5 out, 1 back) ..
unfoldable dear_home : List ℕ
dear_home = 0 ∷ 1 ∷ 5 ∷ 1 ∷ 0 ∷ 1 ∷ 100 ∷ 5 ∷ 0 ∷ []

pub home : Case
home = reports (call 2 dear_home 0 0 1 [] 9) (found 11 (2 ∷ 1 ∷ replicate 14 0) 2 4 0 2 2)

pub home_21 : Holds home
unfolding home dear_home computed
home_21 = refl

-- .. and one that ends away flies 12 (1 and 1), though 21, which costs 10 then, is the starting order.
pub away : Case
away = reports (call 2 dear_home 0 1 3 (2 ∷ 1 ∷ []) 9) (found 2 (1 ∷ 2 ∷ replicate 14 0) 2 4 1 1 2)

pub away_12 : Holds away
unfolding away dear_home computed
away_12 = refl

-- j. Bound 4 is refused, behind a leg that is too dear and before a starting order that is none; 3 passes.
pub j_four : Case
j_four = causes (call 1 (0 ∷ 3 ∷ 5 ∷ 0 ∷ []) 0 0 4 (2 ∷ []) 1) 4

pub four_refused : Holds j_four
unfolding j_four computed
four_refused = refl

pub j_leg : Case
j_leg = causes (call 1 (0 ∷ 3 ∷ 1_000_001 ∷ 0 ∷ []) 0 0 4 [] 1) 3

pub leg_before_bound : Holds j_leg
unfolding j_leg computed
leg_before_bound = refl

-- A leg home is looked at by check 3 though the day ends away.
pub j_home : Case
j_home = causes (call 1 (0 ∷ 3 ∷ 1_000_001 ∷ 0 ∷ []) 0 0 3 [] 1) 3

pub leg_home_checked : Holds j_home
unfolding j_home computed
leg_home_checked = refl

pub j_three : Case
j_three = causes (call 1 (0 ∷ 3 ∷ 5 ∷ 0 ∷ []) 0 0 3 [] 1) 0

pub three_passes : Holds j_three
unfolding j_three computed
three_passes = refl

unfoldable pub away_cases : List Case
away_cases = a ∷ a₂ ∷ h ∷ plain ∷ close ∷ home ∷ away ∷ j_four ∷ j_leg ∷ j_home ∷ j_three ∷ []
