-- Cases of request A.4: calls with landing charges, worked out by hand and by the second planner (`charge_cases_hold`, in proofs/CasesHold).
use Rattle.std.specs.Prelude.{refl, List, [], ◌∷◌, ℕ, replicate}
use Rattle.sizes.specs.Sizes.{record_words}
use Rattle.answer.specs.Cases.{call, found, refused, computed, Case, reports, answers, causes, bounds, Holds, table_t, order123}

-- Table T with charges: 2 at home, and 10, 20 and 40 at the stops. Every order pays all four, 72, beside its legs.
unfoldable pub charged_t : List ℕ
charged_t = 2 ∷ 4 ∷ 7 ∷ 9 ∷ 5 ∷ 10 ∷ 2 ∷ 6 ∷ 3 ∷ 8 ∷ 20 ∷ 1 ∷ 6 ∷ 5 ∷ 4 ∷ 40 ∷ []

-- Case a's choices: every close bound rises by 72, and so do U and the cost; what is branched and eliminated stays.
pub a : Case
a = reports (call 3 charged_t 0 1 1 [] 9) (found 85 order123 3 7 3 1 4)

pub charged_a : Holds a
unfolding a charged_t computed
charged_a = refl

-- The same with the plain bound, which has the charges of the stops flown alone: it takes 10 branchings, where without charges 8 are enough.
pub a₀ : Case
a₀ = reports (call 3 charged_t 0 1 0 [] 9) (found 85 order123 10 16 5 1 5)

pub charged_a₀ : Holds a₀
unfolding a₀ charged_t computed
charged_a₀ = refl

-- .. namely
pub uncharged : Case
uncharged = reports (call 3 table_t 0 1 0 [] 9) (found 13 order123 8 14 5 1 4)

pub uncharged_a₀ : Holds uncharged
unfolding uncharged table_t computed
uncharged_a₀ = refl

-- One stop, out 3 and 11 to land, back 5 and 7 to land; the record has the path cost, 14, and the bound of the whole order.
pub h : Case
h =
    answers (call 1 (7 ∷ 3 ∷ 5 ∷ 11 ∷ []) 0 0 0 [] 1)
    (record { report = found 26 (1 ∷ replicate 15 0) 1 2 0 1 1; pool = 1 ∷ 1 ∷ 14 ∷ 26 ∷ 0 ∷ 0 ∷ [] })

pub charged_h : Holds h
unfolding h computed
charged_h = refl

-- Plain bounds: nothing is paid at home before the day begins, then each stop where it is flown to, and home's charge with the leg home.
pub plain : Case
plain = bounds (call 3 charged_t 0 0 0 [] 9) ([] ∷ (1 ∷ []) ∷ (1 ∷ 2 ∷ []) ∷ (1 ∷ 2 ∷ 3 ∷ []) ∷ []) (0 ∷ 14 ∷ 36 ∷ 85 ∷ [])

pub plain-charged : Holds plain
unfolding plain charged_t computed
plain-charged = refl

-- Close bounds: case k's, and the charges of all four places.
pub close : Case
close = bounds (call 3 charged_t 0 0 1 [] 9) ([] ∷ (1 ∷ []) ∷ (2 ∷ []) ∷ (3 ∷ []) ∷ []) (82 ∷ 82 ∷ 90 ∷ 91 ∷ [])

pub close-charged : Holds close
unfolding close charged_t computed
close-charged = refl

-- j. The dearest leg with the dearest charge passes, though their sum is above 1,000,000; 100,001 is 3, at home and at a stop.
pub j_dearest : Case
j_dearest = reports (call 1 (100_000 ∷ 1_000_000 ∷ 1_000_000 ∷ 100_000 ∷ []) 0 0 0 [] 1) (found 2_200_000 (1 ∷ replicate 15 0) 1 2 0 1 1)

pub dearest_passes : Holds j_dearest
unfolding j_dearest computed
dearest_passes = refl

pub j_home : Case
j_home = answers (call 1 (100_001 ∷ 3 ∷ 5 ∷ 0 ∷ []) 0 0 0 [] 1) (record { report = refused 3 0 0 0 0 0; pool = replicate record_words 7 })

pub home_above_refused : Holds j_home
unfolding j_home computed
home_above_refused = refl

pub j_stop : Case
j_stop = causes (call 1 (0 ∷ 3 ∷ 5 ∷ 100_001 ∷ []) 0 0 0 [] 1) 3

pub stop_above_refused : Holds j_stop
unfolding j_stop computed
stop_above_refused = refl

-- j. A leg of 1,000,001 is 3 whatever the charges are.
pub j_leg : Case
j_leg = causes (call 1 (1 ∷ 1_000_001 ∷ 5 ∷ 1 ∷ []) 0 0 0 [] 1) 3

pub leg_above_refused : Holds j_leg
unfolding j_leg computed
leg_above_refused = refl

unfoldable pub charge_cases : List Case
charge_cases = a ∷ a₀ ∷ uncharged ∷ h ∷ plain ∷ close ∷ j_dearest ∷ j_home ∷ j_stop ∷ j_leg ∷ []
