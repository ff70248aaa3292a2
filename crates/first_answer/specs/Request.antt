-- What request A.1 and, at the end, requests A.4, A.5 and A.6 say of a first order beside how it is made, which the definitions say (Nearest, Exchanges)
-- and Examples shows: a type for each sentence, proved in proofs/. The first is over any elements, the next three over any legs and any test of what is
-- allowed. The others are over whatever a call returns that keeps its promise (`Promised`), so that they are of the definition and of the code at once.
use Rattle.std.specs.Prelude.{◌≡◌, Bool, true, false, List, [], ◌∷◌, ◌++◌, map, ◌⊎◌, ◌≢◌, ℕ, zero, suc, ◌+◌, ◌≤◌, ◌<◌, T, length, take, replicate}
use Rattle.sizes.specs.Sizes.{most_stops, order_places}
use Rattle.lists.specs.Lists.{In, sum, from, padded}
use Rattle.orders.specs.Orders.{Node, extend}
use Rattle.orders.specs.Pairs.{pairs_of, OnePairs, respects, Allowed, children}
use Rattle.stops.specs.Tables.{entry, charge, counted, rows, leg_rows, landing}
use Rattle.stops.specs.Legs.{Legs, legs, path, cost}
use Rattle.stops.specs.Bounds.{ends_away}
use Rattle.answer.specs.Call.{Call, call_of, Answer}
use Rattle.answer.specs.declared.Job.{Job}
use Rattle.answer.specs.Checks.{cause₅, cause₁₁, against_pairs, no_such_bound, or_later, table_cause, first_cause, job_cause, cause}
use Rattle.answer.specs.Ends.{Finishes}
use Rattle.answer.specs.Demands.{Planner}
use Rattle.answer.specs.AsBefore.{NoCharges, leg_table_cause}
use Rattle.first_answer.specs.Nearest.{cheapest, next_stops, nearest}
use Rattle.first_answer.specs.Exchanges.{exchanged, Settles, settled, lowered, improved}
use Rattle.first_answer.specs.First.{legs_of, nearest_of, Promised}
use Rattle.first_answer.specs.declared.FirstOrder.{FirstOrder}

-- of some elements, a has the least f and is the first that has: each in front of it has a greater one
pub record FirstCheapest {A : Type 0} (f : A → ℕ) (xs : List A) (a : A) : Type 0 where
  pub before : List A
  pub after : List A
  pub split : xs ≡ before ++ (a ∷ after)
  pub dearer : (y : A) → In y before → f a < f y
  pub least : (y : A) → In y xs → f a ≤ f y

-- which is how the nearest stop is chosen among those that may be flown next, the lowest first, and the best exchange among those that may be made, by
-- their positions
abbrev pub CheapestIsFirst : Type 1
CheapestIsFirst = (A : Type 0) (f : A → ℕ) (x : A) (xs : List A) → FirstCheapest f (x ∷ xs) (cheapest f x xs)

-- the exchanges end, whatever they start from, and always at one and the same order: the one that `improved` names
abbrev pub ExchangesEnd : Type 0
ExchangesEnd =
    (L : Legs) (allowed : Node → Bool) (x : Node)
    → Settles L allowed x (improved L allowed x) × ((y : Node) → Settles L allowed x y → y ≡ improved L allowed x)

-- how many they are, and that each lowers the cost by 1 or more: so they are no more than what they start from costs
abbrev pub exchanges_made : {L : Legs} {allowed : Node → Bool} {x y : Node} → Settles L allowed x y → ℕ
exchanges_made (settled h) = 0
exchanges_made (lowered h s) = suc (exchanges_made s)

abbrev pub FewExchanges : Type 0
FewExchanges = (L : Legs) (allowed : Node → Bool) (x y : Node) (s : Settles L allowed x y) → exchanges_made s + cost L y ≤ cost L x

-- the order that they lead to is no dearer than what they start from, and no allowed exchange of two of its stops is cheaper
abbrev pub ExchangesImprove : Type 0
ExchangesImprove =
    (L : Legs) (allowed : Node → Bool) (x : Node) →
    let y = improved L allowed x in
    (cost L y ≤ cost L x) × ((p q : ℕ) → p < q → q < length y → T (allowed (exchanged y p q)) → cost L y ≤ cost L (exchanged y p q))

-- the stops of an answer
abbrev pub shown : ℕ → FirstOrder → Node
shown n r = take n r.order

-- of n, a bound, a table and a pair file, what is returned with number 0
abbrev pub Given : ℕ → ℕ → List ℕ → List ℕ → FirstOrder → Type 0
Given n bound table pairs r = Promised n bound table pairs r × (r.number ≡ 0)

-- an order of 1 to n that respects the pairs, and zeros behind it
abbrev pub GivesOrder : Type 0
GivesOrder =
    (n bound : ℕ) (table pairs : List ℕ) (r : FirstOrder) → Given n bound table pairs r
    → Allowed n (pairs_of pairs) (shown n r) × (r.order ≡ padded order_places (shown n r))

-- the cost is that order's own
abbrev pub OwnCost : Type 0
OwnCost = (n bound : ℕ) (table pairs : List ℕ) (r : FirstOrder) → Given n bound table pairs r → r.cost ≡ cost (legs_of n bound table) (shown n r)

-- no exchange of two of its stops that respects the pairs is cheaper
abbrev pub NoExchangeCheaper : Type 0
NoExchangeCheaper =
    (n bound : ℕ) (table pairs : List ℕ) (r : FirstOrder) → Given n bound table pairs r
    → (p q : ℕ) → p < q → q < n → T (respects (pairs_of pairs) (exchanged (shown n r) p q))
    → r.cost ≤ cost (legs_of n bound table) (exchanged (shown n r) p q)

-- it costs no more than the nearest-stop order, which is such an order too
abbrev pub NoDearerThanNearest : Type 0
NoDearerThanNearest =
    (n bound : ℕ) (table pairs : List ℕ) (r : FirstOrder) → Given n bound table pairs r
    → Allowed n (pairs_of pairs) (nearest_of n bound table pairs)
    × (r.cost ≤ cost (legs_of n bound table) (nearest_of n bound table pairs))

-- a refusal has the number of the first of causes 1 to 4 and 11 that applies, and zeros
abbrev pub RefusedByCause : Type 0
RefusedByCause =
    (n bound : ℕ) (table pairs : List ℕ) (r : FirstOrder) → Promised n bound table pairs r
    → (r.number ≡ first_cause n bound table pairs) × ((r.number ≤ 4) ⊎ (r.number ≡ 11))
    × (r.number ≢ 0 → r ≡ record { number = r.number; cost = 0; order = replicate order_places 0 })

-- Handed in as a starting order with the same pairs, it is an order and not against them, so that check 5 lets it pass: whatever the job's choices, the
-- cause of the job, and of a call for it, is the one that it has with no starting order.
abbrev pub PassesAsStart : Type 0
PassesAsStart =
    (job : Job) (bound : ℕ) (table pairs : List ℕ) (r : FirstOrder) → Given job.n bound table pairs r →
    let x : Node = shown job.n r in
    (cause₅ job.n x ≡ false) × (against_pairs job.n x pairs ≡ false) × ((later : ℕ) → job_cause job table x later ≡ job_cause job table [] later)
    × ((budget : ℕ) (pool : List ℕ) → cause (call_of job table x pairs budget pool) ≡ cause (call_of job table [] pairs budget pool))

-- a run over its table that finishes, however it was started, costs no more; both have the same pairs, and both end at home, or both away
abbrev pub PlanNoDearer : Planner → Type 0
PlanNoDearer P =
    (c : Call) (a : Answer) (bound : ℕ) (pairs : List ℕ) (r : FirstOrder) → P c a → Finishes a.report → ends_away bound ≡ ends_away c.job.bound
    → OnePairs pairs c.pairs → Given c.job.n bound c.table pairs r → a.report.cost ≤ r.cost

-- REQUEST A.4

-- the nearest stop, and every order, is reckoned by legs that have the landing: from i to j the table's leg and the charge of j; on a day that ends
-- away no leg home counts (request A.5)
abbrev pub FirstFlies : Type 0
FirstFlies =
    (n bound : ℕ) (table : List ℕ) → n ≤ most_stops → (i j : ℕ) → i ≤ n → j ≤ n
    → (legs_of n bound table).leg i j ≡ counted (ends_away bound) (λ i j. entry n table i j + charge n table j) i j

-- the cost is that of the order's legs as the table has them, and of every landing, home's included where the day ends there
abbrev pub FirstPays : Type 0
FirstPays =
    (n bound : ℕ) (table pairs : List ℕ) (r : FirstOrder) → Given n bound table pairs r
    → r.cost ≡ cost (legs (leg_rows n (ends_away bound) table)) (shown n r) + sum (landing n (ends_away bound) table) (from 0 (suc n))

-- what the call answers by some legs and some test of what is allowed, where the checks say `number`
abbrev pub first_on : Legs → (Node → Bool) → ℕ → ℕ → FirstOrder
first_on L allowed n zero =
    let x : Node = improved L allowed (nearest n L allowed) in
    record { number = 0; cost = cost L x; order = padded order_places x }
first_on L allowed n (suc k) = record { number = suc k; cost = 0; order = replicate order_places 0 }

-- cause 11, behind the others
abbrev pub pairs_last : ℕ → List ℕ → ℕ
pairs_last n pairs = or_later (cause₁₁ n pairs) 11 0

-- with all charges 0, what is returned is what the legs alone give, and causes 1 to 3 are document 01's
abbrev pub FirstUncharged : Type 0
FirstUncharged =
    (n bound : ℕ) (table pairs : List ℕ) (r : FirstOrder) → Promised n bound table pairs r → NoCharges n table
    → r
    ≡ first_on (legs (leg_rows n (ends_away bound) table)) (respects (pairs_of pairs)) n
    (leg_table_cause n table (or_later (no_such_bound bound) 4 (pairs_last n pairs)))

-- REQUEST A.5

-- on a day that ends at home what is returned is what was returned without a bound, charges and pairs included
abbrev pub FirstEndsHome : Type 0
FirstEndsHome =
    (n bound : ℕ) (table pairs : List ℕ) (r : FirstOrder) → Promised n bound table pairs r → bound ≤ 1
    → r ≡ first_on (legs (rows n false table)) (respects (pairs_of pairs)) n (table_cause n table (pairs_last n pairs))

-- where the day ends away no leg home counts: the cost is the path cost of the order, no exchange that respects the pairs has a lower one, nor has the
-- nearest-stop order
abbrev pub FirstEndsAway : Type 0
FirstEndsAway =
    (n bound : ℕ) (table pairs : List ℕ) (r : FirstOrder) → Given n bound table pairs r → ends_away bound ≡ true →
    let L : Legs = legs (rows n false table) in
    (r.cost ≡ path L (shown n r))
    × ((p q : ℕ) → p < q → q < n → T (respects (pairs_of pairs) (exchanged (shown n r) p q)) → r.cost ≤ path L (exchanged (shown n r) p q))
    × (r.cost ≤ path L (nearest_of n bound table pairs))

-- of the bound, only where the day ends plays a part: plain and close have one first order
abbrev pub FirstByEnd : Type 0
FirstByEnd =
    (n a b : ℕ) (table pairs : List ℕ) (r s : FirstOrder) → Promised n a table pairs r → Promised n b table pairs s
    → a ≤ 3 → b ≤ 3 → ends_away a ≡ ends_away b → r ≡ s

-- REQUEST A.6

-- The stops that may be flown next are those by which the planner's children extend a node: where the pairs pass and the node respects them.
abbrev pub NextAsChildren : Type 0
NextAsChildren =
    (n : ℕ) (pairs : List ℕ) (x : Node) → cause₁₁ n pairs ≡ false → T (respects (pairs_of pairs) x)
    → map (extend x) (next_stops n (respects (pairs_of pairs)) x) ≡ children n (pairs_of pairs) x

-- a test that allows every node
abbrev pub any_node : Node → Bool
any_node x = true

-- with no pairs, what is returned is what was returned before: every stop and every exchange is allowed, and only causes 1 to 4 are there
abbrev pub FirstNoPairs : Type 0
FirstNoPairs =
    (n bound : ℕ) (table : List ℕ) (r : FirstOrder) → Promised n bound table [] r
    → r ≡ first_on (legs_of n bound table) any_node n (table_cause n table (or_later (no_such_bound bound) 4 0))

-- pairs that do not pass are refused by 11, where no other cause applies
abbrev pub BadPairsRefused : Type 0
BadPairsRefused =
    (n bound : ℕ) (table pairs : List ℕ) (r : FirstOrder) → Promised n bound table pairs r → table_cause n table 0 ≡ 0 → bound ≤ 3
    → cause₁₁ n pairs ≡ true → r ≡ record { number = 11; cost = 0; order = replicate order_places 0 }

-- in which sequence the file has the pairs plays no part beyond the check
abbrev pub FirstSequencePlaysNoPart : Type 0
FirstSequencePlaysNoPart =
    (n bound : ℕ) (table a b : List ℕ) (r s : FirstOrder) → Promised n bound table a r → Promised n bound table b s
    → OnePairs a b → cause₁₁ n a ≡ cause₁₁ n b → r ≡ s
