-- Request A.6 beside its definitions (`pairs_of`, `respects` and `children` in crate `orders`, `cause₁₁`, `against_pairs` and `cause` in `Checks`, `SamePairs`
-- and what is cheapest in `Demands`): a type for each of its sentences, as in `Demands`; proofs/ has a theorem for each.
--   LetsPairsPass, InSequence, RefusedAsByFive    checks 5 and 11
--   BeforeMeans                       what it is that one stop is flown before another
--   OnlyRespecting, ChildrenRespect   which children are generated
--   BranchedYields                    that there are some
--   SomeActive, SequencePlaysNoPart   of a planner's answers
-- What a call without pairs is answered is in `AsBefore`.
use Rattle.std.specs.Prelude.{◌≡◌, Bool, true, false, List, [], ◌∷◌, ◌++◌, ◌⊎◌, ◌≢◌, ◌↔◌, ℕ, ◌%◌, ◌≤◌, T, length}
use Rattle.sizes.specs.Sizes.{most_pair_bytes}
use Rattle.lists.specs.Lists.{In, keep}
use Rattle.search.specs.Problem.{State}
use Rattle.orders.specs.Orders.{Node, extensions, Partial}
use Rattle.orders.specs.Pairs.{Pair, pairs_of, before, respects}
use Rattle.answer.specs.Call.{Call, call_of, Answer, refusal}
use Rattle.answer.specs.Checks.{cause₄, cause₅, cause₁₁, cause₆, table_cause, cause}
use Rattle.answer.specs.Answer.{problem_of, StateOf}
use Rattle.answer.specs.Demands.{Planner, SamePairs}

-- CHECKS 5 AND 11

-- two pairs have no stop in common
pub record Apart (p q : Pair) : Type 0 where
  pub pick_ups : p.0 ≢ q.0
  pub drops : p.1 ≢ q.1
  pub one_way : p.0 ≢ q.1
  pub other_way : p.1 ≢ q.0

-- no pair has a stop of one that comes later
abbrev pub AllApart : List Pair → Type 0
AllApart [] = Unit {0}
AllApart (p ∷ pairs) = ((q : Pair) → In q pairs → Apart p q) × AllApart pairs

-- A pair file as the request asks for it: whole pairs and up to eight of them, each of two different stops of 1 to n, and none with a stop of another.
pub record GoodPairs (n : ℕ) (bytes : List ℕ) : Type 0 where
  pub whole : length bytes % 2 ≡ 0
  pub few : length bytes ≤ most_pair_bytes
  pub stops : (p : Pair) → In p (pairs_of bytes) → ((1 ≤ p.0) × (p.0 ≤ n)) × ((1 ≤ p.1) × (p.1 ≤ n))
  pub different : (p : Pair) → In p (pairs_of bytes) → p.0 ≢ p.1
  pub apart : AllApart (pairs_of bytes)

-- Check 11 lets just these pass.
abbrev pub LetsPairsPass : Type 0
LetsPairsPass = (n : ℕ) (bytes : List ℕ) → (cause₁₁ n bytes ≡ false) ↔ GoodPairs n bytes

-- the pairs pass, and the starting order is empty or an order: whether it respects them
abbrev pub Respected : Call → Bool → Type 0
Respected c does =
    (cause₅ c.job.n c.start ≡ false) × (cause₁₁ c.job.n c.pairs ≡ false) × (respects (pairs_of c.pairs) c.start ≡ does)

-- the number of a call to which none of causes 1 to 4 applies
pub record Sequence (c : Call) (number : ℕ) : Type 0 where
  -- a starting order that is no order gets 5, whatever the pairs
  pub no_order : cause₅ c.job.n c.start ≡ true → number ≡ 5
  -- else pairs that do not pass get 11, whatever the pool
  pub bad_pairs : cause₅ c.job.n c.start ≡ false → cause₁₁ c.job.n c.pairs ≡ true → number ≡ 11
  -- a starting order against pairs that pass gets 5
  pub against : Respected c false → number ≡ 5
  -- and only then is the pool looked at
  pub pool_last : Respected c true → cause₆ c.pool ≡ true → number ≡ 6
  pub no_refusal : Respected c true → cause₆ c.pool ≡ false → (number ≡ 0) ⊎ (number ≡ 7)

abbrev pub InSequence : Planner → Type 0
InSequence P =
    (c : Call) (a : Answer) → P c a → table_cause c.job.n c.table 0 ≡ 0 → cause₄ c.job ≡ false → Sequence c a.report.number

-- 11 returns and leaves what 5 does: zeros, and the pool as it was.
abbrev pub RefusedAsByFive : Planner → Type 0
RefusedAsByFive P =
    (c : Call) (a : Answer) → P c a → (a.report.number ≡ 5 → a ≡ record { report = refusal 5; pool = c.pool })
    × (a.report.number ≡ 11 → a ≡ record { report = refusal 11; pool = c.pool })

-- WHICH CHILDREN ARE GENERATED

-- One stop is flown before another in a node: whatever is flown in front of the other has it.
abbrev pub BeforeMeans : Type 0
BeforeMeans =
    (n : ℕ) (x : Node) → Partial n x → (a b : ℕ) → a ≢ b → T (before a b x) ↔ ((y z : Node) → x ≡ y ++ (b ∷ z) → In a y)

-- At every state of a run each node, active or branched, respects the pairs, ..
abbrev pub OnlyRespecting : Type 0
OnlyRespecting =
    (c : Call) → cause c ≡ 0 → (s : State Node) → StateOf c s → (x : Node) → In x (s.active ++ s.branched)
    → T (respects (pairs_of c.pairs) x)

-- .. and of its extensions just those that do are its children, in ascending stop order.
abbrev pub ChildrenRespect : Type 0
ChildrenRespect =
    (c : Call) → cause c ≡ 0 → (x : Node) → T (respects (pairs_of c.pairs) x)
    → (problem_of c).children x ≡ keep (respects (pairs_of c.pairs)) (extensions c.job.n x)

-- Every node that a run has branched yielded at least one child. (So the active set is never empty: `ActiveNeverEmpty`.)
abbrev pub BranchedYields : Type 0
BranchedYields =
    (c : Call) → cause c ≡ 0 → (s : State Node) → StateOf c s → (b : Node) → In b s.branched → (y : Node) × In y ((problem_of c).children b)

-- WHAT COMES BACK

-- A run that the checks let pass ends with some active node.
abbrev pub SomeActive : Planner → Type 0
SomeActive P = (c : Call) (a : Answer) → P c a → cause c ≡ 0 → 1 ≤ a.report.active

-- In which sequence the file has the pairs plays no part beyond the checks.
abbrev pub SequencePlaysNoPart : Planner → Type 0
SequencePlaysNoPart P =
    (c : Call) (pairs : List ℕ) →
    let d = call_of c.job c.table c.start pairs c.budget c.pool in
    (x y : Answer) → P c x → P d y → SamePairs c d → cause c ≡ cause d → x ≡ y
