-- Calls that use no request's feature, a theorem for each type of specs/AsBefore.
use mathlib.Core.Path.{◌≡◌, refl, sym, ap, ap₂, ◌∙◌}
use mathlib.Core.Bool.{Bool, false, not, ◌||◌}
use mathlib.Core.List.{List, []}
use mathlib.Core.Logic.{◌⊎◌, inl, inr, ◌≢◌}
use Prim.Native.Nat.{ℕ, zero, suc, ◌≤◌, ◌<◌}
use native.Mathlib.Omega.{arith}
use lib.Dec.{T, ltb, eqb, eqb→eq, nltb→le}
use borrow.Author.Tests.{lt-ltb, le-ltb, lt-leb}
use Rattle.sizes.specs.Sizes.{dearest_leg}
use Rattle.lists.specs.Lists.{In, any, from}
use Rattle.lists.proofs.Tests.{not_either, twice_not, ordered}
use Rattle.lists.proofs.Members.{in_from, from_in}
use Rattle.search.specs.Problem.{Problem}
use Rattle.orders.specs.Orders.{Node}
use Rattle.orders.specs.Pairs.{pairs_of, respects}
use Rattle.orders.proofs.Pairs.{no_pairs}
use Rattle.days.specs.Days.{Day, problem, problem_by}
use Rattle.stops.specs.Tables.{entry, charge, rows}
use Rattle.stops.specs.Bounds.{ends_away}
use Rattle.stops.specs.Stops.{day_on}
use Rattle.stops.proofs.Charges.{uncharged_rows}
use Rattle.answer.specs.Call.{Call}
use Rattle.answer.specs.Checks.{cause₁, cause₂, cause₃, no_such_bound, cause₄, cause₁₁, against_pairs, table_cause, job_cause, pair_cause, pool_cause, cause}
use Rattle.answer.specs.Answer.{day_of}
use Rattle.answer.specs.Demands.{written}
use Rattle.answer.specs.OnDay.{answer_by, answer_on}
use Rattle.answer.specs.Charges.{leg_day_of}
use Rattle.answer.specs.Away.{home_day_of}
use Rattle.answer.specs.AsBefore.{freely, answer_freely, NoPairsAsBefore, later_cause, home_cause₄, home_cause_behind, home_cause, EndsHome, EndsHomeAsBefore, NoCharges, Uncharged, UnchargedByLegs, leg_cause₃, leg_table_cause, TableCausesAsBefore, leg_cause, document01_day, AsDocument01, AcceptedBefore}
use Rattle.answer.proofs.Passes.{none_found, none_first, passes}
use Rattle.answer.proofs.Charges.{none_passes, small_charges}
use Rattle.answer.proofs.OnDay.{on_its_day}

-- ---- no pairs

-- the search is document 01's
free-problem : (n : ℕ) (D : Day) → problem n [] D ≡ freely n D
unfolding problem
free-problem n D i = problem_by (λ x. no_pairs n x i) n D

answer-free : (c : Call) → c.pairs ≡ [] → (D : Day) (k : ℕ) → answer_on D c k ≡ answer_freely D c k
answer-free c none D k =
    ap (λ (P : Problem Node). answer_by P D c k)
    (ap (λ (bytes : List ℕ). problem c.job.n (pairs_of bytes) D) none ∙ free-problem c.job.n D)

-- and so are the causes
free-cause : (n : ℕ) (start : List ℕ) (later : ℕ) → pair_cause n start [] later ≡ later
unfolding pair_cause against_pairs cause₁₁ respects
free-cause n start later = refl

later-cause : (c : Call) → c.pairs ≡ [] → later_cause c ≡ pool_cause c.pool
unfolding later_cause
later-cause c none =
    ap (λ (bytes : List ℕ). pair_cause c.job.n c.start bytes (pool_cause c.pool)) none ∙ free-cause c.job.n c.start (pool_cause c.pool)

pub no_pairs_as_before : NoPairsAsBefore written
unfolding cause later_cause
no_pairs_as_before c a e none =
    e ∙ on_its_day c
    ∙ ap (λ (later : ℕ). answer_on (day_of c) c (job_cause c.job c.table c.start later)) (later-cause c none)
    ∙ answer-free c none (day_of c) (job_cause c.job c.table c.start (pool_cause c.pool))

-- ---- the day ends at home

-- of bounds 0 and 1, and from 4 on, check 4 says what it said
same_bounds : (bound : ℕ) → bound ≢ 2 → bound ≢ 3 → no_such_bound bound ≡ ltb 1 bound
unfolding no_such_bound
same_bounds bound a b = go (ordered 4 bound) (ordered 2 bound)
  where
    go : (4 ≤ bound) ⊎ (bound < 4) → (2 ≤ bound) ⊎ (bound < 2) → ltb 3 bound ≡ ltb 1 bound
    go (inl h) k = lt-ltb 3 bound (omega arith) ∙ sym (lt-ltb 1 bound (omega arith))
    go (inr h) (inl k) = absurd (a (omega (arith, b)))
    go (inr h) (inr k) = le-ltb 3 bound (omega arith) ∙ sym (le-ltb 1 bound (omega arith))

module _ (c : Call) (ends : EndsHome c) where
  same-cause : cause c ≡ home_cause c
  unfolding cause job_cause cause₄ later_cause home_cause home_cause_behind home_cause₄
  same-cause = rw (same_bounds c.job.bound ends.0 ends.1) refl

  -- where the checks let it pass, its bound is 0 or 1
  ends_home : cause c ≡ 0 → ends_away c.job.bound ≡ false
  unfolding ends_away
  ends_home e = lt-leb 2 c.job.bound (small (passes c e).bound ends.0 ends.1)
    where
      small : {k : ℕ} → k ≤ 3 → k ≢ 2 → k ≢ 3 → k < 2
      small {k} h a b = omega (arith, a, b)

  home_day : cause c ≡ 0 → day_of c ≡ home_day_of c
  unfolding day_of home_day_of
  home_day e = ap (λ (away : Bool). day_on c.job.n (rows c.job.n away c.table)) (ends_home e)

pub ends_home_as_before : EndsHomeAsBefore written
ends_home_as_before c a e ends = e ∙ on_its_day c ∙ go (cause c) refl ∙ ap (answer_on (home_day_of c) c) (same-cause c ends)
  where
    go : (k : ℕ) → cause c ≡ k → answer_on (day_of c) c k ≡ answer_on (home_day_of c) c k
    go zero z = ap (λ (D : Day). answer_on D c 0) (home_day c ends z)
    go (suc k) z = refl

-- ---- no charges

module _ (n : ℕ) (table : List ℕ) (none : NoCharges n table) where
  uncharged_at : (j : ℕ) → In j (from 0 (suc n)) → charge n table j ≡ 0
  uncharged_at j m = none j (let h = in_from 0 (suc n) j m in omega arith)

  same-cause₃ : cause₃ n table ≡ leg_cause₃ n table
  unfolding cause₃ leg_cause₃ charge
  same-cause₃ = ap (λ (b : Bool). any (ltb dearest_leg) table || b) (small_charges n table (λ j h. omega (arith, none j h)) ∙ sym zero_entries)
    where
      zero_entries : any (λ i. not (eqb (entry n table i i) 0)) (from 0 (suc n)) ≡ false
      zero_entries = none_passes _ (from 0 (suc n)) (λ i m. ap (λ (v : ℕ). not (eqb v 0)) (uncharged_at i m))

pub table_causes_as_before : TableCausesAsBefore
unfolding table_cause leg_table_cause
table_causes_as_before n table none later = rw (same-cause₃ n table none) refl

pub uncharged_by_legs : UnchargedByLegs written
unfolding day_of leg_day_of cause job_cause later_cause
uncharged_by_legs c a e none =
    e ∙ on_its_day c
    ∙ ap₂ (λ (D : Day) (k : ℕ). answer_on D c k)
    (ap (day_on c.job.n) (uncharged_rows c.job.n (ends_away c.job.bound) c.table none))
    (table_causes_as_before c.job.n c.table none _)

-- ---- document 01

module _ (c : Call) (none : Uncharged c) where
  -- the day is document 01's, and so are the causes
  same-day : home_day_of c ≡ document01_day c
  unfolding home_day_of document01_day
  same-day = ap (day_on c.job.n) (uncharged_rows c.job.n false c.table none)

  leg-cause : c.pairs ≡ [] → home_cause c ≡ leg_cause c
  unfolding home_cause leg_cause
  leg-cause free =
      ap (λ (later : ℕ). table_cause c.job.n c.table (home_cause_behind c later)) (later-cause c free)
      ∙ table_causes_as_before c.job.n c.table none _

pub as_document_01 : AsDocument01 written
as_document_01 c a e none ends free =
    ends_home_as_before c a e ends ∙ ap₂ (λ (D : Day) (k : ℕ). answer_on D c k) (same-day c none) (leg-cause c none free)
    ∙ answer-free c free (document01_day c) (leg_cause c)

-- a call that document 01's checks let pass has no charges, and a bound of document 01's
module _ (c : Call) (e : leg_cause c ≡ 0) where
  abbrev n : ℕ
  n = c.job.n

  abbrev dear : Bool
  dear = any (ltb dearest_leg) c.table

  abbrev marked : Bool
  marked = any (λ i. not (eqb (entry n c.table i i) 0)) (from 0 (suc n))

  accepted_parts : T (not marked) × T (not (home_cause₄ c.job))
  unfolding leg_cause leg_table_cause leg_cause₃ home_cause_behind
  accepted_parts =
      let (h₁, e₁) = none_first (cause₁ n) 0 _ e in
      let (h₂, e₂) = none_first (cause₂ n c.table) 1 _ e₁ in
      let (h₃, e₃) = none_first (dear || marked) 2 _ e₂ in
      let (h₄, e₄) = none_first (home_cause₄ c.job) 3 _ e₃ in
      ((not_either dear marked h₃).1, h₄)

  accepted_uncharged : Uncharged c
  unfolding charge
  accepted_uncharged j h =
      let own : ℕ = entry n c.table j j in
      eqb→eq own 0
      (twice_not (eqb own 0)
      (none_found (λ i. not (eqb (entry n c.table i i) 0)) (from 0 (suc n)) accepted_parts.0 j (from_in 0 (suc n) j (omega arith) (omega arith))))

  accepted_bound : c.job.bound ≤ 1
  unfolding home_cause₄
  accepted_bound =
      nltb→le 1 c.job.bound (not_either (ltb 3 c.job.selection || ltb 15 c.job.rules) (ltb 1 c.job.bound) accepted_parts.1).1

pub accepted_before : AcceptedBefore written
accepted_before c a e free passed =
    let h : c.job.bound ≤ 1 = accepted_bound c passed in
    as_document_01 c a e (accepted_uncharged c passed) (λ f. omega (arith, f), λ f. omega (arith, f)) free
    ∙ ap (answer_freely (document01_day c) c) passed
