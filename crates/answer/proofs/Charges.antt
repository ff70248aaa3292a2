-- Request A.4 of the written run, a theorem for each type of specs/Charges.
use mathlib.Core.Path.{◌≡◌, refl, sym, ap, ◌∙◌, subst}
use mathlib.Core.Bool.{Bool, false, not}
use mathlib.Core.List.{List}
use mathlib.Core.Logic.{◌⊎◌, inl, inr, ◌≢◌}
use Prim.Native.Nat.{ℕ, zero, suc, ◌+◌, ◌*◌, ◌≤◌}
use native.Mathlib.Omega.{arith}
use lib.Dec.{T, not_T, ltb}
use lib.ListN.{length, replicate, get_or}
use borrow.Author.Tests.{le-ltb}
use Rattle.sizes.specs.Sizes.{dearest_leg, dearest_charge, order_places}
use Rattle.lists.specs.Lists.{In, any, from, padded}
use Rattle.lists.proofs.Tests.{compared, to_false}
use Rattle.lists.proofs.Elements.{get_or_small}
use Rattle.lists.proofs.Members.{any_in, in_from}
use Rattle.orders.specs.Orders.{Node}
use Rattle.orders.specs.Pairs.{pairs_of}
use Rattle.orders.proofs.Pairs.{in_orders_with}
use Rattle.stops.specs.Tables.{entry, charge, flying, counted, rows}
use Rattle.stops.specs.Bounds.{ends_away}
use Rattle.stops.proofs.LegTable.{in_table}
use Rattle.stops.proofs.Charges.{day_path_pays, day_plain_pays, day_close_pays, day_cost_pays, diagonal_path, diagonal_bound, diagonal_dominates, diagonal_cost}
use Rattle.answer.specs.Call.{Call, Answer, refusal}
use Rattle.answer.specs.Checks.{cause₃, cause}
use Rattle.answer.specs.Answer.{day_of, report_with, respond, answer}
use Rattle.answer.specs.declared.Report.{Report}
use Rattle.answer.specs.Ends.{order_in, HasOrder, Ended, planned, halted, filled, refused}
use Rattle.answer.specs.Budget.{ShowsOrder}
use Rattle.answer.specs.Demands.{written, allowed_orders, Cheapest}
use Rattle.answer.specs.Charges.{leg_day_of, landing_at, landings, every_landing, LetsPass, PathPays, OrderPays, PlainPays, ClosePays, DiagonalUnflown, OrderShownPays, CheapestByLegs}
use Rattle.answer.proofs.Passes.{legs_pass, charges_pass, passes}
use Rattle.answer.proofs.Demand1.{call_ends}
use Rattle.answer.proofs.Demand3.{cheapest_of_all}
use Rattle.answer.proofs.Budget.{order_or_zeros}

-- none of some numbers passes a test that each fails
pub none_passes : (test : ℕ → Bool) (l : List ℕ) → ((j : ℕ) → In j l → test j ≡ false) → any test l ≡ false
none_passes test l h = to_false (any test l) (not_T (any test l) (λ t. let (j, m, k) = any_in test l t in rw (h j m) at k))

module _ (n : ℕ) (table : List ℕ) where
  abbrev LegsPass : Type 0
  LegsPass = (i j : ℕ) → i ≤ n → j ≤ n → i ≢ j → entry n table i j ≤ dearest_leg

  abbrev ChargesPass : Type 0
  ChargesPass = (j : ℕ) → j ≤ n → charge n table j ≤ dearest_charge

  checked_numbers : cause₃ n table ≡ false → LegsPass × ChargesPass
  unfolding entry
  checked_numbers e =
      let h : T (not (cause₃ n table)) = rw e tt in
      (λ i j p q apart. get_or_small dearest_leg table (legs_pass n table h) (i * suc n + j), charges_pass n table h)

  -- an entry off the diagonal is a leg, one on it a charge
  number_small : LegsPass → ChargesPass → (i j : ℕ) → i ≤ n → j ≤ n → (i ≡ j) ⊎ (i ≢ j) → entry n table i j ≤ dearest_leg
  unfolding charge
  number_small legs charges i j h k (inl e) = rw e (let c : entry n table j j ≤ dearest_charge = charges j k in omega arith)
  number_small legs charges i j h k (inr apart) = legs i j h k apart

  small_numbers : length table ≡ suc n * suc n → LegsPass → ChargesPass → any (ltb dearest_leg) table ≡ false
  small_numbers square legs charges =
      none_passes (ltb dearest_leg) table
      (λ w m.
      let (i, j, h, k, e) = in_table n table square w m in
      le-ltb dearest_leg w (omega (arith, number_small legs charges i j h k (compared i j))))

  pub small_charges : ChargesPass → any (λ j. ltb dearest_charge (charge n table j)) (from 0 (suc n)) ≡ false
  small_charges charges =
      none_passes _ (from 0 (suc n))
      (λ j m. le-ltb dearest_charge (charge n table j) (charges j (let h = in_from 0 (suc n) j m in omega arith)))

pub lets_pass : LetsPass
unfolding cause₃
lets_pass n table square =
    (checked_numbers n table, λ h. rw (small_numbers n table square h.0 h.1, small_charges n table h.1) refl)

pub path_pays : PathPays
unfolding day_of leg_day_of landings landing_at
path_pays c e x p = let ok = passes c e in day_path_pays c.job.n ok.some ok.priced.few (ends_away c.job.bound) c.table x p

pub order_pays : OrderPays
unfolding day_of leg_day_of landing_at landings every_landing
order_pays c e x o = let ok = passes c e in day_cost_pays c.job.n ok.some ok.priced.few (ends_away c.job.bound) c.table x o

pub plain_pays : PlainPays
unfolding day_of leg_day_of landing_at landings
plain_pays c e k plain x p =
    let ok = passes c e in day_plain_pays c.job.n ok.some ok.priced.few (ends_away c.job.bound) c.table x p k plain

pub close_pays : ClosePays
unfolding day_of leg_day_of landing_at landings every_landing
close_pays c e k close x p =
    let ok = passes c e in day_close_pays c.job.n ok.some ok.priced.few (ends_away c.job.bound) c.table x p k close

pub diagonal_unflown : DiagonalUnflown
unfolding day_of rows
diagonal_unflown c e costs apart =
    let ok = passes c e in
    let n : ℕ = c.job.n in
    let own : ℕ → ℕ → ℕ = counted (ends_away c.job.bound) (flying n c.table) in
    record {
      paths = diagonal_path n ok.some ok.priced.few costs own apart;
      bounds = λ k x p. diagonal_bound n ok.some ok.priced.few costs own apart x p k;
      dominances = diagonal_dominates n ok.some ok.priced.few costs own apart;
      orders-cost = diagonal_cost n ok.some ok.priced.few costs own apart;
    }

-- ---- what comes back

-- number 0 comes from a call that every check lets pass
pub number_0_passes : (c : Call) → (answer c).report.number ≡ 0 → cause c ≡ 0
unfolding answer respond refusal
number_0_passes c = go (cause c)
  where
    go : (k : ℕ) → (respond c k).report.number ≡ 0 → k ≡ 0
    go zero e = refl
    go (suc k) e = absurd (omega arith)

-- a report that shows an order has it, with its cost: one of a finished run, or of a stopped one that knows an order
shown_has : (c : Call) (a : Answer) → a ≡ answer c → ShowsOrder a.report → (cause c ≡ 0) × HasOrder c a.report
unfolding report_with padded refusal
shown_has c a e shows = go (call_ends c a e)
  where
    halt :
        (ShowsOrder a.report × HasOrder c a.report) ⊎ ((a.report.order ≡ replicate order_places 0) × (a.report.cost ≡ 0))
        → HasOrder c a.report
    halt (inl h) = h.1
    halt (inr z) = absurd (shows (ap (λ (l : List ℕ). get_or l 0 0) z.0))

    first : Report → ℕ
    first r = get_or r.order 0 0

    go : Ended c a → (cause c ≡ 0) × HasOrder c a.report
    go (planned f o) = (
      f.comes.passed,
      (cheapest_of_all c a e (ap (λ (r : Report). r.number) f.reported, ap (λ (r : Report). r.mark) f.reported)).has_order,
    )
    go (halted f) = (f.comes.passed, halt (order_or_zeros c a e (ap (λ (r : Report). r.mark) f.reported)))
    go (filled f) = absurd (shows (ap first f.reported))
    go (refused f) = absurd (shows (ap first f.reported))

pub order_shown_pays : OrderShownPays written
order_shown_pays c a e shows =
    let (passed, has) = shown_has c a e shows in
    has.cost_is_its ∙ order_pays c passed (order_in c a.report) has.is_allowed.order

-- Every order pays the same landings, so by the legs alone the orders compare as they do by what they cost.
pub cheapest_by_legs : CheapestByLegs written
cheapest_by_legs c a e h = record {
  least = λ y m. omega (arith, best.least y m, shown, pays y m);
  smallest = λ y m same. best.smallest y m (pays y m ∙ ap (λ (v : ℕ). v + every_landing c) same ∙ sym shown);
}
  where
    best : Cheapest c a.report
    best = cheapest_of_all c a e h

    passed : cause c ≡ 0
    passed = number_0_passes c (subst (λ (x : Answer). x.report.number ≡ 0) e h.0)

    shown : a.report.cost ≡ (leg_day_of c).cost (order_in c a.report) + every_landing c
    shown = best.has_order.cost_is_its ∙ order_pays c passed (order_in c a.report) best.has_order.is_allowed.order

    pays : (y : Node) → In y (allowed_orders c) → (day_of c).cost y ≡ (leg_day_of c).cost y + every_landing c
    pays y m = order_pays c passed y (in_orders_with c.job.n (pairs_of c.pairs) y m).order
