-- The goals of `shared` that the search leaves.
use mathlib.Core.Path.{◌≡◌, ap}
use Prim.Native.Nat.{ℕ, ◌+◌, ◌<◌}
use native.Mathlib.Omega.{arith}
use lib.ListN.{get_or}
use Rattle.sizes.specs.Sizes.{above_every_cost}
use Rattle.stops.specs.Legs.{legs}
use Rattle.stops.specs.Code.{stops_in}
use Rattle.stops.proofs.SetLoops.{summed_starts, summed_most, summed_again, summed_ends}
use Rattle.carried.specs.Carried.{among}
use Rattle.carried.proofs.SetLaws.{others_some, total_most, shares_made}
use Rattle.carried.proofs.HomeLaws.{homed_starts, homed_again, homed_ends}
use Rattle.carried.proofs.shared.Goals as goal
use Rattle.carried.proofs.shared.Goals.{In-Some, Start}

-- what stands at the place of the next stop is the leg into it
value :
    (c : In-Some) →
    let a = c.args in
    get_or c.least_into.new.into c.in-Some.s 0
    ≡ among (legs a.t.now) (stops_in a.rest) c.in-Some.s
value c = c.least_into.ensures.0 _ (c.loop-s.invariant.0.among _ c.in-Some.ensures.steps.0.member)

pub loop-s-init : goal.loop-s-init
loop-s-init c =
    let small = c.requires.0.small in
    rw (c.into_iter-s-iterator.ensures.into_iter_gives, c.stops_of-s-items.ensures)
    (summed_starts small (omega arith), homed_starts (legs c.args.t.now).home c.args.rest small)

pub overflow_add-total : goal.overflow_add-total
overflow_add-total c =
    omega (
      arith,
      value (goal.at.overflow_add-total c).In-Some,
      summed_most c.loop-s.invariant.0 c.in-Some.s c.in-Some.ensures.steps.0,
      total_most c.args.t.now c.requires.0 c.requires.1.0,
    )

pub loop-s-preserved : goal.loop-s-preserved
unfolding legs
loop-s-preserved c =
    let l = c.loop-s in
    let (s, left) = c.in-Some.ensures.steps in (
      summed_again l.invariant.0 c.in-Some.s s left (ap (λ (v : ℕ). l.total + v) (value (goal.at.loop-s-preserved c).In-Some)),
      rw c.noted-homes.ensures (homed_again l.invariant.1 s left c.leg.ensures),
    )

-- no leg home is as dear as what stands for none
dear : (c : Start) (s : ℕ) → (legs c.args.t.now).home s < above_every_cost
dear c s = omega (arith, c.requires.1.0.home s)

pub returns : goal.returns
returns c =
    let l = c.loop-s.invariant in
    let t = c.args.t.now in
    let v = c.requires.0 in
    let ended = c.in-None.ensures.steps in
    shares_made t v _ _ (summed_ends l.0 ended) c.least_into.ensures.0
    (λ s i. let (r, j) = others_some t v s i in homed_ends l.1 ended (dear (goal.at.returns c).Start) s r i j) c.least_into.ensures.1
