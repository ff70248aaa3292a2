-- The goals of `bound::remainder` that the search leaves.
use mathlib.Core.Path.{◌≡◌, ap}
use Prim.Native.Nat.{ℕ, ◌+◌, ◌*◌, ◌≤◌}
use native.Mathlib.Omega.{arith}
use Rattle.sizes.specs.Sizes.{places, dearest}
use Rattle.stops.specs.Legs.{legs}
use Rattle.stops.specs.Bounds.{cheapest_into, remainder}
use Rattle.stops.specs.Code.{stops_in}
use Rattle.stops.proofs.SetBits.{stops_in_few}
use Rattle.stops.proofs.SetLoops.{summed_starts, summed_most, summed_again, summed_ends, into_set, remainder_small}
use Rattle.stops.proofs.bound.remainder.Goals as goal
use Rattle.stops.proofs.bound.remainder.Goals.{After-into-sum, Start}

-- what `into` gives is the cheapest leg into the stop
value :
    (c : After-into-sum) →
    let a = c.args in
    c.into-sum.result ≡ cheapest_into (legs a.t.now) a.place (stops_in a.rest) c.in-Some.s
value c =
    let a = c.args in
    let s = c.in-Some.s in
    let own = c.loop-s.invariant.among s c.in-Some.ensures.steps.0.member in
    rw c.into-sum.ensures (into_set a.t.now a.place a.rest c.without.result s c.requires.1.1.0 own c.without.ensures)

-- the remainder is small
most :
    (c : Start) → remainder (legs c.args.t.now) c.args.place (stops_in c.args.rest) ≤ places * dearest
most c =
    let a = c.args in
    omega (
      arith,
      remainder_small dearest (legs a.t.now) c.requires.1.1.1 a.place (stops_in a.rest),
      stops_in_few a.rest c.requires.1.1.0,
    )

pub loop-s-init : goal.loop-s-init
unfolding legs remainder
loop-s-init c =
    rw (c.into_iter-s-iterator.ensures.into_iter_gives, c.stops_of-s-items.ensures)
    (summed_starts c.requires.1.1.0 (rw c.cheapest-sum.ensures))

pub overflow_add-sum : goal.overflow_add-sum
overflow_add-sum c =
    omega (arith, value c, summed_most c.loop-s.invariant c.in-Some.s c.in-Some.ensures.steps.0, most (goal.at.overflow_add-sum c).Start)

pub loop-s-preserved : goal.loop-s-preserved
loop-s-preserved c =
    let l = c.loop-s in
    let steps = c.in-Some.ensures.steps in
    summed_again l.invariant c.in-Some.s steps.0 steps.1 (ap (λ (v : ℕ). l.sum + v) (value c))

pub without-requires : goal.without-requires
without-requires c = (c.requires.1.1.0, c.loop-s.invariant.among c.in-Some.s c.in-Some.ensures.steps.0.member)

pub returns : goal.returns
returns c = summed_ends c.loop-s.invariant c.in-None.ensures.steps
