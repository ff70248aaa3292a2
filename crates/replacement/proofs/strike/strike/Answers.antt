-- The goals of `strike::strike` that the search leaves.
use mathlib.Core.Path.{◌≡◌, sym}
use mathlib.Core.Bool.{cond}
use mir.Val.{bool_byte}
use Prim.Native.Nat.{◌+◌, ◌-◌, ◌<◌}
use native.Mathlib.Omega.{arith}
use lib.ListN.{get_or}
use Rattle.stops.specs.Code.{empty_record, rec_dominates}
use Rattle.records.specs.Code.{records}
use Rattle.lanes.specs.Sizes.{active_heads}
use Rattle.lanes.proofs.LiveLaws.{live_few}
use Rattle.chains.specs.Code.{bucket_of}
use Rattle.chains.proofs.WalkLaws.{dominates_bucket, bucket_head}
use Rattle.replacement.proofs.StrikeLaws.{struck-count}
use Rattle.replacement.proofs.StrikeWalk.{Striking, striking_starts, striking_again}
use Rattle.replacement.proofs.strike.strike.Goals as goal
use Rattle.replacement.proofs.strike.strike.Goals.{After-after-c}

pub loop-c-init : goal.loop-c-init
loop-c-init c =
    let a = c.args in
    let x = get_or (records a.kids.now) a.k empty_record in
    let there : c.top-c.result ≡ cond a.p.linked (get_or a.index.now (active_heads + bucket_of x) 0) a.p.used =
    rw (c.active_lane-lane.ensures, c.load.ensures) at c.top-c.ensures in (
      c.requires.0.0,
      striking_starts (rec_dominates x) (bucket_of x) a.p (records a.w.now) a.index.now c.requires.0.0.lane (omega (arith, c.requires.0.0.whole, c.requires.0.0.fits))
          (λ y t. sym (dominates_bucket x y t)) (bucket_head x) c.top-c.result there,
    )

pub overflow_add-lost : goal.overflow_add-lost
overflow_add-lost c =
    let a = c.args in
    let s = c.loop-c.invariant.1 in
    let some = c.loop-c-test.true in
    let kid = get_or (records a.kids.now) a.k empty_record in
    omega (
      arith,
      s.count,
      c.from-lost.ensures,
      struck-count (rec_dominates kid) (records c.loop-c.w) _ a.p.used (c.loop-c.c - 1) _ (omega (arith, s.below))
          (omega (arith, s.same_length, c.requires.0.0.whole, c.requires.0.0.fits)) c.strike_at.ensures.1,
      live_few (records a.w.now) a.p.used,
      c.ranges,
    )

-- the walk stands at the next one, which is before
goes_on :
    (c : After-after-c)
    → let a = c.args in
    let x = get_or (records a.kids.now) a.k empty_record in
    Striking (rec_dominates x) (bucket_of x) a.p (records a.w.now) (records c.strike_at.new.w)
    (c.loop-c.lost + bool_byte c.strike_at.result)
    c.after-c.result
    × (c.after-c.result < c.loop-c.c)
goes_on c =
    let a = c.args in
    let x = get_or (records a.kids.now) a.k empty_record in
    striking_again (rec_dominates x) (bucket_of x) a.p (records a.w.now) a.index.now c.requires.0.0.lane (omega (arith, c.requires.0.0.whole, c.requires.0.0.fits))
    (λ y t. sym (dominates_bucket x y t)) c.loop-c.invariant.1 c.loop-c-test.true c.strike_at.ensures.1
    (rw c.active_lane-lane.ensures at c.after-c.ensures)

pub loop-c-preserved : goal.loop-c-preserved
loop-c-preserved c =
    (c.strike_at.ensures.0, rw c.from-lost.ensures (goes_on c).0)

pub loop-c-smaller : goal.loop-c-smaller
loop-c-smaller c = (goes_on c).1
