-- The goals of `order_words::digits_before` that the search leaves.
use mathlib.Core.Path.{◌≡◌, refl, sym, ◌∙◌}
use Prim.Native.Nat.{◌+◌, ◌-◌}
use native.Mathlib.Omega.{arith}
use Rattle.sizes.specs.Sizes.{word_stops}
use Rattle.stops.specs.Code.{digits_before}
use Rattle.stops.proofs.WordsBefore.{digits_differ, digits_agree}
use Rattle.stops.proofs.order_words.digits_before.Goals as goal

pub returns-then-x-y : goal.returns-then-x-y
returns-then-x-y c =
    let l = c.loop in
    sym (digits_differ (word_stops - l.counter) l.x l.y (omega arith) c.if-x-y.true) ∙ l.invariant

pub loop-preserved : goal.loop-preserved
loop-preserved c =
    let l = c.loop in
    let less : word_stops - (l.counter + 1) ≡ word_stops - l.counter - 1 = omega arith in
    rw less (sym (digits_agree (word_stops - l.counter) l.x l.y (omega arith) c.if-x-y.false) ∙ l.invariant)

pub returns : goal.returns
unfolding digits_before
returns c =
    let l = c.loop in
    let none : word_stops - l.counter ≡ 0 = omega arith in
    rw none at l.invariant

pub loop-init : goal.loop-init
loop-init c = refl
