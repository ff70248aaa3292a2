-- The goals of `precedence_of` that the search leaves.
use mathlib.Core.Path.{ap, sym, ◌∙◌}
use borrow.Author.Rules.{rules}
use Prim.Native.Nat.{◌-◌, ◌^◌, ◌≤◌}
use native.Mathlib.Omega.{arith}
use lib.ListN.{get_or}
use lib.Pow.{pow_mono}
use Rattle.sizes.specs.Sizes.{most_stops}
use Rattle.pairs.proofs.PairLaws.{holding}
use Rattle.pairs.proofs.FileLaws.{precedence_none, precedence_some, marking_stops, marking_again, marking_ends}
use Rattle.pairs.proofs.precedence_of.Goals as goal
use Rattle.pairs.proofs.precedence_of.Goals.{In-Some}

pub returns-then-is_empty : goal.returns-then-is_empty
returns-then-is_empty c = sym (precedence_none c.args.pairs.now (search rules))

-- the stops of the next pair
stops :
    (c : In-Some)
    → let pair = c.in-Some.pair.now in
    ((1 ≤ get_or pair 0 0) × (get_or pair 0 0 ≤ most_stops)) × ((1 ≤ get_or pair 1 0) × (get_or pair 1 0 ≤ most_stops))
stops c = marking_stops c.loop-pair.invariant _ _ c.in-Some.ensures.steps.1

pub overflow_sub-before : goal.overflow_sub-before
overflow_sub-before c = omega (arith, stops (goal.at.overflow_sub-before c).In-Some)

pub overflow_shl-before : goal.overflow_shl-before
overflow_shl-before c = omega (arith, stops (goal.at.overflow_shl-before c).In-Some)

pub bounds-before-from : goal.bounds-before-from
bounds-before-from c = omega (arith, c.from.ensures, stops (goal.at.bounds-before-from c).In-Some)

pub loop-pair-preserved : goal.loop-pair-preserved
loop-pair-preserved c =
    let k = get_or c.in-Some.pair.now 0 0 - 1 in
    let room : 2 ^ k ≤ 2 ^ most_stops = pow_mono {i = k} {j = most_stops} (omega (arith, stops (goal.at.loop-pair-preserved c).In-Some)) in
    let steps = c.in-Some.ensures.steps in
    marking_again c.loop-pair.invariant _ steps.1 steps.0 c.from.ensures (omega arith)

pub returns : goal.returns
returns c =
    ap holding (marking_ends c.loop-pair.invariant c.in-None.ensures.steps.1.0) ∙ sym (precedence_some c.args.pairs.now (search rules))
