-- The goals of `best::learn` that the search leaves.
use mathlib.Core.Path.{sym, ◌∙◌}
use Rattle.records.specs.Code.{records, in_slot, slots}
use Rattle.children.proofs.BestLaws.{learn-none, learning_again, learning_ends}
use Rattle.children.proofs.best.learn.Goals as goal

pub returns-then-size-setting : goal.returns-then-size-setting
returns-then-size-setting c =
    let a = c.args in
    learn-none a.setting a.best (slots a.born (records a.kids.now)) (λ x i e. c.if-size-setting.true (sym (c.requires.1 x i) ∙ e))

pub loop-s-preserved : goal.loop-s-preserved
unfolding in_slot
loop-s-preserved c =
    let steps = c.in-Some.ensures.steps in
    learning_again c.loop-s.invariant steps.0 steps.1 c.requires.1 (λ d. rw c.slot.ensures at (c.better-known.ensures d))

pub returns : goal.returns
returns c = learning_ends c.loop-s.invariant c.in-None.ensures.steps c.args.setting c.if-size-setting.false
