-- `beats` meets its contract: records of other sets do not dominate, and else `dominates` decides.
use mathlib.Core.Path.{sym, ◌∙◌}
use Rattle.lanes.specs.Code.{sized}
use Rattle.chains.proofs.WalkLaws.{sets_apart}
use Rattle.chains.proofs.walk.beats.Goals as goal

pub returns-then-set_at : goal.returns-then-set_at
unfolding sized
returns-then-set_at c = sets_apart _ _ (λ e. c.if-set_at.true (c.set_at.ensures ∙ e ∙ sym c.set_at-2.ensures))

pub returns : goal.returns
returns c = cc
