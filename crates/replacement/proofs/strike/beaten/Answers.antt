-- `beaten` meets its contract: records of other sets do not dominate, and else `dominates` decides.
use mathlib.Core.Path.{sym, ◌∙◌}
use borrow.Author.Tests.{ne_eqb}
use Rattle.lanes.specs.Code.{sized}
use Rattle.chains.proofs.WalkLaws.{sets_apart}
use Rattle.replacement.proofs.strike.beaten.Goals as goal

pub returns-else-set_at : goal.returns-else-set_at
unfolding sized
returns-else-set_at c =
    ne_eqb _ _ c.if-set_at.false ∙ sets_apart _ _ (λ e. c.if-set_at.false (c.set_at.ensures ∙ sym e ∙ sym c.set_at-2.ensures))
