-- `carried::cleared` meets its contract: behind place 0 all is filled.
use native.Mathlib.Omega.{arith}
use Rattle.carried.proofs.RowLaws.{filled}
use Rattle.carried.proofs.cleared.Goals as goal

pub returns : goal.returns
returns c = filled 1 _ c.requires (omega (arith, c.requires)) (c.fill.ensures.after (λ y e. e))
