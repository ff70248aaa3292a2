-- `rival` meets its contract: `beats` decides dominance, and the bound is read where it stands.
use mathlib.Core.Bool.{and-true, and-false}
use Rattle.lanes.specs.Code.{sized}
use Rattle.chains.proofs.walk.rival.Goals as goal

pub returns-then-beats : goal.returns-then-beats
unfolding sized
returns-then-beats c = rw (← c.beats.ensures, c.if-beats.true, ← c.bound_at.ensures, and-true)

pub returns : goal.returns
returns c = rw (← c.beats.ensures, c.if-beats.false, and-false)
