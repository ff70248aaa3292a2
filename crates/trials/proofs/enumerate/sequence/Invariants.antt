-- `sequence` is safe. The invariant: x has sixteen places.
use Rattle.std.proofs.Common.{◌≡◌, length}
use Rattle.sizes.specs.Sizes.{order_places}
use Rattle.trials.proofs.enumerate.sequence.Given as goal

abbrev pub invariant-loop-i : goal.invariant-loop-i
invariant-loop-i l = order_places ≡ length l.x
