-- `cost_in` is safe. The invariant: the sum is at most twice the largest number for each place passed.
use Rattle.std.proofs.Common.{◌*◌, ◌≤◌}
use Rattle.trials.proofs.enumerate.cost_in.Given as goal

abbrev pub invariant-loop-s : goal.invariant-loop-s
invariant-loop-s l = l.sum ≤ 8589934590 * l.s-index
