-- `pool::settle::turn` meets its contract. The loop's invariant: the records with those between k at both ends turned around are the records
-- at entry with those from `from` to `to` turned around; so where at most one is left between, all is done.
use mathlib.Core.Path.{◌≡◌}
use Prim.Native.Nat.{◌+◌, ◌-◌}
use Rattle.records.specs.Code.{records}
use Rattle.pool.proofs.SettleLaws.{turned}
use Rattle.pool.proofs.settle.turn.Given as goal

abbrev pub invariant-loop-k : goal.invariant-loop-k
invariant-loop-k l = turned (l.from + l.k) (l.to - l.k) (records l.w) ≡ turned l.from l.to (records l.initial.w)
