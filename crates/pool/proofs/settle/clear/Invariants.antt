-- `pool::settle::clear` meets its contract. The loop's invariant: the records cleared from k on are the records at entry cleared from
-- `from` on.
use mathlib.Core.Path.{◌≡◌}
use Rattle.stops.specs.Code.{empty_record}
use Rattle.records.specs.Code.{records}
use Rattle.pool.proofs.SettleLaws.{cleared}
use Rattle.pool.proofs.settle.clear.Given as goal

abbrev pub invariant-loop-k : goal.invariant-loop-k
invariant-loop-k l = cleared l.capacity empty_record l.k (records l.w) ≡ cleared l.capacity empty_record l.from (records l.initial.w)
