-- `least` meets its contract. The invariant: `low` is the least bound of the first blocks, as many as were looked at.
use mathlib.Core.List.{List}
use Prim.Native.Nat.{◌^◌}
use Rattle.stops.specs.declared.node_record.Record.{Record}
use Rattle.blocks.specs.Code.{Blocked}
use Rattle.blocks.proofs.FindLaws.{LeastTo}
use Rattle.blocks.proofs.find.least.Given as goal

abbrev pub invariant-loop-bound : goal.invariant-loop-bound
invariant-loop-bound l = (recs : List Record) → Blocked recs l.used (2 ^ l.shift) l.index → LeastTo recs l.used (2 ^ l.shift) l.bound-index l.low
