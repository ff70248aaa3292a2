-- `strike_all` meets its contract. The loop's invariant: what a child passed dominates is struck out, and so much is lost (`StrikingAll`).
use Rattle.records.specs.Code.{records}
use Rattle.pool.specs.Code.{Laid}
use Rattle.replacement.proofs.StrikeLaws.{StrikingAll}
use Rattle.replacement.proofs.strike.strike_all.Given as goal

abbrev pub invariant-loop-s : goal.invariant-loop-s
invariant-loop-s l =
    Laid (records l.w) l.p l.index × StrikingAll (records l.kids) l.taking l.p.used (records l.initial.w) (records l.w) l.lost l.s-iterator.left
