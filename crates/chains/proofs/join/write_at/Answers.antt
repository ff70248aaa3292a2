-- `write_at` meets its contract: the words that it lends on are the records behind the lane's, and `write` gives them back with the
-- children at their front.
use native.Mathlib.Omega.{arith}
use lib.ListN.{length-drop}
use Rattle.records.specs.Code.{records, slots}
use Rattle.records.proofs.ViewLaws.{length-records}
use Rattle.chains.specs.Code.{joined_all}
use Rattle.chains.proofs.JoinLaws.{lent_records, lent_back}
use Rattle.chains.proofs.join.write_at.Goals as goal

pub overflow_mul-from : goal.overflow_mul-from
overflow_mul-from c = omega (arith, length-records c.args.w.now)

pub offset_bounds-w-from : goal.offset_bounds-w-from
offset_bounds-w-from c = omega (arith, length-records c.args.w.now)

pub slice_bounds-write-count : goal.slice_bounds-write-count
slice_bounds-write-count c = omega (arith, length-records c.args.w.now)

pub slice_bounds-write-start : goal.slice_bounds-write-start
slice_bounds-write-start c = omega (arith, length-records c.args.w.now)

pub write-requires : goal.write-requires
write-requires c =
    let a = c.args in (
      (c.requires.0.0, rw (lent_records a.w.now a.p.count, length-drop a.p.count (records a.w.now)) (omega arith)),
      (omega (arith, length-records a.w.now), c.requires.1),
    )

pub returns : goal.returns
returns c =
    let write = c.write in
    let a = c.args in
    let front = joined_all a.p a.p.count a.index.now (slots a.alive (records a.kids.now)) in (
      write.ensures.0,
      (lent_back a.w.now a.p.count front write.result write.new.part (omega arith) write.ensures.1.0, write.ensures.1.1),
    )
