-- `strike` meets its contract. The loop's invariant: the walk stands at c; the records that it has passed, or that are of other buckets, are as
-- they should be (`Striking`). Marking changes neither links nor keys, so that it goes on as it would have.
use lib.ListN.{get_or}
use Rattle.stops.specs.Code.{empty_record, rec_dominates}
use Rattle.records.specs.Code.{records}
use Rattle.chains.specs.Code.{bucket_of}
use Rattle.pool.specs.Code.{Laid}
use Rattle.replacement.proofs.StrikeWalk.{Striking}
use Rattle.replacement.proofs.strike.strike.Given as goal

abbrev pub invariant-loop-c : goal.invariant-loop-c
invariant-loop-c l =
    let x = get_or (records l.kids) l.k empty_record in
    Laid (records l.w) l.p l.index × Striking (rec_dominates x) (bucket_of x) l.p (records l.initial.w) (records l.w) l.lost l.c

abbrev pub decreases-loop-c : goal.decreases-loop-c
decreases-loop-c l = l.c
