-- `unrivalled` meets its contract. The inner loop's invariant: the walk for the child in slot k stands at c, and has passed no rival of it
-- (`Standing`). The outer one's: `kept` has the stops passed whose children have no rival (`Thinning`). A rival at c decides that its child is
-- left out, so `continue` leaves no more to show than that.
use lib.ListN.{get_or}
use Rattle.stops.specs.Code.{empty_record}
use Rattle.records.specs.Code.{records}
use Rattle.records.proofs.SlotLaws.{Thinning}
use Rattle.lanes.specs.Code.{lane_of}
use Rattle.chains.specs.Code.{bucket_of, is_rival, is_free}
use Rattle.chains.proofs.WalkLaws.{StandingAt}
use Rattle.chains.proofs.walk.unrivalled.Given as goal

abbrev pub invariant-loop-c : goal.invariant-loop-c
invariant-loop-c l =
    let x = get_or (records l.kids) l.k empty_record in
    StandingAt (records l.w) l.p (is_rival l.limit x) (bucket_of x) l.c

abbrev pub decreases-loop-c : goal.decreases-loop-c
decreases-loop-c l = l.c

abbrev pub invariant-child : goal.invariant-child
invariant-child l =
    Thinning (is_free l.limit (lane_of (records l.w) l.p.end l.p.count)) (records l.kids) l.alive l.kept l.s-iterator.left
