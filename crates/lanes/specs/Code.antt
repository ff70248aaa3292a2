-- How the pool's places show lists of nodes while a call works. These definitions are the code's own: a reader of the promise needs none
-- of them.
--   sized                 a record with the size of its set
--   is_live, marked        a record is no gone one; a record made gone
--   is_within              rule 1: a record's bound is at most a limit
--   live_in, live_of        the nodes among some records, and among the first places of the pool
--   others_of              these but for the one at a place
--   far_of                 the nodes at the far end, latest branched first
--   place_of, rec_at        where a lane's record number c stands, counted from 1, and the node there, counted from 0
--   lane_of                the nodes of a lane, gone ones too
use Rattle.std.specs.Prelude.{Bool, cond, List, ◌++◌, map, ℕ, suc, ◌-◌, eqb, leb, ltb, length, get_or, take, drop}
use Rattle.std.specs.Int.Count.{ones}
use Rattle.std.proofs.Math.Seq.{slice}
use Rattle.lists.specs.Lists.{keep, from}
use Rattle.stops.specs.Code.{empty_record}
use Rattle.stops.specs.declared.node_record.Record.{Record}
use Rattle.lanes.specs.Sizes.{gone}

unfoldable pub sized : Record → Record
sized x = record { size = ones x.set; set = x.set; path = x.path; bound = x.bound; first = x.first; second = x.second }

unfoldable pub is_live : Record → Bool
is_live x = ltb x.bound gone

unfoldable pub marked : Record → Record
marked x = record { size = x.size; set = x.set; path = x.path; bound = gone; first = x.first; second = x.second }

unfoldable pub is_within : ℕ → Record → Bool
is_within limit x = leb x.bound limit

unfoldable pub live_in : List Record → List Record
live_in xs = map sized (keep is_live xs)

abbrev pub live_of : ℕ → List Record → List Record
live_of used recs = live_in (take used recs)

abbrev pub others_of : ℕ → ℕ → List Record → List Record
others_of used i recs = live_in (take i recs) ++ live_in (slice (suc i) used recs)

abbrev pub far_of : ℕ → List Record → List Record
far_of far recs = map sized (drop (length recs - far) recs)

-- with end 0 the records stand at 0, 1, 2 .., else at end-1, end-2 ..
abbrev pub place_of : ℕ → ℕ → ℕ
place_of end c = cond (eqb end 0) (c - 1) (end - c)

abbrev pub rec_at : List Record → ℕ → ℕ → Record
rec_at recs end j = sized (get_or recs (place_of end (suc j)) empty_record)

abbrev pub lane_of : List Record → ℕ → ℕ → List Record
lane_of recs end k = map (rec_at recs end) (from 0 k)
