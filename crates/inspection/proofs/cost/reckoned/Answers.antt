-- `cost::reckoned` meets its contract: the rows are the table's, the path cost is that of the stops, and what the bound adds is over the
-- stops that the set leaves (`FigureLaws`). Nothing wraps: a path cost is at most the dearest for each stop, and a bound adds at most that for each place.
use mathlib.Core.Path.{◌≡◌, refl}
use Prim.Native.Nat.{ℕ, ◌*◌, ◌-◌, ◌^◌, ◌%◌, ◌≤◌, ◌<◌}
use native.Mathlib.Omega.{arith}
use lib.Pow.{pow_pos}
use Rattle.sizes.specs.Sizes.{most_stops}
use Rattle.stops.specs.Code.{stops_in, Cheap}
use Rattle.stops.specs.declared.node_record.Record.{Record}
use Rattle.stops.proofs.SetBits.{stops_in_few}
use Rattle.stops.proofs.StopsWalk.{ahead_small}
use Rattle.records.proofs.Mask.{rest_small}
use Rattle.node_answers.specs.Nodes.{flown_stops}
use Rattle.inspection.specs.Code.{of_four}
use Rattle.inspection.proofs.FigureLaws.{job_priced, job_few, job_cheap, one_shifted, node_short, set-within, figures_node}
use Rattle.inspection.proofs.cost.reckoned.Goals as goal
use Rattle.inspection.proofs.cost.reckoned.Goals.{After-rows-t, Start}

-- the record
abbrev x : Start → Record
x c = of_four c.args.size c.args.set c.args.first c.args.second

few : (c : Start) → c.args.job.n ≤ most_stops
few c = job_few c.args.job c.args.table.now c.requires.1

pub rows-t-requires : goal.rows-t-requires
rows-t-requires c = job_priced c.args.job c.args.table.now c.requires.1

-- the rows that are reckoned with
cheap : (c : After-rows-t) → Cheap c.rows-t.result
cheap c = rw c.rows-t.ensures (job_cheap c.args.job c.args.table.now c.requires.1)

pub along-w-requires : goal.along-w-requires
unfolding of_four
along-w-requires c =
    let s = (goal.at.along-w-requires c).Start in
    (omega (arith, node_short c.args.job.n (x s) c.requires.0, few s), cheap (goal.at.along-w-requires c).After-rows-t)

-- the set of all n stops
shifted : (c : Start) → (1 * 2 ^ c.args.job.n) % 4294967296 ≡ 2 ^ c.args.job.n
shifted c = one_shifted c.args.job.n (few c)

pub overflow_shl-rest : goal.overflow_shl-rest
overflow_shl-rest c = omega (arith, few (goal.at.overflow_shl-rest c).Start)

pub overflow_sub-rest : goal.overflow_sub-rest
overflow_sub-rest c = omega (arith, shifted (goal.at.overflow_sub-rest c).Start, pow_pos c.args.job.n)

pub overflow_sub-rest-2 : goal.overflow_sub-rest-2
unfolding of_four
overflow_sub-rest-2 c =
    let s = (goal.at.overflow_sub-rest-2 c).Start in
    omega (arith, shifted s, set-within c.args.job.n (x s) c.requires.0)

-- the stops to come are those that the set leaves
rest_few : (c : Start) → (1 * 2 ^ c.args.job.n) % 4294967296 - 1 - c.args.set < 2 ^ most_stops
rest_few c = rw (shifted c) (rest_small c.args.job.n (few c) c.args.set)

pub ahead-to_come-requires : goal.ahead-to_come-requires
ahead-to_come-requires c =
    let g = goal.at.ahead-to_come-requires c in
    (c.along-w.ensures.place_few, (rest_few g.Start, cheap g.After-rows-t))

pub overflow_add-result : goal.overflow_add-result
overflow_add-result c =
    let g = goal.at.overflow_add-result c in
    let rest : ℕ = (1 * 2 ^ c.args.job.n) % 4294967296 - 1 - c.args.set in
    omega (
      arith,
      c.along-w.ensures.cost_small,
      c.ahead-to_come.ensures,
      ahead_small c.rows-t.result (cheap g.After-rows-t) most_stops c.args.job.bound c.along-w.result.place (stops_in rest)
          (stops_in_few rest (rest_few g.Start)),
    )

pub returns : goal.returns
unfolding flown_stops of_four
returns c =
    let s = (goal.at.returns c).Start in
    let a = c.args in
    figures_node (x s) a.job a.table.now c.requires.0 c.requires.1 c.rows-t.result c.along-w.result.path
    c.along-w.result.place ((1 * 2 ^ a.job.n) % 4294967296 - 1 - a.set) c.ahead-to_come.result c.rows-t.ensures
    (c.along-w.ensures.cost_is a.job.n) c.along-w.ensures.place_is (rw (shifted s) refl) c.ahead-to_come.ensures
