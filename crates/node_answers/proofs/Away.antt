-- Request A.5 of the figures of a record: the theorem of specs/Away.
use Rattle.lists.proofs.Tests.{to_true}
use Rattle.stops.proofs.Away.{away_path, away_bound}
use Rattle.node_answers.specs.Nodes.{flown_stops, is_node}
use Rattle.node_answers.specs.Answers.{figures_by, figures}
use Rattle.node_answers.specs.Away.{FiguresEndAway}
use Rattle.node_answers.proofs.NodeLaws.{node_record}

pub figures_end_away : FiguresEndAway
unfolding figures figures_by
figures_end_away x job table node none ends =
    let r = node_record job.n x node in
    rw (
      to_true (is_node job.n x) node,
      none,
      ends,
      away_path job.n r.some r.few table (flown_stops x) r.node,
      away_bound job.n r.some r.few table (flown_stops x) r.node job.bound,
    )
