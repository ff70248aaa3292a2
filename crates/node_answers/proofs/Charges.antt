-- Request A.4 of the figures of a record, a theorem for each type of specs/Charges.
use Rattle.lists.proofs.Tests.{to_true}
use Rattle.stops.specs.Bounds.{ends_away}
use Rattle.stops.proofs.Charges.{day_path_pays, day_plain_pays, day_close_pays}
use Rattle.node_answers.specs.Nodes.{flown_stops, is_node}
use Rattle.node_answers.specs.Answers.{figures_by, figures}
use Rattle.node_answers.specs.Charges.{FiguresPathPays, FiguresPlainPays, FiguresClosePays}
use Rattle.node_answers.proofs.NodeLaws.{node_record}

pub figures_path_pays : FiguresPathPays
unfolding figures figures_by
figures_path_pays x job table node none =
    let r = node_record job.n x node in
    rw (to_true (is_node job.n x) node, none) (day_path_pays job.n r.some r.few (ends_away job.bound) table (flown_stops x) r.node)

pub figures_plain_pays : FiguresPlainPays
unfolding figures figures_by
figures_plain_pays x job table node none plain =
    let r = node_record job.n x node in
    rw (to_true (is_node job.n x) node, none)
    (day_plain_pays job.n r.some r.few (ends_away job.bound) table (flown_stops x) r.node job.bound plain)

pub figures_close_pays : FiguresClosePays
unfolding figures figures_by
figures_close_pays x job table node none close =
    let r = node_record job.n x node in
    rw (to_true (is_node job.n x) node, none)
    (day_close_pays job.n r.some r.few (ends_away job.bound) table (flown_stops x) r.node job.bound close)
