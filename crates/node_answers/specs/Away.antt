-- Request A.5 of the figures of a record, proved in proofs/.
use Rattle.std.specs.Prelude.{◌≡◌, true, false, List, [], ℕ, T}
use Rattle.stops.specs.Tables.{rows}
use Rattle.stops.specs.Bounds.{ends_away}
use Rattle.stops.specs.Away.{day_away_on}
use Rattle.stops.specs.declared.node_record.Record.{Record}
use Rattle.answer.specs.Checks.{job_cause}
use Rattle.answer.specs.declared.Job.{Job}
use Rattle.node_answers.specs.Nodes.{is_node}
use Rattle.node_answers.specs.Answers.{figures_by, figures}

-- on a day that ends away they are as the request words it: by the legs of the day that ends at home, and no leg home counts
abbrev pub FiguresEndAway : Type 0
FiguresEndAway =
    (x : Record) (job : Job) (table : List ℕ) → T (is_node job.n x) → job_cause job table [] 0 ≡ 0 → ends_away job.bound ≡ true
    → figures true x job table ≡ figures_by true 0 x job (day_away_on job.n (rows job.n false table))
