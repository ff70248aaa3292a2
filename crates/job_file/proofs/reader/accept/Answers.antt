-- `accept` meets its contract: what it has read is what the file holds (`found`), and the checks answer for it.
use mathlib.Core.Path.{◌≡◌, ap, sym}
use lib.Seq.{length-take-le}
use native.Mathlib.Omega.{arith}
use Rattle.job_format.specs.Reader.{refusal}
use Rattle.job_file.specs.Promise.{returned}
use Rattle.job_file.specs.declared.reader.Reading.{Reading as Returned}
use Rattle.job_file.proofs.RefusedLaws.{read_refused}
use Rattle.job_file.proofs.AcceptLaws.{Found, found_short, accept_refuses, accept_returns}
use Rattle.job_file.proofs.reader.accept.Goals as goal
use Rattle.job_file.proofs.reader.accept.Goals.{Start, After-job_cause}

-- what has been read when the checks answer
abbrev Read : After-job_cause → Type 0
Read c =
    let args = c.args in
    Found args.file.now args.trailer.now args.job c.area-count.result c.table_of-table.result c.from-stops.result

found : (c : After-job_cause) → Read c
found c =
    record {
      laid = c.requires.0;
      square = c.area-count.ensures.0;
      numbers = c.table_of-table.ensures;
      long = c.from-stops.ensures;
    }

pub returns-in_err-job_cause : goal.returns-in_err-job_cause
returns-in_err-job_cause c =
    let asked = accept_refuses _ _ _ _ _ _ (found (goal.at.returns-in_err-job_cause c).After-job_cause) _ c.in_err-job_cause.ensures in
    read_refused _ _ c.from_residual.ensures.1 _ _ asked c.requires.1

-- what is written over is zeros
number : (c : Start) → c.args.into.now.number ≡ 0
unfolding returned refusal
number c = ap (λ (r : Returned). r.number) c.requires.1

pub returns : goal.returns
returns c =
    let at = goal.at.returns c in
    rw (number at.Start) (accept_returns _ _ _ _ _ _ (found at.After-job_cause) c.in_ok-job_cause.ensures _ c.start_of-into.ensures)

pub slice_bounds-job_cause-end : goal.slice_bounds-job_cause-end
slice_bounds-job_cause-end c = sym (length-take-le _ c.table_of-table.result (omega arith))

pub start_of-into-requires : goal.start_of-into-requires
start_of-into-requires c = found_short _ _ _ _ _ _ (found (goal.at.start_of-into-requires c).After-job_cause) c.in_ok-job_cause.ensures
