-- `try_write` meets its contract, test by test.
use mathlib.Core.Path.{◌≡◌, sym, ◌∙◌}
use Prim.Native.Nat.{◌+◌, ◌*◌}
use native.Mathlib.Omega.{arith}
use lib.ListN.{length}
use Rattle.job_format.specs.Contents.{contents_of, trailer_length, bytes_of}
use Rattle.job_format.specs.Demands.{Passes}
use Rattle.job_format.proofs.JobLaws.{Passed, passed, length-file}
use Rattle.job_format.proofs.WriteLaws.{cause_refuses, buffer_refuses, file-written}
use Rattle.checks.proofs.RefusalLaws.{numbered}
use Rattle.job_file.proofs.RefusedLaws.{write_refused}
use Rattle.job_file.proofs.WriterLaws.{table_small}
use Rattle.job_file.proofs.writer.try_write.Goals as goal
use Rattle.job_file.proofs.writer.try_write.Goals.{In_ok-job_cause}

no_cause : (c : In_ok-job_cause) → Passes (contents_of c.args.job c.args.table.now c.args.start.now)
unfolding contents_of
no_cause c = sym c.in_ok-job_cause.ensures

sizes : (c : In_ok-job_cause) → Passed (contents_of c.args.job c.args.table.now c.args.start.now)
sizes c = passed _ (no_cause c)

long :
    (c : In_ok-job_cause) → length (bytes_of (contents_of c.args.job c.args.table.now c.args.start.now)) ≡ 4 * length c.args.table.now + length c.args.start.now + trailer_length
unfolding contents_of
long c =
    length-file (contents_of c.args.job c.args.table.now c.args.start.now) (sizes c).square ∙ rw (sizes c).square

pub returns-in_err-job_cause : goal.returns-in_err-job_cause
unfolding contents_of
returns-in_err-job_cause c =
    rw (write_refused _ _ c.from_residual.ensures.1)
    (cause_refuses (contents_of c.args.job c.args.table.now c.args.start.now) c.args.buffer.now _ c.in_err-job_cause.ensures (numbered _))

pub overflow_add-length-2 : goal.overflow_add-length-2
unfolding contents_of
overflow_add-length-2 c =
    omega (arith, table_small c.args.job.n c.args.table.now (sizes c).few (sizes c).square, (sizes c).short)

pub returns-then-buffer-length : goal.returns-then-buffer-length
returns-then-buffer-length c =
    buffer_refuses (contents_of c.args.job c.args.table.now c.args.start.now) c.args.buffer.now (no_cause (goal.at.returns-then-buffer-length c).In_ok-job_cause) (omega (arith, long (goal.at.returns-then-buffer-length c).In_ok-job_cause, c.if-buffer-length.true))

pub put_file-requires : goal.put_file-requires
unfolding contents_of
put_file-requires c =
    let p = sizes (goal.at.put_file-requires c).In_ok-job_cause in
    record {
      few = p.few;
      square = p.square;
      all = table_small _ c.args.table.now p.few p.square;
      small = record {
        n = omega (arith, p.few);
        selection = omega (arith, p.selection);
        rules = omega (arith, p.rules);
        bound = omega (arith, p.bound);
      };
      short = p.short;
      room = omega (arith, c.if-buffer-length.false, p.square);
    }

pub returns : goal.returns
returns c =
    file-written (contents_of c.args.job c.args.table.now c.args.start.now) c.args.buffer.now (no_cause (goal.at.returns c).In_ok-job_cause) _ _ (sym (long (goal.at.returns c).In_ok-job_cause)) c.if-buffer-length.false c.put_file.ensures
