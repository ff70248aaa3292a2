-- The goals of `writer::put_table` that the search leaves.
use mathlib.Core.Path.{◌∙◌}
use native.Mathlib.Omega.{arith}
use lib.Seq.{take_all}
use Rattle.job_format.proofs.ByteLaws.{overwrite-none, table_next}
use Rattle.job_file.proofs.writer.put_table.Goals as goal

pub loop-k-init : goal.loop-k-init
loop-k-init c = overwrite-none _

pub loop-k-preserved : goal.loop-k-preserved
loop-k-preserved c =
    let next = table_next c.args.table.now c.args.buffer.now c.loop-k.k (omega arith) (omega arith) in
    c.put_word.ensures ∙ rw c.loop-k.invariant next

pub returns : goal.returns
returns c = c.loop-k.invariant ∙ rw (take_all c.loop-k.k c.args.table.now (omega arith))
