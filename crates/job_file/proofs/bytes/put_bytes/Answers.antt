-- The goals of `bytes::put_bytes` that the search leaves.
use native.Mathlib.Omega.{arith}
use lib.Seq.{length-take-le}
use Rattle.job_format.proofs.ByteLaws.{overwrite-none, overwrite_one, take_next}
use Rattle.job_file.proofs.bytes.put_bytes.Goals as goal

pub loop-k-init : goal.loop-k-init
loop-k-init c = overwrite-none _

pub loop-k-preserved : goal.loop-k-preserved
loop-k-preserved c =
    let at = c.loop-k in
    let bytes = c.args.bytes.now in
    let length_front = length-take-le at.k bytes (omega arith) in
    let next = take_next bytes at.k (omega arith) in
    rw at.invariant (overwrite_one _ _ _ at.k _ length_front next (omega arith))
