-- `put_bytes` meets its contract. The loop's invariant: the first k bytes stand at the front of the buffer.
use mathlib.Core.Path.{◌≡◌}
use lib.ListN.{take}
use Rattle.job_format.specs.Bytes.{overwrite}
use Rattle.job_file.proofs.bytes.put_bytes.Given as goal

abbrev pub invariant-loop-k : goal.invariant-loop-k
invariant-loop-k l = l.buffer ≡ overwrite (take l.k l.bytes) l.initial.buffer
