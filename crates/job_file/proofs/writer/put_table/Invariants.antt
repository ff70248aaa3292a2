-- `put_table` meets its contract. The loop's invariant: the first k numbers stand at the front of the buffer.
use mathlib.Core.Path.{◌≡◌}
use lib.ListN.{take}
use Rattle.lists.specs.Lists.{each}
use Rattle.job_format.specs.Bytes.{word, overwrite}
use Rattle.job_file.proofs.writer.put_table.Given as goal

abbrev pub invariant-loop-k : goal.invariant-loop-k
invariant-loop-k l = l.buffer ≡ overwrite (each word (take l.k l.table)) l.initial.buffer
