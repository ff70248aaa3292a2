-- `put_file` meets its contract: the table, the starting order and the trailer, one behind the other.
use mathlib.Core.Path.{refl}
use native.Mathlib.Omega.{arith}
use Rattle.job_file.proofs.WriterLaws.{parts_written}
use Rattle.job_file.proofs.writer.put_file.Goals as goal

pub put_bytes-requires : goal.put_bytes-requires
put_bytes-requires c = omega arith

pub returns : goal.returns
returns c =
    parts_written _ _ _ _ c.requires _ _ _ _ c.put_table.ensures c.put_bytes.ensures refl c.put_trailer.ensures
