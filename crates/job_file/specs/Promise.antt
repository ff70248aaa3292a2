-- The promises of the reader and the writer in words of their code: the arrays that the reader hands contents back in, and what the writer
-- leaves.
use Rattle.std.specs.Prelude.{◌≡◌, List, ℕ, length, take}
use Rattle.sizes.specs.Sizes.{table_numbers, order_places}
use Rattle.lists.specs.Lists.{padded}
use Rattle.job_format.specs.Contents.{Contents, contents_of, area}
use Rattle.job_format.specs.Reader.{Reading}
use Rattle.job_format.specs.Writer.{Writing, write}
use Rattle.job_file.specs.declared.reader.Reading.{Reading as Returned}
use Rattle.job_file.specs.declared.writer.Written.{Written}

-- What the reader returns: the number and the contents, with zeros in unused places of the table and of the starting order, and how many stops
-- the starting order has.
unfoldable pub returned : Reading → Returned
returned r = record {
  number = r.number;
  job = r.contents.job;
  table = padded table_numbers r.contents.table;
  start = padded order_places r.contents.start;
  stops = length r.contents.start;
}

-- The contents that a caller hands on from what the reader returned: the numbers of the table that n has, and the stops of the starting order.
unfoldable pub contents_from : Returned → Contents
contents_from r = contents_of r.job (take (area r.job.n) r.table) (take r.stops r.start)

-- What the writer promises of contents and a buffer: the number and the length that it returns, and the bytes that it leaves in the buffer, are
-- those of `write`.
abbrev pub Promised : Contents → List ℕ → Written → List ℕ → Type 0
Promised c buffer w left = ◌≡◌ {A = Writing} (record { number = w.number; length = w.length; buffer = left }) (write c buffer)
