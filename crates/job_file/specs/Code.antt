-- What the functions of this crate compute between one another. These definitions are the code's own: a reader of the promises needs none of
-- them.
--   checked       what the reader answers of contents that stand in their place
--   Filled        what the reader has written over zeros, or why it refuses a file and has left them
--   written       what the writer hands back where it has written a file of some length or refuses it
--   Laid          the bytes of a file and of its trailer are long enough for the trailer's job
--   trailer_by     a trailer by its parts
--   Small         a job whose fields are bytes
--   Fits          contents that fit the layout, and a buffer that their file fits
use Rattle.std.specs.Prelude.{◌≡◌, List, ℕ, Result, Ok, Err, ◌+◌, ◌≤◌, ◌<◌, length, get_or}
use Rattle.sizes.specs.Sizes.{most_stops, table_numbers, order_places}
use Rattle.answer.specs.Checks.{job_cause}
use Rattle.answer.specs.Refusals.{number}
use Rattle.answer.specs.declared.Job.{Job}
use Rattle.answer.specs.declared.refusal.Refusal.{Refusal}
use Rattle.job_format.specs.Contents.{Contents, Trailer, trailer_length, area, start_place_of, file_length}
use Rattle.job_format.specs.Reader.{Reading, trailer_from, refusal, reading_by}
use Rattle.job_file.specs.Promise.{returned}
use Rattle.job_file.specs.declared.reader.Reading.{Reading as Returned}
use Rattle.job_file.specs.declared.writer.Written.{Written}

unfoldable pub checked : Contents → Reading
checked c = reading_by (job_cause c.job c.table c.start 0) c

abbrev pub Filled : {A : Type 0} → Reading → Result A Refusal → Returned → Type 0
Filled answer (Ok _) r = r ≡ returned answer
Filled answer (Err e) r = (returned (refusal (number e)) ≡ returned answer) × (r ≡ returned (refusal 0))

abbrev pub written : Result ℕ Refusal → Written
written (Ok length) = record { number = 0; length = length }
written (Err e) = record { number = number e; length = 0 }

pub record Laid (file trailer : List ℕ) (job : Job) : Type 0 where
  pub whole : length trailer ≡ trailer_length
  pub stands : job ≡ (trailer_from trailer).job
  pub few : job.n ≤ most_stops
  pub inside : start_place_of job.n + get_or trailer 9 0 ≤ length file

unfoldable pub trailer_by : ℕ → Job → ℕ → Trailer
trailer_by start_place job start_length = record { table_place = 0; start_place = start_place; job = job; start_length = start_length }

pub record Small (job : Job) : Type 0 where
  pub n : job.n < 256
  pub selection : job.selection < 256
  pub rules : job.rules < 256
  pub bound : job.bound < 256

pub record Fits (job : Job) (table start buffer : List ℕ) : Type 0 where
  pub few : job.n ≤ most_stops
  pub square : length table ≡ area job.n
  pub all : length table ≤ table_numbers
  pub small : Small job
  pub short : length start ≤ order_places
  pub room : file_length job.n (length start) ≤ length buffer
