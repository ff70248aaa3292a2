-- What a job file holds, and its bytes: document 01, "Job file and program".
use Rattle.std.specs.Prelude.{List, [], ◌∷◌, ◌++◌, ℕ, suc, ◌+◌, ◌*◌, length}
use Rattle.lists.specs.Lists.{each}
use Rattle.answer.specs.declared.Job.{Job}
use Rattle.job_format.specs.Bytes.{word_bytes, word}

-- A job with its table and its starting order. Each over its whole range; nothing is assumed of them.
pub record Contents : Type 0 where
  pub job : Job
  -- the table's numbers, row by row
  pub table : List ℕ
  -- the starting order, or nothing
  pub start : List ℕ

-- contents by their parts, in the order of the code's arguments
unfoldable pub contents_of : Job → List ℕ → List ℕ → Contents
contents_of job table start = record { job = job; table = table; start = start }

-- The thirteen bytes at the end of a file: two places as words, then n, the length of the starting order, selection, rules and bound as a
-- byte each.
pub record Trailer : Type 0 where
  pub table_place : ℕ
  pub start_place : ℕ
  pub job : Job
  pub start_length : ℕ

abbrev pub trailer_length : ℕ
trailer_length = 13

-- how many numbers the table of n stops has
abbrev pub area : ℕ → ℕ
area n = suc n * suc n

-- where the starting order begins: behind the table, which begins at 0
abbrev pub start_place_of : ℕ → ℕ
start_place_of n = word_bytes * area n

unfoldable pub trailer_of : Contents → Trailer
trailer_of c = record {
  table_place = 0;
  start_place = start_place_of c.job.n;
  job = c.job;
  start_length = length c.start;
}

unfoldable pub trailer_bytes : Trailer → List ℕ
trailer_bytes t =
    word t.table_place ++ word t.start_place
    ++ (t.job.n ∷ t.start_length ∷ t.job.selection ∷ t.job.rules ∷ t.job.bound ∷ [])

-- a word for each number of the table, a byte for each stop of the starting order, and the trailer
unfoldable pub bytes_of : Contents → List ℕ
bytes_of c = each word c.table ++ c.start ++ trailer_bytes (trailer_of c)

-- how long these are together
abbrev pub file_length : ℕ → ℕ → ℕ
file_length n start_length = start_place_of n + start_length + trailer_length
