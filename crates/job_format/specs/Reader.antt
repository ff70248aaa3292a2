-- What the reader answers for every string of bytes: document 01, "Job file and program" and "Causes and numbers".
use Rattle.std.specs.Prelude.{Bool, not, ◌||◌, List, [], map, ℕ, zero, suc, ◌*◌, ◌-◌, ltb, eqb, length, get_or, take, drop}
use Rattle.sizes.specs.Sizes.{longest}
use Rattle.lists.specs.Lists.{from}
use Rattle.answer.specs.Checks.{cause₁, cause₃, cause₄, cause₅, or_later}
use Rattle.job_format.specs.Bytes.{word_bytes, word_at}
use Rattle.job_format.specs.Contents.{Contents, Trailer, trailer_length, area, start_place_of, file_length}

-- the trailer that some bytes make up
unfoldable pub trailer_from : List ℕ → Trailer
trailer_from bytes = record {
  table_place = word_at bytes 0;
  start_place = word_at bytes 4;
  job = record { n = get_or bytes 8 0; selection = get_or bytes 10 0; rules = get_or bytes 11 0; bound = get_or bytes 12 0 };
  start_length = get_or bytes 9 0;
}

-- the trailer of a file: its last bytes
unfoldable pub trailer_in : List ℕ → Trailer
trailer_in file = trailer_from (drop (length file - trailer_length) file)

-- so many words, from the front of a file on
unfoldable pub words_in : ℕ → List ℕ → List ℕ
words_in count file = map (λ k. word_at file (word_bytes * k)) (from 0 count)

-- what a file holds by its trailer: the table from place 0 on, and the starting order
unfoldable pub contents_by : Trailer → List ℕ → Contents
contents_by t file = record {
  job = t.job;
  table = words_in (area t.job.n) file;
  start = take t.start_length (drop (start_place_of t.job.n) file);
}

unfoldable pub contents_in : List ℕ → Contents
contents_in file = contents_by (trailer_in file) file

-- the places or the length of a file are not those of the layout; no layout is longer than the longest job's
unfoldable pub misplaced : Trailer → ℕ → Bool
misplaced t len =
    not (eqb t.table_place 0)
    || not (eqb t.start_place (start_place_of t.job.n))
    || not (eqb len (file_length t.job.n t.start_length))
    || ltb longest len

-- the first of 8, 1, 9, 3, 4 and 5 that applies; 0 if none does
unfoldable pub file_cause : List ℕ → ℕ
file_cause file =
    or_later (ltb (length file) trailer_length) 8
    (or_later (cause₁ (contents_in file).job.n) 1
    (or_later (misplaced (trailer_in file) (length file)) 9
    (or_later (cause₃ (contents_in file).job.n (contents_in file).table) 3
    (or_later (cause₄ (contents_in file).job) 4
    (or_later (cause₅ (contents_in file).job.n (contents_in file).start) 5 0)))))

-- What the reader hands back: number 0 and what the file holds, or a refusal's number and zeros.
pub record Reading : Type 0 where
  pub number : ℕ
  pub contents : Contents

unfoldable pub refusal : ℕ → Reading
refusal number = record {
  number = number;
  contents = record { job = record { n = 0; selection = 0; rules = 0; bound = 0 }; table = []; start = [] };
}

unfoldable pub reading_by : ℕ → Contents → Reading
reading_by zero c = record { number = 0; contents = c }
reading_by (suc k) c = refusal (suc k)

unfoldable pub read : List ℕ → Reading
read file = reading_by (file_cause file) (contents_in file)
