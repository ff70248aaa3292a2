-- What is proved of these definitions (proofs/RoundTrip and proofs/Refusals): the letter's demands 1 and 2 of files, and document 01's "Causes
-- and numbers".
--   ReadsOrRefuses, WritesOrRefuses    demand 1: with which numbers the reader and the writer answer, 0 for a file accepted or written
--   ReadsBack, Rewrites, OneFile       demand 2: job files read back as written, accepted files are rewritten, no two contents share a file
--   LengthOfFile                       how long a file is
--   TableSquare, NeverTwo              number 2 does not come from the reader, and check 2 would find nothing either
--   Zeros                              a refusal by the reader is its number and zeros
use Rattle.std.specs.Prelude.{◌≡◌, false, List, [], ◌∷◌, ◌≢◌, ℕ, ◌≤◌, length}
use Rattle.sizes.specs.Sizes.{longest}
use Rattle.lists.specs.Lists.{In}
use Rattle.answer.specs.Checks.{cause₂, job_cause}
use Rattle.job_format.specs.Bytes.{AllBytes}
use Rattle.job_format.specs.Contents.{Contents, bytes_of, file_length}
use Rattle.job_format.specs.Reader.{contents_in, refusal, read}
use Rattle.job_format.specs.Writer.{write}

-- The reader answers every string of bytes, with one of these numbers, ..
abbrev pub reader_numbers : List ℕ
reader_numbers = 0 ∷ 8 ∷ 1 ∷ 9 ∷ 3 ∷ 4 ∷ 5 ∷ []

abbrev pub ReadsOrRefuses : Type 0
ReadsOrRefuses = (file : List ℕ) → In (read file).number reader_numbers

-- .. and the writer all contents and every buffer, with one of these.
abbrev pub writer_numbers : List ℕ
writer_numbers = 0 ∷ 1 ∷ 2 ∷ 3 ∷ 4 ∷ 5 ∷ 10 ∷ []

abbrev pub WritesOrRefuses : Type 0
WritesOrRefuses = (c : Contents) (buffer : List ℕ) → In (write c buffer).number writer_numbers

-- none of causes 1 to 5 applies
abbrev pub Passes : Contents → Type 0
Passes c = job_cause c.job c.table c.start 0 ≡ 0

abbrev pub ReadsBack : Type 0
ReadsBack = (c : Contents) → Passes c → read (bytes_of c) ≡ record { number = 0; contents = c }

abbrev pub Rewrites : Type 0
Rewrites = (file : List ℕ) → AllBytes file → (read file).number ≡ 0 → Passes (read file).contents × (bytes_of (read file).contents ≡ file)

abbrev pub OneFile : Type 0
OneFile = (c d : Contents) → Passes c → Passes d → bytes_of c ≡ bytes_of d → c ≡ d

abbrev pub LengthOfFile : Type 0
LengthOfFile = (c : Contents) → Passes c → (length (bytes_of c) ≡ file_length c.job.n (length c.start)) × (length (bytes_of c) ≤ longest)

abbrev pub TableSquare : Type 0
TableSquare = (file : List ℕ) → cause₂ (contents_in file).job.n (contents_in file).table ≡ false

abbrev pub NeverTwo : Type 0
NeverTwo = (file : List ℕ) → (read file).number ≢ 2

abbrev pub Zeros : Type 0
Zeros = (file : List ℕ) → (read file).number ≢ 0 → read file ≡ refusal (read file).number
