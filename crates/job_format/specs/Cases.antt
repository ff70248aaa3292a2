-- Document 01's case l, and small cases of our own for each number that a file or a buffer can bring. The laws name this module, so that it
-- is checked before them: a wrong definition is met here first.
use Rattle.std.specs.Prelude.{◌≡◌, refl, List, [], ◌∷◌, ◌++◌, map, ℕ, length, replicate, take, drop}
use Rattle.sizes.specs.Sizes.{most_stops, longest}
use Rattle.lists.specs.Lists.{each}
use Rattle.orders.specs.Orders.{flown, count, is_order}
use Rattle.stops.specs.Tables.{entry, charge}
use Rattle.answer.specs.declared.Job.{Job}
use Rattle.answer.specs.Checks.{cause₁, cause₂, cause₃, no_such_bound, cause₄, cause₅, table_cause, job_cause}
use Rattle.answer.specs.Cases.{table_t}
use Rattle.job_format.specs.Bytes.{word, word_at, overwrite}
use Rattle.job_format.specs.Contents.{Contents, Trailer, trailer_of, trailer_bytes, bytes_of, file_length}
use Rattle.job_format.specs.Reader.{trailer_from, trailer_in, words_in, contents_by, contents_in, misplaced, file_cause, refusal, reading_by, read}
use Rattle.job_format.specs.Writer.{write_cause, writing_by, write}

abbrev job : ℕ → ℕ → ℕ → ℕ → Job
job n selection rules bound = record { n = n; selection = selection; rules = rules; bound = bound }

-- contents by their parts
abbrev contents : ℕ → List ℕ → ℕ → ℕ → ℕ → List ℕ → Contents
contents n table selection rules bound start = record { job = job n selection rules bound; table = table; start = start }

-- what case a's file holds, with every definition that the cases rest on open
a : Contents
unfolding flown count is_order entry charge table_t cause₁ cause₂ cause₃ no_such_bound cause₄ cause₅ table_cause job_cause word word_at overwrite trailer_of trailer_bytes bytes_of trailer_from trailer_in words_in contents_by contents_in misplaced file_cause refusal reading_by read write_cause writing_by write
a = contents 3 table_t 0 1 1 []

-- l. Its length and its trailer.
job_a_77_bytes : length (bytes_of a) ≡ 77
unfolding a
job_a_77_bytes = refl

job_a_trailer :
    drop 64 (bytes_of a)
    ≡ 0x00 ∷ 0x00 ∷ 0x00 ∷ 0x00 ∷ 0x40 ∷ 0x00 ∷ 0x00 ∷ 0x00 ∷ 0x03 ∷ 0x00 ∷ 0x00 ∷ 0x01 ∷ 0x01 ∷ []
unfolding a
job_a_trailer = refl

job_a_read : read (bytes_of a) ≡ record { number = 0; contents = a }
unfolding a
job_a_read = refl

-- The least byte of a word comes first: 1,000,000 is 0f 42 40 in hexadecimal.
million_least_first : word 1_000_000 ≡ 0x40 ∷ 0x42 ∷ 0x0f ∷ 0x00 ∷ []
unfolding a
million_least_first = refl

million_read : word_at (9 ∷ 0x40 ∷ 0x42 ∷ 0x0f ∷ 0x00 ∷ 9 ∷ []) 1 ≡ 1_000_000
unfolding a
million_read = refl

-- The table stands first, row by row: 0, then 4.
job_a_table : take 8 (bytes_of a) ≡ 0 ∷ 0 ∷ 0 ∷ 0 ∷ 4 ∷ 0 ∷ 0 ∷ 0 ∷ []
unfolding a
job_a_table = refl

-- Case e's file: the starting order stands behind the table, a byte a stop, and its length in the trailer.
e : Contents
e = contents 3 table_t 3 1 1 (1 ∷ 2 ∷ 3 ∷ [])

job_e_start : drop 64 (bytes_of e) ≡ 1 ∷ 2 ∷ 3 ∷ 0 ∷ 0 ∷ 0 ∷ 0 ∷ 0x40 ∷ 0 ∷ 0 ∷ 0 ∷ 3 ∷ 3 ∷ 3 ∷ 1 ∷ 1 ∷ []
unfolding a e
job_e_start = refl

job_e_read : read (bytes_of e) ≡ record { number = 0; contents = e }
unfolding a e
job_e_read = refl

-- the longest file has the most stops and an order of them
longest-job : file_length most_stops most_stops ≡ longest
longest-job = refl

-- Case h's table in a file with some starting order and some trailer.
abbrev file : List ℕ → Trailer → List ℕ
file start t = each word (0 ∷ 3 ∷ 5 ∷ 0 ∷ []) ++ start ++ trailer_bytes t

abbrev trailer : ℕ → ℕ → ℕ → ℕ → ℕ → ℕ → ℕ → Trailer
trailer table_place start_place n start_length selection rules bound = record {
  table_place = table_place;
  start_place = start_place;
  job = job n selection rules bound;
  start_length = start_length;
}

files_accepted :
    map file_cause
    (file [] (trailer 0 16 1 0 0 0 0)
    ∷ file (1 ∷ []) (trailer 0 16 1 1 3 15 1)
    ∷ file (1 ∷ []) (trailer 0 16 1 1 3 15 2)
    ∷ file [] (trailer 0 16 1 0 0 0 3)
    ∷ [])
    ≡ 0 ∷ 0 ∷ 0 ∷ 0 ∷ []
unfolding a
files_accepted = refl

-- 8: twelve bytes and fewer. Thirteen zeros are a trailer, whose n is 0.
short_files : map file_cause ([] ∷ replicate 12 0 ∷ replicate 13 0 ∷ []) ≡ 8 ∷ 8 ∷ 1 ∷ []
unfolding a
short_files = refl

-- 1 before 9: neither file's length is that of its n.
one_before_nine : map file_cause (file [] (trailer 7 7 0 0 0 0 0) ∷ file [] (trailer 7 7 17 0 0 0 0) ∷ []) ≡ 1 ∷ 1 ∷ []
unfolding a
one_before_nine = refl

-- 9: each place off by one, the length of the starting order off by one either way, a byte in front, a byte lost, another n; before 3, 4
-- and 5 too.
misplaced_files :
    map file_cause
    (file [] (trailer 1 16 1 0 0 0 0)
    ∷ file [] (trailer 0 17 1 0 0 0 0)
    ∷ file [] (trailer 0 16 1 1 0 0 0)
    ∷ file (1 ∷ []) (trailer 0 16 1 0 0 0 0)
    ∷ (0 ∷ file [] (trailer 0 16 1 0 0 0 0))
    ∷ drop 1 (file [] (trailer 0 16 1 0 0 0 0))
    ∷ file [] (trailer 0 16 2 0 0 0 0)
    ∷ file [] (trailer 0 17 1 0 4 16 4)
    ∷ [])
    ≡ 9 ∷ 9 ∷ 9 ∷ 9 ∷ 9 ∷ 9 ∷ 9 ∷ 9 ∷ []
unfolding a
misplaced_files = refl

-- 9: a file of 1,186 bytes, though its trailer fits it.
too_long : file_cause (replicate 1173 0 ++ trailer_bytes (trailer 0 1156 16 17 0 0 0)) ≡ 9
unfolding a
too_long = refl

-- 3, 4 and 5, the lowest first. A starting order neither empty nor of length n is 5 where the file's length fits it.
later_causes :
    map file_cause
    (bytes_of (contents 1 (0 ∷ 1_000_001 ∷ 5 ∷ 0 ∷ []) 4 0 0 (2 ∷ []))
    ∷ bytes_of (contents 1 (0 ∷ 3 ∷ 5 ∷ 100_001 ∷ []) 4 0 0 (2 ∷ []))
    ∷ file (2 ∷ []) (trailer 0 16 1 1 4 0 0)
    ∷ file [] (trailer 0 16 1 0 0 16 0)
    ∷ file [] (trailer 0 16 1 0 0 0 4)
    ∷ file (2 ∷ []) (trailer 0 16 1 1 0 0 0)
    ∷ file (1 ∷ 1 ∷ []) (trailer 0 16 1 2 0 0 0)
    ∷ [])
    ≡ 3 ∷ 3 ∷ 4 ∷ 4 ∷ 4 ∷ 5 ∷ 5 ∷ []
unfolding a
later_causes = refl

-- A refusal is its number and zeros.
refusal_is_zeros : read (file (2 ∷ []) (trailer 0 16 1 1 3 15 1)) ≡ record { number = 5; contents = contents 0 [] 0 0 0 [] }
unfolding a
refusal_is_zeros = refl

-- Landing charges stand in the table (request A.4): they are read back as they were written.
charged : Contents
charged = contents 1 (7 ∷ 3 ∷ 5 ∷ 100_000 ∷ []) 2 1 0 (1 ∷ [])

charges_read : read (bytes_of charged) ≡ record { number = 0; contents = charged }
unfolding a charged
charges_read = refl

-- Case h with an order: 30 bytes.
h : Contents
h = contents 1 (0 ∷ 3 ∷ 5 ∷ 0 ∷ []) 2 1 0 (1 ∷ [])

-- The bytes behind the file stay.
bytes_behind_stay : write h (replicate 33 7) ≡ record { number = 0; length = 30; buffer = bytes_of h ++ (7 ∷ 7 ∷ 7 ∷ []) }
unfolding a h
bytes_behind_stay = refl

-- A buffer as long as the file is enough. One byte less is 10: length 0, and the buffer stays as it was.
just_enough : write h (replicate 30 7) ≡ record { number = 0; length = 30; buffer = bytes_of h }
unfolding a h
just_enough = refl

one_byte_short : write h (replicate 29 7) ≡ record { number = 10; length = 0; buffer = replicate 29 7 }
unfolding a h
one_byte_short = refl

-- 1 to 5 come before 10, the lowest first.
one_to_five_before_ten :
    map (λ c. write_cause c [])
    (contents 0 [] 4 0 0 (2 ∷ [])
    ∷ contents 1 [] 4 0 0 (2 ∷ [])
    ∷ contents 1 (100_001 ∷ 3 ∷ 5 ∷ 0 ∷ []) 4 0 0 (2 ∷ [])
    ∷ contents 1 (0 ∷ 3 ∷ 5 ∷ 0 ∷ []) 4 0 0 (2 ∷ [])
    ∷ contents 1 (0 ∷ 3 ∷ 5 ∷ 0 ∷ []) 0 0 0 (2 ∷ [])
    ∷ h
    ∷ [])
    ≡ 1 ∷ 2 ∷ 3 ∷ 4 ∷ 5 ∷ 10 ∷ []
unfolding a h
one_to_five_before_ten = refl

refused_job_leaves_buffer : write (contents 17 [] 0 0 0 []) (replicate 3 7) ≡ record { number = 1; length = 0; buffer = replicate 3 7 }
unfolding a
refused_job_leaves_buffer = refl
