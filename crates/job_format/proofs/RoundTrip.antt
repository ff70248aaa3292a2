-- The letter's demand 2, of the definitions, and how long a file is: specs/Demands says what is proved.
use mathlib.Core.Path.{ap, sym, ◌∙◌}
use Rattle.job_format.specs.Reader.{Reading, read}
use Rattle.job_format.specs.Demands.{ReadsBack, Rewrites, OneFile, LengthOfFile}
use Rattle.job_format.proofs.JobLaws.{passed, length-file, file_short}
use Rattle.job_format.proofs.Accepted.{bytes_read, accepted_passes, accepted_bytes}

pub length_of_file : LengthOfFile
length_of_file c p = (length-file c (passed c p).square, file_short c (passed c p))

pub reads_back : ReadsBack
reads_back = bytes_read

pub rewrites : Rewrites
rewrites file h e = (accepted_passes file e, accepted_bytes file h e)

pub one_file : OneFile
one_file c d p q e = ap (λ (r : Reading). r.contents) (sym (reads_back c p) ∙ ap read e ∙ reads_back d q)
