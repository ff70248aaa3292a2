-- `word_at` meets its contract: the four bytes at a place make up the word.
use native.Mathlib.Omega.{arith}
use Rattle.job_format.proofs.ByteLaws.{four_bytes}
use Rattle.job_file.proofs.bytes.word_at.Goals as goal

pub returns : goal.returns
returns c =
    omega (arith, four_bytes c.args.bytes.now c.args.place (omega arith), c.from_le_bytes.ensures)
