-- `try_read` meets its contract, test by test.
use mathlib.Core.Path.{◌≡◌, ap, sym, ◌∙◌}
use mathlib.Core.List.{List}
use Prim.Native.Nat.{ℕ, ◌-◌}
use native.Mathlib.Omega.{arith}
use lib.ListN.{length, take, drop}
use Rattle.lists.proofs.Elements.{part_from}
use Rattle.answer.specs.Checks.{cause₁}
use Rattle.job_format.specs.Contents.{trailer_length}
use Rattle.job_format.specs.Reader.{trailer_from, contents_by}
use Rattle.job_file.specs.Promise.{returned}
use Rattle.job_file.specs.Code.{checked}
use Rattle.answer.specs.declared.Job.{Job}
use Rattle.checks.proofs.CauseLaws.{few_stops}
use Rattle.job_format.proofs.ReadLaws.{short_file, wrong_stops, wrong_layout, right_layout, same-stops, length_last}
use Rattle.job_file.proofs.AcceptLaws.{layout_laid}
use Rattle.job_file.proofs.reader.try_read.Goals as goal
use Rattle.job_file.proofs.reader.try_read.Goals.{After-wrong_n}

-- a file's last thirteen bytes
abbrev trailer : List ℕ → List ℕ
trailer file = take (length file - (length file - trailer_length)) (drop (length file - trailer_length) file)

last : (file : List ℕ) → trailer file ≡ drop (length file - trailer_length) file
last file = part_from (length file - trailer_length) file

-- the n that was read, and the answer to cause 1
stands : (c : After-wrong_n) → c.job_of-job.result.n ≡ (trailer_from (trailer c.args.file.now)).job.n
stands c = ap (λ (j : Job). j.n) c.job_of-job.ensures

stops : (c : After-wrong_n) → c.wrong_n.result ≡ cause₁ (contents_by (trailer_from (trailer c.args.file.now)) c.args.file.now).job.n
stops c =
    c.wrong_n.ensures ∙ same-stops c.args.file.now (trailer c.args.file.now) (last c.args.file.now) (omega arith) _ (stands c)

pub returns-then-file-lt-TRAILER_BYTES : goal.returns-then-file-lt-TRAILER_BYTES
returns-then-file-lt-TRAILER_BYTES c = (ap returned (short_file _ c.if-file-lt-TRAILER_BYTES.true), c.requires)

pub returns-then-wrong_n : goal.returns-then-wrong_n
returns-then-wrong_n c =
    (ap returned (wrong_stops c.args.file.now (trailer c.args.file.now) (last c.args.file.now) (omega arith) (sym (stops (goal.at.returns-then-wrong_n c).After-wrong_n) ∙ c.if-wrong_n.true)), c.requires)

pub misplaced-requires : goal.misplaced-requires
misplaced-requires c =
    (length_last c.args.file.now (trailer c.args.file.now) (last c.args.file.now) (omega arith), (stands (goal.at.misplaced-requires c).After-wrong_n, few_stops _ (sym c.wrong_n.ensures ∙ c.if-wrong_n.false)))

pub returns-then-misplaced : goal.returns-then-misplaced
returns-then-misplaced c =
    (ap returned (wrong_layout c.args.file.now (trailer c.args.file.now) (last c.args.file.now) (omega arith) (sym (stops (goal.at.returns-then-misplaced c).After-wrong_n) ∙ c.if-wrong_n.false) (sym c.misplaced.ensures ∙ c.if-misplaced.true)), c.requires)

pub accept-requires : goal.accept-requires
accept-requires c = (
  layout_laid c.args.file.now (trailer c.args.file.now) (last c.args.file.now) (omega arith) _ c.job_of-job.ensures
      (sym c.wrong_n.ensures ∙ c.if-wrong_n.false)
      (sym c.misplaced.ensures ∙ c.if-misplaced.false),
  c.requires,
)

pub returns : goal.returns
unfolding checked
returns c =
    rw (← right_layout c.args.file.now (trailer c.args.file.now) (last c.args.file.now) (omega arith) (sym (stops (goal.at.returns c).After-wrong_n) ∙ c.if-wrong_n.false) (sym c.misplaced.ensures ∙ c.if-misplaced.false))
    c.accept.ensures
