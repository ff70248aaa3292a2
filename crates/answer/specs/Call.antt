-- What a caller hands in and what comes back: document 01, "The report", and document 02, A.3 and A.6. A `Job` (n, selection, rules, bound) and a
-- `Report` are the structs of src/lib.rt.
use Rattle.std.specs.Prelude.{List, ℕ, replicate}
use Rattle.sizes.specs.Sizes.{order_places}
use Rattle.answer.specs.declared.Job.{Job}
use Rattle.answer.specs.declared.Report.{Report}

-- Each over its whole range; nothing is assumed of them.
pub record Call : Type 0 where
  pub job : Job
  -- the table's numbers, row by row
  pub table : List ℕ
  -- the starting order, or nothing
  pub start : List ℕ
  -- the pair file's bytes (request A.6)
  pub pairs : List ℕ
  -- how many nodes may be branched (request A.3)
  pub budget : ℕ
  -- the pool's words
  pub pool : List ℕ

-- a call by its parts, in the order of the code's arguments
unfoldable pub call_of : Job → List ℕ → List ℕ → List ℕ → ℕ → List ℕ → Call
call_of job table start pairs budget pool =
    record { job = job; table = table; start = start; pairs = pairs; budget = budget; pool = pool }

pub record Answer : Type 0 where
  pub report : Report
  -- the pool's words afterwards
  pub pool : List ℕ

-- a refusal by 1 to 6 or 11: its number, and zeros
unfoldable pub refusal : ℕ → Report
refusal number = record {
  number = number;
  mark = 0;
  cost = 0;
  floor = 0;
  order = replicate order_places 0;
  branched = 0;
  generated = 0;
  eliminated = 0;
  active = 0;
  most = 0;
}
