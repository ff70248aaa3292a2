-- What the planner promises of a call: the report that it returns and the words that it leaves in the pool are those of `answer`.
use Rattle.std.specs.Prelude.{◌≡◌, List, ℕ}
use Rattle.answer.specs.Call.{Call, Answer}
use Rattle.answer.specs.declared.Report.{Report}
use Rattle.answer.specs.Answer.{answer}

abbrev pub Promised : Call → Report → List ℕ → Type 0
Promised c r pool = ◌≡◌ {A = Answer} (record { report = r; pool = pool }) (answer c)
