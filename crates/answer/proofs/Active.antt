-- The active set of the written run is never empty, nor is it at the end.
use mathlib.Core.Path.{◌≡◌, ◌∙◌, ap}
use Prim.Native.Nat.{◌≤◌}
use native.Mathlib.Omega.{arith}
use lib.ListN.{length}
use Rattle.lists.proofs.Empty.{in_nonempty}
use Rattle.search.specs.Problem.{State}
use Rattle.search.proofs.Plain.{tree, plan_of, cut_of}
use Rattle.search.proofs.Optimal.{active_some}
use Rattle.orders.specs.Orders.{Node, size}
use Rattle.records.specs.Records.{records_in}
use Rattle.answer.specs.Call.{Answer}
use Rattle.answer.specs.Answer.{problem_of, choices_of, given, StateOf, report_with, ending, answer}
use Rattle.answer.specs.Demands.{written}
use Rattle.answer.specs.Pairs.{SomeActive}
use Rattle.answer.specs.Document01.{ActiveNeverEmpty}
use Rattle.answer.proofs.Passes.{Passes, passes}
use Rattle.answer.proofs.Instance.{finished_state, stopped_state, full_state, state_reached, call_lawful, bound_laws, call_solvable, start_known}
use Rattle.answer.proofs.Ending.{Came, checked, spent, overran, ended, call_came}

pub active_never_empty : ActiveNeverEmpty
active_never_empty c e s steps =
    let ok : Passes c = passes c e in
    active_some (tree (problem_of c)) (plan_of (problem_of c) (choices_of c)) (cut_of (choices_of c)) (records_in c.pool) (size c.job.n) c.job.n
    (call_lawful c ok) (bound_laws c ok) (given c.start) (start_known c ok) (call_solvable c ok) s (state_reached c ok steps)

-- so a run ends with one
pub some_active : SomeActive written
unfolding ending report_with
some_active c a e passed = go (call_came c)
  where
    at : (s : State Node) → StateOf c s → a.report.active ≡ length s.active → 1 ≤ a.report.active
    at s steps many = let (x, m) = active_never_empty c passed s steps in omega (arith, many, in_nonempty m)

    active : {x : Answer} → answer c ≡ x → a.report.active ≡ x.report.active
    active q = ap (λ (x : Answer). x.report.active) (e ∙ q)

    go : Came c → 1 ≤ a.report.active
    go (checked k f q) = absurd (omega arith)
    go (spent f) = at f.state (stopped_state c f.state f.ran).0 (active f.answered)
    go (overran f) = at f.state (full_state c f.state f.ran).0 (active f.answered)
    go (ended f) = at f.state (finished_state c f.state f.ran).0 (active f.answered)
