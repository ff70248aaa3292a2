-- `table_cause` meets its contract: the tests are those of causes 1 to 3. Past the first one n is small.
use mathlib.Core.Path.{sym, ◌∙◌}
use Prim.Native.Nat.{suc, ◌≤◌}
use native.Mathlib.Nat.{mul-le-mul}
use native.Mathlib.Omega.{arith}
use Rattle.sizes.specs.Sizes.{most_stops, places}
use Rattle.answer.specs.Checks.{cause₂, cause₃, table_cause}
use Rattle.checks.proofs.CauseLaws.{few_stops}
use Rattle.checks.proofs.table_cause.Goals as goal
use Rattle.checks.proofs.table_cause.Goals.{Else-wrong_n}

few : (c : Else-wrong_n) → c.args.n ≤ most_stops
few c = few_stops _ (sym c.wrong_n.ensures ∙ c.if-wrong_n.false)

pub overflow_add-side : goal.overflow_add-side
overflow_add-side c = omega (arith, few c)

pub overflow_mul-side : goal.overflow_mul-side
overflow_mul-side c =
    let side : suc c.args.n ≤ places = omega (arith, few c) in
    omega (arith, mul-le-mul side side)

pub small_charges-requires : goal.small_charges-requires
small_charges-requires c = (few (goal.at.small_charges-requires c).Else-wrong_n, omega arith)

pub returns-then-wrong_n : goal.returns-then-wrong_n
unfolding table_cause
returns-then-wrong_n c = grind arith

pub returns-then-table-side : goal.returns-then-table-side
unfolding table_cause cause₂
returns-then-table-side c = grind arith

pub returns-then-not-small : goal.returns-then-not-small
unfolding table_cause cause₂ cause₃
returns-then-not-small c = grind arith

pub returns : goal.returns
unfolding table_cause cause₂ cause₃
returns c = grind arith
