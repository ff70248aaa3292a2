-- `stops::table::flying` meets its contract: the table's numbers are small, and so is their sum.
use mathlib.Core.Path.{◌≡◌, ap₂}
use mathlib.Core.List.{List}
use Prim.Native.Nat.{ℕ, ◌+◌, ◌≤◌}
use native.Mathlib.Omega.{arith}
use Rattle.sizes.specs.Sizes.{dearest_leg}
use Rattle.stops.specs.Tables.{entry, charge, flying}
use Rattle.stops.specs.Code.{Priced}
use Rattle.stops.proofs.LegTable.{entry_small}
use Rattle.stops.proofs.table.flying.Goals as goal

-- each is a number of the table
number_small : {n : ℕ} {table : List ℕ} → Priced n table → (i j : ℕ) {v : ℕ} → v ≡ entry n table i j → v ≤ dearest_leg
number_small {n} {table} priced i j e = omega (arith, e, entry_small n table priced i j)

charge_number : {n : ℕ} {table : List ℕ} → Priced n table → (j : ℕ) {v : ℕ} → v ≡ charge n table j → v ≤ dearest_leg
unfolding charge
charge_number priced j e = number_small priced j j e

pub overflow_add-result : goal.overflow_add-result
overflow_add-result c =
    let p = c.requires in
    omega (arith, number_small p.0 _ _ c.entry.ensures, charge_number p.0 _ c.charge.ensures)

pub returns : goal.returns
unfolding flying
returns c = ap₂ ◌+◌ c.entry.ensures c.charge.ensures

pub entry-requires : goal.entry-requires
entry-requires c = let p = c.requires in (p.0.few, (p.0.square, (omega (arith, p.1), omega (arith, p.1))))

pub charge-requires : goal.charge-requires
charge-requires c = let p = c.requires in (p.0.few, (p.0.square, omega (arith, p.1)))
