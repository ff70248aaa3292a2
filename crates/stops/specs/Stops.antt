-- The stops of a table as a day: document 01, "Nodes". What is above this crate names a day by the planner's rows (`day_on`) and no leg.
use Rattle.std.specs.Prelude.{List, ℕ}
use Rattle.days.specs.Days.{Day}
use Rattle.stops.specs.Legs.{Legs, legs, path, cost}
use Rattle.stops.specs.Bounds.{bound_by, dominates}

unfoldable pub day : ℕ → Legs → Day
day n L = record { path = path L; cost = cost L; bound = λ k. bound_by k n L; dominates = dominates n L }

unfoldable pub day_on : ℕ → List (List ℕ) → Day
day_on n rows = day n (legs rows)
