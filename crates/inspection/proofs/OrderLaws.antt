-- A record's size, and the stops of its order, as its words give them: a stop lies with the two words of the order alone (`stop_same`).
use mathlib.Core.Path.{◌≡◌, refl}
use Prim.Native.Nat.{ℕ}
use lib.ListN.{set}
use Rattle.records.specs.Records.{stop_at}
use Rattle.inspection.specs.Code.{of_four}
use Rattle.node_answers.proofs.StopLaws.{stop_of}

-- the stop at a place lies with the two words of the order alone
pub stop_same : (size set first second k : ℕ) → stop_at first second k ≡ stop_of (of_four size set first second) k
unfolding of_four
stop_same size set first second k = refl

pub size_same : (size set first second : ℕ) → (of_four size set first second).size ≡ size
unfolding of_four
size_same size set first second = refl
