-- `make` meets its contract: the nearest-stop order is one that `improve` takes.
use Rattle.first_answer.proofs.NearestOrder.{nearest-allowed}
use Rattle.first_order.proofs.make.Goals as goal

pub invariant_of-terms : goal.invariant_of-terms
invariant_of-terms c =
    let (cheap, (some, (few, pairing))) = c.requires in
    let long = c.nearest_order.auto.x in
    record { some = rw long some; few = rw long few; cheap = cheap; pairing = rw long pairing }

pub improve-requires : goal.improve-requires
improve-requires c =
    rw (c.nearest_order.auto.x, c.nearest_order.ensures) (nearest-allowed _ c.requires.1.1.1 _)

pub returns : goal.returns
returns c = (rw c.nearest_order.ensures at c.improve.ensures.0, c.improve.ensures.1)
