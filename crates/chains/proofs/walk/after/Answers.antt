-- `after` meets its contract: the link is read where it stands.
use Rattle.chains.proofs.walk.after.Goals as goal

pub returns-then-p : goal.returns-then-p
returns-then-p c = rw (c.if-p.true, ← c.place.ensures) c.size_at.ensures

pub returns : goal.returns
returns c = rw c.if-p.false
