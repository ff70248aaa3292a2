-- What the code of `plan` gives to a call, as a planner that the letter's demands speak of (crate `answer`, specs/Demands): the report that it
-- returns and the words that it leaves in the pool, of which nothing is known but what it promises. `EveryCallIsAnswered returned` says that
-- the promise can be kept for every call, and nothing of the code by itself: that the code returns is part of every contract.
use Rattle.answer.specs.Demands.{Planner}
use Rattle.planner.specs.Promise.{Promised}

abbrev pub returned : Planner
returned c a = Promised c a.report a.pool
