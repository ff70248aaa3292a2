-- `family::child` meets its contract: b has room for the stop, and its path cost for what the bound adds.
use mathlib.Core.Path.{ap}
use native.Mathlib.Omega.{arith}
use Rattle.stops.specs.Code.{extended}
use Rattle.stops.specs.declared.node_record.Record.{Record}
use Rattle.children.specs.Code.{bounded, born_of}
use Rattle.children.proofs.family.child.Goals as goal

pub overflow_add-x : goal.overflow_add-x
unfolding extended
overflow_add-x c =
    record { fits = let made = ap (λ (x : Record). x.path) c.extended-x.ensures in omega (arith, made, c.requires.fits) }

pub returns : goal.returns
unfolding born_of bounded extended
returns c = rw c.extended-x.ensures

pub extended-x-requires : goal.extended-x-requires
extended-x-requires c = c.requires.wide
