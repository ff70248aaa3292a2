-- `set_at` meets its contract: the word stands within the slice, and is that of the record at i (`ViewLaws`).
use mathlib.Core.Path.{ap, sym}
use native.Mathlib.Omega.{arith}
use Rattle.stops.specs.declared.node_record.Record.{Record}
use Rattle.records.proofs.ViewLaws.{words_inside, records_at}
use Rattle.records.proofs.set_at.Goals as goal

pub returns : goal.returns
returns c = ap (λ (x : Record). x.set) (sym (records_at _ _ c.requires))

pub overflow_mul-result : goal.overflow_mul-result
overflow_mul-result c = omega (arith, words_inside _ _ c.requires)

pub overflow_add-result : goal.overflow_add-result
overflow_add-result c = omega (arith, words_inside _ _ c.requires)

pub offset_bounds-w-i : goal.offset_bounds-w-i
offset_bounds-w-i c = omega (arith, words_inside _ _ c.requires)

pub bounds-w-i : goal.bounds-w-i
bounds-w-i c = omega (arith, words_inside _ _ c.requires)
