-- `load` meets its contract: the six words stand within the slice, and are those of the record at i (`ViewLaws`).
use native.Mathlib.Omega.{arith}
use mathlib.Core.Path.{sym}
use Rattle.records.proofs.ViewLaws.{words_inside, records_at}
use Rattle.records.proofs.load.Goals as goal

pub returns : goal.returns
returns c = sym (records_at _ _ c.requires)

pub overflow_mul-at : goal.overflow_mul-at
overflow_mul-at c = omega (arith, words_inside _ _ c.requires)

pub offset_bounds-w-at : goal.offset_bounds-w-at
offset_bounds-w-at c = omega (arith, words_inside _ _ c.requires)

pub bounds-w-at : goal.bounds-w-at
bounds-w-at c = omega (arith, words_inside _ _ c.requires)

pub overflow_add-result : goal.overflow_add-result
overflow_add-result c = omega (arith, words_inside _ _ c.requires)

pub offset_bounds-w-at-2 : goal.offset_bounds-w-at-2
offset_bounds-w-at-2 c = omega (arith, words_inside _ _ c.requires)

pub bounds-w-at-2 : goal.bounds-w-at-2
bounds-w-at-2 c = omega (arith, words_inside _ _ c.requires)

pub overflow_add-result-2 : goal.overflow_add-result-2
overflow_add-result-2 c = omega (arith, words_inside _ _ c.requires)

pub offset_bounds-w-at-3 : goal.offset_bounds-w-at-3
offset_bounds-w-at-3 c = omega (arith, words_inside _ _ c.requires)

pub bounds-w-at-3 : goal.bounds-w-at-3
bounds-w-at-3 c = omega (arith, words_inside _ _ c.requires)

pub overflow_add-result-3 : goal.overflow_add-result-3
overflow_add-result-3 c = omega (arith, words_inside _ _ c.requires)

pub offset_bounds-w-at-4 : goal.offset_bounds-w-at-4
offset_bounds-w-at-4 c = omega (arith, words_inside _ _ c.requires)

pub bounds-w-at-4 : goal.bounds-w-at-4
bounds-w-at-4 c = omega (arith, words_inside _ _ c.requires)

pub overflow_add-result-4 : goal.overflow_add-result-4
overflow_add-result-4 c = omega (arith, words_inside _ _ c.requires)

pub offset_bounds-w-at-5 : goal.offset_bounds-w-at-5
offset_bounds-w-at-5 c = omega (arith, words_inside _ _ c.requires)

pub bounds-w-at-5 : goal.bounds-w-at-5
bounds-w-at-5 c = omega (arith, words_inside _ _ c.requires)

pub overflow_add-result-5 : goal.overflow_add-result-5
overflow_add-result-5 c = omega (arith, words_inside _ _ c.requires)

pub offset_bounds-w-at-6 : goal.offset_bounds-w-at-6
offset_bounds-w-at-6 c = omega (arith, words_inside _ _ c.requires)

pub bounds-w-at-6 : goal.bounds-w-at-6
bounds-w-at-6 c = omega (arith, words_inside _ _ c.requires)
