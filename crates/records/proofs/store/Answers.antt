-- `store` meets its contract: the six words stand within the slice, and storing them stores the record (`ViewLaws`).
use native.Mathlib.Numerals.{towards_suc}
use native.Mathlib.Omega.{arith}
use lib.ListN.{length-set}
use Rattle.records.specs.Code.{six}
use Rattle.records.proofs.ViewLaws.{words_inside, records_store}
use Rattle.records.proofs.store.Goals as goal

pub returns : goal.returns
unfolding six
returns c = simp towards_suc (records_store _ _ c.args.x c.requires)

pub overflow_mul-at : goal.overflow_mul-at
overflow_mul-at c = omega (arith, words_inside _ _ c.requires)

pub offset_bounds-w-at : goal.offset_bounds-w-at
offset_bounds-w-at c = omega (arith, words_inside _ _ c.requires)

pub bounds-w-at : goal.bounds-w-at
bounds-w-at c = omega (arith, words_inside _ _ c.requires)

pub overflow_add-w : goal.overflow_add-w
overflow_add-w c = omega (arith, words_inside _ _ c.requires)

pub offset_bounds-w-at-2 : goal.offset_bounds-w-at-2
offset_bounds-w-at-2 c = omega (arith, words_inside _ _ c.requires)

pub bounds-w-at-2 : goal.bounds-w-at-2
bounds-w-at-2 c = simp length-set (omega (arith, words_inside _ _ c.requires))

pub overflow_add-w-2 : goal.overflow_add-w-2
overflow_add-w-2 c = omega (arith, words_inside _ _ c.requires)

pub offset_bounds-w-at-3 : goal.offset_bounds-w-at-3
offset_bounds-w-at-3 c = omega (arith, words_inside _ _ c.requires)

pub bounds-w-at-3 : goal.bounds-w-at-3
bounds-w-at-3 c = simp length-set (omega (arith, words_inside _ _ c.requires))

pub overflow_add-w-3 : goal.overflow_add-w-3
overflow_add-w-3 c = omega (arith, words_inside _ _ c.requires)

pub offset_bounds-w-at-4 : goal.offset_bounds-w-at-4
offset_bounds-w-at-4 c = omega (arith, words_inside _ _ c.requires)

pub bounds-w-at-4 : goal.bounds-w-at-4
bounds-w-at-4 c = simp length-set (omega (arith, words_inside _ _ c.requires))

pub overflow_add-w-4 : goal.overflow_add-w-4
overflow_add-w-4 c = omega (arith, words_inside _ _ c.requires)

pub offset_bounds-w-at-5 : goal.offset_bounds-w-at-5
offset_bounds-w-at-5 c = omega (arith, words_inside _ _ c.requires)

pub bounds-w-at-5 : goal.bounds-w-at-5
bounds-w-at-5 c = simp length-set (omega (arith, words_inside _ _ c.requires))

pub overflow_add-w-5 : goal.overflow_add-w-5
overflow_add-w-5 c = omega (arith, words_inside _ _ c.requires)

pub offset_bounds-w-at-6 : goal.offset_bounds-w-at-6
offset_bounds-w-at-6 c = omega (arith, words_inside _ _ c.requires)

pub bounds-w-at-6 : goal.bounds-w-at-6
bounds-w-at-6 c = simp length-set (omega (arith, words_inside _ _ c.requires))
