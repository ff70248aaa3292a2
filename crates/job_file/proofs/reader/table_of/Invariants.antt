-- `table_of` meets its contract. The loop's invariant: the first k words stand at the front of the array, and zeros behind them.
use mathlib.Core.Path.{◌≡◌}
use Rattle.sizes.specs.Sizes.{table_numbers}
use Rattle.lists.specs.Lists.{padded}
use Rattle.job_format.specs.Reader.{words_in}
use Rattle.job_file.proofs.reader.table_of.Given as goal

abbrev pub invariant-loop-k : goal.invariant-loop-k
invariant-loop-k l = l.table ≡ padded table_numbers (words_in l.k l.file)
