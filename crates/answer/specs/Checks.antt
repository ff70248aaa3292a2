-- Causes 1 to 6 and 11, each over just what it looks at, and which is returned: document 01, "Causes and numbers"; document 02, A.4, A.5 and A.6.
use Rattle.std.specs.Prelude.{Bool, true, false, not, ◌&&◌, ◌||◌, List, [], ◌∷◌, ℕ, suc, ◌*◌, ◌%◌, ltb, eqb, length}
use Rattle.sizes.specs.Sizes.{most_stops, dearest_leg, dearest_charge, record_words, most_pair_bytes}
use Rattle.lists.specs.Lists.{any, all, from}
use Rattle.orders.specs.Orders.{stops, flown, count, is_order}
use Rattle.orders.specs.Pairs.{pairs_of, respects}
use Rattle.stops.specs.Tables.{charge}
use Rattle.records.specs.Records.{records_in}
use Rattle.answer.specs.Call.{Call}
use Rattle.answer.specs.declared.Job.{Job}

-- no stop, or more than there may be
unfoldable pub cause₁ : ℕ → Bool
cause₁ n = eqb n 0 || ltb most_stops n

-- the table does not have n + 1 rows of n + 1 numbers
unfoldable pub cause₂ : ℕ → List ℕ → Bool
cause₂ n table = not (eqb (length table) (suc n * suc n))

-- A number is above the dearest leg, or a landing charge is too dear (request A.4). The table's own numbers are looked at, and no sum of them.
unfoldable pub cause₃ : ℕ → List ℕ → Bool
cause₃ n table = any (ltb dearest_leg) table || any (λ j. ltb dearest_charge (charge n table j)) (from 0 (suc n))

-- no such bound; 2 and 3 are those of request A.5
unfoldable pub no_such_bound : ℕ → Bool
no_such_bound bound = ltb 3 bound

-- no such selection, sum of rules or bound
unfoldable pub cause₄ : Job → Bool
cause₄ job = ltb 3 job.selection || ltb 15 job.rules || no_such_bound job.bound

-- the starting order is neither empty nor an order of 1 to n
abbrev pub is_empty : List ℕ → Bool
is_empty [] = true
is_empty (s ∷ x) = false

unfoldable pub cause₅ : ℕ → List ℕ → Bool
cause₅ n start = not (is_empty start || is_order n start)

-- Request A.6: the pair file has an odd length or too many bytes; or a stop in it is none of 1 to n, or stands in it twice, in one pair or in two.
unfoldable pub cause₁₁ : ℕ → List ℕ → Bool
cause₁₁ n pairs =
    eqb (length pairs % 2) 1 || ltb most_pair_bytes (length pairs) || not (all (flown (stops n)) pairs)
    || not (all (λ s. eqb (count s pairs) 1) pairs)

-- the pairs pass, and the starting order goes against them: cause 5 too (request A.6)
unfoldable pub against_pairs : ℕ → List ℕ → List ℕ → Bool
against_pairs n start pairs = not (cause₁₁ n pairs) && not (respects (pairs_of pairs) start)

-- the pool has no whole record, or a part of one
unfoldable pub cause₆ : List ℕ → Bool
cause₆ pool = eqb (records_in pool) 0 || not (eqb (length pool % record_words) 0)

-- the number of the first cause that applies, 0 if none does
abbrev pub or_later : Bool → ℕ → ℕ → ℕ
or_later true number later = number
or_later false number later = later

-- causes 1 to 3, of a table for n stops; `later` where none applies
unfoldable pub table_cause : ℕ → List ℕ → ℕ → ℕ
table_cause n table later = or_later (cause₁ n) 1 (or_later (cause₂ n table) 2 (or_later (cause₃ n table) 3 later))

-- causes 1 to 4 and 11, of a table, a bound and pairs, which are all that request A.1 asks for, since A.5 with the bound and since A.6 with the pairs
unfoldable pub first_cause : ℕ → ℕ → List ℕ → List ℕ → ℕ
first_cause n bound table pairs = table_cause n table (or_later (no_such_bound bound) 4 (or_later (cause₁₁ n pairs) 11 0))

-- causes 1 to 5, of a job with its table and its starting order, as a job file has them
unfoldable pub job_cause : Job → List ℕ → List ℕ → ℕ → ℕ
job_cause job table start later = table_cause job.n table (or_later (cause₄ job) 4 (or_later (cause₅ job.n start) 5 later))

-- and of the pairs that are given with it
unfoldable pub pair_cause : ℕ → List ℕ → List ℕ → ℕ → ℕ
pair_cause n start pairs later = or_later (against_pairs n start pairs) 5 (or_later (cause₁₁ n pairs) 11 later)

-- the pool comes last
unfoldable pub pool_cause : List ℕ → ℕ
pool_cause pool = or_later (cause₆ pool) 6 0

unfoldable pub cause : Call → ℕ
cause c = job_cause c.job c.table c.start (pair_cause c.job.n c.start c.pairs (pool_cause c.pool))
