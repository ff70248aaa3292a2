-- What is printed for a report of n stops: document 01, "Job file and program"; for a run that its budget stopped, request A.3.
use Rattle.std.specs.Prelude.{List, [], ◌∷◌, ◌++◌, ℕ, zero, suc, take, get_or}
use Rattle.answer.specs.declared.Report.{Report}
use Rattle.report_format.specs.Text.{line}

-- the line of a refusal: the word and its number
unfoldable pub refused_line : ℕ → List ℕ
refused_line number = line "refused" (number ∷ [])

-- the answer: the lines of the cost and of the order, which has n stops, without the zeros past n
unfoldable pub answer_lines : ℕ → Report → List ℕ
answer_lines n r = line "cost" (r.cost ∷ []) ++ line "order" (take n r.order)

-- the lines of the run's counts
unfoldable pub count_lines : Report → List ℕ
count_lines r =
    line "branched" (r.branched ∷ [])
    ++ line "generated" (r.generated ∷ [])
    ++ line "eliminated" (r.eliminated ∷ [])
    ++ line "active" (r.active ∷ [])
    ++ line "most" (r.most ∷ [])

-- a run that finished
unfoldable pub seven_lines : ℕ → Report → List ℕ
seven_lines n r = answer_lines n r ++ count_lines r

-- Request A.3: the lines of the best order known, by the first place of the report's order. Stops are 1 and up: a 0 there says that no order is
-- known, and then both lines are left out. The cost does not say it, since an order may cost 0.
unfoldable pub known_lines : ℕ → ℕ → Report → List ℕ
known_lines zero n r = []
known_lines (suc stop) n r = answer_lines n r

-- Request A.3: a run that its budget stopped. Its last two lines are the mark and the floor, so that its order, which need not be
-- the cheapest, is not taken for the answer.
unfoldable pub stopped_lines : ℕ → Report → List ℕ
stopped_lines n r =
    known_lines (get_or r.order 0 0) n r
    ++ count_lines r
    ++ line "mark" (r.mark ∷ [])
    ++ line "floor" (r.floor ∷ [])

-- by the report's number and its mark: number 0 is a run that finished, with mark 0, or one that was stopped, with any other; any other number is
-- a refusal
unfoldable pub printed_by : ℕ → ℕ → ℕ → Report → List ℕ
printed_by zero zero n r = seven_lines n r
printed_by zero (suc mark) n r = stopped_lines n r
printed_by (suc k) mark n r = refused_line (suc k)

unfoldable pub printed : ℕ → Report → List ℕ
printed n r = printed_by r.number r.mark n r
