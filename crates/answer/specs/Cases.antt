-- Document 01's cases a to k as theorems about the written run itself, e, f and i as request A.8 has them: a list, with one theorem for all of it
-- (`cases_hold`, in proofs/CasesHold). Our own cases, with the pool's words, are in `OwnCases`. Every pool is dirty before the call: its words are
-- all 7.
--   Case     what a case says: a call's report; its whole answer; the number of its cause; the bounds of nodes
--   Holds    that it is true
use Rattle.std.specs.Prelude.{◌≡◌, refl, List, [], ◌∷◌, map, ℕ, ◌*◌, replicate}
use Rattle.search.specs.Problem.{start}
use Rattle.search.specs.Selection.{select_by, select, finishes}
use Rattle.search.specs.Step.{children₁, best₂, over₃, children₃, rest₃, dominated₄, children₄, dominated₅, children₅, dominated₆, rest₆, active₇, step}
use Rattle.search.specs.Run.{held, fitting, decide, next, run}
use Rattle.orders.specs.Orders.{Node, mask, count, is_order}
use Rattle.orders.specs.Pairs.{respects, waits, ready, children}
use Rattle.days.specs.Days.{problem, choices}
use Rattle.stops.specs.Bounds.{ends_away}
use Rattle.stops.specs.Examples.{computed_day}
use Rattle.records.specs.Records.{record_of, pool_words, records_in}
use Rattle.sizes.specs.Sizes.{table_numbers, order_places, record_words, no_budget}
use Rattle.lists.specs.Lists.{padded}
use Rattle.answer.specs.Call.{Call, Answer, refusal}
use Rattle.answer.specs.declared.Report.{Report}
use Rattle.answer.specs.Checks.{cause₁, cause₂, cause₃, no_such_bound, cause₄, cause₅, cause₁₁, against_pairs, cause₆, table_cause, job_cause, pair_cause, pool_cause, cause}
use Rattle.answer.specs.Answer.{day_of, problem_of, choices_of, outcome, floor_of, report_with, words_of, ending, respond, answer}

-- a call by its parts, with the number of the pool's records, with no pairs and with a budget that no run reaches
abbrev pub call : ℕ → List ℕ → ℕ → ℕ → ℕ → List ℕ → ℕ → Call
call n table selection rules bound start records = record {
  job = record { n = n; selection = selection; rules = rules; bound = bound };
  table = table;
  start = start;
  pairs = [];
  budget = no_budget;
  pool = replicate (record_words * records) 7;
}

-- a report of a finished run: cost, order, and branched, generated, eliminated, active, most
abbrev pub found : ℕ → List ℕ → ℕ → ℕ → ℕ → ℕ → ℕ → Report
found cost order branched generated eliminated active most = record {
  number = 0;
  mark = 0;
  cost = cost;
  floor = 0;
  order = order;
  branched = branched;
  generated = generated;
  eliminated = eliminated;
  active = active;
  most = most;
}

-- a report with a number, zeros and the counts of the steps done
abbrev pub refused : ℕ → ℕ → ℕ → ℕ → ℕ → ℕ → Report
refused number branched generated eliminated active most = record {
  number = number;
  mark = 0;
  cost = 0;
  floor = 0;
  order = replicate order_places 0;
  branched = branched;
  generated = generated;
  eliminated = eliminated;
  active = active;
  most = most;
}

-- the answer, with every definition that it rests on open: a proof that says `unfolding computed` computes it
unfoldable pub computed : Call → Answer
unfolding start select_by select finishes children₁ best₂ over₃ children₃ rest₃ dominated₄ children₄ dominated₅ children₅ dominated₆ rest₆ active₇ step held fitting decide next run count is_order respects waits ready children computed_day problem choices mask record_of padded pool_words records_in refusal cause₁ cause₂ cause₃ no_such_bound cause₄ cause₅ cause₁₁ against_pairs cause₆ table_cause job_cause pair_cause pool_cause cause ends_away day_of problem_of choices_of outcome floor_of report_with words_of ending respond answer
computed c = answer c

pub data Case : Type 0 where
  -- the report of a call
  reports : Call → Report → Case
  -- its report and the pool's words afterwards
  answers : Call → Answer → Case
  -- the number of its cause, 0 where every check lets it pass
  causes : Call → ℕ → Case
  -- the bounds that it gives to some nodes
  bounds : Call → List Node → List ℕ → Case

abbrev pub Holds : Case → Type 0
Holds (reports c r) = (answer c).report ≡ r
Holds (answers c a) = answer c ≡ a
Holds (causes c number) = cause c ≡ number
Holds (bounds c nodes values) = map (choices_of c).bound nodes ≡ values

abbrev pub AllHold : List Case → Type 0
AllHold [] = Unit {0}
AllHold (c ∷ cs) = Holds c × AllHold cs

-- Table T
unfoldable pub table_t : List ℕ
table_t = 0 ∷ 4 ∷ 7 ∷ 9 ∷ 5 ∷ 0 ∷ 2 ∷ 6 ∷ 3 ∷ 8 ∷ 0 ∷ 1 ∷ 6 ∷ 5 ∷ 4 ∷ 0 ∷ []

abbrev pub order123 : List ℕ
order123 = 1 ∷ 2 ∷ 3 ∷ replicate 13 0

-- a. Selection 0, rules 1, close.
pub a : Case
a = reports (call 3 table_t 0 1 1 [] 9) (found 13 order123 3 7 3 1 4)

pub case_a : Holds a
unfolding a table_t computed
case_a = refl

-- b. FIFO, no rules, plain.
pub b : Case
b = reports (call 3 table_t 2 0 0 [] 9) (found 13 order123 10 16 0 6 6)

pub case_b : Holds b
unfolding b table_t computed
case_b = refl

-- c. LIFO, rules 1, plain.
pub c : Case
c = reports (call 3 table_t 3 1 0 [] 9) (found 13 order123 10 16 5 1 4)

pub case_c : Holds c
unfolding c table_t computed
case_c = refl

-- d. LIFO, rules 1, close.
pub d : Case
d = reports (call 3 table_t 3 1 1 [] 9) (found 13 order123 9 15 5 1 4)

pub case_d : Holds d
unfolding d table_t computed
case_d = refl

-- e. As d, starting from 123. Node 12, whose bound is U, is branched too (request A.8).
pub e : Case
e = reports (call 3 table_t 3 1 1 (1 ∷ 2 ∷ 3 ∷ []) 9) (found 13 order123 3 7 3 1 1)

pub case_e : Holds e
unfolding e table_t computed
case_e = refl

-- f₁. e's job again, in a pool of one record: its report.
pub f₁ : Case
f₁ = reports (call 3 table_t 3 1 1 (1 ∷ 2 ∷ 3 ∷ []) 1) (found 13 order123 3 7 3 1 1)

pub case_f₁ : Holds f₁
unfolding f₁ table_t computed
case_f₁ = refl

-- f₂. As d, one record: 7.
pub f₂ : Case
f₂ = reports (call 3 table_t 3 1 1 [] 1) (refused 7 0 1 0 1 1)

pub case_f₂ : Holds f₂
unfolding f₂ table_t computed
case_f₂ = refl

-- g. FIFO, rules 2, plain.
pub g : Case
g = reports (call 3 table_t 2 2 0 [] 9) (found 13 order123 10 16 3 3 6)

pub case_g : Holds g
unfolding g table_t computed
case_g = refl

-- h. One stop: the only order, out and back.
pub h : Case
h = reports (call 1 (0 ∷ 3 ∷ 5 ∷ 0 ∷ []) 0 0 0 [] 9) (found 8 (1 ∷ replicate 15 0) 1 2 0 1 1)

pub case_h : Holds h
unfolding h computed
case_h = refl

-- i₀. Two stops, every leg 0: of the two orders selection 0 finds 12 first, and 21, as cheap but larger, does not replace it.
pub i₀ : Case
i₀ = reports (call 2 (replicate 9 0) 0 0 1 [] 9) (found 0 (1 ∷ 2 ∷ replicate 14 0) 3 5 0 2 2)

pub case_i₀ : Holds i₀
unfolding i₀ computed
case_i₀ = refl

-- i₁. The same under selection 1: the later of equals leads to 21, which 12, as cheap and smaller, replaces (request A.8).
pub i₁ : Case
i₁ = reports (call 2 (replicate 9 0) 1 0 1 [] 9) (found 0 (1 ∷ 2 ∷ replicate 14 0) 3 5 0 2 2)

pub case_i₁ : Holds i₁
unfolding i₁ computed
case_i₁ = refl

-- j. n = 16 passes check 1; all legs are 0.
pub j₁₆ : Case
j₁₆ = causes (call 16 (replicate table_numbers 0) 0 0 0 [] 1) 0

pub sixteen_stops_pass : Holds j₁₆
unfolding j₁₆ computed
sixteen_stops_pass = refl

-- j. 17 is 1.
pub j₁₇ : Case
j₁₇ = answers (call 17 [] 0 0 0 [] 1) (record { report = refused 1 0 0 0 0 0; pool = replicate record_words 7 })

pub seventeen_stops_refused : Holds j₁₇
unfolding j₁₇ computed
seventeen_stops_refused = refl

-- j. A leg of 1,000,000 passes.
pub j_million : Case
j_million = causes (call 1 (0 ∷ 1_000_000 ∷ 5 ∷ 0 ∷ []) 0 0 0 [] 1) 0

pub million_passes : Holds j_million
unfolding j_million computed
million_passes = refl

-- j. 1,000,001 is 3.
pub j_above : Case
j_above = answers (call 1 (0 ∷ 1_000_001 ∷ 5 ∷ 0 ∷ []) 0 0 0 [] 1) (record { report = refused 3 0 0 0 0 0; pool = replicate record_words 7 })

pub million_and_one_refused : Holds j_above
unfolding j_above computed
million_and_one_refused = refl

-- k. Close bounds in T: of e, and of the nodes 1, 2 and 3.
pub k : Case
k = bounds (call 3 table_t 0 0 1 [] 9) ([] ∷ (1 ∷ []) ∷ (2 ∷ []) ∷ (3 ∷ []) ∷ []) (10 ∷ 10 ∷ 18 ∷ 19 ∷ [])

pub case_k : Holds k
unfolding k table_t computed
case_k = refl

unfoldable pub cases : List Case
cases = a ∷ b ∷ c ∷ d ∷ e ∷ f₁ ∷ f₂ ∷ g ∷ h ∷ i₀ ∷ i₁ ∷ j₁₆ ∷ j₁₇ ∷ j_million ∷ j_above ∷ k ∷ []
