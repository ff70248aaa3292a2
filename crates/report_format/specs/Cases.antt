-- Small cases of text, document 01's case l, and texts of stopped runs.
use Rattle.std.specs.Prelude.{◌≡◌, refl, List, [], ◌∷◌, ◌++◌, ℕ, replicate}
use Rattle.answer.specs.Call.{refusal}
use Rattle.answer.specs.declared.Report.{Report}
use Rattle.report_format.specs.Text.{ascii, decimal, spaced, line}
use Rattle.report_format.specs.Printed.{refused_line, answer_lines, count_lines, seven_lines, known_lines, stopped_lines, printed_by, printed}

zero_digits : decimal 0 ≡ ascii "0"
unfolding decimal
zero_digits = refl

ten_digits : decimal 10 ≡ ascii "10"
unfolding decimal
ten_digits = refl

-- every digit
digits_in_turn : decimal 9_876_543_210 ≡ ascii "9876543210"
unfolding decimal
digits_in_turn = refl

largest_digits : decimal 18_446_744_073_709_551_615 ≡ ascii "18446744073709551615"
unfolding decimal
largest_digits = refl

-- the byte values that a terminal shows as these characters
bytes_of_text : ascii "cost 0\n" ≡ 0x63 ∷ 0x6f ∷ 0x73 ∷ 0x74 ∷ 0x20 ∷ 0x30 ∷ 0x0a ∷ []
bytes_of_text = refl

-- a report of three stops with number 0: its mark, cost, floor and stops, and the counts of case a
report : ℕ → ℕ → ℕ → List ℕ → Report
unfolding decimal spaced line refusal refused_line answer_lines count_lines seven_lines known_lines stopped_lines printed_by printed
report mark cost floor stops = record {
  number = 0;
  mark = mark;
  cost = cost;
  floor = floor;
  order = stops ++ replicate 13 0;
  branched = 3;
  generated = 7;
  eliminated = 3;
  active = 1;
  most = 4;
}

-- case l: the report of case a
seven_lines_of_a :
    printed 3 (report 0 13 0 (1 ∷ 2 ∷ 3 ∷ []))
    ≡ ascii "cost 13\norder 1 2 3\nbranched 3\ngenerated 7\neliminated 3\nactive 1\nmost 4\n"
unfolding report
seven_lines_of_a = refl

-- .. and a refusal's line
refusal_prints_number : printed 3 (refusal 10) ≡ ascii "refused 10\n"
unfolding report
refusal_prints_number = refl

-- request A.3: a stopped run that knows an order, ..
stopped_prints_nine :
    printed 3 (report 1 15 11 (2 ∷ 1 ∷ 3 ∷ []))
    ≡ ascii "cost 15\norder 2 1 3\nbranched 3\ngenerated 7\neliminated 3\nactive 1\nmost 4\nmark 1\nfloor 11\n"
unfolding report
stopped_prints_nine = refl

-- .. one that knows none, ..
unknown_left_out :
    printed 3 (report 1 0 11 (0 ∷ 0 ∷ 0 ∷ []))
    ≡ ascii "branched 3\ngenerated 7\neliminated 3\nactive 1\nmost 4\nmark 1\nfloor 11\n"
unfolding report
unknown_left_out = refl

-- .. and one whose order costs nothing
free_order_printed :
    printed 3 (report 1 0 0 (1 ∷ 2 ∷ 3 ∷ []))
    ≡ ascii "cost 0\norder 1 2 3\nbranched 3\ngenerated 7\neliminated 3\nactive 1\nmost 4\nmark 1\nfloor 0\n"
unfolding report
free_order_printed = refl
