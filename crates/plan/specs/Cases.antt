-- Document 01's case l, and input that brings no report. The laws name this module, so that it is checked before them: a wrong definition is met
-- here first.
use Rattle.std.specs.Prelude.{◌≡◌, refl, List, [], ◌∷◌, ◌++◌, ℕ, suc, replicate}
use Rattle.sizes.specs.Sizes.{longest}
use Rattle.lists.specs.Lists.{each}
use Rattle.answer.specs.Call.{call_of}
use Rattle.answer.specs.Cases.{computed, table_t}
use Rattle.job_format.specs.Bytes.{word, word_at}
use Rattle.job_format.specs.Reader.{trailer_from, trailer_in, words_in, contents_by, contents_in, misplaced, file_cause, refusal, reading_by, read}
use Rattle.report_format.specs.Text.{ascii, decimal, spaced, line}
use Rattle.report_format.specs.Printed.{refused_line, answer_lines, count_lines, seven_lines, printed_by, printed}
use Rattle.plan.specs.Output.{call_by, answered, output}

-- the file of case l, with every definition that the cases rest on open: the table, and the trailer as document 01 has it
file_l : List ℕ
unfolding computed table_t call_of word word_at trailer_from trailer_in words_in contents_by contents_in misplaced file_cause refusal reading_by read decimal spaced line refused_line answer_lines count_lines seven_lines printed_by printed call_by answered output
file_l =
    each word table_t
    ++ (0x00 ∷ 0x00 ∷ 0x00 ∷ 0x00 ∷ 0x40 ∷ 0x00 ∷ 0x00 ∷ 0x00 ∷ 0x03 ∷ 0x00 ∷ 0x00 ∷ 0x01 ∷ 0x01 ∷ [])

-- case l
seven_lines_printed :
    output file_l ≡ ascii "cost 13\norder 1 2 3\nbranched 3\ngenerated 7\neliminated 3\nactive 1\nmost 4\n"
unfolding file_l
seven_lines_printed = refl

-- 8: too short for a trailer
nothing_refused : output [] ≡ ascii "refused 8\n"
unfolding file_l
nothing_refused = refl

-- The trailer of as many zeros as the longest job has bytes is looked at, and its n is 0; with one zero more it is not.
zeros-refused : output (replicate longest 0) ≡ ascii "refused 1\n"
unfolding file_l
zeros-refused = refl

too_long_refused : output (replicate (suc longest) 0) ≡ ascii "refused 9\n"
unfolding file_l
too_long_refused = refl
