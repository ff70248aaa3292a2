-- What `read` and `write` return and leave: the round trip and the refusals of the definitions (crate `job_format`), by way of their promises.
-- specs/Demands says what is proved.
--   contents-returned    the contents that the reader returns in arrays, as a caller hands them on, are the contents
--   Accepted, accepted   what holds of what the reader returns for a file that it accepts
use mathlib.Core.Path.{◌≡◌, ap, sym, ◌∙◌}
use mathlib.Core.List.{List}
use Prim.Native.Nat.{ℕ, zero, suc, ◌≤◌}
use native.Mathlib.Omega.{arith}
use lib.ListN.{length, take}
use Rattle.sizes.specs.Sizes.{most_stops, table_numbers, order_places}
use Rattle.lists.specs.Lists.{padded}
use Rattle.job_format.specs.Bytes.{overwrite}
use Rattle.job_format.specs.Contents.{Contents, contents_of, area, bytes_of}
use Rattle.job_format.specs.Reader.{read}
use Rattle.job_format.specs.Demands.{Passes}
use Rattle.job_format.specs.Writer.{Writing, write_cause, writing_by, write}
use Rattle.job_file.specs.Promise.{returned, contents_from}
use Rattle.job_file.specs.Demands.{ReadsOrRefuses, WritesOrRefuses, ReadsBack, Rewrites, NeverTwo, Left, Leaves}
use Rattle.job_file.specs.declared.reader.Reading.{Reading as Returned}
use Rattle.lists.proofs.Padded.{take-padded, padded-longer}
use Rattle.job_format.proofs.ByteLaws.{take-overwrite}
use Rattle.job_format.proofs.JobLaws.{Passed, passed}
use Rattle.job_format.proofs.Accepted.{accepted_passes}
use Rattle.job_format.proofs.WriteLaws.{Done, done, writes}
use Rattle.job_format.proofs.RoundTrip as definitions
use Rattle.job_format.proofs.Refusals as refusals

contents-returned :
    (number : ℕ) (c : Contents) → length c.table ≡ area c.job.n
    → contents_from (returned (record { number = number; contents = c })) ≡ c
unfolding returned contents_from contents_of
contents-returned number c square = λ i. record {
  job = c.job;
  table = (ap (λ (k : ℕ). take k (padded table_numbers c.table)) (sym square) ∙ take-padded table_numbers c.table) i;
  start = take-padded order_places c.start i;
}

pub record Accepted (file : List ℕ) (r : Returned) : Type 0 where
  pub none : (read file).number ≡ 0
  pub passes : Passes (read file).contents
  pub few : r.job.n ≤ most_stops
  pub table : area r.job.n ≤ length r.table
  pub start : r.stops ≤ length r.start
  pub same : contents_from r ≡ (read file).contents

pub accepted : (file : List ℕ) (r : Returned) → r ≡ returned (read file) → r.number ≡ 0 → Accepted file r
unfolding returned
accepted file r e number =
    let none : (read file).number ≡ 0 = sym (ap (λ (x : Returned). x.number) e) ∙ number in
    let c : Contents = (read file).contents in
    let p : Passed c = passed c (accepted_passes file none) in
    rw e (record {
      none = none;
      passes = accepted_passes file none;
      few = p.few;
      table = omega (arith, p.square, padded-longer table_numbers c.table);
      start = padded-longer order_places c.start;
      same = contents-returned (read file).number c p.square;
    })

pub reads_or_refuses : ReadsOrRefuses
unfolding returned
reads_or_refuses file r e = rw e (refusals.reads_or_refuses file)

pub writes_or_refuses : WritesOrRefuses
writes_or_refuses c buffer left w promised = rw (ap (λ (x : Writing). x.number) promised) (refusals.writes_or_refuses c buffer)

pub reads_back : ReadsBack
unfolding returned
reads_back c buffer left w r promised none e =
    let d : Done c buffer = done c buffer (sym (ap (λ (x : Writing). x.number) promised) ∙ none) in
    let same = promised ∙ writes c buffer d in
    let file : take w.length left ≡ bytes_of c =
    ap (λ (x : Writing). take x.length x.buffer) same ∙ take-overwrite (bytes_of c) buffer in
    let back : r ≡ returned (record { number = 0; contents = c }) = e ∙ ap returned (ap read file ∙ definitions.reads_back c d.passes) in
    (ap (λ (x : Returned). x.number) back, ap contents_from back ∙ contents-returned 0 c (passed c d.passes).square)

pub rewrites : Rewrites
rewrites file buffer left r w bytes e number promised room =
    let acc = accepted file r e number in
    let c : Contents = (read file).contents in
    let (passes, same) = definitions.rewrites file bytes acc.none in
    let d : Done c buffer = record { passes = passes; room = rw same room } in
    let made = promised ∙ ap (λ (x : Contents). write x buffer) acc.same ∙ writes c buffer d in (
      ap (λ (x : Writing). x.number) made,
      ap (λ (x : Writing). x.length) made ∙ ap length same,
      ap (λ (x : Writing). x.buffer) made ∙ ap (λ (f : List ℕ). overwrite f buffer) same,
    )

pub never_two : NeverTwo
unfolding returned
never_two file r e two = refusals.never_two file (sym (ap (λ (x : Returned). x.number) e) ∙ two)

pub leaves : Leaves
unfolding write writing_by
leaves c buffer left w promised h = go (write_cause c buffer) promised
  where
    go :
        (k : ℕ) → ◌≡◌ {A = Writing} (record { number = w.number; length = w.length; buffer = left }) (writing_by k c buffer)
        → Left buffer w left
    go zero e = absurd (h (ap (λ (x : Writing). x.number) e))
    go (suc k) e = (ap (λ (x : Writing). x.length) e, ap (λ (x : Writing). x.buffer) e)
