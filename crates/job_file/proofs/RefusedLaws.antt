-- What is handed back where `?` hands a refusal on: by the reader, and by the writer.
use mathlib.Core.Path.{◌≡◌, ap}
use Prim.Native.Nat.{ℕ}
use Rattle.std.specs.Prelude.{Result, Ok, Err}
use Rattle.std.specs.Result.{IsErrAnd}
use Rattle.answer.specs.Refusals.{number}
use Rattle.answer.specs.declared.refusal.Refusal.{Refusal}
use Rattle.job_format.specs.Reader.{Reading, refusal}
use Rattle.job_file.specs.Promise.{returned}
use Rattle.job_file.specs.Code.{Filled, written}
use Rattle.job_file.specs.declared.reader.Reading.{Reading as Returned}

pub read_refused :
    {A : Type 0} (q : Result A Refusal) (e : Refusal) → IsErrAnd q (λ x. x ≡ e) → (answer : Reading) (r : Returned)
    → returned (refusal (number e)) ≡ returned answer → r ≡ returned (refusal 0) → Filled answer q r
read_refused (Ok _) e h = absurd h
read_refused (Err x) e h = λ answer r asked zeros. (rw h asked, zeros)

pub write_refused : (r : Result ℕ Refusal) (e : Refusal) → IsErrAnd r (λ x. x ≡ e) → written r ≡ record { number = number e; length = 0 }
write_refused (Ok n) e h = absurd h
write_refused (Err x) e h = ap (λ (y : Refusal). written (Err y)) h
