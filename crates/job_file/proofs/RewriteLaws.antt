-- What `rewrite` does, by what `read` returned.
--   slice_bytes                     a list whose every element is a byte holds bytes alone
--   rewritten_refused, rewritten    the two answers
use mathlib.Core.Path.{◌≡◌, refl, ap, sym, ◌∙◌}
use mathlib.Core.List.Memᴰ
use mathlib.Core.List.{List, [], ◌∷◌}
use mathlib.Core.Logic.{◌⊎◌, inl, inr, ◌≢◌}
use Prim.Native.Nat.{ℕ, suc, ◌<◌}
use lib.ListN.{length, get_or, take}
use Rattle.lists.specs.Lists.{In}
use Rattle.job_format.specs.Bytes.{AllBytes}
use Rattle.job_format.specs.Contents.{Contents, contents_of, area}
use Rattle.job_format.specs.Reader.{read}
use Rattle.job_format.specs.Writer.{Writing, write}
use Rattle.job_file.specs.Promise.{returned, contents_from, Promised}
use Rattle.job_file.specs.Demands.{Left, Rewritten}
use Rattle.job_file.specs.declared.reader.Reading.{Reading as Returned}
use Rattle.job_file.specs.declared.writer.Written.{Written}
use Rattle.job_format.proofs.WriteLaws.{buffer_refuses}
use Rattle.job_format.proofs.RoundTrip as definitions
use Rattle.job_file.proofs.Returns.{accepted, rewrites}

pub slice_bytes : (xs : List ℕ) → ((k : ℕ) → get_or xs k 0 < 256) → AllBytes xs
slice_bytes [] h b m = absurd (Memᴰ.not-nil m)
slice_bytes (x ∷ xs) h b m = go (Memᴰ.cases_cons m) (slice_bytes xs (λ i. h (suc i)) b)
  where
    go : (b ≡ x) ⊎ In b xs → (In b xs → b < 256) → b < 256
    go (inl e) again = rw e (h 0)
    go (inr k) again = again k

module _ (file : List ℕ) (r : Returned) (e : r ≡ returned (read file)) (buffer : List ℕ) where
  pub rewritten_refused : r.number ≢ 0 → Rewritten file buffer (record { number = r.number; length = 0 }) buffer
  unfolding returned
  rewritten_refused h =
      let number : r.number ≡ (read file).number = ap (λ (x : Returned). x.number) e in
      record {
        accepted = λ z room. absurd (h (number ∙ z));
        short = λ z room. absurd (h (number ∙ z));
        refused = λ k. (number, (refl, refl));
      }

  module _ (none : r.number ≡ 0) (bytes : AllBytes file) (w : Written) (left : List ℕ) where
    room_lacks : Promised (contents_from r) buffer w left → length buffer < length file → (w.number ≡ 10) × Left buffer w left
    room_lacks promised h =
        let acc = accepted file r e none in
        let same = (definitions.rewrites file bytes acc.none).1 in
        let made = promised
        ∙ ap (λ (x : Contents). write x buffer) acc.same
        ∙ sym (buffer_refuses (read file).contents buffer acc.passes (rw same h)) in
        (ap (λ (x : Writing). x.number) made, (ap (λ (x : Writing). x.length) made, ap (λ (x : Writing). x.buffer) made))

    -- what the code hands to `write`, of `count` numbers
    pub rewritten :
        (count : ℕ) → count ≡ area r.job.n
        → Promised (contents_of r.job (take count r.table) (take r.stops r.start)) buffer w left → Rewritten file buffer w left
    unfolding contents_from
    rewritten count square promised =
        let handed : Promised (contents_from r) buffer w left = rw (← square) promised in
        record {
          accepted = λ z room. rewrites file buffer left r w bytes e none handed room;
          short = λ z h. room_lacks handed h;
          refused = λ h. absurd (h (accepted file r e none).none);
        }
