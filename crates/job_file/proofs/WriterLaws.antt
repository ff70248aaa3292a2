-- Laws behind the functions of the writer.
--   trailer-written    the trailer, byte by byte
--   table_small        the starting order's place is a word
--   lent_written       a part of the buffer, behind what is written, is lent and comes back written
--   parts_written      the three parts of a file
use mathlib.Core.Path.{◌≡◌, refl, ap, ◌∙◌}
use mathlib.Core.List.{List, [], ◌++◌, append-nil}
use Prim.Native.Nat.{ℕ, ◌+◌, ◌*◌, ◌-◌, ◌≤◌}
use native.Mathlib.Omega.{arith}
use lib.ListN.{length, set, length-append}
use lib.Seq.{sets, drop-length}
use borrow.Rule.Slice.PartMut.{mid_of, put_mid, Post-is}
use Rattle.sizes.specs.Sizes.{most_stops, table_numbers}
use Rattle.lists.specs.Lists.{each}
use Rattle.lists.proofs.Elements.{part_from}
use Rattle.answer.specs.declared.Job.{Job}
use Rattle.job_format.specs.Bytes.{word, overwrite}
use Rattle.job_format.specs.Contents.{contents_of, trailer_length, area, trailer_of, trailer_bytes, bytes_of}
use Rattle.job_file.specs.Code.{trailer_by, Fits}
use Rattle.job_format.proofs.ByteLaws.{overwrite-next, overwrite-behind, length-overwrite, length_each_word}
use Rattle.job_format.proofs.LayoutLaws.{area_small}

pub trailer-written :
    (buffer : List ℕ) (place : ℕ) (job : Job) (stops : ℕ) → trailer_length ≤ length buffer
    → set (set (set (set (set (sets (sets buffer 0 (word 0)) 4 (word place)) 8 job.n) 9 stops) 10 job.selection) 11 job.rules) 12 job.bound
    ≡ overwrite (trailer_bytes (trailer_by place job stops)) buffer
unfolding word trailer_bytes trailer_by overwrite
trailer-written buffer place job stops h =
    let bytes : List ℕ = trailer_bytes (trailer_by place job stops) in
    overwrite-next [] bytes bytes buffer 0 refl refl (omega arith)

pub table_small : (n : ℕ) (table : List ℕ) → n ≤ most_stops → length table ≡ area n → length table ≤ table_numbers
table_small n table h e = omega (arith, area_small n h)

lent_written :
    (xs ys buffer w v : List ℕ) (place : ℕ) → length xs ≡ place → place ≤ length buffer → w ≡ overwrite xs buffer
    → v ≡ overwrite ys (mid_of place (length w - place) w) → put_mid place (length w - place) w v ≡ overwrite (xs ++ ys) buffer
lent_written xs ys buffer w v place e h f g =
    let within : place ≤ length w = omega (arith, ap length f, length-overwrite xs buffer (omega arith)) in
    rw (Post-is place (length w) w within, drop-length w, append-nil, g, part_from place w, f, ← e) (overwrite-behind xs ys buffer)

module _ (job : Job) (table start buffer : List ℕ) where
  -- where the starting order begins, and where it ends
  abbrev place : ℕ
  place = 4 * length table

  abbrev end : ℕ
  end = place + length start

  trailer_is : length table ≡ area job.n → trailer_by place job (length start) ≡ trailer_of (contents_of job table start)
  unfolding trailer_by trailer_of contents_of
  trailer_is square = rw square

  pub parts_written :
      Fits job table start buffer → (w v w' v' : List ℕ) → w ≡ overwrite (each word table) buffer
      → v ≡ overwrite start (mid_of place (length w - place) w) → w' ≡ put_mid place (length w - place) w v
      → v' ≡ overwrite (trailer_bytes (trailer_by place job (length start))) (mid_of end (length w' - end) w')
      → put_mid end (length w' - end) w' v' ≡ overwrite (bytes_of (contents_of job table start)) buffer
  unfolding bytes_of contents_of
  parts_written fits w v w' v' e f g h =
      let t : List ℕ = each word table in
      let long : length t ≡ place = length_each_word table in
      let room : end ≤ length buffer = omega (arith, fits.room, fits.square) in
      let both : length (t ++ start) ≡ end = omega (arith, length-append t start) in
      let written : w' ≡ overwrite (t ++ start) buffer = g ∙ lent_written t start buffer w v place long (omega arith) e f in
      lent_written (t ++ start) _ buffer w' v' end both room written (h ∙ rw (trailer_is fits.square))
