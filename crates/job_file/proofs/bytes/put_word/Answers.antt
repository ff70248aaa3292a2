-- `put_word` meets its contract: the library's bytes of a word are the definition's (`word_is`), and the part of the buffer that was lent
-- comes back as they are (`lent_sets`).
use mathlib.Core.Path.{◌≡◌, sym, ◌∙◌}
use mathlib.Core.List.{List, append_assoc}
use Prim.Native.Nat.{ℕ, ◌+◌, ◌-◌, ◌/◌, ◌≤◌}
use native.Mathlib.Omega.{arith}
use lib.ListN.{length}
use lib.Seq.{sets, sets-eq, drop-drop}
use borrow.Rule.Slice.PartMut.{put_mid}
use Rattle.std.proofs.Common.{w32}
use Rattle.std.specs.Int.{to_le_bytes}
use Rattle.job_format.specs.Bytes.{word}
use Rattle.job_file.proofs.bytes.put_word.Goals as goal

word_is : (x : ℕ) → to_le_bytes w32 x ≡ word x
unfolding word
word_is x =
    let two : x / 65536 ≡ x / 256 / 256 = omega arith in
    let three : x / 16777216 ≡ x / 256 / 256 / 256 = omega arith in
    rw (two, three)

lent_sets : (xs ys : List ℕ) (place : ℕ) → place + length ys ≤ length xs → put_mid place (length ys) xs ys ≡ sets xs place ys
lent_sets xs ys place h = rw (drop-drop, ← append_assoc) (sym (sets-eq ys xs place h))

pub returns : goal.returns
unfolding word
returns c =
    let four : c.args.place + 4 - c.args.place ≡ 4 = omega arith in
    let bytes : c.copy_from_slice.new.self ≡ word c.args.x = c.copy_from_slice.ensures.after ∙ c.to_le_bytes-word.ensures ∙ word_is c.args.x in
    rw (four, bytes) (lent_sets c.args.bytes.now (word c.args.x) c.args.place c.requires)
