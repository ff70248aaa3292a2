-- The promise of what is printed in words of its code: a text in an array, with zeros behind it.
use Rattle.std.specs.Prelude.{List, ℕ, length}
use Rattle.lists.specs.Lists.{padded}
use Rattle.printing.specs.declared.Text.{Text}

-- Places for a text. The longest has nine lines: 55 bytes of names, 24 numbers of at most 21 bytes with their spaces, and the lines' ends.
abbrev pub text_places : ℕ
text_places = 568

unfoldable pub text_of : List ℕ → Text
text_of bytes = record { bytes = padded text_places bytes; length = length bytes }
