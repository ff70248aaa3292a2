-- What the functions of this crate compute between one another. These definitions are the code's own: a reader of the promises needs none of
-- them.
--   Begun                      a text within its places, with zeros behind it
--   Appended                   some bytes written behind what was written, and how many they are at most
--   most_digits                how many digits a value of 64 bits has at most
--   decimal_room               how many bytes one takes at most, printed: a space and its digits
--   line_room                  .. and a line of some: its name, the values and the line's end
--   answer_room, counts_room    how many bytes the lines of an order and of the counts take at most
use Rattle.std.specs.Prelude.{◌≡◌, List, ◌++◌, ℕ, ◌+◌, ◌*◌, ◌≤◌, length, take}
use Rattle.sizes.specs.Sizes.{order_places}
use Rattle.report_format.specs.Text.{ascii}
use Rattle.printing.specs.Promise.{text_places, text_of}
use Rattle.printing.specs.declared.Text.{Text}

pub record Begun (t : Text) : Type 0 where
  pub within : t.length ≤ text_places
  pub padded : t ≡ text_of (take t.length t.bytes)

abbrev pub Appended : List ℕ → List ℕ → ℕ → List ℕ → Type 0
Appended before bytes most after = (after ≡ before ++ bytes) × (length after ≤ length before + most)

abbrev pub most_digits : ℕ
most_digits = 20

abbrev pub decimal_room : ℕ
decimal_room = most_digits + 1

abbrev pub line_room : List ℕ → ℕ → ℕ
line_room name count = length name + decimal_room * count + 1

abbrev pub answer_room : ℕ
answer_room = line_room (ascii "cost") 1 + line_room (ascii "order") order_places

-- 37 bytes of names, and 22 for each number and its line's end
abbrev pub counts_room : ℕ
counts_room = 147
