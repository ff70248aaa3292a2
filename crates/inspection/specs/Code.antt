-- What the functions of this crate are stated by among themselves. These definitions are the code's own: a reader of the promises needs
-- none of them.
--   of_four, of_six     the words of a record that a function takes one by one, as a record: its size, set and order, or all six
--   Flew                what is known where the stops of a record have been flown over a table's rows: the path cost, however many stops there
--                       are, the last place, and how large both can be
use Rattle.std.specs.Prelude.{◌≡◌, List, ℕ, ◌*◌, ◌≤◌}
use Rattle.sizes.specs.Sizes.{most_stops, dearest}
use Rattle.stops.specs.Stops.{day_on}
use Rattle.stops.specs.Code.{reckon_on}
use Rattle.stops.specs.declared.node_record.Record.{Record}
use Rattle.node_answers.specs.Nodes.{flown_stops}

unfoldable pub of_four : ℕ → ℕ → ℕ → ℕ → Record
of_four size set first second = record { size = size; set = set; path = 0; bound = 0; first = first; second = second }

unfoldable pub of_six : ℕ → ℕ → ℕ → ℕ → ℕ → ℕ → Record
of_six size set path bound first second =
    record { size = size; set = set; path = path; bound = bound; first = first; second = second }

pub record Flew (t : List (List ℕ)) (x : Record) (cost place : ℕ) : Type 0 where
  pub cost_is : (n : ℕ) → cost ≡ (day_on n t).path (flown_stops x)
  pub place_is : place ≡ (reckon_on t).place (flown_stops x)
  pub cost_small : cost ≤ most_stops * dearest
  pub place_few : place ≤ most_stops
