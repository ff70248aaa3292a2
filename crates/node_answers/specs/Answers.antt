-- What each function over a run of records answers, over all inputs. Past the end of the run the record is zeros and not inside.
--   found       record i
--   verdict     whether record i is a node's at all, for n stops
--   flown_at     its stops in flown order, zeros behind
--   figures     its path cost and its bound, against a job and its table; the number is that of the first of causes 1 to 4 that applies
--   fits        whether a stop and its leg can be added to a record
--   longer      the record with these added
--   extension   record i with these added where they fit
--   extend_at    the run afterwards
use Rattle.std.specs.Prelude.{Bool, true, false, ◌&&◌, cond, List, [], ℕ, zero, suc, ◌+◌, ◌^◌, ltb, length, get_or, take, drop, set}
use Rattle.sizes.specs.Sizes.{most_stops, order_places, word_stops}
use Rattle.lists.specs.Lists.{padded}
use Rattle.orders.specs.Orders.{Node, flown, set_of, left, size, extend, mask}
use Rattle.days.specs.Days.{Day}
use Rattle.stops.specs.Tables.{rows}
use Rattle.stops.specs.Bounds.{ends_away}
use Rattle.stops.specs.Stops.{day_on}
use Rattle.stops.specs.declared.node_record.Record.{Record}
use Rattle.records.specs.Records.{order_word}
use Rattle.answer.specs.Checks.{job_cause}
use Rattle.answer.specs.declared.Job.{Job}
use Rattle.node_answers.specs.Nodes.{flown_stops, is_node}
use Rattle.node_answers.specs.declared.Found.{Found}
use Rattle.node_answers.specs.declared.Verdict.{Verdict}
use Rattle.node_answers.specs.declared.Flown.{Flown}
use Rattle.node_answers.specs.declared.Figures.{Figures}
use Rattle.node_answers.specs.declared.Extended.{Extended}

unfoldable pub is_inside : List Record → ℕ → Bool
is_inside xs i = ltb i (length xs)

-- what stands for a record that is not there
abbrev pub no_record : Record
no_record = record { size = 0; set = 0; path = 0; bound = 0; first = 0; second = 0 }

unfoldable pub record_at : List Record → ℕ → Record
record_at xs i = get_or xs i no_record

unfoldable pub found : List Record → ℕ → Found
found xs i = record { inside = is_inside xs i; found = record_at xs i }

unfoldable pub verdict : Bool → Record → ℕ → Verdict
verdict inside x n = record { inside = inside; node = inside && is_node n x }

unfoldable pub flown_at : Bool → Record → Flown
flown_at inside x = record { inside = inside; stops = padded order_places (flown_stops x) }

-- a number and zeros; path cost and bound only where every check lets pass and the record is a node's
unfoldable pub no_figures : Bool → ℕ → Figures
no_figures inside number = record { inside = inside; number = number; node = false; path = 0; bound = 0 }

unfoldable pub figures_by : Bool → ℕ → Record → Job → Day → Figures
figures_by true zero x job D = record {
  inside = true;
  number = 0;
  node = true;
  path = D.path (flown_stops x);
  bound = D.bound job.bound (flown_stops x);
}
figures_by true (suc number) x job D = no_figures true (suc number)
figures_by false number x job D = no_figures true number

unfoldable pub figures : Bool → Record → Job → List ℕ → Figures
figures true x job table = figures_by (is_node job.n x) (job_cause job table [] 0) x job (day_on job.n (rows job.n (ends_away job.bound) table))
figures false x job table = no_figures false 0

-- A stop and its leg, which is what the caller says that flying there costs, fit on a record: it is a node's, for as many stops as a day may
-- have; the node leaves the stop; and its path cost with the leg still fits a word.
unfoldable pub fits : Record → ℕ → ℕ → Bool
fits x stop leg = is_node most_stops x && flown (left most_stops (flown_stops x)) stop && ltb (x.path + leg) (2 ^ 32)

-- the record of the node that flies these stops for some path cost; its bound is 0, not yet known
abbrev pub unbounded_record : Node → ℕ → Record
unbounded_record y path = record {
  size = size most_stops y;
  set = mask (set_of most_stops y);
  path = path;
  bound = 0;
  first = order_word (take word_stops y);
  second = order_word (drop word_stops y);
}

-- "Nodes": the stop is flown behind the others, and the leg is added to the path cost
unfoldable pub longer : Record → ℕ → ℕ → Record
longer x stop leg = unbounded_record (extend (flown_stops x) stop) (x.path + leg)

-- where it does not fit, the record is as it was
unfoldable pub extension : Bool → Record → ℕ → ℕ → Extended
extension true x stop leg = record { inside = true; fits = fits x stop leg; after = cond (fits x stop leg) (longer x stop leg) x }
extension false x stop leg = record { inside = false; fits = false; after = no_record }

-- the run as it was but for record i, and that only where the stop fits
unfoldable pub extend_at : List Record → ℕ → ℕ → ℕ → List Record
extend_at xs i stop leg = cond (is_inside xs i && fits (record_at xs i) stop leg) (set xs i (longer (record_at xs i) stop leg)) xs
