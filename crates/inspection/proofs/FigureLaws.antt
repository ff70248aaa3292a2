-- The figures of a record: what the checks that a job passes say of its table, and the bound from the set of a node's record.
use mathlib.Core.Path.{◌≡◌, refl, sym, ◌∙◌}
use mathlib.Core.Bool.{Bool, true, false}
use mathlib.Core.List.{List, []}
use mathlib.Core.Logic.{◌≢◌}
use Prim.Native.Nat.{ℕ, zero, suc, ◌+◌, ◌*◌, ◌-◌, ◌^◌, ◌%◌, ◌≤◌}
use native.Mathlib.Nat.{mod-eq_of_lt}
use native.Mathlib.Omega.{arith}
use lib.Dec.{T}
use Rattle.sizes.specs.Sizes.{most_stops}
use Rattle.lists.proofs.Tests.{to_true}
use Rattle.orders.proofs.Sets.{size-left}
use Rattle.stops.specs.Tables.{rows}
use Rattle.stops.specs.Bounds.{ends_away}
use Rattle.stops.specs.Stops.{day_on}
use Rattle.stops.specs.Code.{stops_in, reckon_on, Priced, Cheap}
use Rattle.stops.specs.declared.node_record.Record.{Record}
use Rattle.stops.proofs.SetBits.{all_small}
use Rattle.stops.proofs.LegTable.{rows_cheap}
use Rattle.stops.proofs.StopsWalk.{rows_walk}
use Rattle.records.proofs.Mask.{mask-stops, rest-left}
use Rattle.answer.specs.Checks.{job_cause}
use Rattle.answer.specs.declared.Job.{Job}
use Rattle.answer.proofs.Passes.{JobPasses, job_passed}
use Rattle.inspection.specs.Code.{of_four}
use Rattle.node_answers.specs.Nodes.{flown_stops, is_record_of, is_node}
use Rattle.node_answers.specs.Answers.{is_inside, record_at, found, no_figures, figures_by, figures}
use Rattle.node_answers.specs.declared.Found.{Found}
use Rattle.node_answers.proofs.NodeLaws.{NodeRecord, node_record}

-- What the checks of a job let pass.
module _ (job : Job) (table : List ℕ) (none : job_cause job table [] 0 ≡ 0) where
  passed : JobPasses job table []
  passed = (job_passed job table [] 0 none).0

  pub job_priced : Priced job.n table
  job_priced = passed.legs.priced

  pub job_few : job.n ≤ most_stops
  job_few = job_priced.few

  pub job_cheap : Cheap (rows job.n (ends_away job.bound) table)
  job_cheap = rows_cheap job.n table job_priced (ends_away job.bound)

  pub job_bound : job.bound ≤ 3
  job_bound = passed.bound

-- all stops of n, and one more, as a shift gives it
pub one_shifted : (n : ℕ) → n ≤ most_stops → (1 * 2 ^ n) % 4_294_967_296 ≡ 2 ^ n
one_shifted n few =
    mod-eq_of_lt {n = 1 * 2 ^ n} (omega (arith, all_small n few)) ∙ (let e : 1 * 2 ^ n ≡ 2 ^ n = omega arith in e)

module _ (n : ℕ) (x : Record) (node : T (is_node n x)) where
  abbrev q : NodeRecord n x (flown_stops x)
  q = node_record n x node

  pub node_short : x.size ≤ n
  node_short = omega (arith, q.size_is, size-left n (flown_stops x))

  -- the stops to come
  pub set-within : x.set ≤ 2 ^ n - 1
  set-within = omega (arith, q.set_is, mask-stops n (flown_stops x))

  pub bound_sum :
      (t : List (List ℕ)) (bound : ℕ) → bound ≤ 3
      → (day_on n t).path (flown_stops x) + (reckon_on t).ahead bound ((reckon_on t).place (flown_stops x)) (stops_in (2 ^ n - 1 - x.set))
      ≡ (day_on n t).bound bound (flown_stops x)
  bound_sum t bound h =
      rw (rest-left n q.few (flown_stops x) x.set q.set_is) (sym ((rows_walk n t).bound_ahead bound h (flown_stops x)))

-- the figures of a node's record, from a path cost, a last place and what the bound adds to it; and figures that there are none of
module _ (x : Record) (job : Job) (table : List ℕ) where
  pub figures_node :
      T (is_node job.n x) → job_cause job table [] 0 ≡ 0
      → (t : List (List ℕ)) (cost place rest more : ℕ) → t ≡ rows job.n (ends_away job.bound) table
      → cost ≡ (day_on job.n t).path (flown_stops x) → place ≡ (reckon_on t).place (flown_stops x)
      → rest ≡ 2 ^ job.n - 1 - x.set → more ≡ (reckon_on t).ahead job.bound place (stops_in rest)
      → record { inside = true; number = 0; node = true; path = cost; bound = cost + more } ≡ figures true x job table
  unfolding figures figures_by
  figures_node node none t cost place rest more et ec ep er em =
      rw (
        em,
        ec,
        ep,
        er,
        et,
        bound_sum job.n x node (rows job.n (ends_away job.bound) table) job.bound (job_bound job table none),
        to_true (is_node job.n x) node,
        none,
      ) refl

  pub figures_outside : no_figures false 0 ≡ figures false x job table
  unfolding figures
  figures_outside = refl

  pub figures_refused :
      (inside : Bool) → inside ≡ true → job_cause job table [] 0 ≢ 0
      → figures inside x job table ≡ no_figures true (job_cause job table [] 0)
  unfolding figures figures_by
  figures_refused inside e h = rw e (go (is_node job.n x) (job_cause job table [] 0) h)
    where
      go : (b : Bool) (k : ℕ) → k ≢ 0 → figures_by b k x job (day_on job.n (rows job.n (ends_away job.bound) table)) ≡ no_figures true k
      go true zero h = absurd (h refl)
      go true (suc k) h = refl
      go false k h = refl

  pub figures-other : job_cause job table [] 0 ≡ 0 → is_node job.n x ≡ false → no_figures true 0 ≡ figures true x job table
  unfolding figures figures_by
  figures-other none e = rw (none, e) refl

-- figures lie with the size, the set and the order of a record alone
figures-words :
    (inside : Bool) (x : Record) (job : Job) (table : List ℕ)
    → figures inside (of_four x.size x.set x.first x.second) job table ≡ figures inside x job table
unfolding figures figures_by is_node is_record_of flown_stops of_four
figures-words false x job table = refl
figures-words true x job table = go (is_node job.n x) (job_cause job table [] 0)
  where
    go :
        (b : Bool) (k : ℕ)
        → figures_by b k (of_four x.size x.set x.first x.second) job (day_on job.n (rows job.n (ends_away job.bound) table))
        ≡ figures_by b k x job (day_on job.n (rows job.n (ends_away job.bound) table))
    go true zero = refl
    go true (suc k) = refl
    go false k = refl

pub figures-found :
    (ys : List Record) (i : ℕ) (r : Found) → r ≡ found ys i → (job : Job) (table : List ℕ)
    → figures r.inside (of_four r.found.size r.found.set r.found.first r.found.second) job table
    ≡ figures (is_inside ys i) (record_at ys i) job table
unfolding found
figures-found ys i r e job table = rw e (figures-words (is_inside ys i) (record_at ys i) job table)
