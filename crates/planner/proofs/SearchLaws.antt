-- The loop of turns (`src/run.rt`, `turns`): how it begins, that a turn keeps what it stands on, and that it ends.
--   run_begins      the start is a state of the run
--   turn_keeps      a turn that goes on leads to a state of the run, which pool and counts show
--   turn_falls      each turn branches one node more, and no run branches more nodes than there are
--   floor-ready     what `floor` asks
--   turns_end       a turn that does not go on ends the run
use mathlib.Core.Path.{◌≡◌, ap, subst, ◌∙◌}
use mathlib.Core.List.{List, ◌++◌, reverse}
use Prim.Native.Nat.{ℕ, ◌+◌, ◌-◌, ◌/◌, ◌≤◌, ◌<◌}
use native.Mathlib.Omega.{arith}
use lib.ListN.{length, replicate, length-map}
use Rattle.sizes.specs.Sizes.{record_words}
use Rattle.search.specs.Problem.{Problem, Choices, State, start}
use Rattle.search.specs.Run.{Next, Stepped, Steps, none, more}
use Rattle.search.proofs.Outcome.{next_stepped}
use Rattle.search.proofs.Budget.{stepped_adds}
use Rattle.orders.specs.Orders.{Node, nodes}
use Rattle.stops.specs.Code.{empty_record}
use Rattle.records.specs.Records.{records_in}
use Rattle.records.specs.Code.{records}
use Rattle.records.proofs.ViewLaws.{length-records, same-records}
use Rattle.answer.specs.declared.Report.{Report}
use Rattle.answer.specs.Answer.{given}
use Rattle.lanes.specs.declared.layout.Layout.{Layout}
use Rattle.children.specs.Code.{Table, problem_of, choices_of, encode_of}
use Rattle.children.specs.declared.setting.Setting.{Setting}
use Rattle.children.proofs.SettingLaws.{setting_counts}
use Rattle.step.specs.Code.{Shown, active_in, far_in}
use Rattle.step.specs.declared.Run.{Run}
use Rattle.planner.specs.Code.{Running, Turned, Begins, Told, Settled, Ran, records_of, next_of}
use Rattle.planner.specs.declared.run.Turn.TheVariants.{Go}
use Rattle.planner.proofs.TurnLaws.{turn_counts}

pub run_begins :
    {d : Setting} {t : Table} {first w₀ w index : List ℕ} {p : Layout} {r : Run} → Begins d t first w₀ p
    → Shown d w index r (records_of d t (start (problem_of d t) (given first)))
    → Running d t first w index r (start (problem_of d t) (given first))
run_begins begins shown =
    record { rows = begins.rows; selects = begins.selects; starts = begins.starts; steps = none; shows = shown }

-- the run counts the branched nodes
branched_shown :
    (d : Setting) (t : Table) (s : State Node) {w index : List ℕ} {r : Run} → Shown d w index r (records_of d t s)
    → r.branched ≡ length s.branched
unfolding records_of
branched_shown d t s shown = shown.branched ∙ length-map s.branched (encode_of d t)

module _
    {d : Setting} {t : Table} {first w w' index index' : List ℕ} {r r' : Run} {s : State Node}
    (here : Running d t first w index r s) (turned : Turned d t w w' index' s (Go r')) (kept : length w' ≡ length w)
  where
    abbrev P : Problem Node
    P = problem_of d t

    abbrev C : Choices Node
    C = choices_of d t

    stepped : Stepped P C (length (records w)) s turned.0
    stepped = next_stepped P C (length (records w)) turned.1

    steps : Steps P C (length (records w)) (start P (given first)) turned.0
    steps = more here.steps stepped

    pub turn_keeps : (s' : State Node) × Running d t first w' index' r' s'
    turn_keeps = (
      turned.0,
      record { rows = here.rows; selects = here.selects; starts = here.starts; steps = rw (same-records w w' kept) steps; shows = turned.2 },
    )

    pub turn_falls : nodes d.n - r'.branched < nodes d.n - r.branched
    turn_falls =
        omega (
          arith,
          (setting_counts d t (length (records w)) (given first) here.selects steps).branched,
          branched_shown d t s here.shows,
          branched_shown d t turned.0 turned.2,
          stepped_adds P C (length (records w)) stepped,
        )

-- what `settle` promises
abbrev Laid_out : List ℕ → Run → List ℕ → Type 0
Laid_out w r w' =
    records w'
    ≡ active_in w r ++ (reverse (far_in w r) ++ replicate (r.layout.capacity - (length (active_in w r) + r.layout.far)) empty_record)

-- The end, in a pool as long as at the entry. A turn that does not go on leaves it as it was.
module _ {d : Setting} {t : Table} {first w index : List ℕ} {r : Run} {s : State Node} (here : Running d t first w index r s) where
  pub floor-ready : {w₁ : List ℕ} → w₁ ≡ w → (r.layout.used ≤ length (records w₁)) × (0 < length (active_in w₁ r))
  floor-ready same = rw same (turn_counts here)

  -- what `settle` promises, by the number of records at the entry
  settled_said :
      (w₀ w₁ w₂ : List ℕ) → length w ≡ length w₀ → length w₂ ≡ length w₁ → Laid_out w₁ r w₂ → Settled (records_in w₀) w₁ r w₂
  unfolding records_in
  settled_said w₀ w₁ w₂ long kept laid =
      let whole : r.layout.capacity ≡ length w₀ / record_words =
      here.shows.laid.whole ∙ length-records w ∙ ap (λ (m : ℕ). m / record_words) long in
      record { kept = kept; layout = rw (← whole) laid }

  pub turns_end :
      {w₀ w₁ w₂ : List ℕ} {y : Next Node} {q : Report} → length w ≡ length w₀ → (next_of d t w s ≡ y) × (w₁ ≡ w)
      → length w₂ ≡ length w₁ → Laid_out w₁ r w₂ → Told d w₁ r y q → Ran d t first w₀ q w₂
  turns_end {w₀} {w₁} {w₂} {y} {q} long (ends, same) kept laid told = record {
    last = w;
    index = index;
    run = r;
    state = s;
    running = here;
    told = rw ends (subst (λ (v : List ℕ). Told d v r y q) same told);
    long = long;
    settled = subst (λ (v : List ℕ). Settled (records_in w₀) v r w₂) same (settled_said w₀ w₁ w₂ long kept laid);
  }
