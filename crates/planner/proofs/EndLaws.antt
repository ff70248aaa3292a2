-- The run of a call (`src/run.rt`, `search`): the turns have what they ask, and the report and the pool that they end with are those of the
-- written run.
--   call_begins       what the turns begin with
--   finish_answers    the state is finished: number 0, mark 0, U and its order
--   stop_answers      the budget is spent: mark 1, the best order known and the floor
--   full_answers      the next step does not fit: number 7, cost and order zero
--   run_ends          so the answer is the written one, by whichever came next
use mathlib.Core.Path.{◌≡◌, refl, ap, ap₂, sym, subst, ◌∙◌}
use mathlib.Core.Bool.{Bool, true, false}
use mathlib.Core.List.{List, [], ◌++◌, map, map-append, reverse, reverse-reverse, append_assoc}
use mathlib.Core.Option
use mathlib.Core.Option.{Option, none, some}
use Prim.Native.Nat.{ℕ, ◌+◌, ◌-◌, ◌/◌}
use native.Mathlib.Omega.{arith}
use borrow.Author.Tests.{eq-eqb, ne_eqb}
use lib.ListN.{length, replicate, length-map, length-append, length-reverse}
use Rattle.sizes.specs.Sizes.{order_places, record_words, above_every_cost}
use Rattle.lists.specs.Lists.{padded, least}
use Rattle.lists.proofs.Map.{least-map}
use Rattle.search.specs.Problem.{Problem, Choices, State, upper}
use Rattle.search.specs.Step.{on}
use Rattle.search.specs.Run.{Next, with_branched, held, finish, halt, overflow, go, next, finished}
use Rattle.search.proofs.Outcome.{next_halts, next_overflows}
use Rattle.orders.specs.Orders.{Node, Order}
use Rattle.stops.specs.Tables.{rows}
use Rattle.stops.specs.Bounds.{ends_away}
use Rattle.stops.specs.Code.{empty_record}
use Rattle.stops.specs.declared.node_record.Record.{Record}
use Rattle.records.specs.Records.{records_in}
use Rattle.records.specs.Code.{records}
use Rattle.records.proofs.ViewLaws.{length-records, same-records}
use Rattle.records.proofs.OrderStops.{order-stops}
use Rattle.answer.specs.Call.{Call}
use Rattle.answer.specs.declared.Report.{Report}
use Rattle.answer.specs.Checks.{cause}
use Rattle.answer.specs.Answer.{problem_of, choices_of, outcome, StateOf, stops_of, cost_of, floor_of, report_with, finished_report, words_of, ending, respond, answer}
use Rattle.answer.proofs.Passes.{Passes, passes}
use Rattle.answer.proofs.Instance.{overflow_outcome, halt_outcome, finish_outcome, known_cheap}
use Rattle.answer.proofs.Ending.{Finished}
use Rattle.answer.proofs.Known.{BestKnown, unknown, known, best_known}
use Rattle.answer.proofs.Demand3.{Solved, solved}
use Rattle.lanes.specs.declared.layout.Layout.{Layout}
use Rattle.children.specs.Code.{Table, setting_of, choices_of as setting_choices, encode_of, IsBest}
use Rattle.children.specs.declared.setting.Setting.{Setting}
use Rattle.children.proofs.SettingLaws.{call_rows, call-problem, call-choices, call_starts, call-words, order-words, encode_bound}
use Rattle.step.specs.Code.{held_of, active_in, Shown}
use Rattle.step.specs.declared.Run.{Run}
use Rattle.planner.specs.Code.{layout_of, Begins, Told, Ran, Ended, records_of, next_of, reported, places_of, finished_by, stopped_by, full_by}

pub call_begins :
    (c : Call) → Passes c → {t : Table} → t ≡ rows c.job.n (ends_away c.job.bound) c.table
    → {p : Layout} → p ≡ layout_of (setting_of c) (records_in c.pool) → Begins (setting_of c) t c.start c.pool p
unfolding records_in
call_begins c ok e empty = record {
  rows = call_rows c e ok;
  selects = ok.selection;
  starts = call_starts c e ok;
  room = omega (arith, length-records c.pool, ok.pool);
  empty = empty ∙ ap (layout_of (setting_of c)) (sym (length-records c.pool));
}

-- active and far records are those of the nodes to keep
module _ {N : Type 0} (f : N → Record) (active branched : List N) where
  held-records :
      (b : Bool) (behind : List Record)
      → map f active ++ (reverse (held_of b (map f branched)) ++ behind) ≡ map f (with_branched b active branched) ++ behind
  held-records true behind =
      rw (reverse-reverse (map f branched), map-append f active branched) (sym (append_assoc (map f active) (map f branched) behind))
  held-records false behind = refl

  held-count : (b : Bool) → length (map f active) + length (held_of b (map f branched)) ≡ length (with_branched b active branched)
  held-count true =
      omega (arith, length-map active f, length-map branched f, length-reverse (map f branched), length-append active branched)
  held-count false = omega (arith, length-map active f)

-- Where the turns end, the state that the pool shows is that of the run's outcome, since the run goes through it and ends there. The
-- counts of the report are the state's. The pool, settled, holds the records of the nodes to keep and empty ones, so its words are
-- the call's. An order that is known is one of all stops, so its bound is its cost, and its two words say its stops (`order_said`).
module _
    (c : Call) (passed : cause c ≡ 0) {t : Table} (table : t ≡ rows c.job.n (ends_away c.job.bound) c.table) {q : Report}
    {w₂ : List ℕ} (here : Ran (setting_of c) t c.start c.pool q w₂)
  where
    ok : Passes c
    ok = passes c passed

    abbrev s : State Node
    s = here.state

    abbrev w : List ℕ
    w = here.last

    abbrev r : Run
    r = here.run

    abbrev d : Setting
    d = setting_of c

    -- the record of a node
    abbrev f : Node → Record
    f = encode_of (setting_of c) t

    abbrev shown : Shown (setting_of c) w here.index r (records_of (setting_of c) t s)
    shown = here.running.shows

    capacity-same : length (records w) ≡ records_in c.pool
    unfolding records_in
    capacity-same = length-records w ∙ ap (λ (m : ℕ). m / record_words) here.long

    state_of : StateOf c s
    state_of = rw (← capacity-same, ← call-problem c table ok, ← call-choices c table) here.running.steps

    -- what comes next, in words of the call
    abbrev comes : Next Node
    comes = next (problem_of c) (choices_of c) (records_in c.pool) s

    next-same : next_of d t w s ≡ comes
    next-same =
        ap₂ (λ (P : Problem Node) (C : Choices Node). next P C (length (records w)) s) (call-problem c table ok) (call-choices c table)
        ∙ ap (λ (m : ℕ). next (problem_of c) (choices_of c) m s) capacity-same

    settled_words : w₂ ≡ words_of c s
    unfolding held records_of
    settled_words = call-words c table s w₂ long (rw long ok.whole) layout
      where
        long : length w₂ ≡ length c.pool
        long = here.settled.kept ∙ here.long

        free :
            records_in c.pool - (length (active_in w r) + r.layout.far) ≡ length (records w₂) - length (held c.job.rules s)
        free =
            omega (
              arith,
              capacity-same,
              same-records w w₂ here.settled.kept,
              held-count f s.active s.branched (on 4 c.job.rules),
              ap length shown.active,
              shown.far-count,
            )

        layout :
            records w₂ ≡ map f (held c.job.rules s) ++ replicate (length (records w₂) - length (held c.job.rules s)) empty_record
        layout =
            here.settled.layout
            ∙ rw (free, shown.active, shown.far)
            (held-records f s.active s.branched (on 4 c.job.rules)
            (replicate (length (records w₂) - length (held c.job.rules s)) empty_record))

    counts_reported :
        (number mark cost floor : ℕ) (places order : List ℕ) → places ≡ padded order_places order
        → reported number mark cost floor places r ≡ report_with number mark cost floor order s
    unfolding reported report_with records_of
    counts_reported number mark cost floor places order e = λ i. record {
      number = number;
      mark = mark;
      cost = cost;
      floor = floor;
      order = e i;
      branched = (shown.branched ∙ length-map s.branched f) i;
      generated = shown.generated i;
      eliminated = shown.eliminated i;
      active = (shown.active_count ∙ length-map s.active f) i;
      most = shown.most i;
    }

    -- So the answer is the written one where the report is that of the state and the run ends there.
    ends_there : {report : Report} → q ≡ report → record { report = report; pool = words_of c s } ≡ ending c (outcome c) → Ended c q w₂
    ends_there e ends = ap₂ (λ (a : Report) (p : List ℕ). record { report = a; pool = p }) e settled_words ∙ ends

    shown_best : (b : Option Node) → s.best ≡ b → IsBest r.best (Option.map f b)
    unfolding records_of
    shown_best b e = subst (λ (o : Option Node). IsBest r.best (Option.map f o)) e shown.best

    -- what stands for U and its order are its cost and its stops
    order_said :
        (x : Node) → Order c.job.n x → s.best ≡ some x
        → (r.best.upper ≡ (problem_of c).cost x) × (places_of c.job.n r.best ≡ padded order_places x)
    unfolding places_of
    order_said x order e =
        let best = shown_best (some x) e in
        let (cost, one, two) = order-words here.running.rows x order in (
          best.0 ∙ cost ∙ ap (λ (P : Problem Node). P.cost x) (call-problem c table ok),
          ap (padded order_places) (order-stops c.job.n ok.priced.few x order _ _ (best.1 ∙ one) (best.2 ∙ two)),
        )

    module _ (end : comes ≡ finish) where
      ran : outcome c ≡ finished s
      ran = finish_outcome c state_of end

      ended : Finished c
      unfolding answer respond
      ended = record { state = s; passed = passed; ran = ran; answered = ap (respond c) passed ∙ ap (ending c) ran }

      finish_reported : finished_by c.job.n r ≡ finished_report c s
      unfolding finished_by ended
      finish_reported =
          let known : Solved c s = solved c ended in
          let (cost, places) = order_said known.x known.allowed.order known.best in
          counts_reported 0 0 r.best.upper 0 _ known.x places
          ∙ ap (λ (u : ℕ). report_with 0 0 u 0 known.x s) cost
          ∙ ap (λ (b : Option Node). report_with 0 0 (upper (problem_of c) b) 0 (stops_of b) s) (sym known.best)

      finish_answers : q ≡ finished_by c.job.n r → Ended c q w₂
      unfolding ending
      finish_answers e = ends_there (e ∙ finish_reported) (ap (ending c) (sym ran))

    -- the least bound among the active records is the floor
    abbrev floor : ℕ
    floor = least (λ (x : Record). x.bound) (active_in w r)

    floor_said : floor ≡ floor_of c s
    unfolding floor_of records_of
    floor_said =
        rw shown.active (least-map f (setting_choices d t).bound (λ x. x.bound) s.active (λ x m. encode_bound d t x))
        ∙ ap (λ (C : Choices Node). least C.bound s.active) (call-choices c table)

    -- with the best order known, or with zeros while U is above every cost
    stop_reported :
        (b : Option Node) → BestKnown c b → s.best ≡ b
        → stopped_by c.job.n floor r ≡ report_with 0 1 (cost_of (problem_of c) b) floor (stops_of b) s
    unfolding stopped_by padded
    stop_reported b unknown e =
        rw (eq-eqb r.best.upper above_every_cost (shown_best none e).0) (counts_reported 0 1 0 floor (replicate order_places 0) [] refl)
    stop_reported b (known x allowed) e =
        let (cost, places) = order_said x allowed.order e in
        rw (ne_eqb r.best.upper above_every_cost (λ h. omega (arith, known_cheap c ok x allowed.order)))
        (counts_reported 0 1 r.best.upper floor _ x places ∙ ap (λ (u : ℕ). report_with 0 1 u floor x s) cost)

    stop_answers : comes ≡ halt → q ≡ stopped_by c.job.n floor r → Ended c q w₂
    unfolding ending
    stop_answers end e =
        ends_there
        (e
        ∙ stop_reported s.best (best_known c passed state_of) refl
        ∙ ap (λ (m : ℕ). report_with 0 1 (cost_of (problem_of c) s.best) m (stops_of s.best) s) floor_said)
        (ap (ending c) (sym (halt_outcome c state_of (next_halts (problem_of c) (choices_of c) (records_in c.pool) end))))

    full_answers : comes ≡ overflow → q ≡ full_by r → Ended c q w₂
    unfolding ending padded full_by
    full_answers end e =
        ends_there (e ∙ counts_reported 7 0 0 0 (replicate order_places 0) [] refl)
        (ap (ending c) (sym (overflow_outcome c state_of (next_overflows (problem_of c) (choices_of c) (records_in c.pool) end))))

    pub run_ends : Ended c q w₂
    run_ends = by (next_of d t w s) (sym next-same) here.told
      where
        by : (y : Next Node) → comes ≡ y → Told d w r y q → Ended c q w₂
        by finish end e = finish_answers end e
        by halt end e = stop_answers end e
        by overflow end e = full_answers end e
        by (go s') end e = absurd e
