-- What the crates above ask of a setting d and a table's rows t.
--   setting_lawful, setting_bounds, setting_solvable    the laws of the problem that the theory of crate `search` asks
--   setting_counts                           no count of a run is above that of all nodes
--   choice_selection, choice_rules           the caller's choices are the setting's
--   given_known, given_valid                 a starting order is a complete node of the tree, and a partial order
--   encode-size, encode_bound, order-words    the record of a node has its size and its bound; that of an order has its cost and its words
--   call_rows, call-problem, call-choices, call_starts    a call's problem, choices and starting order are those of its setting and its table's rows
--   call-words                               and its words are those of such nodes' records
use mathlib.Core.Path.{◌≡◌, refl, ap, sym, subst, ◌∙◌}
use mathlib.Core.List.{List, [], ◌∷◌, ◌++◌, map}
use mathlib.Core.Logic.{◌⊎◌, inl, inr}
use mathlib.Core.Option.{Option}
use Prim.Native.Nat.{ℕ, ◌-◌, ◌%◌, ◌≤◌}
use native.Mathlib.Omega.{arith}
use lib.Dec.{T}
use lib.ListN.{length, take, drop, replicate}
use Rattle.sizes.specs.Sizes.{record_words, word_stops}
use Rattle.search.specs.Problem.{State, start}
use Rattle.search.specs.Run.{held, Steps}
use Rattle.search.proofs.Bounded.{Bounded, counts_bounded}
use Rattle.search.proofs.Laws.{Lawful, BoundLaws, Solvable, Weighs, KnownIn, unknown, known}
use Rattle.search.proofs.Plain.{tree}
use Rattle.search.proofs.Mapped.{ValidBest}
use Rattle.orders.specs.Orders.{Node, Partial, Order, size, nodes}
use Rattle.orders.proofs.Partial.{partial_root, partial_size}
use Rattle.orders.specs.Pairs.{pairs_of, Allowed}
use Rattle.orders.proofs.Order.{order-complete}
use Rattle.orders.proofs.Pairs.{allowed_leads}
use Rattle.days.specs.Days.{problem, choices}
use Rattle.days.proofs.Walk.{bound_exact, walk_lawful, walk_bound, day_weighs, day_solvable, problem-same}
use Rattle.stops.specs.Tables.{rows}
use Rattle.stops.specs.Bounds.{ends_away}
use Rattle.stops.specs.Stops.{day_on}
use Rattle.stops.specs.Code.{empty_record, Cheap}
use Rattle.stops.proofs.StopsWalk.{rows_walk, order_below}
use Rattle.pairs.specs.Code.{precedence_of, pairs_in}
use Rattle.pairs.proofs.GoodFile.{its_pairs, its_pairing, its_respects}
use Rattle.records.specs.Records.{order_word, pool_words}
use Rattle.records.specs.Code.{records, encode}
use Rattle.records.proofs.PoolWords.{pool_words_lem}
use Rattle.answer.specs.Call.{Call}
use Rattle.answer.specs.Answer.{day_of, given, words_of}
use Rattle.answer.specs.Answer.{problem_of as call_problem, choices_of as call_choices}
use Rattle.answer.proofs.Passes.{Passes, start_too}
use Rattle.answer.proofs.Instance.{call_cheap}
use Rattle.children.specs.Code.{Table, Rows, setting_of, pairs_by, problem_of, choices_of, encode_of}
use Rattle.children.specs.declared.setting.Setting.{Setting}

module _ (d : Setting) (t : Table) where
  pub choice_selection : (choices_of d t).selection ≡ d.selection
  unfolding choices_of choices
  choice_selection = refl

  pub choice_rules : (choices_of d t).rules ≡ d.rules
  unfolding choices_of choices
  choice_rules = refl

  setting_weighs : Weighs (problem_of d t) (λ x. nodes (d.n - size d.n x))
  unfolding problem_of
  setting_weighs = day_weighs d.n (pairs_by d) (day_on d.n t)

  pub setting_counts :
      (capacity : ℕ) (best : Option Node) → d.selection ≤ 3 → {s : State Node}
      → Steps (problem_of d t) (choices_of d t) capacity (start (problem_of d t) best) s → Bounded (nodes d.n) s
  unfolding problem_of problem
  setting_counts capacity best selects {s} steps =
      let e : size d.n [] ≡ 0 = partial_size d.n [] (partial_root d.n) in
      let whole : d.n - size d.n [] ≡ d.n = omega arith in
      subst (λ (m : ℕ). Bounded (nodes m) s) whole
      (counts_bounded (problem_of d t) (choices_of d t) capacity setting_weighs best (rw choice_selection selects) steps)

  pub given_valid : (first : List ℕ) → (first ≡ []) ⊎ Allowed d.n (pairs_by d) first → ValidBest (Partial d.n) (problem_of d t) (given first)
  unfolding problem_of problem
  given_valid [] h = tt
  given_valid (s ∷ x) (inl e) = absurd (let z : ◌≡◌ {A = ℕ} 0 1 = cc in omega arith)
  given_valid (s ∷ x) (inr a) = let o = a.order in (record { once = o.once; only = o.only }, order-complete d.n (s ∷ x) o)

  pub encode-size : (x : Node) → (encode_of d t x).size ≡ size d.n x
  unfolding encode_of encode
  encode-size x = refl

  pub encode_bound : (x : Node) → (encode_of d t x).bound ≡ (choices_of d t).bound x
  unfolding encode_of encode choices_of choices
  encode_bound x = refl

module _ {d : Setting} {t : Table} (ok : Rows d t) where
  pub setting_lawful : Lawful (tree (problem_of d t)) (size d.n) d.n
  unfolding problem_of
  setting_lawful = walk_lawful (rows_walk d.n t) (pairs_by d) ok.some

  pub setting_bounds : BoundLaws (tree (problem_of d t)) (choices_of d t).bound
  unfolding problem_of choices_of choices
  setting_bounds = walk_bound (rows_walk d.n t) (pairs_by d) d.bound ok.bound

  pub setting_solvable : Solvable (problem_of d t)
  unfolding problem_of
  setting_solvable =
      day_solvable d.n (pairs_by d) (day_on d.n t) ok.pairing (λ x a. order_below t ok.cheap d.n ok.few x a.order)

  pub given_known : (first : List ℕ) → (first ≡ []) ⊎ Allowed d.n (pairs_by d) first → KnownIn (problem_of d t) (given first)
  unfolding problem_of problem
  given_known [] h = unknown
  given_known (s ∷ x) (inl e) = absurd (let z : ◌≡◌ {A = ℕ} 0 1 = cc in omega arith)
  given_known (s ∷ x) (inr a) =
      known (s ∷ x) (order-complete d.n (s ∷ x) a.order) (allowed_leads ok.pairing (problem_of d t) (λ y. refl) (s ∷ x) a)

  pub order-words :
      (x : Node) → Order d.n x
      → ((encode_of d t x).bound ≡ (problem_of d t).cost x)
      × ((encode_of d t x).first ≡ order_word (take word_stops x)) × ((encode_of d t x).second ≡ order_word (drop word_stops x))
  unfolding encode_of encode problem_of problem
  order-words x o = (bound_exact (rows_walk d.n t) d.bound ok.bound x (order-complete d.n x o), refl, refl)

module _ (c : Call) {t : Table} (e : t ≡ rows c.job.n (ends_away c.job.bound) c.table) where
  pub call_rows : Passes c → Rows (setting_of c) t
  call_rows ok = record {
    some = ok.some;
    few = ok.priced.few;
    cheap = subst Cheap (sym e) (call_cheap c ok);
    bound = ok.bound;
    pairing = its_pairing c.job.n ok.priced.few c.pairs ok.pairs.only ok.pairs.once;
  }

  pub call-problem : Passes c → problem_of (setting_of c) t ≡ call_problem c
  unfolding problem_of call_problem day_of
  call-problem ok =
      ap (λ (u : Table). problem c.job.n (pairs_in (precedence_of c.pairs)) (day_on c.job.n u)) e
      ∙ problem-same c.job.n (pairs_in (precedence_of c.pairs)) (pairs_of c.pairs) (day_of c)
      (its_pairs c.job.n ok.priced.few c.pairs ok.pairs.only ok.pairs.once)

  -- its starting order respects the pairs that the code holds
  pub call_starts : Passes c → (c.start ≡ []) ⊎ Allowed c.job.n (pairs_by (setting_of c)) c.start
  call_starts ok = start_too go ok.start
    where
      go : Allowed c.job.n (pairs_of c.pairs) c.start → Allowed c.job.n (pairs_by (setting_of c)) c.start
      go a = record {
        order = a.order;
        respected =
            subst T (sym (its_respects c.job.n ok.priced.few c.pairs ok.pairs.only ok.pairs.once c.start)) a.respected;
      }

  pub call-choices : choices_of (setting_of c) t ≡ call_choices c
  unfolding choices_of call_choices day_of
  call-choices = ap (λ (u : Table). choices (day_on c.job.n u) c.job.selection c.job.rules c.job.bound c.budget) e

  -- a pool that has the records of the nodes to keep, and empty ones behind, has the call's words
  pub call-words :
      (s : State Node) (w : List ℕ) → length w ≡ length c.pool → length w % record_words ≡ 0
      → records w
      ≡ map (encode_of (setting_of c) t) (held c.job.rules s)
      ++ replicate (length (records w) - length (held c.job.rules s)) empty_record
      → w ≡ words_of c s
  unfolding words_of pool_words day_of encode_of
  call-words s w long whole layout =
      rw (sym long)
      (pool_words_lem c.job.n (day_of c) c.job.bound w (held c.job.rules s) whole (rw e at layout))
