-- A problem and its image under a map f of nodes, and that choosing and learning commute with the map.
--   Maps f Valid P Q C D    of valid nodes, Q and D say of f x what P and C say of x; the root is valid, and so is a valid node's child
--   map_choice, map_state, map_next    a choice, a state and what comes next, with each node mapped
--   ValidState              the nodes of a state are valid, and its best node is complete
--   select_maps, finishes_maps, learn_maps    the selection, the finish test and part 2 of a step commute with the map
-- That a step does so is in `MappedStep`, that runs do in `MappedRun`.
use mathlib.Core.Path.{◌≡◌, refl, ap, ◌∙◌}
use mathlib.Core.Bool.{Bool, true, false, not, ◌&&◌, cond}
use mathlib.Core.List.Memᴰ
use mathlib.Core.List.{List, [], ◌∷◌, map}
use mathlib.Core.Logic.{◌⊎◌, inl, inr}
use mathlib.Core.Option
use mathlib.Core.Option.{Option, none, some}
use Prim.Native.Nat.{ℕ, zero, suc}
use lib.Dec.{T}
use Rattle.lists.specs.Lists.{In}
use Rattle.lists.proofs.Members.{in_head}
use Rattle.lists.proofs.Map.{least-map}
use Rattle.search.specs.Problem.{Problem, Choices, State, upper}
use Rattle.search.specs.Selection.{Choice, nothing, chosen, behind, or_else, earliest, latest, lowest, lowest_open, select_by, select, finishes}
use Rattle.search.specs.Step.{better, replace, learn}
use Rattle.search.specs.Run.{Next, finish, halt, overflow, go}
use Rattle.search.proofs.Learn.{taught, taught_cases, learn_keeps}

pub record Maps
    {N M : Type 0} (f : N → M) (Valid : N → Type 0) (P : Problem N) (Q : Problem M) (C : Choices N) (D : Choices M)
    : Type 0 where
  pub root : Q.root ≡ f P.root
  pub root_valid : Valid P.root
  pub children : (x : N) → Valid x → Q.children (f x) ≡ map f (P.children x)
  pub children_valid : (x c : N) → Valid x → In c (P.children x) → Valid c
  pub complete : (x : N) → Valid x → Q.complete (f x) ≡ P.complete x
  pub cost : (x : N) → Valid x → T (P.complete x) → Q.cost (f x) ≡ P.cost x
  pub dominates : (w x : N) → Valid w → Valid x → Q.dominates (f w) (f x) ≡ P.dominates w x
  -- of complete nodes, for only these are compared
  pub smaller : (x y : N) → Valid x → Valid y → T (P.complete x) → T (P.complete y) → Q.smaller (f x) (f y) ≡ P.smaller x y
  pub above : Q.above ≡ P.above
  pub selection : D.selection ≡ C.selection
  pub rules : D.rules ≡ C.rules
  pub bound : (x : N) → Valid x → D.bound (f x) ≡ C.bound x
  pub budget : D.budget ≡ C.budget

module _ {N M : Type 0} (f : N → M) where
  abbrev pub map_choice : Choice N → Choice M
  map_choice nothing = nothing
  map_choice (chosen b rest) = chosen (f b) (map f rest)

  abbrev pub map_state : State N → State M
  map_state s = record {
    active = map f s.active;
    branched = map f s.branched;
    best = Option.map f s.best;
    generated = s.generated;
    eliminated = s.eliminated;
    most = s.most;
  }

  abbrev pub map_next : Next N → Next M
  map_next finish = finish
  map_next halt = halt
  map_next overflow = overflow
  map_next (go s) = go (map_state s)

-- all of xs are valid
abbrev pub AllValid : {N : Type 0} → (N → Type 0) → List N → Type 0
AllValid {N} Valid xs = (x : N) → In x xs → Valid x

abbrev pub ValidChoice : {N : Type 0} → (N → Type 0) → Choice N → Type 0
ValidChoice Valid nothing = Unit {0}
ValidChoice Valid (chosen b rest) = Valid b × AllValid Valid rest

-- an order that is known is complete
abbrev pub ValidBest : {N : Type 0} → (N → Type 0) → Problem N → Option N → Type 0
ValidBest Valid P none = Unit {0}
ValidBest Valid P (some x) = Valid x × T (P.complete x)

pub record ValidState {N : Type 0} (Valid : N → Type 0) (P : Problem N) (s : State N) : Type 0 where
  pub active : AllValid Valid s.active
  pub branched : AllValid Valid s.branched
  pub best : ValidBest Valid P s.best

-- What is chosen of valid nodes, and what is learnt of them, is valid.
module _ {N : Type 0} (Valid : N → Type 0) where
  valid_tail : (x : N) (xs : List N) → AllValid Valid (x ∷ xs) → AllValid Valid xs
  valid_tail x xs valid y m = valid y (Memᴰ.tail m)

  valid_cons : (x : N) (xs : List N) → Valid x → AllValid Valid xs → AllValid Valid (x ∷ xs)
  valid_cons x xs v valid y m = cases (Memᴰ.cases_cons m)
    where
      cases : (y ≡ x) ⊎ In y xs → Valid y
      cases (inl e) = rw e v
      cases (inr k) = valid y k

  behind_valid : (x : N) → Valid x → (c : Choice N) → ValidChoice Valid c → ValidChoice Valid (behind x c)
  behind_valid x v nothing h = tt
  behind_valid x v (chosen b rest) h = (h.0, valid_cons x rest v h.1)

  or_else_valid : (c d : Choice N) → ValidChoice Valid c → ValidChoice Valid d → ValidChoice Valid (or_else c d)
  or_else_valid nothing d h k = k
  or_else_valid (chosen b rest) d h k = h

  cond_valid : (b : Bool) (c d : Choice N) → ValidChoice Valid c → ValidChoice Valid d → ValidChoice Valid (cond b c d)
  cond_valid true c d h k = h
  cond_valid false c d h k = k

  module _ (test : N → Bool) where
    earliest_valid : (xs : List N) → AllValid Valid xs → ValidChoice Valid (earliest test xs)
    earliest_valid [] valid = tt
    earliest_valid (x ∷ xs) valid =
        cond_valid (test x) (chosen x xs) (behind x (earliest test xs)) (valid x in_head, valid_tail x xs valid)
        (behind_valid x (valid x in_head) (earliest test xs) (earliest_valid xs (valid_tail x xs valid)))

    latest_valid : (xs : List N) → AllValid Valid xs → ValidChoice Valid (latest test xs)
    latest_valid [] valid = tt
    latest_valid (x ∷ xs) valid =
        or_else_valid (behind x (latest test xs)) (cond (test x) (chosen x xs) nothing)
        (behind_valid x (valid x in_head) (latest test xs) (latest_valid xs (valid_tail x xs valid)))
        (cond_valid (test x) (chosen x xs) nothing (valid x in_head, valid_tail x xs valid) tt)

  module _ (P : Problem N) (bound : N → ℕ) where
    select_by_valid : (k : ℕ) (xs : List N) → AllValid Valid xs → ValidChoice Valid (select_by P bound k xs)
    unfolding select_by
    select_by_valid zero xs valid =
        or_else_valid (earliest (lowest_open P bound xs) xs) (earliest (lowest bound xs) xs) (earliest_valid _ xs valid) (earliest_valid _ xs valid)
    select_by_valid (suc zero) xs valid =
        or_else_valid (latest (lowest_open P bound xs) xs) (latest (lowest bound xs) xs) (latest_valid _ xs valid) (latest_valid _ xs valid)
    select_by_valid (suc (suc zero)) xs valid = earliest_valid (λ x. true) xs valid
    select_by_valid (suc (suc (suc zero))) xs valid =
        or_else_valid (latest (λ x. not (P.complete x)) xs) (latest (λ x. true) xs) (latest_valid _ xs valid) (latest_valid (λ x. true) xs valid)
    select_by_valid (suc (suc (suc (suc k)))) xs valid = tt

  pub select_valid : (P : Problem N) (C : Choices N) (xs : List N) → AllValid Valid xs → ValidChoice Valid (select P C xs)
  unfolding select
  select_valid P C xs valid = select_by_valid P C.bound C.selection xs valid

  pub learn_valid :
      (P : Problem N) (best : Option N) (cs : List N) → ValidBest Valid P best → AllValid Valid cs → ValidBest Valid P (learn P best cs)
  learn_valid P best cs valid all = learn_keeps P (ValidBest Valid P) best cs valid (λ o c m whole first h. (all c m, whole))

-- The selections of document 01 commute with the map, wherever their tests do.
module _ {N M : Type 0} (f : N → M) where
  behind-map : (x : N) (c : Choice N) → behind (f x) (map_choice f c) ≡ map_choice f (behind x c)
  behind-map x nothing = refl
  behind-map x (chosen b rest) = refl

  or_else_map : (c d : Choice N) → or_else (map_choice f c) (map_choice f d) ≡ map_choice f (or_else c d)
  or_else_map nothing d = refl
  or_else_map (chosen b rest) d = refl

  cond_map : (b : Bool) (c d : Choice N) → cond b (map_choice f c) (map_choice f d) ≡ map_choice f (cond b c d)
  cond_map true c d = refl
  cond_map false c d = refl

  module _ (p : N → Bool) (q : M → Bool) where
    earliest-map : (xs : List N) → ((x : N) → In x xs → q (f x) ≡ p x) → earliest q (map f xs) ≡ map_choice f (earliest p xs)
    earliest-map [] same = refl
    earliest-map (x ∷ xs) same =
        rw (same x in_head, earliest-map xs (λ y m. same y (Memᴰ.tail m)), behind-map x (earliest p xs))
        (cond_map (p x) (chosen x xs) (behind x (earliest p xs)))

    latest-map : (xs : List N) → ((x : N) → In x xs → q (f x) ≡ p x) → latest q (map f xs) ≡ map_choice f (latest p xs)
    latest-map [] same = refl
    latest-map (x ∷ xs) same =
        rw (
          same x in_head,
          latest-map xs (λ y m. same y (Memᴰ.tail m)),
          behind-map x (latest p xs),
          cond_map (p x) (chosen x xs) nothing,
        )
        (or_else_map (behind x (latest p xs)) (cond (p x) (chosen x xs) nothing))

module _
    {N M : Type 0} {f : N → M} {Valid : N → Type 0} {P : Problem N} {Q : Problem M} {C : Choices N} {D : Choices M}
    (maps : Maps f Valid P Q C D)
  where
    lowest_maps :
        (xs : List N) → AllValid Valid xs → (x : N) → In x xs → lowest D.bound (map f xs) (f x) ≡ lowest C.bound xs x
    lowest_maps xs valid x m =
        rw (maps.bound x (valid x m), least-map f C.bound D.bound xs (λ y k. maps.bound y (valid y k)))

    open_maps :
        (xs : List N) → AllValid Valid xs → (x : N) → In x xs → lowest_open Q D.bound (map f xs) (f x) ≡ lowest_open P C.bound xs x
    open_maps xs valid x m = rw (lowest_maps xs valid x m, maps.complete x (valid x m))

    select_by_maps :
        (k : ℕ) (xs : List N) → AllValid Valid xs → select_by Q D.bound k (map f xs) ≡ map_choice f (select_by P C.bound k xs)
    unfolding select_by
    select_by_maps zero xs valid =
        rw (
          earliest-map f (lowest_open P C.bound xs) (lowest_open Q D.bound (map f xs)) xs (open_maps xs valid),
          earliest-map f (lowest C.bound xs) (lowest D.bound (map f xs)) xs (lowest_maps xs valid),
        )
        (or_else_map f (earliest (lowest_open P C.bound xs) xs) (earliest (lowest C.bound xs) xs))
    select_by_maps (suc zero) xs valid =
        rw (
          latest-map f (lowest_open P C.bound xs) (lowest_open Q D.bound (map f xs)) xs (open_maps xs valid),
          latest-map f (lowest C.bound xs) (lowest D.bound (map f xs)) xs (lowest_maps xs valid),
        )
        (or_else_map f (latest (lowest_open P C.bound xs) xs) (latest (lowest C.bound xs) xs))
    select_by_maps (suc (suc zero)) xs valid = earliest-map f (λ x. true) (λ x. true) xs (λ x m. refl)
    select_by_maps (suc (suc (suc zero))) xs valid =
        rw (
          latest-map f (λ x. not (P.complete x)) (λ x. not (Q.complete x)) xs (λ x m. ap not (maps.complete x (valid x m))),
          latest-map f (λ x. true) (λ x. true) xs (λ x m. refl),
        )
        (or_else_map f (latest (λ x. not (P.complete x)) xs) (latest (λ x. true) xs))
    select_by_maps (suc (suc (suc (suc k)))) xs valid = refl

    pub select_maps : (xs : List N) → AllValid Valid xs → select Q D (map f xs) ≡ map_choice f (select P C xs)
    unfolding select
    select_maps xs valid = rw maps.selection (select_by_maps C.selection xs valid)

    pub upper_maps : (best : Option N) → ValidBest Valid P best → upper Q (Option.map f best) ≡ upper P best
    upper_maps none valid = maps.above
    upper_maps (some x) valid = maps.cost x valid.0 valid.1

    pub finishes_maps : (b : N) → Valid b → finishes Q (f b) ≡ finishes P b
    unfolding finishes
    finishes_maps b v = maps.complete b v

    better_maps :
        (c : N) (best : Option N) → Valid c → T (P.complete c) → ValidBest Valid P best → better Q (f c) (Option.map f best) ≡ better P c best
    better_maps c none v whole valid = rw (maps.cost c v whole, maps.above)
    better_maps c (some x) v whole valid =
        rw (maps.cost c v whole, maps.cost x valid.0 valid.1, maps.smaller c x v valid.0 whole valid.1)

    -- a child is held against what is known only if it is complete
    taught_maps :
        (best : Option N) (c : N) → ValidBest Valid P best → Valid c
        → taught Q (Option.map f best) (f c) ≡ Option.map f (taught P best c)
    taught_maps best c valid v = rw (maps.complete c v) (cases (P.complete c) (λ whole. better_maps c best v whole valid))
      where
        replaced : (b : Bool) → replace b (f c) (Option.map f best) ≡ Option.map f (replace b c best)
        replaced true = refl
        replaced false = refl

        cases :
            (w : Bool) → (T w → better Q (f c) (Option.map f best) ≡ better P c best)
            → replace (w && better Q (f c) (Option.map f best)) (f c) (Option.map f best) ≡ Option.map f (replace (w && better P c best) c best)
        cases true same = rw (same tt) (replaced (better P c best))
        cases false same = refl

    pub learn_maps :
        (best : Option N) (cs : List N) → ValidBest Valid P best → AllValid Valid cs
        → learn Q (Option.map f best) (map f cs) ≡ Option.map f (learn P best cs)
    learn_maps best [] valid all = refl
    learn_maps best (c ∷ cs) valid all =
        ap (λ (o : Option M). learn Q o (map f cs)) (taught_maps best c valid (all c in_head))
        ∙ learn_maps (taught P best c) cs
        (taught_cases P (ValidBest Valid P) best c (λ whole first. (all c in_head, whole)) valid) (valid_tail Valid c cs all)
