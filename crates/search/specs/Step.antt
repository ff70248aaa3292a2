-- One step in its seven parts, in their sequence: document 01, "One run"; document 02, A.8. b is the chosen node, rest the other active nodes. No child is
-- held against its siblings.
use Rattle.std.specs.Prelude.{Bool, true, false, not, ◌&&◌, ◌||◌, List, [], ◌∷◌, ◌++◌, ℕ, ◌+◌, ◌/◌, ◌%◌, max, ltb, eqb, length}
use Rattle.std.proofs.Math.Option.{Option, none, some}
use Rattle.lists.specs.Lists.{keep, any}
use Rattle.search.specs.Problem.{Problem, Choices, State, upper}

-- whether rule 1, 2, 4 or 8 is in the sum of the rules that are chosen
abbrev pub on : ℕ → ℕ → Bool
on rule rules = eqb (rules / rule % 2) 1

-- the nodes that a test does not eliminate, and how many it does
abbrev pub survivors : {N : Type 0} → (N → Bool) → List N → List N
survivors eliminates xs = keep (λ x. not (eliminates x)) xs

abbrev pub lost : {N : Type 0} → (N → Bool) → List N → ℕ
lost eliminates xs = length (keep eliminates xs)

-- the complete child c goes before the best order known: it is cheaper or, where it costs the same, smaller (request A.8); while none is known, it is
-- cheaper than U
abbrev pub better : {N : Type 0} → Problem N → N → Option N → Bool
better P c none = ltb (P.cost c) (upper P none)
better P c (some x) = ltb (P.cost c) (upper P (some x)) || eqb (P.cost c) (upper P (some x)) && P.smaller c x

-- the best order known after some children: a complete one that goes before it takes its place
abbrev pub replace : {N : Type 0} → Bool → N → Option N → Option N
replace true c best = some c
replace false c best = best

abbrev pub learn : {N : Type 0} → Problem N → Option N → List N → Option N
learn P best [] = best
learn P best (c ∷ cs) = learn P (replace (P.complete c && better P c best) c best) cs

module _ {N : Type 0} (P : Problem N) (C : Choices N) (s : State N) (b : N) (rest : List N) where
  -- Part 1. b is active no more, which leaves rest. All its children are generated.
  unfoldable pub children₁ : List N
  children₁ = P.children b

  -- Part 2. The best order known, and so U, with the children looked at.
  unfoldable pub best₂ : Option N
  best₂ = learn P s.best children₁

  -- Part 3, rule 1 (U/DBAS): no child and no active node stays whose bound is above U, which is that of part 2. A bound of U stays.
  unfoldable pub over₃ : N → Bool
  over₃ x = on 1 C.rules && ltb (upper P best₂) (C.bound x)

  unfoldable pub children₃ : List N
  children₃ = survivors over₃ children₁

  unfoldable pub rest₃ : List N
  rest₃ = survivors over₃ rest

  -- Part 4, rule 2 (AS/DB): no child stays that one of the active nodes dominates (`any` looks no further than the first that does).
  unfoldable pub dominated₄ : N → Bool
  dominated₄ x = on 2 C.rules && any (λ w. P.dominates w x) rest₃

  unfoldable pub children₄ : List N
  children₄ = survivors dominated₄ children₃

  -- Part 5, rule 4 (BFS/DB): no child stays that one of the nodes branched before b dominates.
  unfoldable pub dominated₅ : N → Bool
  dominated₅ x = on 4 C.rules && any (λ w. P.dominates w x) s.branched

  unfoldable pub children₅ : List N
  children₅ = survivors dominated₅ children₄

  -- Part 6, rule 8 (DB/AS): no active node stays that a child which is left dominates.
  unfoldable pub dominated₆ : N → Bool
  dominated₆ x = on 8 C.rules && any (λ w. P.dominates w x) children₅

  unfoldable pub rest₆ : List N
  rest₆ = survivors dominated₆ rest₃

  -- Part 7. The children that are left stand behind the active nodes that are left, each in their order.
  unfoldable pub active₇ : List N
  active₇ = rest₆ ++ children₅

  unfoldable pub step : State N
  step = record {
    active = active₇;
    branched = s.branched ++ (b ∷ []);
    best = best₂;
    generated = s.generated + length children₁;
    eliminated =
        s.eliminated + lost over₃ children₁ + lost over₃ rest + lost dominated₄ children₃ + lost dominated₅ children₄
        + lost dominated₆ rest₃;
    most = max s.most (length active₇);
  }
