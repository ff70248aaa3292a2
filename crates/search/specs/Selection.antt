-- The four selections and the finish test: document 01, "One run"; document 02, A.8.
use Rattle.std.specs.Prelude.{Bool, true, not, ◌&&◌, cond, List, [], ◌∷◌, ℕ, zero, suc, eqb}
use Rattle.lists.specs.Lists.{least}
use Rattle.search.specs.Problem.{Problem, Choices}

-- The node that is branched, and the other active nodes in their order.
pub data Choice (N : Type 0) : Type 0 where
  nothing : Choice N
  chosen : (b : N) (rest : List N) → Choice N

-- the choice was made behind x, which stays in front
abbrev pub behind : {N : Type 0} → N → Choice N → Choice N
behind x nothing = nothing
behind x (chosen b rest) = chosen b (x ∷ rest)

abbrev pub or_else : {N : Type 0} → Choice N → Choice N → Choice N
or_else nothing other = other
or_else (chosen b rest) other = chosen b rest

-- the earliest generated node that passes the test
abbrev pub earliest : {N : Type 0} → (N → Bool) → List N → Choice N
earliest test [] = nothing
earliest test (x ∷ xs) = cond (test x) (chosen x xs) (behind x (earliest test xs))

-- the latest generated node that passes the test
abbrev pub latest : {N : Type 0} → (N → Bool) → List N → Choice N
latest test [] = nothing
latest test (x ∷ xs) = or_else (behind x (latest test xs)) (cond (test x) (chosen x xs) nothing)

-- x is one of the nodes with the least bound; and it is one of those that are not complete
abbrev pub lowest : {N : Type 0} → (N → ℕ) → List N → N → Bool
lowest bound active x = eqb (bound x) (least bound active)

abbrev pub lowest_open : {N : Type 0} → Problem N → (N → ℕ) → List N → N → Bool
lowest_open P bound active x = lowest bound active x && not (P.complete x)

-- The node to branch, by selection. LLB: of the nodes with the least bound the earliest (0) or the latest (1) that is not complete or, where
-- each of them is, the earliest or the latest (request A.8). FIFO (2): the earliest of all. LIFO (3): the latest that is not complete or, where
-- every node is, the latest. Any other has cause 4.
unfoldable pub select_by : {N : Type 0} → Problem N → (N → ℕ) → ℕ → List N → Choice N
select_by P bound zero active = or_else (earliest (lowest_open P bound active) active) (earliest (lowest bound active) active)
select_by P bound (suc zero) active = or_else (latest (lowest_open P bound active) active) (latest (lowest bound active) active)
select_by P bound (suc (suc zero)) active = earliest (λ x. true) active
select_by P bound (suc (suc (suc zero))) active = or_else (latest (λ x. not (P.complete x)) active) (latest (λ x. true) active)
select_by P bound (suc (suc (suc (suc k)))) active = nothing

unfoldable pub select : {N : Type 0} → Problem N → Choices N → List N → Choice N
select P C active = select_by P C.bound C.selection active

-- The finish test of the chosen node: that it is complete (request A.8). No bound ends a run.
unfoldable pub finishes : {N : Type 0} → Problem N → N → Bool
finishes P b = P.complete b
