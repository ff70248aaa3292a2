-- What the theory asks of a tree, a selection and a bound, and how what is known is ordered (request A.8). Statements only.
use mathlib.Core.Path.{◌≡◌}
use mathlib.Core.Bool.{false}
use mathlib.Core.Logic.{◌⊎◌}
use mathlib.Core.Option.{Option, none, some}
use Prim.Native.Nat.{ℕ, suc, ◌+◌, ◌≤◌, ◌<◌}
use lib.Dec.{T}
use Rattle.lists.specs.Lists.{In, sum}
use Rattle.search.specs.Problem.{Problem}
use Rattle.search.proofs.General.{Tree, Plan}

-- What is known, in order: the cheaper first and, of equal costs, the smaller order. "None" is worth `above`, and goes before an order of
-- that cost, so that the written test while none is known, "cheaper than U", is the same test.
abbrev pub Le : {N : Type 0} → Problem N → Option N → Option N → Type 0
Le P none none = Unit {0}
Le P none (some y) = P.above ≤ P.cost y
Le P (some x) none = P.cost x < P.above
Le P (some x) (some y) = (P.cost x ≤ P.cost y) × (P.cost x ≡ P.cost y → T (P.smaller y x) → ⊥)

-- What the comparison of orders must be: one_way, and of x, y and z, none of which is smaller than the one before it, z is not smaller than x.
pub record Ties {N : Type 0} (P : Problem N) : Type 0 where
  pub one_way : (x y : N) → T (P.smaller x y) → T (P.smaller y x) → ⊥
  pub through : (x y z : N) → (T (P.smaller y x) → ⊥) → (T (P.smaller z y) → ⊥) → T (P.smaller z x) → ⊥

-- y is reached from x by children
pub data Leads {N : Type 0} (P : Problem N) : N → N → Type 0 where
  stay : {x : N} → Leads P x x
  down : {x c y : N} → In c (P.children x) → Leads P c y → Leads P x y

-- some complete node reached from x is no dearer than what v knows and, where it costs the same, no larger
pub record Good {N : Type 0} (P : Problem N) (v : Option N) (x : N) : Type 0 where
  pub leaf : N
  pub leads : Leads P x leaf
  pub whole : T (P.complete leaf)
  pub cheap : Le P (some leaf) v

-- Sizes rise by one from a node to its children, up to a limit at which just the complete nodes stand.
pub record Sized {N : Type 0} (P : Problem N) (size : N → ℕ) (limit : ℕ) : Type 0 where
  pub small : (x : N) → size x ≤ limit
  pub child : (b c : N) → In c (P.children b) → size c ≡ suc (size b)
  pub whole : (x : N) → T (P.complete x) → limit ≤ size x
  pub full : (x : N) → limit ≤ size x → T (P.complete x)

pub record Lawful {N : Type 0} (t : Tree N) (size : N → ℕ) (limit : ℕ) : Type 0 where
  pub sized : Sized t.problem size limit
  pub unfinished : T (t.problem.complete t.problem.root) → ⊥
  pub ties : Ties t.problem
  -- dominance is sound: what is good in x is as good in what dominates x, where both are nodes of the tree
  pub swap :
      (v : Option N) (w x : N) → Leads t.problem t.problem.root w → Leads t.problem t.problem.root x
      → T (t.problem.dominates w x) → Good t.problem v x → Good t.problem v w
  pub trans : (w x y : N) → T (t.problem.dominates w x) → T (t.problem.dominates x y) → (w ≡ y) ⊎ T (t.problem.dominates w y)
  pub level : (w x : N) → T (t.problem.dominates w x) → size x ≤ size w

pub record BoundLaws {N : Type 0} (t : Tree N) (bound : N → ℕ) : Type 0 where
  pub grows : (b c : N) → In c (t.problem.children b) → bound b ≤ bound c
  pub exact : (x : N) → T (t.problem.complete x) → bound x ≡ t.problem.cost x
  pub fair : (w x : N) → T (t.problem.dominates w x) → bound w ≤ bound x

-- How a selection lets a run end at a complete node b: every active node is then complete or has a greater bound.
pub data Manner {N : Type 0} (t : Tree N) (p : Plan N) (bound : N → ℕ) : Type 0 where
  -- the ranks say so: under a least bound an incomplete node goes before a complete one of its bound, under LIFO before every complete one
  ranked :
      ((b x : N) → T (t.problem.complete b) → p.rank b ≤ p.rank x → T (t.problem.complete x) ⊎ (bound b < bound x)) → Manner t p bound
  -- FIFO: the earliest is chosen
  queue : p.late ≡ false → ((x y : N) → p.rank x ≡ p.rank y) → Manner t p bound

-- A node weighs more than its children together: each step makes the active nodes lighter.
abbrev pub Weighs : {N : Type 0} → Problem N → (N → ℕ) → Type 0
Weighs {N} P weight = (b : N) → sum weight (P.children b) < weight b

-- Dead children are added to a count.
abbrev pub Adds : {N : Type 0} → Tree N → Type 0
Adds {N} t = (b : N) (k : ℕ) → t.with_dead b k ≡ k + t.with_dead b 0

-- A known order is a complete node of the tree.
pub data KnownIn {N : Type 0} (P : Problem N) : Option N → Type 0 where
  unknown : KnownIn P none
  known : (x : N) → T (P.complete x) → Leads P P.root x → KnownIn P (some x)

-- Some complete node of the tree costs less than "above every cost".
abbrev pub Solvable : {N : Type 0} → Problem N → Type 0
Solvable {N} P = (y : N) × T (P.complete y) × Leads P P.root y × (P.cost y < P.above)
