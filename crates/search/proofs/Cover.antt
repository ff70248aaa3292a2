-- When a node stands for another: it is that node or dominates it. A node is covered in a state if an active or a BRANCHED node stands
-- for it. `Covered v`: while v is what is known or goes before it, the root and every child of a branched node, if they are good at v,
-- are covered. `Sound`: what else holds of every state of a run. Here: these notions, and what the laws say of them.
-- That a step keeps both is in `CoverStep`.
use mathlib.Core.Path.{◌≡◌}
use mathlib.Core.Logic.{◌⊎◌, inl, inr}
use mathlib.Core.Option.{Option, some}
use Prim.Native.Nat.{ℕ, ◌≤◌}
use native.Mathlib.Omega.{arith}
use lib.Dec.{T}
use Rattle.lists.specs.Lists.{In}
use Rattle.search.specs.Problem.{Problem, State, upper}
use Rattle.search.proofs.General.{Tree}
use Rattle.search.proofs.Laws.{Le, Leads, stay, down, Good, Sized, Lawful, BoundLaws, KnownIn, unknown, known, Solvable}
use Rattle.search.proofs.Values.{le_upper, le_refl}

module _ {N : Type 0} (P : Problem N) where
  -- w stands for x
  abbrev pub Covers : N → N → Type 0
  Covers w x = (w ≡ x) ⊎ T (P.dominates w x)

  abbrev pub Live : State N → N → Type 0
  Live s w = In w s.active ⊎ In w s.branched

  pub record Cover (s : State N) (x : N) : Type 0 where
    pub by : N
    pub live : Live s by
    pub covers : Covers by x

  pub record Covered (v : Option N) (s : State N) : Type 0 where
    pub root_covered : Le P v s.best → Good P v P.root → Cover s P.root
    pub child : Le P v s.best → (z x : N) → In z s.branched → In x (P.children z) → Good P v x → Cover s x

  pub record Sound (s : State N) : Type 0 where
    -- a branched node is not complete
    pub partial : (z : N) → In z s.branched → T (P.complete z) → ⊥
    -- a complete active node has been learnt from
    pub leaves : (x : N) → In x s.active → T (P.complete x) → Le P s.best (some x)
    -- an active or branched node is a node of the tree
    pub inside : (x : N) → Live s x → Leads P P.root x
    pub known : KnownIn P s.best

module _ {N : Type 0} {P : Problem N} where
  pub leads_on : {x y c : N} → Leads P x y → In c (P.children y) → Leads P x c
  leads_on stay m = down m stay
  leads_on (down k l) m = down k (leads_on l m)

  -- a good node is the leaf itself, or a child of it is as good
  pub good_cases :
      (v : Option N) (x : N) → Good P v x → (T (P.complete x) × Le P (some x) v) ⊎ ((c : N) × In c (P.children x) × Good P v c)
  good_cases v x g = go g.leads g.whole g.cheap
    where
      go :
          {x leaf : N} → Leads P x leaf → T (P.complete leaf) → Le P (some leaf) v
          → (T (P.complete x) × Le P (some x) v) ⊎ ((c : N) × In c (P.children x) × Good P v c)
      go stay whole cheap = inl (whole, cheap)
      go (down {c} {y} m l) whole cheap = inr (c, m, record { leaf = y; leads = l; whole = whole; cheap = cheap })

  -- a complete node has no child: it is its own leaf
  pub complete_good :
      (size : N → ℕ) (limit : ℕ) → Sized P size limit → (v : Option N) (x : N) → T (P.complete x) → Good P v x → Le P (some x) v
  complete_good size limit sized v x whole g = go (good_cases v x g)
    where
      go : (T (P.complete x) × Le P (some x) v) ⊎ ((c : N) × In c (P.children x) × Good P v c) → Le P (some x) v
      go (inl h) = h.1
      go (inr (c, m, k)) = absurd (omega (arith, sized.child x c m, sized.small c, sized.whole x whole))

-- the bound of a node is at most the cost of what it is good at: it grows along the way to the leaf and is exact there
pub good_bound :
    {N : Type 0} {t : Tree N} {bound : N → ℕ} → BoundLaws t bound → (v : Option N) (x : N) → Good t.problem v x
    → bound x ≤ upper t.problem v
good_bound {N} {t} {bound} bounds v x g = go x g.leaf g.leads g.whole (le_upper t.problem (some g.leaf) v g.cheap)
  where
    u : ℕ
    u = upper t.problem v

    go : (x leaf : N) → Leads t.problem x leaf → T (t.problem.complete leaf) → t.problem.cost leaf ≤ u → bound x ≤ u
    go x leaf stay whole cheap = omega (arith, bounds.exact x whole)
    go x leaf (down {c} m l) whole cheap =
        let rest : bound c ≤ u = go c leaf l whole cheap in let first : bound x ≤ bound c = bounds.grows x c m in omega arith

module _ {N : Type 0} {t : Tree N} {size : N → ℕ} {limit : ℕ} (lawful : Lawful t size limit) where
  pub covers_good :
      (v : Option N) (w x : N) → Leads t.problem t.problem.root w → Leads t.problem t.problem.root x
      → Covers t.problem w x → Good t.problem v x → Good t.problem v w
  covers_good v w x lw lx (inl e) g = rw e g
  covers_good v w x lw lx (inr d) g = lawful.swap v w x lw lx d g

  pub covers_size : (w x : N) → Covers t.problem w x → size x ≤ size w
  covers_size w x (inl e) = rw e (omega arith)
  covers_size w x (inr d) = lawful.level w x d

  pub covers_trans : (n w x : N) → T (t.problem.dominates n w) → Covers t.problem w x → Covers t.problem n x
  covers_trans n w x d (inl e) = inr (rw (← e) d)
  covers_trans n w x d (inr k) = lawful.trans n w x d k

  -- what leads to a complete node is as good as it
  pub leaf_good : (x y : N) → T (t.problem.complete y) → Leads t.problem x y → Good t.problem (some y) x
  leaf_good x y whole leads = record { leaf = y; leads = leads; whole = whole; cheap = le_refl lawful.ties (some y) }

  -- the root is as good as what is known, be it an order or "above every cost"
  pub root_good : Solvable t.problem → (best : Option N) → KnownIn t.problem best → Good t.problem best t.problem.root
  root_good (y, whole, leads, cheap) best unknown = record { leaf = y; leads = leads; whole = whole; cheap = cheap }
  root_good solvable best (known x whole leads) = leaf_good t.problem.root x whole leads

  -- so its bound is within the upper cost
  pub root_within :
      {bound : N → ℕ} → BoundLaws t bound → Solvable t.problem → (best : Option N) → KnownIn t.problem best
      → bound t.problem.root ≤ upper t.problem best
  root_within bounds solvable best k = good_bound bounds best t.problem.root (root_good solvable best k)
