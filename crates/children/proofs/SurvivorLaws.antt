-- Laws of the passes of rules 1, 2 and 4 over the children in their slots.
--   thinned_on, thinned_off    a pass keeps what passes its test if its rule is on, and all if it is off
--   thinned_active, thinned_far    one by a lane of the pool is one by the nodes that the lane shows
--   limit_below, limit-same, limit-all    the limit of rule 1 is below the bound of gone records; for others it is U, or none where the rule is off
--   survivors-kept             passes by the three rules are one by `survives`
use mathlib.Core.Path.{◌≡◌, refl, sym, ◌∙◌}
use mathlib.Core.Bool.{Bool, true, false, cond}
use mathlib.Core.List.{List}
use Prim.Native.Nat.{ℕ, ◌^◌, ◌≤◌, ◌<◌}
use native.Mathlib.Omega.{arith}
use borrow.Author.Tests.{ltb-true, ltb-false, le-leb}
use lib.Dec.{leb, ltb}
use Rattle.sizes.specs.Sizes.{most_stops}
use Rattle.lists.specs.Lists.{keep}
use Rattle.lists.proofs.Keep.{keep_all, keep-keep}
use Rattle.search.specs.Step.{on}
use Rattle.stops.specs.declared.node_record.Record.{Record}
use Rattle.records.specs.Code.{Thinned}
use Rattle.records.proofs.SlotLaws.{thinned_all, thinned_same}
use Rattle.lanes.specs.Sizes.{gone, every_bound}
use Rattle.lanes.specs.Code.{is_within, live_of, far_of, lane_of}
use Rattle.lanes.specs.declared.layout.Layout.{Layout}
use Rattle.chains.specs.Code.{is_free}
use Rattle.chains.proofs.LaneLaws.{free-front, free-far}
use Rattle.pool.specs.Code.{Laid}
use Rattle.children.specs.Code.{limit_of, passing, survivors_of, ruled, survives}

module _ {rule : Bool} where
  pub thinned_on :
      {test : Record → Bool} {l : List Record} {m r : ℕ} → rule ≡ true → Thinned test l m r → Thinned (ruled rule test) l m r
  thinned_on e thinned = rw e thinned

  pub thinned_off : (test : Record → Bool) {l : List Record} {m : ℕ} → rule ≡ false → m < 2 ^ most_stops → Thinned (ruled rule test) l m m
  thinned_off test {l} {m} e small = rw e (thinned_all (λ x. true) l m small (λ x i. tt))

-- a pass by a lane of the pool is one by the nodes that the lane shows
module _ {recs : List Record} {p : Layout} {index : List ℕ} (laid : Laid recs p index) {l : List Record} {m r : ℕ} where
  pub thinned_active :
      (limit : ℕ) → limit < gone → Thinned (is_free limit (lane_of recs 0 p.used)) l m r → Thinned (is_free limit (live_of p.used recs)) l m r
  thinned_active limit below thinned =
      thinned_same thinned (λ x i. free-front limit recs x below p.used (omega (arith, laid.whole, laid.fits)))

  pub thinned_far :
      (limit : ℕ) → Thinned (is_free limit (lane_of recs p.capacity p.far)) l m r → Thinned (is_free limit (far_of p.far recs)) l m r
  thinned_far limit thinned =
      thinned_same (rw laid.whole at thinned)
      (λ x i. free-far limit recs x p.far (omega (arith, laid.whole, laid.some)) (omega (arith, laid.whole, laid.fits)))

-- the limit of rule 1 keeps what U keeps, and all where the rule is off; gone records are above it
pub limit_below : (rule : Bool) (u : ℕ) → limit_of rule u < gone
unfolding limit_of
limit_below false u = omega arith
limit_below true u = go (ltb every_bound u) refl
  where
    go : (b : Bool) → ltb every_bound u ≡ b → cond b every_bound u < gone
    go true e = omega arith
    go false e = let low : u ≤ every_bound = ltb-false every_bound u e in omega arith

pub limit-same : (u : ℕ) (x : Record) → x.bound < gone → is_within (limit_of true u) x ≡ is_within u x
unfolding limit_of is_within
limit-same u x live = go (ltb every_bound u) refl
  where
    go : (b : Bool) → ltb every_bound u ≡ b → leb x.bound (cond b every_bound u) ≡ leb x.bound u
    go true e =
        let high : every_bound < u = ltb-true every_bound u e in
        le-leb x.bound every_bound (omega arith) ∙ sym (le-leb x.bound u (omega arith))
    go false e = refl

pub limit-all : (u : ℕ) (x : Record) → x.bound < gone → is_within (limit_of false u) x ≡ true
unfolding limit_of is_within
limit-all u x live = le-leb x.bound every_bound (omega arith)

passing_keeps : (rule : Bool) (test : Record → Bool) (xs : List Record) → passing rule test xs ≡ keep (ruled rule test) xs
passing_keeps true test xs = refl
passing_keeps false test xs = sym (keep_all (λ x. true) xs (λ x i. tt))

-- what the three passes leave is what passes each rule that is on
pub survivors-kept :
    (rules limit : ℕ) (others far xs : List Record) → survivors_of rules limit others far xs ≡ keep (survives rules limit others far) xs
unfolding survivors_of
survivors-kept rules limit others far xs =
    rw (passing_keeps (on 1 rules), passing_keeps (on 2 rules), passing_keeps (on 4 rules), keep-keep, keep-keep)
