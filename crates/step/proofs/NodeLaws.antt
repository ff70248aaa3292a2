-- Laws of the nodes that the pool shows to a step.
--   node_live      an active node is not gone
--   others_in      those but one are among them
--   far-bounded    no branched node's bound is above the largest number
use mathlib.Core.Path.{◌≡◌, sym, ap, subst}
use mathlib.Core.Bool.{true}
use mathlib.Core.List.Memᴰ
use mathlib.Core.List.{List, ◌∷◌, ◌++◌}
use mathlib.Core.Logic.{◌⊎◌, inl, inr}
use Prim.Native.Nat.{ℕ, suc, ◌-◌, ◌≤◌, ◌<◌}
use native.Mathlib.Omega.{arith}
use lib.Dec.{ltb→lt}
use lib.ListN.{length, get_or, take, drop}
use lib.Seq.{slice}
use Rattle.lists.specs.Lists.{In, keep}
use Rattle.lists.proofs.Members.{in_keep, in_map}
use Rattle.lists.proofs.Parts.{in_drop}
use Rattle.stops.specs.Code.{empty_record}
use Rattle.stops.specs.declared.node_record.Record.{Record}
use Rattle.lanes.specs.Sizes.{gone}
use Rattle.lanes.specs.Code.{sized, is_live, live_in, live_of, others_of, far_of}
use Rattle.lanes.proofs.LiveLaws.{live_split}
use Rattle.step.proofs.StepLaws.{Bounded, Live}

pub node_live : (xs : List Record) → Live (live_in xs)
unfolding live_in sized is_live
node_live xs x m =
    let (y, k, e) = in_map sized (keep is_live xs) x m in
    let low : y.bound < gone = ltb→lt y.bound gone (in_keep is_live xs y k).1 in
    let same : x.bound ≡ y.bound = ap (λ (z : Record). z.bound) e in
    omega arith

pub others_in :
    (recs : List Record) (used i : ℕ) → i < used → used ≤ length recs → is_live (get_or recs i empty_record) ≡ true
    → (x : Record) → In x (others_of used i recs) → In x (live_of used recs)
others_in recs used i below inside live x m =
    subst (λ (l : List Record). In x l) (sym (live_split recs used inside i below live)) (go (Memᴰ.append_cases before m))
  where
    before : List Record
    before = live_in (take i recs)

    behind : List Record
    behind = live_in (slice (suc i) used recs)

    b : Record
    b = sized (get_or recs i empty_record)

    go : In x before ⊎ In x behind → In x (before ++ (b ∷ behind))
    go (inl k) = Memᴰ.append_left (b ∷ behind) k
    go (inr k) = Memᴰ.append_right before (Memᴰ.tail k)

pub far-bounded : (recs : List Record) (far : ℕ) → Bounded recs → Bounded (far_of far recs)
unfolding sized
far-bounded recs far small x m =
    let (y, k, e) = in_map sized (drop (length recs - far) recs) x m in
    let low = small y (in_drop (length recs - far) recs y k) in
    let same : x.bound ≡ y.bound = ap (λ (z : Record). z.bound) e in
    omega (arith, low)
