-- Part 2 of a step: what children do to U and its order (`src/best.rt`).
--   replaces, replaces_dearer, replaces_cheaper, replaces_tied    whether a complete child goes before what is known
--   learn_keeps, learn-replaces            of one child
--   learn-none, learn_more                 of a list without a complete child, and of one child in front of a list
--   Learning, learning_again, learning_ends    the invariant of the loop over the children in their slots
use mathlib.Core.Path.{◌≡◌, refl, sym, ◌∙◌}
use mathlib.Core.Bool.{Bool, true, false, ◌&&◌, ◌||◌, and-false, or-false}
use mathlib.Core.List.Memᴰ
use mathlib.Core.List.{List, [], ◌∷◌}
use mathlib.Core.Logic.{◌≢◌}
use mathlib.Core.Option.{Option, none, some}
use Prim.Native.Nat.{ℕ, ◌-◌, ◌^◌, ◌<◌}
use native.Mathlib.Omega.{arith}
use borrow.Author.Tests.{lt-ltb, le-ltb, eq-eqb, ne_eqb}
use lib.Dec.{ltb, eqb}
use Rattle.sizes.specs.Sizes.{most_stops, above_every_cost}
use Rattle.lists.specs.Lists.{In}
use Rattle.lists.proofs.Members.{in_head}
use Rattle.search.specs.Problem.{upper}
use Rattle.search.specs.Step.{better, replace, learn}
use Rattle.stops.specs.Code.{words_before, rec_smaller, stops_in, First}
use Rattle.stops.specs.declared.node_record.Record.{Record}
use Rattle.stops.proofs.WordsBefore.{none_before_zeros}
use Rattle.records.specs.Code.{in_slot, slots}
use Rattle.records.proofs.SlotLaws.{slots-none, slots-first, slot_in}
use Rattle.children.specs.Code.{Table, rec_problem, IsBest, Learnt}
use Rattle.children.specs.declared.best.Best.{Best}
use Rattle.children.specs.declared.setting.Setting.{Setting}

-- U is a word of a, whatever order that stands for
pub upper_best : (d : Setting) (t : Table) (a : Best) (o : Option Record) → IsBest a o → upper (rec_problem d t) o ≡ a.upper
unfolding rec_problem
upper_best d t a none h = sym h.0
upper_best d t a (some x) h = sym h.0

-- no child is complete
pub learn-none : (d : Setting) (a : Best) (xs : List Record) → ((x : Record) → In x xs → x.size ≢ d.n) → Learnt d a xs a
unfolding rec_problem
learn-none d a [] h t o best = best
learn-none d a (x ∷ xs) h t o best =
    rw (ne_eqb x.size d.n (h x in_head)) (learn-none d a xs (λ y m. h y (Memᴰ.tail m)) t o best)

-- the complete child x goes before what a stands for: it is cheaper than U or, where it costs the same, its order is the smaller (request A.8)
module _ (a : Best) (x : Record) where
  unfoldable pub replaces : Bool
  replaces = ltb x.bound a.upper || eqb x.bound a.upper && words_before x.first x.second a.first a.second

  pub replaces_dearer : a.upper < x.bound → replaces ≡ false
  unfolding replaces
  replaces_dearer h = simp (le-ltb x.bound a.upper (omega arith), ne_eqb x.bound a.upper (omega arith))

  pub replaces_cheaper : x.bound < a.upper → replaces ≡ true
  unfolding replaces
  replaces_cheaper h = simp (lt-ltb x.bound a.upper h)

  pub replaces_tied :
      {b c : Bool} → x.bound ≡ a.upper → b ≡ words_before x.first x.second a.first a.second → b ≡ c → replaces ≡ c
  unfolding replaces
  replaces_tied h e f = rw (le-ltb x.bound a.upper (omega arith), eq-eqb x.bound a.upper h) (sym e ∙ f)

  -- while none is known, no order is smaller than its words, which are zeros
  better-replaces : (d : Setting) (t : Table) (o : Option Record) → IsBest a o → better (rec_problem d t) x o ≡ replaces
  unfolding rec_problem rec_smaller replaces
  better-replaces d t none (u, f, s) =
      rw (u, f, s, none_before_zeros x.first x.second, and-false (eqb x.bound above_every_cost), or-false (ltb x.bound above_every_cost)) refl
  better-replaces d t (some y) (u, f, s) = rw (u, f, s) refl

  pub learn_keeps : (d : Setting) → replaces ≡ false → Learnt d a (x ∷ []) a
  unfolding rec_problem
  learn_keeps d e t o best = rw (better-replaces d t o best, e) (go (eqb x.size d.n))
    where
      go : (b : Bool) → IsBest a (replace (b && false) x o)
      go true = best
      go false = best

  pub learn-replaces :
      (d : Setting) → x.size ≡ d.n → replaces ≡ true
      → Learnt d a (x ∷ []) (record { upper = x.bound; first = x.first; second = x.second })
  unfolding rec_problem
  learn-replaces d whole e t o best = rw (eq-eqb x.size d.n whole, better-replaces d t o best, e) (refl, refl, refl)

learn_more :
    (d : Setting) (a b c : Best) (x : Record) (xs : List Record) → Learnt d a (x ∷ []) b → Learnt d b xs c → Learnt d a (x ∷ xs) c
learn_more d a b c x xs p q t o best = q t (learn (rec_problem d t) o (x ∷ [])) (p t o best)

-- Children are learnt so: `left` has the stops to come, and what stands for U's order after `known` and their children stands for it after
-- all children, if these are complete.
pub record Learning (size : ℕ) (kids : List Record) (born : ℕ) (known₀ known : Best) (left : ℕ) : Type 0 where
  pub small : left < 2 ^ most_stops
  pub among : (s : ℕ) → In s (stops_in left) → In s (stops_in born)
  pub same : (d : Setting) (b : Best) → size ≡ d.n → Learnt d known (slots left kids) b → Learnt d known₀ (slots born kids) b

module _ {size : ℕ} {kids : List Record} {born : ℕ} {known₀ known : Best} {left : ℕ} (l : Learning size kids born known₀ known left) where
  pub learning_again :
      {known' : Best} {left' s : ℕ} → First left s → left' ≡ left - 2 ^ (s - 1) → ((x : Record) → In x (slots born kids) → x.size ≡ size)
      → ((d : Setting) → (in_slot kids s).size ≡ d.n → Learnt d known (in_slot kids s ∷ []) known')
      → Learning size kids born known₀ known' left'
  learning_again {known'} {s = s} o e sizes better = rw e record {
    small = omega (arith, l.small, o.less);
    among = λ r m. l.among r (rw o.others (Memᴰ.tail m));
    same = λ d b n learnt.
        let x = in_slot kids s in
        let one = better d (sizes x (slot_in kids born s (l.among s o.member)) ∙ n) in
        l.same d b n (rw (slots-first kids o) (learn_more d known known' b x (slots (left - 2 ^ (s - 1)) kids) one learnt));
  }

  pub learning_ends : left ≡ 0 → (d : Setting) → size ≡ d.n → Learnt d known₀ (slots born kids) known
  learning_ends e d n = l.same d known n (rw (e, slots-none) (λ t o best. best))
