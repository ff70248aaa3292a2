-- Laws of a node's set: which stops it flies and which it leaves, what one more stop does to both and to
-- the last stop, and the nodes of one set.
--   in-X    what membership in X says;  X-in  what is enough for it
-- They hold for every list of numbers, with repeats and with numbers above n too.
use mathlib.Core.Path.{◌≡◌, refl, ap, sym, ◌∙◌, subst}
use mathlib.Core.Bool.{Bool, true, false, not, ◌&&◌, ◌||◌}
use mathlib.Core.List.Memᴰ
use mathlib.Core.List.{List, [], ◌∷◌, ◌++◌}
use Prim.Native.Nat.{ℕ, suc, ◌+◌, ◌-◌, ◌≤◌, ◌<◌}
use native.Mathlib.Omega.{arith}
use lib.Dec.{T, eqb, eqb→eq, eqb_refl}
use lib.ListN.{length, get_or}
use Rattle.lists.specs.Lists.{In, without, Distinct}
use Rattle.lists.proofs.Tests.{same_tests}
use Rattle.lists.proofs.Members.{in_head, in_keep, keep_in, any_in, in_any, in_map, map_in, in_from, from_in, distinct-keep, distinct_from, length_from}
use Rattle.lists.proofs.Empty.{no_members}
use Rattle.lists.proofs.Numbers.{keep_parts}
use Rattle.lists.proofs.Keep.{keep_same, keep-keep, any_append}
use Rattle.lists.proofs.Distinct.{length_without}
use Rattle.orders.specs.Examples
use Rattle.orders.specs.Orders.{Node, stops, flown, set_of, left, last_from, last, size, extend, extensions}

-- the stops 1 to n
pub in_stops : (n s : ℕ) → In s (stops n) → (1 ≤ s) × (s ≤ n)
in_stops n s m = let h : (1 ≤ s) × (s < 1 + n) = in_from 1 n s m in (h.0, omega arith)

pub stops_in_lem : (n s : ℕ) → 1 ≤ s → s ≤ n → In s (stops n)
stops_in_lem n s h k = from_in 1 n s h (omega arith)

-- flown
pub in_flown : (x : Node) (s : ℕ) → In s x → T (flown x s)
unfolding flown
in_flown x s m = in_any (eqb s) x s m (eqb_refl s)

pub flown_in : (x : Node) (s : ℕ) → T (flown x s) → In s x
unfolding flown
flown_in x s h = let (r, m, e) = any_in (eqb s) x h in subst (λ (k : ℕ). In k x) (sym (eqb→eq s r e)) m

flown-append : (x y : Node) (s : ℕ) → flown (x ++ y) s ≡ (flown x s || flown y s)
unfolding flown
flown-append x y s = any_append (eqb s) x y

-- set and left
pub in_set : (n : ℕ) (x : Node) (s : ℕ) → In s (set_of n x) → (1 ≤ s) × (s ≤ n) × T (flown x s)
unfolding set_of
in_set n x s m = let (i, f) = in_keep (flown x) (stops n) s m in let h = in_stops n s i in (h.0, h.1, f)

pub empty_set : (n : ℕ) → set_of n [] ≡ []
unfolding flown
empty_set n = no_members (set_of n []) (λ s m. (in_set n [] s m).2)

set_in : (n : ℕ) (x : Node) (s : ℕ) → 1 ≤ s → s ≤ n → T (flown x s) → In s (set_of n x)
unfolding set_of
set_in n x s h k f = keep_in (flown x) (stops n) s (stops_in_lem n s h k) f

pub in_left : (n : ℕ) (x : Node) (s : ℕ) → In s (left n x) → (1 ≤ s) × (s ≤ n) × T (not (flown x s))
unfolding left
in_left n x s m = let (i, f) = in_keep (λ r. not (flown x r)) (stops n) s m in let h = in_stops n s i in (h.0, h.1, f)

pub left_in : (n : ℕ) (x : Node) (s : ℕ) → 1 ≤ s → s ≤ n → T (not (flown x s)) → In s (left n x)
unfolding left
left_in n x s h k f = keep_in (λ r. not (flown x r)) (stops n) s (stops_in_lem n s h k) f

pub distinct-left : (n : ℕ) (x : Node) → Distinct (left n x)
unfolding left
distinct-left n x = distinct-keep (λ r. not (flown x r)) (distinct_from 1 n)

pub size-left : (n : ℕ) (x : Node) → size n x + length (left n x) ≡ n
unfolding size set_of left
size-left n x = keep_parts (flown x) (stops n) ∙ length_from 1 n

-- one more stop
last_from-append : (place : ℕ) (x y : Node) → last_from place (x ++ y) ≡ last_from (last_from place x) y
last_from-append place [] y = refl
last_from-append place (s ∷ x) y = last_from-append s x y

pub last-extend : (x : Node) (s : ℕ) → last (extend x s) ≡ s
unfolding last
last-extend x s = last_from-append 0 x (s ∷ [])

eqb_sym : (r s : ℕ) → eqb r s ≡ eqb s r
eqb_sym r s = same_tests (eqb r s) (eqb s r) (go r s) (go s r)
  where
    go : (a b : ℕ) → T (eqb a b) → T (eqb b a)
    go a b h = rw (eqb→eq a b h) (eqb_refl b)

flown-extend : (x : Node) (s r : ℕ) → not (flown (extend x s) r) ≡ (not (flown x r) && not (eqb s r))
unfolding flown
flown-extend x s r = ap not (flown-append x (s ∷ []) r) ∙ go (flown x r) (eqb r s) (eqb s r) (eqb_sym r s)
  where
    go : (a b c : Bool) → b ≡ c → not (a || (b || false)) ≡ (not a && not c)
    go true b c e = refl
    go false true c e = ap not e
    go false false c e = ap not e

pub left-extend : (n : ℕ) (x : Node) (s : ℕ) → left n (extend x s) ≡ without s (left n x)
unfolding left
left-extend n x s =
    keep_same (λ r. not (flown (extend x s) r)) (λ r. not (flown x r) && not (eqb s r)) (stops n) (λ r m. flown-extend x s r)
    ∙ sym (keep-keep (λ r. not (eqb s r)) (λ r. not (flown x r)) (stops n))

pub size-extend : (n : ℕ) (x : Node) (s : ℕ) → In s (left n x) → size n (extend x s) ≡ suc (size n x)
size-extend n x s m =
    let e : length (left n x) ≡ suc (length (without s (left n x))) = length_without s (distinct-left n x) m in
    omega (arith, size-left n x, size-left n (extend x s), ap length (left-extend n x s))

-- children
pub in_extensions : (n : ℕ) (x c : Node) → In c (extensions n x) → (s : ℕ) × In s (left n x) × (c ≡ extend x s)
unfolding extensions
in_extensions n x c m = in_map (extend x) (left n x) c m

pub extensions_in : (n : ℕ) (x : Node) (s : ℕ) → In s (left n x) → In (extend x s) (extensions n x)
unfolding extensions
extensions_in n x s m = map_in (extend x) m

-- the last stop is the last of the list
last_from_element : (place s : ℕ) (x : Node) → last_from place (s ∷ x) ≡ get_or (s ∷ x) (length x) 0
last_from_element place s [] = refl
last_from_element place s (r ∷ x) = last_from_element s r x

pub last_element : (x : Node) → 1 ≤ length x → last x ≡ get_or x (length x - 1) 0
unfolding last
last_element [] h = absurd (omega arith)
last_element (s ∷ x) h = let e : length x ≡ suc (length x) - 1 = omega arith in last_from_element 0 s x ∙ ap (λ (i : ℕ). get_or (s ∷ x) i 0) e

-- a node ends at one of its stops, or at home
last_from_in : (place : ℕ) (x : Node) → In (last_from place x) (place ∷ x)
last_from_in place [] = in_head
last_from_in place (s ∷ x) = Memᴰ.tail (last_from_in s x)

pub last_in : (x : Node) → In (last x) (0 ∷ x)
unfolding last
last_in x = last_from_in 0 x

-- if it has any, at one of these
pub last_of_some : (s : ℕ) (x : Node) → In (last (s ∷ x)) (s ∷ x)
unfolding last
last_of_some s x = last_from_in s x

-- nodes of one set
set_same_flown : (n : ℕ) (w x : Node) → set_of n w ≡ set_of n x → (s : ℕ) → 1 ≤ s → s ≤ n → flown w s ≡ flown x s
set_same_flown n w x e s h k = same_tests (flown w s) (flown x s) (go w x e) (go x w (sym e))
  where
    go : (w x : Node) → set_of n w ≡ set_of n x → T (flown w s) → T (flown x s)
    go w x e f = (in_set n x s (subst (λ (l : List ℕ). In s l) e (set_in n w s h k f))).2

flown_same_set : (n : ℕ) (w x : Node) → ((s : ℕ) → 1 ≤ s → s ≤ n → flown w s ≡ flown x s) → set_of n w ≡ set_of n x
unfolding set_of
flown_same_set n w x f = keep_same (flown w) (flown x) (stops n) (λ s m. let h = in_stops n s m in f s h.0 h.1)

pub set_same_left : (n : ℕ) (w x : Node) → set_of n w ≡ set_of n x → left n w ≡ left n x
unfolding left
set_same_left n w x e =
    keep_same (λ s. not (flown w s)) (λ s. not (flown x s)) (stops n)
    (λ s m. let h = in_stops n s m in ap not (set_same_flown n w x e s h.0 h.1))

pub set_extend_same : (n : ℕ) (w x : Node) (s : ℕ) → set_of n w ≡ set_of n x → set_of n (extend w s) ≡ set_of n (extend x s)
set_extend_same n w x s e = flown_same_set n (extend w s) (extend x s) (λ r h k. go r (set_same_flown n w x e r h k))
  where
    go : (r : ℕ) → flown w r ≡ flown x r → flown (extend w s) r ≡ flown (extend x s) r
    go r f = flown-append w (s ∷ []) r ∙ ap (λ (b : Bool). b || flown (s ∷ []) r) f ∙ sym (flown-append x (s ∷ []) r)
