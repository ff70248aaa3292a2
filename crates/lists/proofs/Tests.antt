-- Laws of Boolean tests: what `◌&&◌`, `◌||◌` and `not` say as types, and the rules by which `omega` reads tests of numbers.
use mathlib.Core.Path.{◌≡◌, refl, subst}
use mathlib.Core.Bool.{Bool, true, false, not, ◌&&◌, ◌||◌, cond}
use mathlib.Core.Logic.{◌⊎◌, inl, inr, ◌≢◌}
use Prim.Native.Nat.{ℕ, ◌≤◌, ◌<◌}
use lib.Dec.{T, leb, ltb, eqb, leb→le, ltb→lt, nleb→lt, nltb→le, le→leb, lt→ltb, eqb→eq, eqb_refl, T_not, not_T}

-- `omega (arith, tests)` reads and proves T (leb a b), T (ltb a b), T (not (leb a b)), T (not (ltb a b)) and reads T (eqb a b)
pub ruleset tests = (leb→le, ltb→lt, nleb→lt, nltb→le, le→leb, lt→ltb, eqb→eq)

pub and_left : (a b : Bool) → T (a && b) → T a
and_left true b h = tt
and_left false b h = h

pub and_right : (a b : Bool) → T (a && b) → T b
and_right true b h = h
and_right false b h = absurd h

pub and_both : (a b : Bool) → T a → T b → T (a && b)
and_both true b h k = k
and_both false b h k = h

-- a test of four parts
pub and_parts : (a b c d : Bool) → T (a && b && c && d) → T a × T b × T c × T d
and_parts a b c d h =
    let abc : T (a && b && c) = and_left (a && b && c) d h in
    let ab : T (a && b) = and_left (a && b) c abc in
    (and_left a b ab, and_right a b ab, and_right (a && b) c abc, and_right (a && b && c) d h)

pub parts_and : (a b c d : Bool) → T a → T b → T c → T d → T (a && b && c && d)
parts_and a b c d p q r s = and_both (a && b && c) d (and_both (a && b) c (and_both a b p q) r) s

pub or_cases : (a b : Bool) → T (a || b) → T a ⊎ T b
or_cases true b h = inl tt
or_cases false b h = inr h

pub or_left : (a b : Bool) → T a → T (a || b)
or_left true b h = tt
or_left false b h = absurd h

pub or_right : (a b : Bool) → T b → T (a || b)
or_right true b h = tt
or_right false b h = h

pub either : (a : Bool) → T a ⊎ T (not a)
either true = inl tt
either false = inr tt

pub not_not : (a : Bool) → (T (not a) → ⊥) → T a
not_not true h = tt
not_not false h = h tt

pub twice_not : (a : Bool) → T (not (not a)) → T a
twice_not true h = tt
twice_not false h = h

pub to_true : (a : Bool) → T a → a ≡ true
to_true true h = refl
to_true false h = absurd h

pub to_false : (a : Bool) → T (not a) → a ≡ false
to_false true h = absurd h
to_false false h = refl

pub not_either : (a b : Bool) → T (not (a || b)) → T (not a) × T (not b)
not_either true b h = absurd h
not_either false b h = (tt, h)

pub both_false : (a b : Bool) → (a || b) ≡ false → (a ≡ false) × (b ≡ false)
both_false true b e = absurd (subst T e tt)
both_false false b e = (refl, e)

-- nothing either way is nothing
pub cond_zero : (b : Bool) → ◌≡◌ {A = ℕ} (cond b 0 0) 0
cond_zero true = refl
cond_zero false = refl

pub same_tests : (a b : Bool) → (T a → T b) → (T b → T a) → a ≡ b
same_tests true true f g = refl
same_tests true false f g = absurd (f tt)
same_tests false true f g = absurd (g tt)
same_tests false false f g = refl

-- two numbers are the same or not; what `eqb` says when it fails
pub neq : (a b : ℕ) → T (not (eqb a b)) → a ≢ b
neq a b h e = T_not (eqb a b) h (rw e (eqb_refl b))

pub equal_eqb : (a b : ℕ) → a ≡ b → T (eqb a b)
equal_eqb a b e = rw e (eqb_refl b)

pub compared : (a b : ℕ) → (a ≡ b) ⊎ (a ≢ b)
compared a b = go (either (eqb a b))
  where
    go : T (eqb a b) ⊎ T (not (eqb a b)) → (a ≡ b) ⊎ (a ≢ b)
    go (inl h) = inl (eqb→eq a b h)
    go (inr h) = inr (neq a b h)

pub ne_neqb : (a b : ℕ) → a ≢ b → T (not (eqb a b))
ne_neqb a b h = not_T (eqb a b) (λ k. h (eqb→eq a b k))

pub ordered : (a b : ℕ) → (a ≤ b) ⊎ (b < a)
ordered a b = go (either (leb a b))
  where
    go : T (leb a b) ⊎ T (not (leb a b)) → (a ≤ b) ⊎ (b < a)
    go (inl h) = inl (leb→le a b h)
    go (inr h) = inr (nleb→lt a b h)

-- of two numbers the lesser goes first and, of equal ones, what another test says
abbrev pub Tied : ℕ → ℕ → Bool → Type 0
Tied a b c = (a < b) ⊎ ((a ≡ b) × T c)

pub tied_cases : (a b : ℕ) (c : Bool) → T (ltb a b || eqb a b && c) → Tied a b c
tied_cases a b c h = go (or_cases (ltb a b) (eqb a b && c) h)
  where
    go : T (ltb a b) ⊎ T (eqb a b && c) → Tied a b c
    go (inl k) = inl (ltb→lt a b k)
    go (inr k) = inr (eqb→eq a b (and_left (eqb a b) c k), and_right (eqb a b) c k)

pub cases_tied : (a b : ℕ) (c : Bool) → Tied a b c → T (ltb a b || eqb a b && c)
cases_tied a b c (inl k) = or_left (ltb a b) (eqb a b && c) (lt→ltb a b k)
cases_tied a b c (inr (e, k)) = or_right (ltb a b) (eqb a b && c) (and_both (eqb a b) c (equal_eqb a b e) k)
