-- Laws of the empty list: a list with a member is not empty, and a list with none is.
use mathlib.Core.Path.{◌≡◌, refl}
use mathlib.Core.List.Memᴰ
use mathlib.Core.List.{List, [], ◌∷◌}
use Prim.Native.Nat.{◌≤◌}
use native.Mathlib.Omega.{arith}
use lib.ListN.{length}
use Rattle.lists.specs.Lists.{In}
use Rattle.lists.proofs.Members.{in_head}

module _ {A : Type 0} where
  pub in_nonempty : {a : A} {xs : List A} → In a xs → 1 ≤ length xs
  in_nonempty (Memᴰ.head e) = omega arith
  in_nonempty (Memᴰ.tail m) = omega arith

  pub no_members : (xs : List A) → ((a : A) → In a xs → ⊥) → xs ≡ []
  no_members [] h = refl
  no_members (x ∷ xs) h = absurd (h x in_head)
