-- A step commutes with a map of nodes: where Q and D say of f x what P and C say of each valid x (`Maps`), each part of the step of Q
-- and D is that part of the step of P and C, mapped, in the sequence of the step (step-maps); and a step leaves a valid state
-- (step-valid). That runs do so is in `MappedRun`.
use mathlib.Core.Path.{◌≡◌, refl, ap, sym, ◌∙◌}
use mathlib.Core.Bool.{Bool, not, ◌&&◌}
use mathlib.Core.List.Memᴰ
use mathlib.Core.List.{List, [], ◌∷◌, ◌++◌, map, map-append}
use mathlib.Core.Logic.{◌⊎◌, inl, inr}
use mathlib.Core.Option
use Prim.Native.Nat.{ℕ, ◌+◌, max}
use lib.ListN.{length, length-map}
use Rattle.lists.specs.Lists.{In, keep, any}
use Rattle.lists.proofs.Members.{in_keep}
use Rattle.lists.proofs.Map.{keep-map, any-map}
use Rattle.search.specs.Problem.{Problem, Choices, State}
use Rattle.search.specs.Step.{on, survivors, lost, children₁, best₂, over₃, children₃, rest₃, dominated₄, children₄, dominated₅, children₅, dominated₆, rest₆, active₇, step}
use Rattle.search.proofs.Mapped.{Maps, map_state, AllValid, ValidBest, ValidState, upper_maps, learn_valid, learn_maps}

valid_keep : {N : Type 0} (Valid : N → Type 0) (test : N → Bool) (xs : List N) → AllValid Valid xs → AllValid Valid (keep test xs)
valid_keep Valid test xs valid x m = valid x (in_keep test xs x m).0

valid_append : {N : Type 0} (Valid : N → Type 0) (xs ys : List N) → AllValid Valid xs → AllValid Valid ys → AllValid Valid (xs ++ ys)
valid_append Valid xs ys h k x m = cases (Memᴰ.append_cases xs m)
  where
    cases : In x xs ⊎ In x ys → Valid x
    cases (inl i) = h x i
    cases (inr i) = k x i

module _
    {N M : Type 0} {f : N → M} {Valid : N → Type 0} {P : Problem N} {Q : Problem M} {C : Choices N} {D : Choices M}
    (maps : Maps f Valid P Q C D)
  where
    length_maps : (xs : List N) (ys : List M) → ys ≡ map f xs → length ys ≡ length xs
    length_maps xs ys same = ap length same ∙ length-map xs f

    -- two tests say the same of a valid node and its image
    abbrev Alike : (N → Bool) → (M → Bool) → Type 0
    Alike p q = (x : N) → Valid x → q (f x) ≡ p x

    module _
        (p : N → Bool) (q : M → Bool) (alike : Alike p q) (xs : List N) (ys : List M) (same : ys ≡ map f xs) (all : AllValid Valid xs)
      where
        survivors_maps : survivors q ys ≡ map f (survivors p xs)
        survivors_maps = rw same (keep-map f (λ x. not (p x)) (λ y. not (q y)) xs (λ x m. ap not (alike x (all x m))))

        lost_maps : lost q ys ≡ lost p xs
        lost_maps = rw same (length_maps (keep p xs) (keep q (map f xs)) (keep-map f p q xs (λ x m. alike x (all x m))))

    -- a dominance rule whose dominators are ws, or their images
    dominated_maps :
        (rule : ℕ) (ws : List N) (ys : List M) → ys ≡ map f ws → AllValid Valid ws
        → Alike (λ x. on rule C.rules && any (λ w. P.dominates w x) ws) (λ y. on rule D.rules && any (λ w. Q.dominates w y) ys)
    dominated_maps rule ws ys same all x v =
        rw (same, maps.rules, any-map f (λ w. P.dominates w x) (λ w. Q.dominates w (f x)) ws (λ w m. maps.dominates w x (all w m) v))

    module _ (s : State N) (b : N) (rest : List N) where
      -- a part of the step of P and C, and that part of the step of Q and D
      abbrev plain : {A : Type 0} → (Problem N → Choices N → State N → N → List N → A) → A
      plain part = part P C s b rest

      abbrev mapped : {A : Type 0} → (Problem M → Choices M → State M → M → List M → A) → A
      mapped part = part Q D (map_state f s) (f b) (map f rest)

      module _ (valid : ValidState Valid P s) (valid-b : Valid b) (valid-rest : AllValid Valid rest) where
        -- The nodes of each part are valid.
        children₁_valid : AllValid Valid (plain children₁)
        unfolding children₁
        children₁_valid x m = maps.children_valid b x valid-b m

        best₂_valid : ValidBest Valid P (plain best₂)
        unfolding best₂
        best₂_valid = learn_valid Valid P s.best (plain children₁) valid.best children₁_valid

        children₃_valid : AllValid Valid (plain children₃)
        unfolding children₃
        children₃_valid = valid_keep Valid _ (plain children₁) children₁_valid

        rest₃_valid : AllValid Valid (plain rest₃)
        unfolding rest₃
        rest₃_valid = valid_keep Valid _ rest valid-rest

        children₄_valid : AllValid Valid (plain children₄)
        unfolding children₄
        children₄_valid = valid_keep Valid _ (plain children₃) children₃_valid

        children₅_valid : AllValid Valid (plain children₅)
        unfolding children₅
        children₅_valid = valid_keep Valid _ (plain children₄) children₄_valid

        rest₆_valid : AllValid Valid (plain rest₆)
        unfolding rest₆
        rest₆_valid = valid_keep Valid _ (plain rest₃) rest₃_valid

        pub step_valid : ValidState Valid P (step P C s b rest)
        unfolding step active₇
        step_valid = record {
          active = valid_append Valid (plain rest₆) (plain children₅) rest₆_valid children₅_valid;
          branched = valid_append Valid s.branched (b ∷ []) valid.branched (λ x m. rw (Memᴰ.eq_of_singleton m) valid-b);
          best = best₂_valid;
        }

        -- Each part commutes with the map, in the sequence of the step.
        children₁_maps : mapped children₁ ≡ map f (plain children₁)
        unfolding children₁
        children₁_maps = maps.children b valid-b

        best₂_maps : mapped best₂ ≡ Option.map f (plain best₂)
        unfolding best₂
        best₂_maps = rw children₁_maps (learn_maps maps s.best (plain children₁) valid.best children₁_valid)

        over₃_maps : Alike (plain over₃) (mapped over₃)
        unfolding over₃
        over₃_maps x v = rw (best₂_maps, upper_maps maps (plain best₂) best₂_valid, maps.rules, maps.bound x v)

        children₃_maps : mapped children₃ ≡ map f (plain children₃)
        unfolding children₃
        children₃_maps =
            survivors_maps (plain over₃) (mapped over₃) over₃_maps (plain children₁) (mapped children₁) children₁_maps children₁_valid

        rest₃_maps : mapped rest₃ ≡ map f (plain rest₃)
        unfolding rest₃
        rest₃_maps = survivors_maps (plain over₃) (mapped over₃) over₃_maps rest (map f rest) refl valid-rest

        dominated₄_maps : Alike (plain dominated₄) (mapped dominated₄)
        unfolding dominated₄
        dominated₄_maps = dominated_maps 2 (plain rest₃) (mapped rest₃) rest₃_maps rest₃_valid

        children₄_maps : mapped children₄ ≡ map f (plain children₄)
        unfolding children₄
        children₄_maps =
            survivors_maps (plain dominated₄) (mapped dominated₄) dominated₄_maps (plain children₃) (mapped children₃) children₃_maps
            children₃_valid

        dominated₅_maps : Alike (plain dominated₅) (mapped dominated₅)
        unfolding dominated₅
        dominated₅_maps = dominated_maps 4 s.branched (map f s.branched) refl valid.branched

        children₅_maps : mapped children₅ ≡ map f (plain children₅)
        unfolding children₅
        children₅_maps =
            survivors_maps (plain dominated₅) (mapped dominated₅) dominated₅_maps (plain children₄) (mapped children₄) children₄_maps
            children₄_valid

        dominated₆_maps : Alike (plain dominated₆) (mapped dominated₆)
        unfolding dominated₆
        dominated₆_maps = dominated_maps 8 (plain children₅) (mapped children₅) children₅_maps children₅_valid

        rest₆_maps : mapped rest₆ ≡ map f (plain rest₆)
        unfolding rest₆
        rest₆_maps =
            survivors_maps (plain dominated₆) (mapped dominated₆) dominated₆_maps (plain rest₃) (mapped rest₃) rest₃_maps rest₃_valid

        active₇_maps : mapped active₇ ≡ map f (plain active₇)
        unfolding active₇
        active₇_maps = rw (rest₆_maps, children₅_maps) (sym (map-append f (plain rest₆) (plain children₅)))

        eliminated_maps : (mapped step).eliminated ≡ (plain step).eliminated
        unfolding step
        eliminated_maps =
            rw (
              lost_maps (plain over₃) (mapped over₃) over₃_maps (plain children₁) (mapped children₁) children₁_maps children₁_valid,
              lost_maps (plain over₃) (mapped over₃) over₃_maps rest (map f rest) refl valid-rest,
              lost_maps (plain dominated₄) (mapped dominated₄) dominated₄_maps (plain children₃) (mapped children₃) children₃_maps
                  children₃_valid,
              lost_maps (plain dominated₅) (mapped dominated₅) dominated₅_maps (plain children₄) (mapped children₄) children₄_maps
                  children₄_valid,
              lost_maps (plain dominated₆) (mapped dominated₆) dominated₆_maps (plain rest₃) (mapped rest₃) rest₃_maps rest₃_valid,
            )

        pub step_maps : step Q D (map_state f s) (f b) (map f rest) ≡ map_state f (step P C s b rest)
        unfolding step
        step_maps i = record {
          active = active₇_maps i;
          branched = sym (map-append f s.branched (b ∷ [])) i;
          best = best₂_maps i;
          generated = s.generated + length_maps (plain children₁) (mapped children₁) children₁_maps i;
          eliminated = eliminated_maps i;
          most = max s.most (length_maps (plain active₇) (mapped active₇) active₇_maps i);
        }
