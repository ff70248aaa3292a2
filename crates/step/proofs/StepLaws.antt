-- What the code of a step computes is the written step on records: the passes of the rules, one after the other, are its parts 3 to 7,
-- and the one subtraction that counts the eliminated nodes is the sum over its parts.
--   Bounded, Live                  no bound is above the largest number; every bound is below that of gone records
--   limit                          the largest bound that rule 1 keeps: U, or that of all nodes where rule 1 is off
--   survivors_are, staying_are     what parts 3 to 5 leave of the children, and parts 3 and 6 of the active nodes
--   eliminated_are                 what was eliminated is what is neither left nor new
use mathlib.Core.Path.{◌≡◌, refl, sym, ◌∙◌, ap, subst}
use mathlib.Core.Bool.{Bool, true, false, not, ◌&&◌, cond}
use mathlib.Core.List.{List, [], ◌++◌}
use Prim.Native.Nat.{ℕ, ◌+◌, ◌≤◌, ◌<◌}
use native.Mathlib.Omega.{arith}
use lib.Dec.{T, leb, ltb, le→leb, not_T}
use lib.ListN.{length, length-append}
use Rattle.lists.proofs.Any.{any-keep, any-reverse, any_same}
use Rattle.sizes.specs.Sizes.{no_limit}
use Rattle.lists.specs.Lists.{In, keep, any}
use Rattle.lists.proofs.Tests.{to_true, same_tests, tests}
use Rattle.lists.proofs.Keep.{keep_same, keep-keep, keep_all}
use Rattle.lists.proofs.Numbers.{keep_parts}
use Rattle.search.specs.Problem.{Problem, Choices, State, upper}
use Rattle.search.specs.Step.{on, children₁, best₂, over₃, children₃, rest₃, dominated₄, children₄, dominated₅, children₅, dominated₆, rest₆, step}
use Rattle.stops.specs.Code.{rec_dominates}
use Rattle.stops.specs.declared.node_record.Record.{Record}
use Rattle.lanes.specs.Sizes.{gone}
use Rattle.lanes.specs.Code.{is_within}
use Rattle.chains.specs.Code.{is_free}
use Rattle.children.specs.Code.{Table, rec_problem, rec_choices, children_of, limit_of, survivors_of, passing}
use Rattle.children.specs.declared.setting.Setting.{Setting}
use Rattle.children.proofs.SurvivorLaws.{limit-same, limit-all}
use Rattle.replacement.specs.Code.{is_staying}
use Rattle.step.specs.Code.{held_of}

-- no bound is above the limit that every bound keeps
abbrev pub Bounded : List Record → Type 0
Bounded xs = (x : Record) → In x xs → x.bound ≤ no_limit

-- none is gone
abbrev pub Live : List Record → Type 0
Live xs = (x : Record) → In x xs → x.bound < gone

-- dominators up to a limit that no bound passes are all of them
free-any : (ys : List Record) → Bounded ys → (x : Record) → is_free no_limit ys x ≡ not (any (λ w. rec_dominates w x) ys)
unfolding is_free
free-any ys small x =
    ap not
    (any_same (λ y. leb y.bound no_limit && rec_dominates y x) (λ w. rec_dominates w x) ys
    (λ y m. ap (λ (k : Bool). k && rec_dominates y x) (to_true (leb y.bound no_limit) (le→leb y.bound no_limit (small y m)))))

-- a test under a rule, and the rule's pass
off_keeps : (rule : Bool) (test passes : Record → Bool) (xs : List Record)
    → ((x : Record) → In x xs → T rule → not (test x) ≡ passes x) → keep (λ x. not (rule && test x)) xs ≡ passing rule passes xs
off_keeps true test passes xs h = keep_same (λ x. not (test x)) passes xs (λ x m. h x m tt)
off_keeps false test passes xs h = keep_all (λ x. true) xs (λ x m. tt)

within-limit : (u : ℕ) (x : Record) → not (ltb u x.bound) ≡ is_within u x
unfolding is_within
within-limit u x = same_tests (not (ltb u x.bound)) (leb x.bound u) (λ h. omega (arith, tests)) (λ h. not_T (ltb u x.bound) (λ g. omega (arith, tests)))

-- where rule 1 is off its limit keeps all nodes, as its pass does
passing-within : (rule : Bool) (u : ℕ) (xs : List Record) → Live xs → passing rule (is_within (limit_of rule u)) xs ≡ keep (is_within (limit_of rule u)) xs
passing-within true u xs live = refl
passing-within false u xs live =
    sym (keep_all (is_within (limit_of false u)) xs (λ x m. subst T (sym (limit-all u x (live x m))) tt))

module _ (d : Setting) (t : Table) (s : State Record) (b : Record) (rest : List Record) where
  abbrev rules : ℕ
  rules = d.rules

  abbrev Q : Problem Record
  Q = rec_problem d t

  abbrev D : Choices Record
  D = rec_choices d

  -- the limit of rule 1
  abbrev limit : ℕ
  limit = limit_of (on 1 rules) (upper Q (best₂ Q D s b rest))

  by_rule_1 : (xs : List Record) → Live xs → keep (λ x. not (over₃ Q D s b rest x)) xs ≡ passing (on 1 rules) (is_within limit) xs
  unfolding over₃ rec_choices
  by_rule_1 xs live =
      off_keeps (on 1 rules) (λ x. ltb (upper Q (best₂ Q D s b rest)) x.bound) (is_within limit) xs (λ x m. within x m (on 1 rules))
    where
      u : ℕ
      u = upper Q (best₂ Q D s b rest)

      within : (x : Record) → In x xs → (rule : Bool) → T rule → not (ltb u x.bound) ≡ is_within (limit_of rule u) x
      within x m true h = within-limit u x ∙ sym (limit-same u x (live x m))
      within x m false h = absurd h

  by_rule_1_children : Live (children_of d t b) → children₃ Q D s b rest ≡ passing (on 1 rules) (is_within limit) (children_of d t b)
  unfolding children₃ children₁ rec_problem
  by_rule_1_children = by_rule_1 (children_of d t b)

  module _ (live : Live rest) where
    by_rule_1_rest : rest₃ Q D s b rest ≡ keep (is_within limit) rest
    unfolding rest₃
    by_rule_1_rest = by_rule_1 rest live ∙ passing-within (on 1 rules) (upper Q (best₂ Q D s b rest)) rest live

    -- an active node that rule 1 leaves dominates x: an active node with a bound up to the limit does
    rivals : (x : Record) → any (λ w. rec_dominates w x) (rest₃ Q D s b rest) ≡ any (λ y. leb y.bound limit && rec_dominates y x) rest
    unfolding is_within
    rivals x = ap (any (λ w. rec_dominates w x)) by_rule_1_rest ∙ any-keep (λ w. rec_dominates w x) (is_within limit) rest

    by_rule_2 : children₄ Q D s b rest ≡ passing (on 2 rules) (is_free limit rest) (children₃ Q D s b rest)
    unfolding children₄ dominated₄ rec_problem rec_choices is_free
    by_rule_2 =
        off_keeps (on 2 rules) (λ x. any (λ w. rec_dominates w x) (rest₃ Q D s b rest)) (is_free limit rest) (children₃ Q D s b rest)
        (λ x m h. ap not (rivals x))

  by_rule_4 :
      (far : List Record) → Bounded far → far ≡ held_of (on 4 rules) s.branched
      → children₅ Q D s b rest ≡ passing (on 4 rules) (is_free no_limit far) (children₄ Q D s b rest)
  unfolding children₅ dominated₅ rec_problem rec_choices
  by_rule_4 far small e =
      off_keeps (on 4 rules) (λ x. any (λ w. rec_dominates w x) s.branched) (is_free no_limit far) (children₄ Q D s b rest)
      (λ x m h. go (on 4 rules) e h x)
    where
      go : (rule : Bool) → far ≡ held_of rule s.branched → T rule → (x : Record) → not (any (λ w. rec_dominates w x) s.branched) ≡ is_free no_limit far x
      go true q h x = ap not (sym (ap (any (λ w. rec_dominates w x)) q ∙ any-reverse (λ w. rec_dominates w x) s.branched)) ∙ sym (free-any far small x)
      go false q h x = absurd h

  -- parts 3 to 5: what survives of the children
  pub survivors_are :
      (far : List Record) → Live (children_of d t b) → Live rest → Bounded far → far ≡ held_of (on 4 rules) s.branched
      → children₅ Q D s b rest ≡ survivors_of d.rules limit rest far (children_of d t b)
  unfolding survivors_of
  survivors_are far young live small e =
      by_rule_4 far small e
      ∙ ap (passing (on 4 rules) (is_free no_limit far))
      (by_rule_2 live ∙ ap (passing (on 2 rules) (is_free limit rest)) (by_rule_1_children young))

  -- part 6: what stays of the active nodes, with the children that take part in rule 8
  pub staying_are : Live rest → rest₆ Q D s b rest ≡ keep (is_staying limit (cond (on 8 rules) (children₅ Q D s b rest) [])) rest
  unfolding rest₆ dominated₆ rec_problem rec_choices is_staying is_within
  staying_are live =
      ap (keep (λ x. not (on 8 rules && any (λ w. rec_dominates w x) (children₅ Q D s b rest)))) (by_rule_1_rest live)
      ∙ go (on 8 rules)
    where
      kids : List Record
      kids = children₅ Q D s b rest

      go :
          (eight : Bool)
          → keep (λ x. not (eight && any (λ w. rec_dominates w x) kids)) (keep (is_within limit) rest)
          ≡ keep (is_staying limit (cond eight kids [])) rest
      go true = keep-keep (λ x. not (any (λ w. rec_dominates w x) kids)) (is_within limit) rest
      go false = keep-keep (λ x. true) (is_within limit) rest

  -- parts 3 to 6 together: what was eliminated is what is neither left nor new
  pub eliminated_are :
      (step Q D s b rest).eliminated + length (rest₆ Q D s b rest ++ children₅ Q D s b rest) ≡ s.eliminated + (length rest + length (children₁ Q D s b rest))
  unfolding step children₃ rest₃ children₄ children₅ rest₆
  eliminated_are =
      omega (
        arith,
        length-append (rest₆ Q D s b rest) (children₅ Q D s b rest),
        keep_parts (over₃ Q D s b rest) (children₁ Q D s b rest),
        keep_parts (over₃ Q D s b rest) rest,
        keep_parts (dominated₄ Q D s b rest) (children₃ Q D s b rest),
        keep_parts (dominated₅ Q D s b rest) (children₄ Q D s b rest),
        keep_parts (dominated₆ Q D s b rest) (rest₃ Q D s b rest),
      )
