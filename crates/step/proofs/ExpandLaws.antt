-- What `expand` gathers from its callees (`expansion_made`).
use mathlib.Core.Path.{◌≡◌, subst}
use mathlib.Core.List.{List}
use Prim.Native.Nat.{ℕ}
use Rattle.search.specs.Step.{on}
use Rattle.stops.specs.declared.node_record.Record.{Record}
use Rattle.records.specs.Code.{slots, Thinned}
use Rattle.children.specs.Code.{Table, Rows, Encoded, Born, Learnt, limit_of, survives}
use Rattle.children.specs.declared.setting.Setting.{Setting}
use Rattle.children.proofs.FamilyLaws.{born_slots}
use Rattle.step.specs.Code.{Expansion, active_in, far_in}
use Rattle.step.specs.declared.Expanded.{Expanded}
use Rattle.step.specs.declared.Run.{Run}

pub expansion_made :
    {d : Setting} {t : Table} {b : Record} → Rows d t → Encoded d t b
    → (w : List ℕ) (r : Run) (e : Expanded) {kids : List Record} → Born d t b e.born kids → Learnt d r.best (slots e.born kids) e.best
    → e.limit ≡ limit_of (on 1 d.rules) e.best.upper
    → Thinned (survives d.rules e.limit (active_in w r) (far_in w r)) kids e.born e.alive → Expansion d t w b r e kids
expansion_made {d} rows encoded w r e born learnt limited surviving = record {
  children = born;
  learnt = subst (λ (xs : List Record). Learnt d r.best xs e.best) (born_slots rows encoded born) learnt;
  limited = limited;
  surviving = surviving;
}
