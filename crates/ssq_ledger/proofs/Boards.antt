-- Where the tasks of a kind are, and the counts.
use Rattle.std.proofs.Common.{◌≡◌, ◌≤◌, Bool, true, false, true≢false, List, [], ◌∷◌, length, set, replicate, map, sym, refl, ap, ◌∙◌, inl, inr, arith}
use mathlib.Core.Option.{some}
use lib.ListN.{get_elem?}
use Rattle.std.specs.List.{list_any}
use Rattle.ssq_outside.specs.declared.gate.TaskId.{TaskId}
use Rattle.ssq_outside.specs.declared.gate.Kind.{Kind}
use Rattle.ssq_outside.specs.declared.gate.Kind.TheVariants as kind
use Rattle.ssq_board.specs.declared.front.Place.{Place}
use Rattle.ssq_board.specs.declared.front.Place.TheVariants as place
use Rattle.ssq_board.specs.declared.front.Ready.TheVariants as ready
use Rattle.ssq_board.specs.declared.front.Entry.TheVariants as entry
use Rattle.ssq_board.specs.Core.{Scope, Core, May, is_waiting, ready_of, moved, with_front, with_tasks, tasks_of}
use Rattle.ssq_board.proofs.Readies.{waits_for, out_may}

-- the tasks of the kind of which one moved
pub moved_tasks : (c : Core) (t : TaskId) (p : Place) → tasks_of t.kind (moved c t p) ≡ set (tasks_of t.kind c) t.number p
moved_tasks c t p = by t.kind
  where
    by : (k : Kind) → tasks_of k (with_tasks k c (set (tasks_of k c) t.number p)) ≡ set (tasks_of k c) t.number p
    by kind.Map = refl
    by kind.Reduce = refl
    by kind.Out = refl
    by kind.Upkeep = refl

-- where there is one task, it is the one that waits
pub only_waits : (l : List Place) → length l ≤ 1 → list_any is_waiting l ≡ true → get_elem? l 0 ≡ some place.Waits
only_waits [] le e = absurd (true≢false (sym e))
only_waits (p ∷ q ∷ r) le e = absurd (omega arith)
only_waits (place.Waits ∷ []) le e = refl
only_waits (place.Rests ∷ []) le e = absurd (true≢false (sym e))
only_waits (place.Away ∷ []) le e = absurd (true≢false (sym e))
only_waits (place.Back f ∷ []) le e = absurd (true≢false (sym e))

-- where none of the others waits, the out task does
pub out_last : (r : Scope) (c : Core) → ready_of r c ≡ ready.Task → list_any is_waiting c.maps ≡ false → list_any is_waiting c.reduces ≡ false
    → length c.outs ≤ 1 → May r c (entry.Claim (record { epoch = c.front.committed; kind = kind.Out; number = 0 }))
out_last r c e none none' few = let w = waits_for r c e in elim w.first [
  | inl some_map ↦ absurd (true≢false (sym some_map ∙ none))
  | inr rest ↦ elim rest.2 [
    | inl some_reduce ↦ absurd (true≢false (sym some_reduce ∙ none'))
    | inr last ↦ out_may r c e 0 none none' (only_waits c.outs few last.2)
  ]
]

-- what is known but for whether names are settled
abbrev pub with_settled : Core → Bool → Core
with_settled c settled =
    let f = c.front in
    with_front c (record { planned = f.planned; committed = f.committed; fresh = f.fresh; settled = settled; written = f.written; has_lines = f.has_lines; due = f.due; stop = f.stop })

-- as many tasks, all at one place
pub all_at : {A : Type 0} (l : List A) (p : Place) → replicate (length l) p ≡ map (λ _. p) l
all_at [] p = refl
all_at (x ∷ xs) p = ap (λ l. p ∷ l) (all_at xs p)
