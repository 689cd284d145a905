use Rattle.std.proofs.Common.{◌≡◌, ◌≤◌, ◌<◌, ◌+◌, ◌++◌, [], ◌∷◌, ℕ, List, length, length-append, get_or, drop, Some, None, refl, sym, ap, ◌∙◌, subst, arith}
use Rattle.std.specs.Prelude.{vec_capacity}
use Rattle.std.proofs.lemmas.List.{append-nil, append_assoc, drop_more, nil_from_length}
use Rattle.ssq_plans.specs.declared.part.PartEnd.{PartEnd}
use Rattle.ssq_desk.specs.declared.desk.PartLog.{PartLog}
use Rattle.ssq_desk.specs.First.{part_logs_of}
use Rattle.ssq_desk.proofs.Placing.{IsPlacing}
use Rattle.ssq_desk.proofs.first.with_logs.Goals as goal

module _ {L : Type 0} (parts ends : List PartEnd) (logs : List L) where
  -- none has its log yet
  none_placed : (rest : List L) (part_logs : List (PartLog L)) (capacity : ℕ) → part_logs ≡ [] → rest ≡ logs → length parts ≡ length logs → length ends ≡ length logs → length logs ≤ capacity
      → IsPlacing parts ends logs rest part_logs capacity
  none_placed rest part_logs capacity none same each_part each_end fits =
      subst (λ (l : List (PartLog L)). IsPlacing parts ends logs rest l capacity) (sym none)
      (subst (λ (l : List L). IsPlacing parts ends logs l [] capacity) (sym same) (record { items = refl; each_part = omega (arith, each_part); each_end = omega (arith, each_end); room = omega (arith, fits) }))

  -- the part at this place with this log
  abbrev with_log : PartEnd → ℕ → L → PartLog L
  with_log d n log = record { stream = (get_or parts n d).stream; part = (get_or parts n d).part; from = (get_or ends n d).end; log = Some log; fed = None }

  -- one more has its log
  one_placed : (log : L) (rest : List L) (part_logs : List (PartLog L)) (d : PartEnd) (capacity more : ℕ) → capacity ≡ more → IsPlacing parts ends logs (log ∷ rest) part_logs capacity
      → IsPlacing parts ends logs rest (part_logs ++ with_log d (length part_logs) log ∷ []) more
  one_placed log rest part_logs d capacity more same is =
      let n = length part_logs in
      let count : length (part_logs ++ with_log d n log ∷ []) ≡ n + 1 = length-append part_logs (with_log d n log ∷ []) in
      let in_parts : n < length parts = omega (arith, is.each_part) in
      let in_ends : n < length ends = omega (arith, is.each_end) in record {
        items = append_assoc part_logs (with_log d n log ∷ []) _
            ∙ ap (λ (m : ℕ). part_logs ++ with_log d n log ∷ part_logs_of (drop m parts) (drop m ends) rest) count
            ∙ (λ i. part_logs ++ part_logs_of (sym (drop_more parts n d in_parts) i) (sym (drop_more ends n d in_ends) i) (log ∷ rest))
            ∙ is.items;
        each_part = omega (arith, is.each_part, count);
        each_end = omega (arith, is.each_end, count);
        room = omega (arith, is.room, count, same);
      }

  no_log : (some others : List PartEnd) → part_logs_of {L = L} some others [] ≡ []
  no_log [] others = refl
  no_log (part ∷ some) [] = refl
  no_log (part ∷ some) (end ∷ others) = refl

  -- all have theirs
  all_placed : (rest : List L) (part_logs : List (PartLog L)) (capacity : ℕ) → length rest ≡ 0 → IsPlacing parts ends logs rest part_logs capacity → part_logs ≡ part_logs_of parts ends logs
  all_placed rest part_logs capacity none is =
      sym (append-nil part_logs)
      ∙ ap (λ (l : List (PartLog L)). part_logs ++ l) (sym (no_log (drop (length part_logs) parts) (drop (length part_logs) ends)))
      ∙ ap (λ (l : List L). part_logs ++ part_logs_of (drop (length part_logs) parts) (drop (length part_logs) ends) l) (sym (nil_from_length rest none)) ∙ is.items

pub loop-log-init : goal.loop-log-init
loop-log-init g c = (
  tt,
  tt,
  none_placed c.args.parts.now c.args.ends.now c.args.logs.items c.into_iter-log-iterator.result.rest.items c.args.room.items (vec_capacity c.args.room) c.requires.none c.into_iter-log-iterator.ensures.into_iter_gives.0 c.requires.parts c.requires.ends c.requires.fits,
)

pub bounds-parts-at : goal.bounds-parts-at
bounds-parts-at g c =
    let is = c.loop-log.invariant.2 in
    let same = ap length c.as_slice-at.ensures.value in
    let left = ap length c.in-Some.ensures.steps.0 in
    omega (arith, is.each_part, same, left)

pub bounds-parts-at-in-loop-log : goal.bounds-parts-at-in-loop-log
bounds-parts-at-in-loop-log g c =
    let is = c.loop-log.invariant.2 in
    let same = ap length c.as_slice-at.ensures.value in
    let left = ap length c.in-Some.ensures.steps.0 in
    omega (arith, is.each_part, same, left)

pub bounds-ends-at : goal.bounds-ends-at
bounds-ends-at g c =
    let is = c.loop-log.invariant.2 in
    let same = ap length c.as_slice-at.ensures.value in
    let left = ap length c.in-Some.ensures.steps.0 in
    omega (arith, is.each_end, same, left)

pub push_reserved-requires : goal.push_reserved-requires
push_reserved-requires g c =
    let is = c.loop-log.invariant.2 in
    let left = ap length c.in-Some.ensures.steps.0 in
    omega (arith, is.room, left, c.loop-log.part_logs.ok.0)

pub loop-log-preserved : goal.loop-log-preserved
loop-log-preserved g c =
    let none : PartEnd = record { stream = 0; part = 0; end = 0 } in
    let parts = c.args.parts.now in
    let ends = c.args.ends.now in
    let logs = c.args.logs.items in
    let is = subst (λ (rest : List g.row.L.Denot). IsPlacing parts ends logs rest c.loop-log.part_logs.items (vec_capacity c.loop-log.part_logs)) c.in-Some.ensures.steps.0 c.loop-log.invariant.2 in
    let more = c.push_reserved.ensures.items
    ∙ ap (λ (l : List (PartLog g.row.L.Denot)). c.loop-log.part_logs.items ++ with_log parts ends logs none (length l) c.in-Some.log ∷ []) c.as_slice-at.ensures.value in (
      tt,
      tt,
      subst (λ (l : List (PartLog g.row.L.Denot)). IsPlacing parts ends logs c.next.new.self.rest.items l (vec_capacity c.push_reserved.new.self)) (sym more)
          (one_placed parts ends logs c.in-Some.log c.next.new.self.rest.items c.loop-log.part_logs.items none (vec_capacity c.loop-log.part_logs) (vec_capacity c.push_reserved.new.self) (sym c.push_reserved.ensures.capacity) is),
    )

pub returns : goal.returns
returns g c = all_placed c.args.parts.now c.args.ends.now c.args.logs.items c.loop-log.log-iterator.rest.items c.loop-log.part_logs.items (vec_capacity c.loop-log.part_logs) (omega (arith, c.in-None.ensures.steps.0, c.loop-log.log-iterator.rest.ok.0)) c.loop-log.invariant.2
