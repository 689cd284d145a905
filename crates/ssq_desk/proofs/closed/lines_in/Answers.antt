use Rattle.std.proofs.Common.{rules, ◌≡◌, ◌<◌, ◌≤◌, ◌∙◌, ◌+◌, ◌++◌, ◌∷◌, [], drop, List, None, refl, sym, ap, subst, arith, length, length-append, get_or}
use Rattle.std.specs.Prelude.{All, vec_capacity}
use Rattle.ssq_shape.specs.declared.bound.Stream.{Stream}
use Rattle.ssq_plans.specs.declared.seen.SeenBy.{SeenBy}
use Rattle.ssq_plans.specs.Records.{HasLineTime}
use Rattle.ssq_task.specs.Committing.{lines_of}
use Rattle.ssq_task.proofs.Commits.{line, lines_from, one_line, no_line, all_lines, lines_timed}
use Rattle.ssq_desk.proofs.closed.lines_in.Goals as goal
use Rattle.ssq_desk.proofs.closed.lines_in.Goals.{then-is_some, else-is_some}

pub loop-at-preserved : goal.loop-at-preserved
loop-at-preserved c =
    let streams = c.args.bound.now.streams in
    let times = c.args.times.now in
    let at = c.loop-at.at in
    let inside : at < length streams = subst (λ (s : List Stream). at < length s) c.as_slice-stream-items.ensures c.loop-at-test.true in
    let item : c.stream-item.result ≡ get_or streams at c.stream-item.result = search rules in
    let few = c.loop-at.invariant.few in
    let room = c.loop-at.invariant.room in
    elim c.if-is_some.branch [
      | then-is_some w ↦ (
          let more : c.if-is_some.lines.items ≡ c.loop-at.lines.items ++ line at (get_or times at None) ∷ [] = search (w.lines-is, w.push_reserved.ensures, rules) in
          let count = ap length more ∙ length-append c.loop-at.lines.items (line at (get_or times at None) ∷ []) in
          let capacity : vec_capacity c.if-is_some.lines ≡ vec_capacity c.loop-at.lines = search (w.lines-is, w.push_reserved.ensures, rules) in record {
            lines = subst (λ (lines : List SeenBy). lines ++ lines_from (at + 1) (drop (at + 1) streams) times ≡ lines_of c.args.bound.now times) (sym more)
                (one_line at streams times c.stream-item.result (get_or times at None) c.loop-at.lines.items _ inside item (sym c.is_some.ensures ∙ w.if-is_some.true) refl c.loop-at.invariant.lines);
            few = omega (arith, few, count);
            room = omega (arith, room, capacity);
          })
      | else-is_some w ↦ record {
        lines = subst (λ lines. lines ++ lines_from (at + 1) (drop (at + 1) streams) times ≡ lines_of c.args.bound.now times) (sym (ap (λ v. v.items) w.lines-is))
            (no_line at streams times c.stream-item.result c.loop-at.lines.items _ inside item (sym c.is_some.ensures ∙ w.if-is_some.false) c.loop-at.invariant.lines);
        few = (let same = ap (λ v. length v.items) w.lines-is in omega (arith, few, same));
        room = (let same = ap (λ v. vec_capacity v) w.lines-is in omega (arith, room, same));
      }
    ]

pub returns-clause-lines : goal.returns-clause-lines
returns-clause-lines c =
    let over : length c.args.bound.now.streams ≤ c.loop-at.at = grind (arith, ap (λ (s : List Stream). length s) c.as_slice-stream-items.ensures, c.loop-at-test.false) in
    c.from_vec.ensures ∙ all_lines c.loop-at.at c.args.bound.now.streams c.args.times.now c.loop-at.lines.items _ over c.loop-at.invariant.lines

pub returns-clause-years : goal.returns-clause-years
returns-clause-years c =
    let over : length c.args.bound.now.streams ≤ c.loop-at.at = grind (arith, ap (λ (s : List Stream). length s) c.as_slice-stream-items.ensures, c.loop-at-test.false) in
    let all : c.from_vec.result ≡ lines_of c.args.bound.now c.args.times.now = c.from_vec.ensures ∙ all_lines c.loop-at.at c.args.bound.now.streams c.args.times.now c.loop-at.lines.items _ over c.loop-at.invariant.lines in
    subst (λ (lines : List SeenBy). All HasLineTime lines) (sym all) (lines_timed c.args.bound.now c.args.times.now c.requires.years)
