use Rattle.std.proofs.Common.{rules, ◌≡◌, ◌<◌, ◌≤◌, ◌∙◌, ◌+◌, ◌++◌, ◌∷◌, [], drop, List, None, refl, sym, ap, subst, arith, length, get_or}
use Rattle.ssq_shape.specs.declared.bound.Stream.{Stream}
use Rattle.ssq_plans.specs.declared.seen.SeenBy.{SeenBy}
use Rattle.ssq_plans.specs.Records.{HasLineTime}
use Rattle.std.specs.Prelude.{All}
use Rattle.ssq_task.specs.Committing.{lines_of}
use Rattle.ssq_task.proofs.Commits.{line, lines_from, one_line, no_line, all_lines, lines_timed}
use Rattle.ssq_task.proofs.commit.lines_of.Goals as goal
use Rattle.ssq_task.proofs.commit.lines_of.Goals.{then-is_some+in_ok-push, else-is_some}

pub loop-at-preserved : goal.loop-at-preserved
loop-at-preserved c =
    let streams = c.args.bound.now.streams in
    let times = c.args.times.now in
    let at = c.loop-at.at in
    let inside : at < length streams = subst (λ (s : List Stream). at < length s) c.as_slice-stream-items.ensures c.loop-at-test.true in
    let item : c.stream-item.result ≡ get_or streams at c.stream-item.result = search rules in
    elim c.if-is_some.branch [
      | then-is_some+in_ok-push w ↦
          let more : c.if-is_some.lines ≡ c.loop-at.lines ++ line at (get_or times at None) ∷ [] = search (w.lines-is, w.in_ok-push, w.push.ensures, rules) in
          subst (λ (lines : List SeenBy). lines ++ lines_from (at + 1) (drop (at + 1) streams) times ≡ lines_of c.args.bound.now times) (sym more)
          (one_line at streams times c.stream-item.result (get_or times at None) c.loop-at.lines _ inside item (sym c.is_some.ensures ∙ w.if-is_some.true) refl c.loop-at.invariant)
      | else-is_some w ↦
          subst (λ (lines : List SeenBy). lines ++ lines_from (at + 1) (drop (at + 1) streams) times ≡ lines_of c.args.bound.now times) (sym w.lines-is)
          (no_line at streams times c.stream-item.result c.loop-at.lines _ inside item (sym c.is_some.ensures ∙ w.if-is_some.false) c.loop-at.invariant)
    ]

pub returns-clause-lines : goal.returns-clause-lines
returns-clause-lines c =
    let over : length c.args.bound.now.streams ≤ c.loop-at.at = grind (arith, ap (λ (s : List Stream). length s) c.as_slice-stream-items.ensures, c.loop-at-test.false) in
    all_lines c.loop-at.at c.args.bound.now.streams c.args.times.now c.loop-at.lines _ over c.loop-at.invariant

pub returns-clause-years : goal.returns-clause-years
returns-clause-years c =
    let over : length c.args.bound.now.streams ≤ c.loop-at.at = grind (arith, ap (λ (s : List Stream). length s) c.as_slice-stream-items.ensures, c.loop-at-test.false) in
    let all : c.loop-at.lines ≡ lines_of c.args.bound.now c.args.times.now = all_lines c.loop-at.at c.args.bound.now.streams c.args.times.now c.loop-at.lines _ over c.loop-at.invariant in
    subst (λ (lines : List SeenBy). All HasLineTime lines) (sym all) (lines_timed c.args.bound.now c.args.times.now c.requires.years)
