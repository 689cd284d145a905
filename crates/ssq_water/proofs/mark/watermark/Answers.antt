use Rattle.std.proofs.Common.{rules, ◌≡◌, ◌∙◌, ◌<◌, ◌≤◌, ◌+◌, drop, sym, ap, subst, ℤ, List, length, arith, get_or, Option, None}
use Rattle.std.specs.Prelude.{IfSome}
use Rattle.ssq_time.specs.Time.{IsStampTime}
use Rattle.ssq_shape.specs.declared.bound.Stream.{Stream}
use Rattle.ssq_meaning.specs.Times.{delays, watermark_by}
use Rattle.ssq_water.specs.Water.{seen_at}
use Rattle.ssq_water.proofs.Marks.{marks_from, least_with, passed, goes_on, stops, ended, told}
use Rattle.ssq_water.proofs.mark.watermark.Goals as goal
use Rattle.ssq_water.proofs.mark.watermark.Goals.{in-Some+in_ok-times, in_default}

pub returns-in_err-times-clause-watermark : goal.returns-in_err-times-clause-watermark
returns-in_err-times-clause-watermark c =
    let streams = c.args.bound.now.streams in
    let inside : c.loop-at.at < length streams = subst (λ (s : List Stream). c.loop-at.at < length s) c.as_slice-stream-items.ensures c.loop-at-test.true in
    let none : c.from_residual.result ≡ None = search rules in
    let there : seen_at c.times-times.result.now c.loop-at.at ≡ None = search rules in
    let item : c.stream-item.result ≡ get_or streams c.loop-at.at c.stream-item.result = search rules in
    none ∙ stops _ _ streams _ c.stream-item.result c.in-Some.delay _ inside item c.in-Some.is there c.loop-at.invariant.left
    ∙ ap (λ (seen : List (Option ℤ)). watermark_by (delays c.args.bound.now) (seen_at seen)) c.times-times.ensures.times

pub loop-at-preserved : goal.loop-at-preserved
loop-at-preserved c =
    let streams = c.args.bound.now.streams in
    let inside : c.loop-at.at < length streams = subst (λ (s : List Stream). c.loop-at.at < length s) c.as_slice-stream-items.ensures c.loop-at-test.true in
    let item : c.stream-item.result ≡ get_or streams c.loop-at.at c.stream-item.result = search rules in
    elim c.match-stream.branch [
      | in-Some+in_ok-times w ↦
          let is = told c.loop-at.least c.match-stream.least w.lesser.result w.less_delay.result w.in_ok-times.field-0 w.in-Some.delay (search rules) (search rules) (search rules) (search rules) w.least-is w.lesser.ensures.lesser w.less_delay.ensures.mark in
          record {
            left = ap (λ (l : Option ℤ). least_with l (marks_from (c.loop-at.at + 1) (drop (c.loop-at.at + 1) streams) c.times-times.result.now)) is
                ∙ goes_on c.loop-at.least _ streams _ c.stream-item.result w.in-Some.delay w.in_ok-times.field-0 _ inside item w.in-Some.is w.in_ok-times.was c.loop-at.invariant.left;
            years = search (rules, w.least-is, w.lesser.ensures, w.less_delay.ensures);
          }
      | in_default w ↦ record {
        left = ap (λ (l : Option ℤ). least_with l (marks_from (c.loop-at.at + 1) (drop (c.loop-at.at + 1) streams) c.times-times.result.now)) w.least-is
            ∙ passed c.loop-at.least _ streams _ c.stream-item.result _ inside item w.in_default.is c.loop-at.invariant.left;
        years = subst (λ (l : Option ℤ). IfSome l IsStampTime) (sym w.least-is) c.loop-at.invariant.years;
      }
    ]

pub returns-clause-watermark : goal.returns-clause-watermark
returns-clause-watermark c =
    let over : length c.args.bound.now.streams ≤ c.loop-at.at = grind (arith, ap (λ (s : List Stream). length s) c.as_slice-stream-items.ensures, c.loop-at-test.false) in
    ended _ _ c.args.bound.now.streams _ _ over c.loop-at.invariant.left
    ∙ ap (λ (seen : List (Option ℤ)). watermark_by (delays c.args.bound.now) (seen_at seen)) c.times-times.ensures.times
