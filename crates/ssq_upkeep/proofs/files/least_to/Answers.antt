use Rattle.std.proofs.Common.{◌∙◌, ◌+◌, take, get_or, true≢false, sym}
use Rattle.ssq_outside.specs.declared.name.Name.TheVariants as name
use Rattle.ssq_upkeep.proofs.Among.{grows}
use Rattle.ssq_upkeep.proofs.Leasts.{taken, left_there, passed}
use Rattle.ssq_upkeep.proofs.files.least_to.Goals as goal
use Rattle.ssq_upkeep.proofs.files.least_to.Goals.{then-is_less+then-goes, else-is_less, else-is_less-via-then-is_less+else-goes, else-is_less-via-else-is_less}

pub loop-name-preserved : goal.loop-name-preserved
loop-name-preserved c =
    let i = c.loop-name.name-index in
    let n = get_or c.args.names.now i name.Meta in
    let more = grows c.args.names.now i name.Meta c.loop-name-test.true in
    elim c.if-is_less.branch [
      | then-is_less+then-goes w ↦ rw w.least-is (taken (take i c.args.names.now) (take (i + 1) c.args.names.now) c.args.settled.now c.args.partitions c.args.last n more c.loop-name.least c.loop-name.invariant
          (sym c.is_less.ensures ∙ w.if-is_less.true) (w.goes.ensures.0 w.if-goes.true))
      | else-is_less w ↦ elim w.else-is_less.branch [
        | else-is_less-via-then-is_less+else-goes w' ↦ rw w.least-is (left_there (take i c.args.names.now) (take (i + 1) c.args.names.now) c.args.settled.now c.args.partitions c.args.last n more c.loop-name.least c.loop-name.invariant
            (λ let_go. true≢false (sym (w'.goes.ensures.1 let_go) ∙ w'.if-goes.false)))
        | else-is_less-via-else-is_less w' ↦ rw w.least-is (passed (take i c.args.names.now) (take (i + 1) c.args.names.now) c.args.settled.now c.args.partitions c.args.last n more c.loop-name.least c.loop-name.invariant
            (sym c.is_less.ensures ∙ w'.if-is_less.false))
      ]
    ]
