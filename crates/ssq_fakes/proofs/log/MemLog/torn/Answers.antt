use Rattle.std.proofs.Common.{◌≡◌, ◌++◌, ◌∙◌}
use Rattle.std.proofs.lemmas.Result.{IfOk-weaker}
use Rattle.std.specs.Prelude.{map}
use Rattle.ssq_fakes.specs.Logs.{lines_after, whole_lines}
use Rattle.ssq_fakes.proofs.WholeLines.{one_more, at_last}
use Rattle.ssq_fakes.proofs.log.MemLog.torn.Goals as goal

pub loop-byte-preserved : goal.loop-byte-preserved
loop-byte-preserved c =
    one_more c.args.bytes.now c.loop-byte.byte-index _
    (λ rest. map (λ line. line.items) c.loop-byte.lines.items ++ lines_after c.loop-byte.line.items rest)
    (λ rest. map (λ line. line.items) c.take_byte.new.lines.items ++ lines_after c.take_byte.new.line.items rest)
    c.loop-byte-test.true c.in_ok-take_byte.ensures c.loop-byte.invariant

pub returns-clause-lines : goal.returns-clause-lines
returns-clause-lines c =
    let done : map (λ line. line.items) c.loop-byte.lines.items ≡ whole_lines c.args.bytes.now =
    at_last c.args.bytes.now c.loop-byte.byte-index _ (map (λ line. line.items) c.loop-byte.lines.items) c.loop-byte.line.items c.loop-byte-test.false c.loop-byte.invariant in
    IfOk-weaker c.of.result _ _ (λ log is. is ∙ done) c.of.ensures.lines
