use Rattle.std.proofs.Common.{sym, subst}
use Rattle.ssq_json.proofs.Restoring.{AreLeft, all_left, one_less, none_left}
use Rattle.ssq_json.proofs.stored.unescaped.Goals as goal

pub loop-byte-init : goal.loop-byte-init
loop-byte-init c = subst (λ bytes. AreLeft c.args.text.now bytes c.args.text.now) (sym c.new-bytes.ensures.items) (all_left c.args.text.now)

pub loop-byte-preserved : goal.loop-byte-preserved
loop-byte-preserved c =
    one_less c.args.text.now c.loop-byte.bytes.items c.loop-byte.left.now c.push.new.self.items c.in-Some.after.now c.in-Some.byte (sym c.in-Some.ensures.byte) c.in_ok-push.ensures.items c.loop-byte.invariant

pub returns : goal.returns
returns c = none_left c.args.text.now c.loop-byte.bytes.items c.loop-byte.left.now (sym c.in_default.ensures.byte) c.loop-byte.invariant
