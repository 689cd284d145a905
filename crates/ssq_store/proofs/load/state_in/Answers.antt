use Rattle.std.proofs.Common.{arith, ◌≡◌, true≢false, is_some, sym, ap}
use Rattle.ssq_version.specs.Text.{snapshot_text}
use Rattle.ssq_store.proofs.load.state_in.Goals as goal

pub returns-in_default-clause-none : goal.returns-in_default-clause-none
returns-in_default-clause-none c state is =
    let text : c.args.text.now ≡ snapshot_text c.args.partition c.args.version state = let same = is.is in cc in
    let read = c.in_ok-read.ensures.each c.args.partition c.args.version state (omega arith) (omega arith) is.kept is.few text in
    absurd (true≢false (sym (ap is_some (c.in_default.ensures.each state read))))
