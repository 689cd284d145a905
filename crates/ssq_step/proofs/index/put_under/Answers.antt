use Rattle.std.proofs.Common.{SFits, of_z, rules, to_z, w64}
use Rattle.std.proofs.lemmas.Int.{to_z-of_z}
use Rattle.ssq_step.proofs.RowTimes.{put_if, put_none}
use Rattle.ssq_step.proofs.index.put_under.Goals as goal

pub returns-in_ok-insert : goal.returns-in_ok-insert
returns-in_ok-insert c =
    let time = c.in-Some.time in
    let fits : SFits w64 time = search rules in
    put_if c.args.key.now c.args.entries.now.keys c.insert.new.self.keys (to_z w64 (of_z w64 time), c.in_ok-clone.field-0) c.args.time time c.in-Some.is (λ i. (to_z-of_z w64 time fits i, c.in_ok-clone.ensures.cases i)) c.in_ok-insert.ensures.updates.0

pub returns-in_default : goal.returns-in_default
returns-in_default c = put_none c.args.key.now c.args.entries.now.keys c.args.time c.in_default.is
