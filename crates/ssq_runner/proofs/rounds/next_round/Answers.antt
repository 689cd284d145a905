use Rattle.std.proofs.Common.{◌+◌, ◌++◌, ◌∙◌, ℕ, List, All, sym, ap, subst, arith}
use Rattle.std.specs.Option.{ForSome}
use Rattle.ssq_time.specs.Time.{IsStampTime}
use Rattle.ssq_desk.specs.declared.told.Told.{Told}
use Rattle.ssq_runner.specs.Between.{HasGone}
use Rattle.ssq_runner.specs.Going.{SoFar}
use Rattle.ssq_runner.specs.Putting.{IsUntold}
use Rattle.ssq_runner.specs.Running.{Given as RunGiven}
use Rattle.ssq_runner.specs.Told.{told_text}
use Rattle.ssq_runner.proofs.Overs.{gone_indexes, gone_over, gone_untold, rounds_over}
use Rattle.ssq_runner.proofs.Readying.{asked_at}
use Rattle.ssq_runner.proofs.Starting.{finish, ready_on, unready_end}
use Rattle.ssq_runner.proofs.rounds.next_round.Given.{Over}
use Rattle.ssq_runner.proofs.rounds.next_round.Goals as goal
use Rattle.ssq_runner.proofs.rounds.next_round.Goals.{In-Ok}

pub tell_round-requires-clause-stamps : goal.tell_round-requires-clause-stamps
tell_round-requires-clause-stamps g c = subst (All (λ (t : Told). ForSome t.watermark IsStampTime)) (sym c.as_slice.ensures.value) c.requires.stamps

pub returns-in-Err-clause-over : goal.returns-in-Err-clause-over
returns-in-Err-clause-over g c = λ given n few later last gone.
    gone_untold (g.D.Disk.tells × g.L.Log.tells) g.L.Log.lines g.L.Log.available g.L.Log.answers g.L.Log.faults given n (g.D.Disk.history c.args.went.disk) (g.D.Disk.faults c.args.went.disk) c.args.went.logs.items g.O.Output.tells (g.O.Output.content c.args.out.now) c.args.went.told.items c.args.went.end gone
    c.epochs_hang_on_their_cuts.ensures c.rounds.ensures.joined (g.O.Output.content c.tell_round.new.out) c.tell_round.new.text.items c.in-Err.fault _ _ few
    (subst (λ (l : List Told). IsUntold g.O.Output.tells (g.O.Output.content c.args.out.now) (g.O.Output.content c.tell_round.new.out) (g.O.Output.faults c.args.out.now) (g.O.Output.faults c.tell_round.new.out) c.tell_round.new.text.items l c.args.went.end c.in-Err.fault) c.as_slice.ensures.value c.in-Err.ensures.untold)

-- so far rounds have come
so_on : (g : Over) → (c : In-Ok g) → (given : RunGiven g.row.L.Denot) (n : ℕ) → (gone : HasGone (g.D.Disk.tells × g.L.Log.tells) g.L.Log.lines g.L.Log.available g.L.Log.answers g.L.Log.faults given n (g.D.Disk.history c.args.went.disk) (g.D.Disk.faults c.args.went.disk) c.args.went.logs.items g.O.Output.tells (g.O.Output.content c.args.out.now) c.args.went.told.items c.args.went.end)
    → SoFar (g.D.Disk.tells × g.L.Log.tells) g.L.Log.lines g.L.Log.available g.L.Log.answers g.L.Log.faults gone.b (n + 1) (g.D.Disk.history c.args.went.disk) (g.D.Disk.faults c.args.went.disk) c.args.went.logs.items g.O.Output.tells (g.O.Output.content c.tell_round.new.out) c.in-Ok.next.opened
so_on g c given n gone =
    gone_over (g.D.Disk.tells × g.L.Log.tells) g.L.Log.lines g.L.Log.available g.L.Log.answers g.L.Log.faults given n (g.D.Disk.history c.args.went.disk) (g.D.Disk.faults c.args.went.disk) c.args.went.logs.items g.O.Output.tells (g.O.Output.content c.args.out.now) c.args.went.told.items c.args.went.end gone
    c.epochs_hang_on_their_cuts.ensures c.rounds.ensures.joined c.in-Ok.next (g.O.Output.content c.tell_round.new.out) c.in-Ok.ensures.same
    (λ o. c.in-Ok.ensures.over.0 o ∙ ap (λ (l : List Told). g.O.Output.content c.args.out.now ++ told_text l) c.as_slice.ensures.value)

pub returns-then-not-more-clause-over : goal.returns-then-not-more-clause-over
returns-then-not-more-clause-over g c = λ given n few later last gone.
    let so = so_on g (goal.at.returns-then-not-more-clause-over g c).In-Ok given n gone in
    rounds_over (g.D.Disk.tells × g.L.Log.tells) g.L.Log.lines g.L.Log.available g.L.Log.answers g.L.Log.faults given gone.b gone.begun _ _ _ g.O.Output.tells _ _ _
    (finish g.L.Log.tells (g.D.Disk.tells × g.L.Log.tells) g.L.Log.lines g.L.Log.available g.L.Log.answers g.L.Log.faults (λ t. t.1) gone.b (n + 1) _ _ c.args.went.logs.items c.args.went.logs.items g.O.Output.tells _ c.in-Ok.next.opened so
    c.tell_done-end.result c.tell_round.new.text.items c.tell_done-end.new.text.items (last c.if-not-more.true ∙ sym gone.begun.begun.rounds_are) (omega arith) c.in-Ok.ensures.over.1 so.asked c.tell_done-end.ensures.ok c.tell_done-end.ensures.err)

pub returns-in-Ok-count_again-clause-ready : goal.returns-in-Ok-count_again-clause-ready
returns-in-Ok-count_again-clause-ready g c = λ given n gone.
    let so = so_on g (goal.at.returns-in-Ok-count_again-clause-ready g c).In-Ok given n gone in
    record {
      b = gone.b;
      begun = gone.begun;
      ready = ready_on g.L.Log.tells (g.D.Disk.tells × g.L.Log.tells) g.L.Log.lines g.L.Log.available g.L.Log.answers g.L.Log.faults (λ t. t.1) gone.b (n + 1) _ _ c.args.went.logs.items c.count_again.new.logs.items g.O.Output.tells _ c.in-Ok.next.opened so (omega arith)
          c.in-Ok-count_again.found.items c.in-Ok-count_again.ensures.asked c.in-Ok-count_again.ensures.long;
      indexes = gone_indexes (g.D.Disk.tells × g.L.Log.tells) g.L.Log.lines g.L.Log.available g.L.Log.answers g.L.Log.faults given n (g.D.Disk.history c.args.went.disk) (g.D.Disk.faults c.args.went.disk) c.args.went.logs.items g.O.Output.tells (g.O.Output.content c.args.out.now) c.args.went.told.items c.args.went.end gone c.in-Ok.next c.in-Ok.ensures.same;
    }

pub returns-in-Ok-count_again-clause-long : goal.returns-in-Ok-count_again-clause-long
returns-in-Ok-count_again-clause-long g c = λ t i own at.
    (let e = asked_at g.L.Log.tells g.L.Log.lines g.L.Log.available g.L.Log.answers g.L.Log.faults c.args.went.logs.items c.count_again.new.logs.items c.in-Ok-count_again.found.items c.in-Ok-count_again.ensures.asked t i own at in omega (arith, e))

pub returns-clause-over : goal.returns-clause-over
returns-clause-over g c = λ given n few later last gone.
    let so = so_on g (goal.at.returns-clause-over g c).In-Ok given n gone in
    rounds_over (g.D.Disk.tells × g.L.Log.tells) g.L.Log.lines g.L.Log.available g.L.Log.answers g.L.Log.faults given gone.b gone.begun _ _ _ g.O.Output.tells _ _ _
    (unready_end g.L.Log.tells (g.D.Disk.tells × g.L.Log.tells) g.L.Log.lines g.L.Log.available g.L.Log.answers g.L.Log.faults (λ t. t.1) gone.b (n + 1) _ _ c.args.went.logs.items c.count_again.new.logs.items g.O.Output.tells _ c.in-Ok.next.opened so (omega arith)
    c.in-Err-count_again.fault c.tell_round.new.text.items (let l = later c.if-not-more.false in let r = gone.begun.begun.rounds_are in omega (arith, l, r)) c.in-Ok.ensures.over.1 c.in-Err-count_again.ensures.unready)
