use Rattle.std.proofs.Common.{None, Some, refl}
use Rattle.ssq_task.specs.Lists.{joined_vecs}
use Rattle.ssq_task.proofs.Shown.{all_brought, none_failed, reduced_with}
use Rattle.ssq_task.proofs.partition.reduce.Goals as goal
use Rattle.ssq_task.proofs.partition.reduce.Goals.{in-None, in-Some}

pub returns : goal.returns
returns g c =
    let s = g.S.Stage in
    let task = c.args.task in
    let rows = joined_vecs task.rows.items in
    elim c.match-state.branch [
      | in-None w ↦ rw w.held-is
          (reduced_with s.tells s.written s.sealed s.faults task None w.show_all.result None w.in-None.is refl
          (all_brought s.tells s.written s.sealed s.faults task.view.bound.now task.epoch task.partition task.watermark rows c.requires.fit w.show_all.result w.show_all.ensures.rows w.show_all.ensures.delta)
          (none_failed s.tells s.written s.sealed s.faults task.view.bound.now task.epoch task.partition task.watermark rows w.show_all.result w.show_all.ensures.cause))
      | in-Some w ↦ rw w.held-is
          (reduced_with s.tells s.written s.sealed s.faults task (Some w.next_version-held.result.0) w.next_version-held.result.1 (Some w.in-Some.state) w.in-Some.is w.next_version-held.ensures.partition
          (w.next_version-held.ensures.brought task.partition) (w.next_version-held.ensures.failed task.partition))
    ]
