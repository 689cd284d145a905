use Rattle.std.proofs.Common.{◌≤◌, List, ℕ, Some, ap, map, refl, string_bytes, subst, arith}
use Rattle.ssq_core.specs.Sound.{StandsOrEmpty}
use Rattle.ssq_core.specs.Standing.{Stands}
use Rattle.ssq_course.specs.Setting.{job_of, parts_in}
use Rattle.ssq_runner.specs.Sources.{RunOver}
use Rattle.ssq_run.specs.declared.prepare.Todo.{Todo}
use Rattle.ssq_run.specs.Prepared.{IsTodo}
use Rattle.ssq_run.specs.Program.{Given, Went, ProgramEnd, went_of}
use Rattle.ssq_run.specs.Stopping.{HasCount, WordsCause, stop_in}
use Rattle.ssq_run.proofs.Going as going
use Rattle.ssq_run.proofs.Looking.{looked_well}
use Rattle.ssq_run.proofs.Passing.{counts_by, idle_of, look_end, none_counted, run_end, same_leaves, told_counts, told_past, unready_end, words_taken}
use Rattle.ssq_run.proofs.Runnable.{query_is_bounded}
use Rattle.ssq_run.proofs.ShownKeys.{query_shows_keys}
use Rattle.ssq_run.proofs.ShownTable.{table_shown}
use Rattle.ssq_run.proofs.Tabling.{shown_well}
use Rattle.ssq_run.proofs.Telling.{disk_told, log_told, no_command_told, out_told, status_since, usage_told, wrote_since}
use Rattle.ssq_run.proofs.stream.stream_main.Given.{Over}
use Rattle.ssq_run.proofs.stream.stream_main.Goals as goal
use Rattle.ssq_run.proofs.stream.stream_main.Goals.{in-Ok-Run, in-Ok-Look, in-Err}

-- ---- until its end is told: the query was run, something was told of it, or nothing was to be done

abbrev given_by : (g : Over) → (c : goal.After-tell-status g) → Given
given_by g c = record { words = map string_bytes c.args.words.now; held = g.I.Inputs.held c.args.inputs; known = g.I.Inputs.available c.args.inputs }

abbrev went_by : (g : Over) → (c : goal.After-tell-status g) → Went
went_by g c = went_of (g.D.Disk.history c.args.disk) (g.D.Disk.history c.match-prepare.disk.disk) (g.D.Disk.faults c.args.disk) (g.D.Disk.faults c.match-prepare.disk.disk) (g.I.Inputs.returned c.args.inputs) (g.I.Inputs.returned c.match-prepare.inputs)
    (g.O.Output.content c.args.out) (g.O.Output.content c.match-prepare.out) c.match-prepare.disk.text.items

end_is : (g : Over) (c : goal.After-tell-status g) → g.D.Disk.tells → g.I.Inputs.tells
    → ProgramEnd g.I.Inputs.tells (g.D.Disk.tells × g.I.Log.Log.tells) g.I.Log.Log.lines g.I.Log.Log.available g.I.Log.Log.answers g.I.Log.Log.faults (given_by g c) g.O.Output.tells (went_by g c) (stop_in c.match-prepare.disk.end)
end_is g c tells told =
    let T : Todo → Type 0 = IsTodo (g.I.Inputs.held c.args.inputs) (map string_bytes c.args.words.now) in
    elim c.match-prepare.branch [
      | in-Ok-Run w ↦
          let R : List (List ℕ) → Type 0 = λ returned. RunOver g.I.Inputs.tells (g.D.Disk.tells × g.I.Log.Log.tells) g.I.Log.Log.lines g.I.Log.Log.available g.I.Log.Log.answers g.I.Log.Log.faults
          (g.I.Inputs.held c.prepare.new.inputs) (g.I.Inputs.available c.prepare.new.inputs) w.in-Ok-Run.bound w.in-Ok-Run.ask (g.D.Disk.history c.args.disk) (g.D.Disk.history w.run_query-ran.result.disk) (g.D.Disk.faults c.args.disk) (g.D.Disk.faults w.run_query-ran.result.disk)
          returned (g.I.Inputs.returned w.run_query-ran.new.inputs) g.O.Output.tells (g.O.Output.content c.args.out) (g.O.Output.content w.run_query-ran.new.out) w.run_query-ran.result.text.items w.run_query-ran.result.end in
          rw (w.disk-is, w.inputs-is, w.out-is, w.named-done.ensures.disk, w.named-done.ensures.text)
          (run_end g.I.Inputs.tells (g.D.Disk.tells × g.I.Log.Log.tells) g.I.Log.Log.lines g.I.Log.Log.available g.I.Log.Log.answers g.I.Log.Log.faults (given_by g c) (g.I.Inputs.held c.prepare.new.inputs) (g.I.Inputs.available c.prepare.new.inputs) g.O.Output.tells _ (stop_in w.named-done.result.end)
          w.in-Ok-Run.bound w.in-Ok-Run.ask w.run_query-ran.result.counts w.run_query-ran.result.end (subst T w.in-Ok-Run.field-0-is (w.in-Ok-Run.ensures.todo told)) (c.prepare.ensures.held told) (c.prepare.ensures.grown told)
          (subst R (c.prepare.ensures.unreturned told) w.run_query-ran.ensures.end) w.run_query-ran.ensures.counts w.named-done.ensures.told)
      | in-Ok-Look w ↦
          rw (w.disk-is, w.inputs-is, w.out-is, c.prepare.ensures.unreturned told)
          (look_end g.I.Inputs.tells (g.D.Disk.tells × g.I.Log.Log.tells) g.I.Log.Log.lines g.I.Log.Log.available g.I.Log.Log.answers g.I.Log.Log.faults (given_by g c) g.O.Output.tells _ (stop_in w.look_at-done.result.end)
          w.in-Ok-Look.bound w.in-Ok-Look.look (subst T w.in-Ok-Look.field-0-is (w.in-Ok-Look.ensures.todo told)) (w.look_at-done.ensures.told tells (g.I.Inputs.returned c.args.inputs)))
      | in-Err w ↦
          rw (w.disk-is, w.inputs-is, w.out-is, w.stopped.ensures.2)
          (unready_end g.I.Inputs.tells (g.D.Disk.tells × g.I.Log.Log.tells) g.I.Log.Log.lines g.I.Log.Log.available g.I.Log.Log.answers g.I.Log.Log.faults (given_by g c) g.O.Output.tells _ w.in-Err.stop (w.in-Err.ensures.unready told)
          (idle_of _ _ _ _ _ _ _ _ _ (ap g.D.Disk.history w.stopped.ensures.0) (c.prepare.ensures.unreturned told) refl w.stopped.ensures.1))
    ]

out_counted : (g : Over) (c : goal.After-tell-status g) → g.O.Output.faults c.args.out ≤ g.O.Output.faults c.match-prepare.out
out_counted g c = elim c.match-prepare.branch [
  | in-Ok-Run w ↦ rw w.out-is w.run_query-ran.ensures.counted
  | in-Ok-Look w ↦ rw w.out-is w.look_at-done.ensures.counted
  | in-Err w ↦ rw w.out-is (omega arith)
]

cause_is : (g : Over) (c : goal.After-tell-status g)
    → HasCount (g.I.Inputs.faults c.args.inputs) (g.I.Inputs.faults c.match-prepare.inputs) (g.D.Disk.faults c.args.disk) (g.D.Disk.faults c.match-prepare.disk.disk) (g.O.Output.faults c.args.out) (g.O.Output.faults c.match-prepare.out) (stop_in c.match-prepare.disk.end)
cause_is g c = elim c.match-prepare.branch [
  | in-Ok-Run w ↦
      rw (w.disk-is, w.inputs-is, w.out-is, w.named-done.ensures.disk)
      (counts_by _ _ _ _ _ _ _ _ _ _ _ _ (stop_in w.named-done.result.end) (λ rises. (let before = c.prepare.ensures.counted in omega (arith, before, rises))) (λ rises. rises) (λ rises. rises)
      (told_counts w.in-Ok-Run.bound.streams w.run_query-ran.result.counts _ _ _ _ _ _ w.run_query-ran.result.end (stop_in w.named-done.result.end) w.run_query-ran.ensures.cause w.named-done.ensures.told))
  | in-Ok-Look w ↦
      rw (w.disk-is, w.inputs-is, w.out-is)
      (counts_by 0 0 _ _ _ _ _ _ _ _ _ _ (stop_in w.look_at-done.result.end) (none_counted _ _) (λ rises. rises) (λ rises. rises) w.look_at-done.ensures.cause)
  | in-Err w ↦
      rw (w.disk-is, w.inputs-is, w.out-is, w.stopped.ensures.2)
      (counts_by _ _ 0 0 0 0 _ _ _ _ _ _ (Some w.in-Err.stop) (λ rises. rises) (none_counted _ _) (none_counted _ _) w.in-Err.ensures.cause)
]

words_are : (g : Over) (c : goal.After-tell-status g) → WordsCause (map string_bytes c.args.words.now) (stop_in c.match-prepare.disk.end)
words_are g c = elim c.match-prepare.branch [
  | in-Ok-Run w ↦
      rw w.disk-is
      (words_taken (map string_bytes c.args.words.now) (stop_in w.named-done.result.end) w.in-Ok-Run.ensures.words
      (told_past w.in-Ok-Run.bound.streams w.run_query-ran.result.counts w.run_query-ran.result.end (stop_in w.named-done.result.end) w.named-done.ensures.told))
  | in-Ok-Look w ↦ rw w.disk-is (words_taken (map string_bytes c.args.words.now) (stop_in w.look_at-done.result.end) w.in-Ok-Look.ensures.words w.look_at-done.ensures.only)
  | in-Err w ↦ rw (w.disk-is, w.stopped.ensures.2) w.in-Err.ensures.words
]

pub returns-clause-stands : goal.returns-clause-stands
returns-clause-stands g c = λ tells told s of each.
    let T : Todo → Type 0 = IsTodo (g.I.Inputs.held c.args.inputs) (map string_bytes c.args.words.now) in
    elim c.match-prepare.branch [
      | in-Ok-Run w ↦
          rw (w.disk-is, w.named-done.ensures.disk)
          (w.run_query-ran.ensures.stands tells told s
          (going.setting_here (given_by g c) (g.I.Inputs.held c.prepare.new.inputs) w.in-Ok-Run.bound w.in-Ok-Run.ask (g.D.Disk.history c.args.disk) s of (subst T w.in-Ok-Run.field-0-is (w.in-Ok-Run.ensures.todo told)) (c.prepare.ensures.held told)) each)
      | in-Ok-Look w ↦ rw w.disk-is (same_leaves _ _ (StandsOrEmpty (job_of s)) (w.look_at-done.ensures.same tells) each)
      | in-Err w ↦ rw w.disk-is (same_leaves _ _ (StandsOrEmpty (job_of s)) (ap g.D.Disk.history w.stopped.ensures.0) each)
    ]

pub returns-clause-stay : goal.returns-clause-stay
returns-clause-stay g c = λ tells told s of each.
    let T : Todo → Type 0 = IsTodo (g.I.Inputs.held c.args.inputs) (map string_bytes c.args.words.now) in
    elim c.match-prepare.branch [
      | in-Ok-Run w ↦
          rw (w.disk-is, w.named-done.ensures.disk)
          (w.run_query-ran.ensures.stay tells told s
          (going.setting_here (given_by g c) (g.I.Inputs.held c.prepare.new.inputs) w.in-Ok-Run.bound w.in-Ok-Run.ask (g.D.Disk.history c.args.disk) s of (subst T w.in-Ok-Run.field-0-is (w.in-Ok-Run.ensures.todo told)) (c.prepare.ensures.held told)) each)
      | in-Ok-Look w ↦ rw w.disk-is (same_leaves _ _ (Stands (job_of s)) (w.look_at-done.ensures.same tells) each)
      | in-Err w ↦ rw w.disk-is (same_leaves _ _ (Stands (job_of s)) (ap g.D.Disk.history w.stopped.ensures.0) each)
    ]

pub returns-clause-stands_as_logs_grow : goal.returns-clause-stands_as_logs_grow
returns-clause-stands_as_logs_grow g c = c.checkpoints_stand_as_logs_grow.ensures.or_empty

pub returns-clause-stays_as_logs_grow : goal.returns-clause-stays_as_logs_grow
returns-clause-stays_as_logs_grow g c = c.checkpoints_stand_as_logs_grow.ensures.stands

pub returns-clause-held : goal.returns-clause-held
returns-clause-held g c = λ told. elim c.match-prepare.branch [
  | in-Ok-Run w ↦ rw (w.inputs-is, w.run_query-ran.ensures.held told) (c.prepare.ensures.held told)
  | in-Ok-Look w ↦ rw w.inputs-is (c.prepare.ensures.held told)
  | in-Err w ↦ rw w.inputs-is (c.prepare.ensures.held told)
]

pub returns-clause-grown : goal.returns-clause-grown
returns-clause-grown g c = λ told stream part. elim c.match-prepare.branch [
  | in-Ok-Run w ↦
      rw w.inputs-is
      (let first = c.prepare.ensures.grown told stream part in
      let next = w.run_query-ran.ensures.grown told stream part in
      omega (arith, first, next))
  | in-Ok-Look w ↦ rw w.inputs-is (c.prepare.ensures.grown told stream part)
  | in-Err w ↦ rw w.inputs-is (c.prepare.ensures.grown told stream part)
]

-- ---- and how that is told

pub returns-clause-ending : goal.returns-clause-ending
returns-clause-ending g c = λ tells told. record {
  stop = stop_in c.match-prepare.disk.end;
  written = g.O.Output.content c.match-prepare.out;
  text = c.match-prepare.disk.text.items;
  end = end_is g c tells told;
  answer = status_since _ _ _ _ _ (out_counted g c) c.tell-status.ensures.status;
  wrote = λ out_tells. wrote_since _ _ _ _ _ _ _ _ (out_counted g c) (c.tell-status.ensures.wrote out_tells);
}

pub returns-clause-usage : goal.returns-clause-usage
returns-clause-usage g c = usage_told (map string_bytes c.args.words.now) (stop_in c.match-prepare.disk.end) _ _ _ (words_are g c) c.tell-status.ensures.status

pub returns-clause-no_command : goal.returns-clause-no_command
returns-clause-no_command g c = λ none. no_command_told (map string_bytes c.args.words.now) (stop_in c.match-prepare.disk.end) _ _ _ none (words_are g c) c.tell-status.ensures.status

pub returns-clause-inputs_fault : goal.returns-clause-inputs_fault
returns-clause-inputs_fault g c = log_told _ _ _ _ _ _ (stop_in c.match-prepare.disk.end) _ _ _ (cause_is g c) c.tell-status.ensures.status

pub returns-clause-disk_fault : goal.returns-clause-disk_fault
returns-clause-disk_fault g c = disk_told _ _ _ _ _ _ (stop_in c.match-prepare.disk.end) _ _ _ (cause_is g c) c.tell-status.ensures.status

pub returns-clause-out_fault : goal.returns-clause-out_fault
returns-clause-out_fault g c = out_told _ _ _ _ _ _ (stop_in c.match-prepare.disk.end) _ _ (cause_is g c) (out_counted g c) c.tell-status.ensures.counted c.tell-status.ensures.status

pub returns-clause-goes_on : goal.returns-clause-goes_on
returns-clause-goes_on g c = λ tells told can.
    going.goes_on g.I.Inputs.tells (g.D.Disk.tells × g.I.Log.Log.tells) g.I.Log.Log.lines g.I.Log.Log.available g.I.Log.Log.answers g.I.Log.Log.faults (given_by g c) g.O.Output.tells (went_by g c) (stop_in c.match-prepare.disk.end)
    c.files_have_one_answer.ensures.accepted (end_is g c tells told) _ _ _ c.tell-status.ensures.status
    told (tells, g.met.I.Inputs.logs_tell told) c.runs_go_on.ensures.goes_on can

pub returns-clause-is_done_to_a_fault : goal.returns-clause-is_done_to_a_fault
returns-clause-is_done_to_a_fault g c = λ tells told room none.
    going.done_to_a_fault g.I.Inputs.tells (g.D.Disk.tells × g.I.Log.Log.tells) g.I.Log.Log.lines g.I.Log.Log.available g.I.Log.Log.answers g.I.Log.Log.faults (given_by g c) g.O.Output.tells (went_by g c) (stop_in c.match-prepare.disk.end)
    c.files_have_one_answer.ensures.accepted (end_is g c tells told) _ _ _ c.tell-status.ensures.status
    _ _ _ _ _ _ none (returns-clause-inputs_fault g c) (returns-clause-disk_fault g c) (returns-clause-out_fault g c)
    told (tells, g.met.I.Inputs.logs_tell told) c.runs_go_on.ensures.goes_on c.runs_go_on.ensures.no_limit room

pub returns-clause-is_done : goal.returns-clause-is_done
returns-clause-is_done g c = λ tells told fine none.
    going.all_done g.I.Inputs.tells (g.D.Disk.tells × g.I.Log.Log.tells) g.I.Log.Log.lines g.I.Log.Log.available g.I.Log.Log.answers g.I.Log.Log.faults (given_by g c) g.O.Output.tells (went_by g c) (stop_in c.match-prepare.disk.end)
    c.files_have_one_answer.ensures.accepted (end_is g c tells told) _ _ _ c.tell-status.ensures.status
    _ _ _ _ _ _ none (returns-clause-inputs_fault g c) (returns-clause-disk_fault g c) (returns-clause-out_fault g c)
    told (tells, g.met.I.Inputs.logs_tell told) c.runs_go_on.ensures.goes_on c.runs_go_on.ensures.no_limit c.runs_go_on.ensures.no_fault fine

pub returns-clause-is_told : goal.returns-clause-is_told
returns-clause-is_told g c = λ tells told can none.
    looked_well g.I.Inputs.tells (g.D.Disk.tells × g.I.Log.Log.tells) g.I.Log.Log.lines g.I.Log.Log.available g.I.Log.Log.answers g.I.Log.Log.faults (given_by g c) g.O.Output.tells (went_by g c) (stop_in c.match-prepare.disk.end)
    c.files_have_one_answer.ensures.accepted (end_is g c tells told) _ _ _ c.tell-status.ensures.status
    _ _ _ _ _ _ none (returns-clause-inputs_fault g c) (returns-clause-disk_fault g c) (returns-clause-out_fault g c)
    c.job_is_wanted.ensures.wanted c.job_is_wanted.ensures.parts can

pub returns-clause-is_shown : goal.returns-clause-is_shown
returns-clause-is_shown g c = λ tells told can none.
    shown_well g.I.Inputs.tells (g.D.Disk.tells × g.I.Log.Log.tells) g.I.Log.Log.lines g.I.Log.Log.available g.I.Log.Log.answers g.I.Log.Log.faults (given_by g c) g.O.Output.tells (went_by g c) (stop_in c.match-prepare.disk.end)
    c.files_have_one_answer.ensures.accepted (end_is g c tells told) _ _ _ c.tell-status.ensures.status
    _ _ _ _ _ _ none (returns-clause-inputs_fault g c) (returns-clause-disk_fault g c) (returns-clause-out_fault g c)
    c.job_is_wanted.ensures.wanted c.job_is_wanted.ensures.parts c.queries_are_typed.ensures c.queries_read_their_streams.ensures c.checkpoints_hold_tables.ensures can

pub returns-clause-shows_table : goal.returns-clause-shows_table
returns-clause-shows_table g c = λ tells told out_tells can cuts planned committed at.
    table_shown g.I.Inputs.tells (g.D.Disk.tells × g.I.Log.Log.tells) g.I.Log.Log.lines g.I.Log.Log.available g.I.Log.Log.answers g.I.Log.Log.faults (given_by g c) g.O.Output.tells (went_by g c) (stop_in c.match-prepare.disk.end)
    c.files_have_one_answer.ensures.accepted c.queries_are_typed.ensures c.queries_read_their_streams.ensures c.checkpoints_hold_tables.ensures c.tables_agree.ensures.table c.tables_agree.ensures.texts
    can cuts planned committed at out_tells _ _ _ _ (end_is g c tells told) (wrote_since _ _ _ _ _ (g.O.Output.faults c.match-prepare.out) _ _ (out_counted g c) (c.tell-status.ensures.wrote out_tells))

-- ---- what queries mean

pub returns-clause-adds_up : goal.returns-clause-adds_up
returns-clause-adds_up g c = λ s cuts n plain are. c.rows_add_up.ensures.bag s.job.bound (parts_in s) cuts n plain are

pub returns-clause-groups_add_up : goal.returns-clause-groups_add_up
returns-clause-groups_add_up g c = λ s grouping cuts n is append. c.groups_in_append_add_up.ensures.rows s.job.bound grouping is (parts_in s) cuts append n

pub returns-clause-groups_come_once : goal.returns-clause-groups_come_once
returns-clause-groups_come_once g c = λ s grouping cuts n key is append has closed. c.groups_in_append_add_up.ensures.once s.job.bound grouping is (parts_in s) cuts append key n has closed

pub returns-clause-groups_are_whole : goal.returns-clause-groups_are_whole
returns-clause-groups_are_whole g c = λ s grouping cuts n is complete. c.groups_in_complete_are_shown_whole.ensures s.job.bound grouping is (parts_in s) cuts complete n

pub returns-clause-groups_are_replaced : goal.returns-clause-groups_are_replaced
returns-clause-groups_are_replaced g c = λ s grouping cuts n some is update clean.
    c.groups_in_update_replace_their_rows.ensures s.job.bound grouping is (parts_in s) cuts update (query_shows_keys some.0 s.job.bound s.job.bound some.1 refl grouping is update) n clean

pub returns-clause-groups_lose_no_row : goal.returns-clause-groups_lose_no_row
returns-clause-groups_lose_no_row g c = λ s grouping cuts e is. c.forgotten_groups_lose_no_row.ensures.whole s.job.bound grouping is (parts_in s) cuts e

pub returns-clause-first_rows_add_up : goal.returns-clause-first_rows_add_up
returns-clause-first_rows_add_up g c = λ s columns cuts n is. c.first_rows_add_up.ensures.rows s.job.bound columns is (parts_in s) cuts n

pub returns-clause-repeats_are_known : goal.returns-clause-repeats_are_known
returns-clause-repeats_are_known g c = λ s columns cuts e is. c.forgotten_keys_lose_no_row.ensures.known s.job.bound columns is (parts_in s) cuts e

pub returns-clause-joined_rows_add_up : goal.returns-clause-joined_rows_add_up
returns-clause-joined_rows_add_up g c = λ s joining cuts n some is.
    c.joined_rows_add_up.ensures.rows s.job.bound joining is (query_is_bounded s.job.bound joining some is) (parts_in s) cuts n

pub returns-clause-rows_alone_come_once : goal.returns-clause-rows_alone_come_once
returns-clause-rows_alone_come_once g c = λ s joining cuts n some is.
    c.rows_alone_are_considered_once.ensures.rows s.job.bound joining is (query_is_bounded s.job.bound joining some is) (parts_in s) cuts n

pub returns-clause-partners_are_kept : goal.returns-clause-partners_are_kept
returns-clause-partners_are_kept g c = λ s joining cuts e is. c.forgotten_rows_lose_no_partner.ensures.found s.job.bound joining is (parts_in s) cuts e

pub returns-clause-watermarks_rise : goal.returns-clause-watermarks_rise
returns-clause-watermarks_rise g c = λ s cuts e f later. c.watermarks_never_fall.ensures s.job.bound (parts_in s) cuts e f later

pub returns-clause-watermarks_are_of_lines : goal.returns-clause-watermarks_are_of_lines
returns-clause-watermarks_are_of_lines g c = λ s one other e f are others same. c.greatest_times_are_of_all_lines.ensures.watermark s.job.bound (parts_in s) one other e f are others same
