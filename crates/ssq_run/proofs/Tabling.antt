-- How showing a table ends at a checkpoint that is empty or stands.
use Rattle.std.proofs.Common.{◌≡◌, ◌∙◌, ◌<◌, ℕ, zero, suc, List, Option, Some, None, sym, ap, subst, inl, inr, arith, length}
use Rattle.std.specs.Prelude.{IsSome}
use Rattle.std.proofs.lemmas.List.{length-map}
use Rattle.ssq_outside.specs.declared.name.Name.{Name}
use Rattle.ssq_outside.specs.declared.name.Name.TheVariants as name
use Rattle.ssq_outside.specs.Faults.{Rises}
use Rattle.ssq_outside.specs.Files.{Files, IsEmpty}
use Rattle.ssq_outside.specs.History.{History, files_now}
use Rattle.ssq_outside.specs.Logs.{Line}
use Rattle.ssq_accept.specs.Accepting.{AcceptedAreTaken}
use Rattle.ssq_bind.specs.Bound.{bound_of}
use Rattle.ssq_bind.specs.Read.{QueriesReadTheirStreams, ReadsItsStreams}
use Rattle.ssq_bind.specs.Typed.{IsTyped, QueriesAreTyped}
use Rattle.ssq_shape.specs.declared.bound.Bound.{Bound}
use Rattle.ssq_shape.specs.Windows.{HasWindows}
use Rattle.ssq_sink.specs.Table.{AreCounted, IsBadSink}
use Rattle.ssq_core.specs.Sound.{StandsOrEmpty}
use Rattle.ssq_course.specs.Setting.{job_of}
use Rattle.ssq_open.specs.Lens.{asked as wanted}
use Rattle.ssq_open.specs.Looking.{query_of as looked_query, IsLookedFor}
use Rattle.ssq_tables.specs.Checkpoint.{CheckpointsHoldTables, rows_in_order}
use Rattle.ssq_tables.specs.Shown.{CanShow as IsShowable}
use Rattle.ssq_terms.specs.Laws.{JobIsWanted, PartsAreFound}
use Rattle.ssq_words.specs.Asking.{asks_show}
use Rattle.ssq_run.specs.declared.stop.Stop.{Stop}
use Rattle.ssq_run.specs.Shown.{ShowEnd, broke_off, denied, nothing_there, spoilt, starved, unread, written}
use Rattle.ssq_run.specs.Stopping.{status_in}
use Rattle.ssq_run.specs.Program.{Given, Went, HasObeyed, has_told, has_shown, ProgramEnd, IsStatus}
use Rattle.ssq_run.specs.Going.{CanShow, NoneFailed, IsDone}
use Rattle.ssq_run.proofs.Going.{done_by}
use Rattle.ssq_run.proofs.Looking.{looked_for, outer_status}

-- an empty checkpoint has no sink files, and so none below another
empty_below : (files : Files) (m e : ℕ) → IsEmpty files → AreCounted files m → e < m → ⊥
empty_below files zero e empty counted below = omega (arith, below)
empty_below files (suc last) e empty counted below = nothing (files (name.Out last)) (empty (name.Out last)) (counted.last last (omega arith))
  where
    nothing : (o : Option (List ℕ)) → o ≡ None → IsSome o → ⊥
    nothing None is there = absurd cc
    nothing (Some bytes) is there = absurd cc

-- a query whose checkpoint is looked at was bound, and each of its streams has parts
module _ (given : Given) (start : History) (can : CanShow given start) where
  pub showable : QueriesAreTyped → QueriesReadTheirStreams → IsShowable can.setting.job.bound
  showable typed read =
      let allowed = can.is.accepted.names in
      let same : can.setting.job.bound ≡ bound_of can.is.query = can.of.query ∙ allowed.is in
      record {
        typed = subst IsTyped (sym same) (typed can.is.query allowed.unbroken);
        windows = subst HasWindows (sym can.of.query) can.is.accepted.windows;
        streams = subst ReadsItsStreams (sym same) (read can.is.query allowed.unbroken);
      }

  pub each_stream : length can.setting.job.parts ≡ length can.setting.job.bound.streams
  each_stream = ap length can.of.parts ∙ length-map can.lens.streams length ∙ can.of.asked.each_stream ∙ ap (λ (b : Bound). length b.streams) (sym can.of.query)

module _ {L : Type 0} (told tells : Type 0) (lines : L → List Line) (available : L → ℕ) (answers : L → List ℕ) (faults : L → ℕ) (given : Given) (OutTells : Type 0) (went : Went) (stop : Option Stop)
    (taken : AcceptedAreTaken) (end : ProgramEnd told tells lines available answers faults given OutTells went stop) (before after status : ℕ) (answer : IsStatus stop before after status)
    (i0 i1 d0 d1 o0 o1 : ℕ) (none : NoneFailed i0 i1 d0 d1 o0 o1) (log : status ≡ 6 → Rises i0 i1) (disk : status ≡ 7 → Rises d0 d1) (out : status ≡ 8 → Rises o0 o1)
    (is_wanted : JobIsWanted) (are_found : PartsAreFound) (typed : QueriesAreTyped) (read : QueriesReadTheirStreams) (hold : CheckpointsHoldTables) (can : CanShow given went.start) where
  none_bad : (at : Name) → IsBadSink can.setting.job.bound (files_now went.start) at → ⊥
  none_bad at bad = by can.stands
    where
      by : StandsOrEmpty (job_of can.setting) (files_now went.start) → ⊥
      by (inl empty) = empty_below (files_now went.start) bad.m bad.first.e empty bad.counted bad.first.below
      by (inr stands) =
          let table = hold can.setting stands.cuts stands.planned stands.committed (files_now went.start) bad.m (showable given went.start can typed read) (each_stream given went.start can) stands.at bad.counted in
          bad.first.bad (record { rows = rows_in_order can.setting stands.cuts bad.first.e; is = table.each bad.first.e bad.first.below })

  by_show : status ≡ status_in stop → (shown : List ℕ) → ShowEnd can.setting.job.bound (files_now went.start) shown stop → IsDone status
  by_show is shown (nothing_there empty text done) = inl (is ∙ ap status_in done)
  by_show is shown (starved text memory) = inr (is ∙ ap status_in memory)
  by_show is shown (spoilt here at bad text some) = absurd (none_bad at bad)
  by_show is shown (unread here text some) = absurd (none.disk_whole (disk (is ∙ ap status_in some)))
  by_show is shown (written here table done) = inl (is ∙ ap status_in done)
  by_show is shown (broke_off here text table front some) = absurd (none.out_whole (out (is ∙ ap status_in some)))
  by_show is shown (denied why denial text stops) =
      let Q : Bound → Type 0 = λ b. IsLookedFor (looked_query b) (wanted can.bound can.partitions can.lens) in
      let is_outer = denial.outside (wanted can.bound can.partitions can.lens) (job_of can.setting) (subst Q (sym can.of.query) (looked_for given went.start asks_show are_found can))
      (is_wanted can.setting can.bound can.partitions can.lens can.of can.found) can.stands in
      elim (outer_status can.setting.job.bound.streams why is_outer) [
        | inl seven ↦ absurd (none.disk_whole (disk (is ∙ ap status_in stops ∙ seven)))
        | inr ten ↦ inr (is ∙ ap status_in stops ∙ ten)
      ]

  by_obeyed : status ≡ status_in stop → HasObeyed told tells lines available answers faults given.held given.known can.bound OutTells went stop (asks_show can.file) → IsDone status
  by_obeyed is (has_told what (has_shown file still back text shown put end)) = by_show is shown (subst (λ b. ShowEnd b (files_now went.start) shown stop) (sym can.of.query) end)

  pub shown_well : IsDone status
  shown_well = done_by told tells lines available answers faults given OutTells went stop taken end before after status answer i0 i1 d0 d1 o0 o1 none log disk out (asks_show can.file) can.bound can.asks can.is by_obeyed
