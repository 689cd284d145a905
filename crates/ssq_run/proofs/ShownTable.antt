-- The table that is shown of a checkpoint that stands is the table of the query's meaning.
use Rattle.std.proofs.Common.{◌≡◌, ◌⊎◌, ◌∙◌, refl, sym, ap, subst, inl, inr, ℕ, List, [], ◌++◌, length, Option, Some, None, append-nil, arith}
use Rattle.ssq_outside.specs.declared.name.Name.TheVariants as name
use Rattle.ssq_outside.specs.History.{files_now}
use Rattle.ssq_outside.specs.Logs.{Line}
use Rattle.ssq_accept.specs.Accepting.{AcceptedAreTaken}
use Rattle.ssq_bind.specs.Read.{QueriesReadTheirStreams}
use Rattle.ssq_bind.specs.Typed.{QueriesAreTyped}
use Rattle.ssq_shape.specs.declared.bound.Bound.{Bound}
use Rattle.ssq_shape.specs.Plain.{output_names}
use Rattle.ssq_json.specs.Stored.{AreRows}
use Rattle.ssq_sink.specs.Table.{IsTable, output_kinds, reading}
use Rattle.ssq_core.specs.Course.{Cuts}
use Rattle.ssq_core.specs.Standing.{StandsAt}
use Rattle.ssq_course.specs.Setting.{course_of}
use Rattle.ssq_tables.specs.Agreeing.{ShowsItsKeys, TablesAgree, TextsAreOfOneRows, rows_read}
use Rattle.ssq_tables.specs.Checkpoint.{CheckpointsHoldTables}
use Rattle.ssq_words.specs.Asking.{asks_show}
use Rattle.ssq_run.specs.declared.stop.Stop.{Stop}
use Rattle.ssq_run.specs.declared.stop.Stop.TheVariants.{Usage, Refused, BadLine, Overflow, KeyOverflow, LogFault, DiskFault, OutFault, OtherQuery, OtherPartitions, OtherParts, LogShort, Damaged, NoMemory, FullParts, FullLines, FullEpochs}
use Rattle.ssq_run.specs.Going.{CanShow}
use Rattle.ssq_run.specs.Program.{Given, Went, IsOutside, HasObeyed, has_told, has_shown, ProgramEnd, Wrote, whole, cut, cut_done, unsaid, starved as ran_dry, line_in}
use Rattle.ssq_run.specs.Queries.{read_of}
use Rattle.ssq_run.specs.Shown.{HasWrittenTable, ShowEnd, broke_off, denied, nothing_there, spoilt, starved, unread, written}
use Rattle.ssq_run.specs.Stopping.{status_in}
use Rattle.ssq_run.proofs.Going.{ends_of}
use Rattle.ssq_run.proofs.ShownKeys.{query_shows_keys}
use Rattle.ssq_run.proofs.TableRows.{some_none}
use Rattle.ssq_run.proofs.Tabling.{each_stream, showable}
use Rattle.ssq_run.proofs.Generating.{no_some}

-- status 0 is that of no stop
no_stop : (stop : Option Stop) → status_in stop ≡ 0 → stop ≡ None
no_stop None is = refl
no_stop (Some Usage) is = absurd (omega (arith, is))
no_stop (Some (Refused why)) is = absurd (omega (arith, is))
no_stop (Some (BadLine stream part offset wrong)) is = absurd (omega (arith, is))
no_stop (Some (Overflow stream part offset)) is = absurd (omega (arith, is))
no_stop (Some (KeyOverflow key)) is = absurd (omega (arith, is))
no_stop (Some LogFault) is = absurd (omega (arith, is))
no_stop (Some DiskFault) is = absurd (omega (arith, is))
no_stop (Some OutFault) is = absurd (omega (arith, is))
no_stop (Some (OtherQuery kept)) is = absurd (omega (arith, is))
no_stop (Some (OtherPartitions kept asked)) is = absurd (omega (arith, is))
no_stop (Some (OtherParts stream kept found)) is = absurd (omega (arith, is))
no_stop (Some (LogShort stream part logged found)) is = absurd (omega (arith, is))
no_stop (Some (Damaged at)) is = absurd (omega (arith, is))
no_stop (Some NoMemory) is = absurd (omega (arith, is))
no_stop (Some (FullParts stream)) is = absurd (omega (arith, is))
no_stop (Some (FullLines stream part lines)) is = absurd (omega (arith, is))
no_stop (Some FullEpochs) is = absurd (omega (arith, is))

module _ {L : Type 0} (told tells : Type 0) (lines : L → List Line) (available : L → ℕ) (answers : L → List ℕ) (faults : L → ℕ) (given : Given) (OutTells : Type 0) (went : Went) (stop : Option Stop)
    (taken : AcceptedAreTaken) (typed : QueriesAreTyped) (read : QueriesReadTheirStreams) (hold : CheckpointsHoldTables) (agree : TablesAgree) (apart : TextsAreOfOneRows) (can : CanShow given went.start)
    (cuts : Cuts) (planned committed : ℕ) (at : StandsAt (course_of can.setting cuts) planned committed (files_now went.start)) (out_tells : OutTells) where
  abbrev Writes : (before after : List ℕ) → Type 0
  Writes before after = HasWrittenTable can.setting cuts planned committed (files_now went.start) before after

  shows_keys : ShowsItsKeys can.setting.job.bound
  shows_keys = query_shows_keys (read_of given.held can.file) can.bound can.setting.job.bound can.is can.of.query

  -- a table that was written whole
  by_table : (shown before after : List ℕ) → after ≡ before ++ shown → IsTable can.setting.job.bound (files_now went.start) shown → Writes before after
  by_table shown before after is own =
      let query : Bound = can.setting.job.bound in
      let able = showable given went.start can typed read in
      let each = each_stream given went.start can in
      let agrees = agree can.setting cuts planned committed (files_now went.start) own.epochs able shows_keys each at own.sinks in
      let held = hold can.setting cuts planned committed (files_now went.start) (length own.epochs) able each at own.sinks.counted in
      let R : List ℕ → Type 0 = λ text. AreRows (output_names query) (output_kinds query) text (rows_read (reading query) query own.epochs) in
      let rows = rows_read (reading query) query own.epochs in
      let are = subst R (sym own.is) agrees.are in
      record {
        epochs = length own.epochs;
        counted = own.sinks.counted;
        least = held.least;
        most = held.most;
        rows = rows;
        same = agrees.same;
        order = ap (rows_read (reading query) query) agrees.own;
        text = shown;
        are = are;
        only = λ others also. apart query shown rows others are also;
        is = is;
      }

  by_show : (shown before after : List ℕ) → after ≡ before ++ shown → ShowEnd can.setting.job.bound (files_now went.start) shown stop → stop ≡ None → Writes before after
  by_show shown before after is (nothing_there empty text done) none = absurd (some_none (files_now went.start name.Meta) (at.needed name.Meta refl) (empty name.Meta))
  by_show shown before after is (denied why denial text stops) none = absurd (no_some stop _ stops none)
  by_show shown before after is (spoilt here bad_at bad text stops) none = absurd (no_some stop _ stops none)
  by_show shown before after is (unread here text stops) none = absurd (no_some stop _ stops none)
  by_show shown before after is (starved text memory) none = absurd (no_some stop _ memory none)
  by_show shown before after is (written here own done) none = by_table shown before after is own
  by_show shown before after is (broke_off here text own front stops) none = absurd (no_some stop _ stops none)

  -- nothing is left to be written, and the table was
  by_obeyed : HasObeyed told tells lines available answers faults given.held given.known can.bound OutTells went stop (asks_show can.file) → stop ≡ None → (went.text ≡ []) × Writes went.old went.written
  by_obeyed (has_told what (has_shown file still back text shown put end)) none = (text, by_show shown went.old went.written (put out_tells) (subst (λ b. ShowEnd b (files_now went.start) shown stop) (sym can.of.query) end) none)

  by_end : ProgramEnd told tells lines available answers faults given OutTells went stop → stop ≡ None → (went.text ≡ []) × Writes went.old went.written
  by_end end none = by (ends_of told tells lines available answers faults given OutTells went stop (asks_show can.file) can.bound can.asks can.is taken end)
    where
      by : IsOutside stop ⊎ HasObeyed told tells lines available answers faults given.held given.known can.bound OutTells went stop (asks_show can.file) → (went.text ≡ []) × Writes went.old went.written
      by (inl (inl fault)) = absurd (no_some stop _ fault none)
      by (inl (inr memory)) = absurd (no_some stop _ memory none)
      by (inr so) = by_obeyed so none

  pub table_shown : (before now status : ℕ) (after : List ℕ) → ProgramEnd told tells lines available answers faults given OutTells went stop → Wrote stop went.text went.written after before now status → status ≡ 0 → Writes went.old after
  table_shown before now status after end (whole is new) zero =
      let none = no_stop stop (sym is ∙ zero) in
      let own = by_end end none in
      let same : after ≡ went.written = new ∙ ap (λ text. went.written ++ (text ++ line_in stop)) own.0 ∙ ap (λ s. went.written ++ line_in s) none ∙ append-nil went.written in
      subst (Writes went.old) (sym same) own.1
  table_shown before now status after end (cut is some rises n new) zero = absurd (some (no_stop stop (sym is ∙ zero)))
  table_shown before now status after end (cut_done is none rises n m new) zero = absurd (omega (arith, is, zero))
  table_shown before now status after end (unsaid is some n new) zero = absurd (omega (arith, is, zero))
  table_shown before now status after end (ran_dry is n new) zero = absurd (omega (arith, is, zero))
