-- How a look ends at a checkpoint that is empty or stands.
use Rattle.std.proofs.Common.{◌≡◌, ◌⊎◌, ◌∙◌, ℕ, List, Option, Some, refl, sym, ap, inl, inr, length}
use Rattle.std.proofs.lemmas.List.{length-map}
use Rattle.ssq_outside.specs.Faults.{Rises}
use Rattle.ssq_outside.specs.History.{History, files_now}
use Rattle.ssq_outside.specs.Logs.{Line}
use Rattle.ssq_accept.specs.Accepting.{AcceptedAreTaken}
use Rattle.ssq_shape.specs.declared.bound.Stream.{Stream}
use Rattle.ssq_course.specs.Setting.{job_of}
use Rattle.ssq_open.specs.declared.fault.OpenFault.{OpenFault}
use Rattle.ssq_open.specs.declared.fault.OpenFault.TheVariants as opening
use Rattle.ssq_open.specs.Lens.{asked as wanted}
use Rattle.ssq_open.specs.Looking.{query_of as looked_query, begins, IsLookedFor}
use Rattle.ssq_open.specs.Opening.{IsOutside as IsOuter}
use Rattle.ssq_terms.specs.Laws.{JobIsWanted, PartsAreFound}
use Rattle.ssq_words.specs.Asking.{Asked, asks_status}
use Rattle.ssq_run.specs.declared.stop.Stop.{Stop}
use Rattle.ssq_run.specs.Stopping.{stop_of_open, status_in}
use Rattle.ssq_run.specs.Looked.{LookEnd, nothing_there, shown, denied, starved}
use Rattle.ssq_run.specs.Program.{Given, Went, HasObeyed, has_told, has_looked, ProgramEnd, IsStatus}
use Rattle.ssq_run.specs.Going.{LooksAt, CanLook, NoneFailed, IsDone}
use Rattle.ssq_run.proofs.Going.{done_by}

-- a denial of the outside is a fault of the disk, or NoMemory
pub outer_status : (streams : List Stream) (why : OpenFault) → IsOuter why → (status_in (Some (stop_of_open streams why)) ≡ 7) ⊎ (status_in (Some (stop_of_open streams why)) ≡ 10)
outer_status streams (opening.OtherQuery kept) outer = absurd outer
outer_status streams (opening.OtherPartitions kept partitions) outer = absurd outer
outer_status streams (opening.OtherParts stream kept found) outer = absurd outer
outer_status streams (opening.LogShort stream part logged found) outer = absurd outer
outer_status streams (opening.Damaged name) outer = absurd outer
outer_status streams opening.DiskFault outer = inl refl
outer_status streams opening.NoMemory outer = inr refl

-- what is looked at is what is wanted
pub looked_for : (given : Given) (start : History) (what : List ℕ → Asked) (are_found : PartsAreFound) (can : LooksAt given start what) → IsLookedFor (looked_query can.bound) (wanted can.bound can.partitions can.lens)
looked_for given start what are_found can =
    let parts = are_found can.setting can.bound can.partitions can.lens can.of in
    record {
      text = refl;
      marked = refl;
      each = length-map can.lens.streams length ∙ can.of.asked.each_stream;
      begin = sym parts.1 ∙ parts.3 ∙ ap begins can.of.parts;
    }

module _ {L : Type 0} (told tells : Type 0) (lines : L → List Line) (available : L → ℕ) (answers : L → List ℕ) (faults : L → ℕ) (given : Given) (OutTells : Type 0) (went : Went) (stop : Option Stop)
    (taken : AcceptedAreTaken) (end : ProgramEnd told tells lines available answers faults given OutTells went stop) (before after status : ℕ) (answer : IsStatus stop before after status)
    (i0 i1 d0 d1 o0 o1 : ℕ) (none : NoneFailed i0 i1 d0 d1 o0 o1) (log : status ≡ 6 → Rises i0 i1) (disk : status ≡ 7 → Rises d0 d1) (out : status ≡ 8 → Rises o0 o1)
    (is_wanted : JobIsWanted) (are_found : PartsAreFound) (can : CanLook given went.start) where
  by_look : status ≡ status_in stop → LookEnd can.bound (files_now went.start) went.text stop → IsDone status
  by_look is (nothing_there empty text done) = inl (is ∙ ap status_in done)
  by_look is (shown found holds text done) = inl (is ∙ ap status_in done)
  by_look is (starved text memory) = inr (is ∙ ap status_in memory)
  by_look is (denied why denial outer text stops) =
      let is_outer = outer (wanted can.bound can.partitions can.lens) (job_of can.setting) (looked_for given went.start asks_status are_found can) (is_wanted can.setting can.bound can.partitions can.lens can.of can.found) can.stands in
      elim (outer_status can.bound.streams why is_outer) [
        | inl seven ↦ absurd (none.disk_whole (disk (is ∙ ap status_in stops ∙ seven)))
        | inr ten ↦ inr (is ∙ ap status_in stops ∙ ten)
      ]

  by_obeyed : status ≡ status_in stop → HasObeyed told tells lines available answers faults given.held given.known can.bound OutTells went stop (asks_status can.file) → IsDone status
  by_obeyed is (has_told what (has_looked file same look)) = by_look is look

  pub looked_well : IsDone status
  looked_well = done_by told tells lines available answers faults given OutTells went stop taken end before after status answer i0 i1 d0 d1 o0 o1 none log disk out (asks_status can.file) can.bound can.asks can.is by_obeyed
