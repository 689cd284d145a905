-- Why a round stopped, by its desk.
use Rattle.std.proofs.Common.{◌≡◌, ◌⊎◌, ◌<◌, ◌≤◌, ℕ, true, List, IsSomeAnd, Option, Some, None, sym, refl, ap, ◌∙◌, subst, arith}
use Rattle.ssq_outside.specs.declared.name.Name.{Name}
use Rattle.ssq_outside.specs.Faults.{Rises}
use Rattle.ssq_outside.specs.Files.{Files}
use Rattle.ssq_meaning.specs.Feeding.{LineAt}
use Rattle.ssq_meaning.specs.Meaning.{Values}
use Rattle.ssq_meaning.specs.Epochs.{fault, of_line, of_key}
use Rattle.ssq_meaning.proofs.Causal.{says_same}
use Rattle.ssq_core.specs.Course.{Cuts}
use Rattle.ssq_course.specs.Setting.{Setting, parts_in, closes, keeping_of}
use Rattle.ssq_course.specs.Setting.{cut_of as offsets_of, cuts_of as offsets}
use Rattle.ssq_board.specs.declared.front.Cause.{Cause}
use Rattle.ssq_board.specs.declared.front.Cause.TheVariants as cause
use Rattle.ssq_board.specs.Core.{Scope, Core, IsFull, is_behind, is_of_epoch, is_open}
use Rattle.ssq_desk.specs.Contents.{IsStopOf, line_of}
use Rattle.ssq_drive.specs.Damaged.{IsDamagedIn}
use Rattle.ssq_drive.specs.Driven.{StopsFor}
use Rattle.ssq_drive.specs.Rounds.{IsRoundStop, IsFaultAt, IsKeyAt, IsMore}

-- a fault of an epoch by these cuts is one by others that are the same so far
fault_here : (s : Setting) (cuts others : Cuts) (planned e : ℕ) (o : Option LineAt) (at : LineAt) → ((k : ℕ) → k ≤ planned → others k ≡ cuts k) → e < planned → o ≡ Some at
    → fault s.job.bound (parts_in s) (offsets cuts) e ≡ Some (of_line at) → IsFaultAt s others e o
fault_here s cuts others planned e o at same less is has =
    let law = says_same s.job.bound (parts_in s) (offsets cuts) (offsets others) planned (λ k le. ap offsets_of (sym (same k le))) in
    subst (IsFaultAt s others e) (sym is) (sym (law.same_fault e less) ∙ has)

-- and so is one of a key
key_here : (s : Setting) (cuts others : Cuts) (planned e : ℕ) (owned : Type 0) (key : Option Values) → ((k : ℕ) → k ≤ planned → others k ≡ cuts k) → e < planned
    → IsSomeAnd key (λ own. owned → fault s.job.bound (parts_in s) (offsets cuts) e ≡ Some (of_key own)) → IsSomeAnd key (λ own. owned → IsKeyAt s others e own)
key_here s cuts others planned e owned None same less is = is
key_here s cuts others planned e owned (Some key) same less is =
    let law = says_same s.job.bound (parts_in s) (offsets cuts) (offsets others) planned (λ k le. ap offsets_of (sym (same k le))) in
    λ own. sym (law.same_fault e less) ∙ is own

pub stop_is : (tells owned : Type 0) (P : Name → Type 0) (files : Files) (s : Setting) (cuts others : Cuts) (found : List ℕ) (planned committed e : ℕ) (key : Option Values) (disk disk_now logs : ℕ) (r : Scope) (c : Core) (f : Cause)
    → ((k : ℕ) → k ≤ planned → others k ≡ cuts k) → (is_of_epoch f ≡ true → (committed ≡ e) × (e < planned)) → IsStopOf tells owned s cuts committed key f → StopsFor P r c disk disk_now f
    → (is_open c ≡ true → e < planned) → (f ≡ cause.LogFault → 0 < logs) → (IsFull r c → (planned ≡ 4294967295) × ((is_behind (others planned) found ≡ true) ⊎ (closes s.job.bound ≡ true)) × (owned → IsMore s others found planned) × (e ≡ planned))
    → ((q : Name) → P q → (owned → ⊥) × (tells → IsDamagedIn (keeping_of s.job.bound.shape s.job.partitions) e files q)) → IsRoundStop tells owned s others found planned e files disk disk_now logs key f
stop_is tells owned P files s cuts others found planned committed e key disk disk_now logs r c (cause.BadLine t p o x) same own why counts opened faulty full bad =
    let at = own refl in
    (at.1, λ told. (let is = why told in fault_here s cuts others planned e (line_of (cause.BadLine t p o x)) is.0 same at.1 is.1 (ap (fault s.job.bound (parts_in s) (offsets cuts)) (sym at.0) ∙ is.2)))
stop_is tells owned P files s cuts others found planned committed e key disk disk_now logs r c (cause.Overflow t p o) same own why counts opened faulty full bad =
    let at = own refl in
    (at.1, λ told. (let is = why told in fault_here s cuts others planned e (line_of (cause.Overflow t p o)) is.0 same at.1 is.1 (ap (fault s.job.bound (parts_in s) (offsets cuts)) (sym at.0) ∙ is.2)))
stop_is tells owned P files s cuts others found planned committed e key disk disk_now logs r c cause.KeyOverflow same own why counts opened faulty full bad =
    let at = own refl in (
      at.1,
      key_here s cuts others planned e owned key same at.1
          (subst (λ (n : ℕ). IsSomeAnd key (λ own. owned → fault s.job.bound (parts_in s) (offsets cuts) n ≡ Some (of_key own))) at.0 why),
    )
stop_is tells owned P files s cuts others found planned committed e key disk disk_now logs r c cause.LogFault same own why counts opened faulty full bad = (opened counts, faulty refl)
stop_is tells owned P files s cuts others found planned committed e key disk disk_now logs r c (cause.LogShort t p m n) same own why counts opened faulty full bad = why
stop_is tells owned P files s cuts others found planned committed e key disk disk_now logs r c (cause.Damaged q) same own why counts opened faulty full bad = bad q counts
stop_is tells owned P files s cuts others found planned committed e key disk disk_now logs r c cause.DiskFault same own why counts opened faulty full bad = counts
stop_is tells owned P files s cuts others found planned committed e key disk disk_now logs r c cause.Full same own why counts opened faulty full bad = full counts
stop_is tells owned P files s cuts others found planned committed e key disk disk_now logs r c cause.NoMemory same own why counts opened faulty full bad = tt

-- why it stopped, where the disk failed more often since, and where it tells, holds what it held
pub stop_later : (tells owned : Type 0) (s : Setting) (cuts : Cuts) (found : List ℕ) (planned e : ℕ) (files later : Files) (disk before after logs : ℕ) (key : Option Values) (f : Cause) → (tells → later ≡ files) → before ≤ after
    → IsRoundStop tells owned s cuts found planned e files disk before logs key f → IsRoundStop tells owned s cuts found planned e later disk after logs key f
stop_later tells owned s cuts found planned e files later disk before after logs key (cause.BadLine t p o x) same more why = why
stop_later tells owned s cuts found planned e files later disk before after logs key (cause.Overflow t p o) same more why = why
stop_later tells owned s cuts found planned e files later disk before after logs key cause.KeyOverflow same more why = why
stop_later tells owned s cuts found planned e files later disk before after logs key cause.LogFault same more why = why
stop_later tells owned s cuts found planned e files later disk before after logs key (cause.LogShort t p m n) same more why = why
stop_later tells owned s cuts found planned e files later disk before after logs key (cause.Damaged q) same more why =
    (why.0, λ t. subst (λ (image : Files). IsDamagedIn (keeping_of s.job.bound.shape s.job.partitions) e image q) (sym (same t)) (why.1 t))
stop_later tells owned s cuts found planned e files later disk before after logs key cause.DiskFault same more why = risen more why
  where
    risen : before ≤ after → Rises disk before → Rises disk after
    risen more rises = omega (arith, more, rises)
stop_later tells owned s cuts found planned e files later disk before after logs key cause.Full same more why = why
stop_later tells owned s cuts found planned e files later disk before after logs key cause.NoMemory same more why = tt
