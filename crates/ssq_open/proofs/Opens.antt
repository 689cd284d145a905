-- How the opening of a checkpoint ends.
use Rattle.std.proofs.Common.{◌≡◌, ◌∙◌, ◌==◌, ℕ, List, [], ◌∷◌, Option, Some, None, Result, Ok, Err, true, false, refl, sym, ap, subst, inl, inr, arith, length}
use Rattle.std.specs.Prelude.{Contains, IsSome, IfOk, IfErr, OnOk, OnErr}
use Rattle.std.proofs.lemmas.Bool.{eqb-true, eqb-false}
use Rattle.ssq_outside.specs.declared.name.Name.{Name}
use Rattle.ssq_outside.specs.Files.{Files, IsEmpty, AreNames, IsSyncStep, IsImage, files_of, settled_at}
use Rattle.ssq_outside.specs.History.{History, had_now, files_now, Elapses, LeavesNow, LeavesOnly}
use Rattle.ssq_outside.proofs.Steps.{begins, syncs, files_are_image, weaker, joined}
use Rattle.ssq_plans.specs.declared.meta.Meta.{Meta}
use Rattle.ssq_plans.specs.declared.plan.Plan.{Plan}
use Rattle.ssq_plans.specs.declared.seen.SeenBy.{SeenBy}
use Rattle.ssq_core.specs.Settled.{IsSettledAs, IsEither}
use Rattle.ssq_core.proofs.Settling.{stays}
use Rattle.ssq_core.proofs.Moves.{here as same_images}
use Rattle.ssq_open.specs.declared.fault.OpenFault.{OpenFault}
use Rattle.ssq_open.specs.declared.fault.OpenFault.TheVariants.{OtherQuery, OtherPartitions, OtherParts, LogShort, Damaged, DiskFault, NoMemory}
use Rattle.ssq_open.specs.declared.wanted.Opened.{Opened}
use Rattle.ssq_open.specs.Sought.{Sought, IsJob}
use Rattle.ssq_open.specs.Spelled.{IsTheMeta}
use Rattle.ssq_open.specs.Epochs.{AreEpochs, last_ends, starts}
use Rattle.ssq_open.specs.Lengths.{ShortRefuses}
use Rattle.ssq_open.specs.Refused.{EpochsRefuse, JobRefuses}
use Rattle.ssq_open.specs.Stateful.{keeping_in}
use Rattle.ssq_open.specs.Stores.{StoresRefuse}
use Rattle.ssq_open.specs.Opening.{Finds, Passes, Refuses, IsOutside, IsFirst, IsOpen, kept, begun, IsRefused, unchanged, unfinished, IsImageOpening, only_meta, first_meta, no_record, other_streams, in_epochs, in_states, SyncedSince, IsBegun, IsOpening, unsynced}

-- where no name is listed there is no file
pub none_listed : (files : Files) (names : List Name) → AreNames files names → names ≡ [] → IsEmpty files
none_listed files names are none name = by_case (files name) (λ some.
    let P : List Name → Type 0 = λ ns. Contains ns name in
    let among : Contains [] name = subst P none (are.all name some) in absurd (omega (arith, among.1)))
  where
    by_case : (content : Option (List ℕ)) → (IsSome content → ⊥) → content ≡ None
    by_case None no_file = refl
    by_case (Some bytes) no_file = absurd (no_file refl)

-- where there is no file no name is listed
pub empty_listed : (files : Files) (names : List Name) → AreNames files names → IsEmpty files → names ≡ []
empty_listed files [] are empty = refl
empty_listed files (n ∷ names) are empty =
    let among : Contains (n ∷ names) n = (0, omega arith, refl) in
    let P : Option (List ℕ) → Type 0 = IsSome in
    let some : IsSome {T = List ℕ} None = subst P (empty n) (are.there n among) in cc

pub no_items : {X : Type 0} (xs : List X) → (length xs == 0) ≡ true → xs ≡ []
no_items [] is = refl
no_items (x ∷ xs) is = absurd (omega (arith, eqb-true (length (x ∷ xs)) 0 is))

pub some_item : {X : Type 0} (xs : List X) → (length xs == 0) ≡ false → xs ≡ [] → ⊥
some_item xs is none = absurd (omega (arith, eqb-false (length xs) 0 is, ap length none))

-- after the first sync, and what was only read since, the files are settled as they were
pub settled_since : (h0 h1 h2 : History) → had_now h1 ≡ settled_at (files_now h0) → h2 ≡ h1 → IsSettledAs h2 (files_now h0)
settled_since h0 h1 h2 ok same = record { is = ap had_now same ∙ ok }

pub files_since : (h0 h1 h2 : History) → had_now h1 ≡ settled_at (files_now h0) → h2 ≡ h1 → files_now h2 ≡ files_now h0
files_since h0 h1 h2 ok same = ap files_now same ∙ ap files_of ok

-- a crash during the sync leaves what it might have left before
pub sync_leaves : (s : Sought) (h0 h1 h2 : History) → Elapses h0 h1 (IsSyncStep (had_now h0)) → h2 ≡ h1 → LeavesOnly h0 h2 (IsImageOpening s (had_now h0))
sync_leaves s h0 h1 h2 step same =
    let P : Files → Type 0 = IsImageOpening s (had_now h0) in
    let now : LeavesNow h0 P = record { each = λ image is. inl is } in
    let run : LeavesOnly h0 h1 P = (syncs P P P h0 h0 h1 (begins P P P h0 now (λ f p. p) (inl (files_are_image (had_now h0)))) step (λ f p. p)).since in
    let M : History → Type 0 = λ h. LeavesOnly h0 h P in
    subst M (sym same) run

-- and one during the beginning the empty checkpoint, or the job's record alone
pub begin_leaves : (s : Sought) (h0 h2 h3 : History) → LeavesOnly h0 h2 (IsImageOpening s (had_now h0)) → IsEmpty (files_now h0) → LeavesOnly h2 h3 (IsEither (files_now h0) (only_meta (first_meta s)))
    → LeavesOnly h0 h3 (IsImageOpening s (had_now h0))
begin_leaves s h0 h2 h3 first empty second =
    let P : Files → Type 0 = IsImageOpening s (had_now h0) in
    let M : Files → Type 0 = IsImage (had_now h0) in
    joined P h0 h2 h3 first (weaker (IsEither (files_now h0) (only_meta (first_meta s))) P h2 h3 second (λ f either. elim either [
      | inl same ↦ inl (subst M (sym same) (files_are_image (had_now h0)))
      | inr is ↦ inr (empty, is)
    ]))

pub same_leaves : (P : Files → Type 0) (h0 h2 h3 : History) → LeavesOnly h0 h2 P → h3 ≡ h2 → LeavesOnly h0 h3 P
same_leaves P h0 h2 h3 run same = let M : History → Type 0 = λ h. LeavesOnly h0 h P in subst M (sym same) run

-- an empty checkpoint was begun
pub open_begun : (s : Sought) (files : Files) (h3 : History) (r : Result Opened OpenFault) → IsEmpty files → IfOk r (IsFirst s) → OnOk r (IsSettledAs h3 (only_meta (first_meta s))) → IfOk r (IsOpen s files h3)
open_begun s files h3 (Ok opened) empty first settled = begun empty first settled
open_begun s files h3 (Err fault) empty first settled = tt

outside_refuses : (s : Sought) (files : Files) (fault : OpenFault) → IsOutside fault → Refuses s files fault
outside_refuses s files DiskFault outside = tt
outside_refuses s files NoMemory outside = tt
outside_refuses s files (OtherQuery query) outside = absurd outside
outside_refuses s files (OtherPartitions partitions asked) outside = absurd outside
outside_refuses s files (OtherParts stream parts found) outside = absurd outside
outside_refuses s files (LogShort stream part logged found) outside = absurd outside
outside_refuses s files (Damaged at) outside = absurd outside

pub refused_begun : (s : Sought) (files : Files) (h2 h3 : History) (r : Result Opened OpenFault) → IsEmpty files → IfErr r IsOutside → LeavesOnly h2 h3 (IsEither files (only_meta (first_meta s)))
    → IfErr r (IsRefused s files (files_now h3))
refused_begun s files h2 h3 (Ok opened) empty outside left = tt
refused_begun s files h2 h3 (Err fault) empty outside left = elim (left.each h3.moment left.later (omega arith) (files_now h3) (files_are_image (had_now h3))) [
  | inl same ↦ unchanged same (outside_refuses s files fault outside) (λ e. outside)
  | inr is ↦ unfinished empty is outside
]

-- a checkpoint that was kept
pub open_kept : (s : Sought) (files here : Files) (h2 h3 : History) (r : Result Opened OpenFault) → here ≡ files → IsSettledAs h2 files → h3 ≡ h2 → IfOk r (Passes s here) → IfOk r (IsOpen s files h3)
open_kept s files here h2 h3 (Ok opened) same settled later passes =
    let P : Files → Type 0 = λ f. Passes s f opened in
    let S : History → Type 0 = λ h. IsSettledAs h files in
    kept (subst P same passes) (subst S (sym later) settled)
open_kept s files here h2 h3 (Err fault) same settled later passes = tt

pub refused_kept : (s : Sought) (files here now : Files) (r : Result Opened OpenFault) → here ≡ files → now ≡ files → (IsEmpty files → ⊥) → IfErr r (Refuses s here) → IfErr r (IsRefused s files now)
refused_kept s files here now (Ok opened) same is some refused = tt
refused_kept s files here now (Err fault) same is some refused =
    let P : Files → Type 0 = λ f. Refuses s f fault in
    unchanged is (subst P same refused) (λ empty. absurd (some empty))

-- the job is refused
pub job_denied : (s : Sought) (files : Files) (fault : OpenFault) → JobRefuses s files fault → Refuses s files fault
job_denied s files (OtherQuery query) refused = refused
job_denied s files (OtherPartitions partitions asked) refused = refused
job_denied s files (OtherParts stream parts found) refused = refused
job_denied s files (LogShort stream part logged found) refused = absurd refused
job_denied s files (Damaged at) (inl none) = no_record none.0 none.1
job_denied s files (Damaged at) (inr differs) = other_streams differs
job_denied s files DiskFault refused = tt
job_denied s files NoMemory refused = tt

-- a part is short, of a job that is wanted and whose epochs are as they have to be
pub short_refused : (s : Sought) (files : Files) (m : Meta) (plans : List Plan) (k : ℕ) (seen : List SeenBy) (fault : OpenFault) → IsTheMeta files m → IsJob s m
    → AreEpochs (keeping_in s.keeps m.partitions) s.streams files (starts s.found) plans k seen → ShortRefuses (last_ends (starts s.found) plans) s.found fault → Refuses s files fault
short_refused s files m plans k seen (LogShort stream part logged found) is job epochs short =
    record { meta = m; is = is; job = job; plans = plans; committed = k; seen = seen; epochs = epochs; at = short.at; short = short.short; has = short.has }
short_refused s files m plans k seen (OtherQuery query) is job epochs short = absurd short
short_refused s files m plans k seen (OtherPartitions partitions asked) is job epochs short = absurd short
short_refused s files m plans k seen (OtherParts stream parts found) is job epochs short = absurd short
short_refused s files m plans k seen (Damaged at) is job epochs short = absurd short
short_refused s files m plans k seen DiskFault is job epochs short = tt
short_refused s files m plans k seen NoMemory is job epochs short = tt

-- the epochs are refused, of a job that is wanted
pub epochs_refused : (s : Sought) (files : Files) (m : Meta) (fault : OpenFault) → IsTheMeta files m → IsJob s m → EpochsRefuse (keeping_in s.keeps m.partitions) s.streams files (starts s.found) fault → Refuses s files fault
epochs_refused s files m (Damaged at) is job refused = in_epochs m is job refused
epochs_refused s files m DiskFault is job refused = tt
epochs_refused s files m NoMemory is job refused = tt
epochs_refused s files m (OtherQuery query) is job refused = absurd refused
epochs_refused s files m (OtherPartitions partitions asked) is job refused = absurd refused
epochs_refused s files m (OtherParts stream parts found) is job refused = absurd refused
epochs_refused s files m (LogShort stream part logged found) is job refused = absurd refused

-- or the states are, where every other check is met
pub states_refused : (s : Sought) (files : Files) (m : Meta) (plans : List Plan) (k : ℕ) (seen : List SeenBy) (fault : OpenFault) → Finds s files m plans k seen
    → StoresRefuse files (keeping_in s.keeps m.partitions) k fault → Refuses s files fault
states_refused s files m plans k seen (Damaged at) finds refused = in_states m plans k seen finds refused
states_refused s files m plans k seen DiskFault finds refused = tt
states_refused s files m plans k seen NoMemory finds refused = tt
states_refused s files m plans k seen (OtherQuery query) finds refused = absurd refused
states_refused s files m plans k seen (OtherPartitions partitions asked) finds refused = absurd refused
states_refused s files m plans k seen (OtherParts stream parts found) finds refused = absurd refused
states_refused s files m plans k seen (LogShort stream part logged found) finds refused = absurd refused

-- what holds whatever a call answered
pub on_ok : {T E : Type 0} {P : Type 0} (r : Result T E) → P → OnOk r P
on_ok (Ok x) is = is
on_ok (Err e) is = tt

pub on_err : {T E : Type 0} {P : Type 0} (r : Result T E) → P → OnErr r P
on_err (Ok x) is = tt
on_err (Err e) is = is

-- no image is new in a sync
pub sync_images : (h0 h1 h2 : History) → Elapses h0 h1 (IsSyncStep (had_now h0)) → h2 ≡ h1 → LeavesOnly h0 h2 (IsImage (had_now h0))
sync_images h0 h1 h2 step same =
    let P : Files → Type 0 = IsImage (had_now h0) in
    let now : LeavesNow h0 P = record { each = λ image is. is } in
    let run : LeavesOnly h0 h1 P = (syncs P P P h0 h0 h1 (begins P P P h0 now (λ f p. p) (files_are_image (had_now h0))) step (λ f p. p)).since in
    let M : History → Type 0 = λ h. LeavesOnly h0 h P in
    subst M (sym same) run

-- the names were synced, and this came since
pub synced_since : (P : Files → Type 0) (h0 h1 h2 h3 : History) → Elapses h0 h1 (IsSyncStep (had_now h0)) → h2 ≡ h1 → IsSettledAs h2 (files_now h0) → LeavesOnly h2 h3 P → SyncedSince h0 h3 P
synced_since P h0 h1 h2 h3 step same settled later = record { at = h2; before = sync_images h0 h1 h2 step same; settled = settled; since = later }

-- nothing came since
pub synced_still : (s : Sought) (h0 h1 h2 h3 : History) → Elapses h0 h1 (IsSyncStep (had_now h0)) → h2 ≡ h1 → IsSettledAs h2 (files_now h0) → h3 ≡ h2 → SyncedSince h0 h3 (IsBegun s (files_now h0))
synced_still s h0 h1 h2 h3 step same settled still =
    let P : Files → Type 0 = IsBegun s (files_now h0) in
    synced_since P h0 h1 h2 h3 step same settled (same_leaves P h2 h2 h3 (stays h2 P (files_now h0) settled (inl refl)) still)

-- an empty checkpoint was begun since
pub synced_begun : (s : Sought) (h0 h1 h2 h3 : History) → Elapses h0 h1 (IsSyncStep (had_now h0)) → h2 ≡ h1 → IsSettledAs h2 (files_now h0) → IsEmpty (files_now h0)
    → LeavesOnly h2 h3 (IsEither (files_now h0) (only_meta (first_meta s))) → SyncedSince h0 h3 (IsBegun s (files_now h0))
synced_begun s h0 h1 h2 h3 step same settled empty later =
    let P : Files → Type 0 = IsBegun s (files_now h0) in
    synced_since P h0 h1 h2 h3 step same settled (weaker (IsEither (files_now h0) (only_meta (first_meta s))) P h2 h3 later (λ f either. elim either [
      | inl still ↦ inl still
      | inr is ↦ inr (empty, is)
    ]))

-- nothing was done
pub not_begun : (s : Sought) (files : Files) → IsRefused s files files NoMemory
not_begun s files = unchanged refl tt (λ empty. tt)

pub nothing_new : (s : Sought) (h : History) → LeavesOnly h h (IsImageOpening s (had_now h))
nothing_new s h = same_images (IsImageOpening s (had_now h)) h (λ image is. inl is)

pub nothing_opened : {T E : Type 0} (s : Sought) (h : History) (r : Result T E) → OnErr r (IsOpening s h h)
nothing_opened s h r = on_err r (unsynced (same_images (IsImage (had_now h)) h (λ image is. is)))
