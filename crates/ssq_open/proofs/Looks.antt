-- What a look at a checkpoint finds, and why it is denied.
use Rattle.std.proofs.Common.{◌≡◌, ℕ, List, ap, subst, inl, inr, length}
use Rattle.ssq_outside.specs.declared.name.Name.{Name}
use Rattle.ssq_outside.specs.Files.{Files}
use Rattle.ssq_plans.specs.declared.meta.Meta.{Meta}
use Rattle.ssq_plans.specs.declared.part.PartEnd.{PartEnd}
use Rattle.ssq_open.specs.declared.fault.OpenFault.{OpenFault}
use Rattle.ssq_open.specs.declared.fault.OpenFault.TheVariants.{OtherQuery, OtherPartitions, OtherParts, LogShort, Damaged, DiskFault, NoMemory}
use Rattle.ssq_plans.specs.declared.plan.Plan.{Plan}
use Rattle.ssq_plans.specs.declared.seen.SeenBy.{SeenBy}
use Rattle.ssq_open.specs.Fault.{DiskRises}
use Rattle.ssq_open.specs.Sought.{Sought}
use Rattle.ssq_open.specs.Spelled.{IsTheMeta}
use Rattle.ssq_open.specs.Epochs.{IsProgress}
use Rattle.ssq_open.specs.Refused.{JobDiffers, JobRefuses, ProgressRefuses}
use Rattle.ssq_open.specs.Opening.{IsOutside}
use Rattle.ssq_open.specs.Looking.{Query, begins, IsOf, QueryDiffers, MetaDiffers, MetaRefuses, Keeps, IsSpoilt, no_record, other_streams, of_progress, Denies}
use Rattle.ssq_open.proofs.Passing.{no_progress_damage}

-- a record that is of another query is not of the job that is wanted
pub job_differs : (s : Sought) (m : Meta) (fault : OpenFault) → QueryDiffers s.query (length s.parts) m fault → JobDiffers s m fault
job_differs s m (OtherQuery kept) differs = differs
job_differs s m (Damaged at) differs = differs
job_differs s m (OtherPartitions kept asked) differs = absurd differs
job_differs s m (OtherParts stream kept found) differs = absurd differs
job_differs s m (LogShort stream part logged found) differs = differs
job_differs s m DiskFault differs = differs
job_differs s m NoMemory differs = differs

pub job_refuses : (s : Sought) (files : Files) (fault : OpenFault) → MetaRefuses s.query (length s.parts) files fault → JobRefuses s files fault
job_refuses s files (OtherQuery kept) why = record { meta = why.meta; is = why.is; differs = why.differs }
job_refuses s files (Damaged at) (inl none) = inl none
job_refuses s files (Damaged at) (inr why) = inr (record { meta = why.meta; is = why.is; differs = why.differs })
job_refuses s files (OtherPartitions kept asked) why = absurd why
job_refuses s files (OtherParts stream kept found) why = absurd why
job_refuses s files (LogShort stream part logged found) why = why
job_refuses s files DiskFault why = tt
job_refuses s files NoMemory why = tt

-- a record that is of another query, and one that is of another job
pub query_refused : (asked : List ℕ) (streams : ℕ) (files : Files) (m : Meta) (fault : OpenFault) → IsTheMeta files m → QueryDiffers asked streams m fault → MetaRefuses asked streams files fault
query_refused asked streams files m (OtherQuery kept) is differs = record { meta = m; is = is; differs = differs }
query_refused asked streams files m (Damaged at) is differs = inr (record { meta = m; is = is; differs = differs })
query_refused asked streams files m (OtherPartitions kept partitions) is differs = differs
query_refused asked streams files m (OtherParts stream kept found) is differs = differs
query_refused asked streams files m (LogShort stream part logged found) is differs = differs
query_refused asked streams files m DiskFault is differs = absurd differs
query_refused asked streams files m NoMemory is differs = absurd differs

pub job_refused : (s : Sought) (files : Files) (m : Meta) (fault : OpenFault) → IsTheMeta files m → JobDiffers s m fault → JobRefuses s files fault
job_refused s files m (OtherQuery kept) is differs = record { meta = m; is = is; differs = differs }
job_refused s files m (Damaged at) is differs = inr (record { meta = m; is = is; differs = differs })
job_refused s files m (OtherPartitions kept asked) is differs = record { meta = m; is = is; differs = differs }
job_refused s files m (OtherParts stream kept found) is differs = record { meta = m; is = is; differs = differs }
job_refused s files m (LogShort stream part logged found) is differs = differs
job_refused s files m DiskFault is differs = absurd differs
job_refused s files m NoMemory is differs = absurd differs

pub difference_rises : (asked : List ℕ) (streams : ℕ) (m : Meta) (before now : ℕ) (fault : OpenFault) → QueryDiffers asked streams m fault → DiskRises fault before now
difference_rises asked streams m before now (OtherQuery kept) differs = tt
difference_rises asked streams m before now (Damaged at) differs = tt
difference_rises asked streams m before now (OtherPartitions kept partitions) differs = tt
difference_rises asked streams m before now (OtherParts stream kept found) differs = tt
difference_rises asked streams m before now (LogShort stream part logged found) differs = tt
difference_rises asked streams m before now DiskFault differs = absurd differs
difference_rises asked streams m before now NoMemory differs = tt

-- the record is denied
pub meta_denied : (query : Query) (files : Files) (fault : OpenFault) → MetaRefuses query.text query.streams files fault → Denies query files fault
meta_denied query files (OtherQuery kept) why = why
meta_denied query files (Damaged at) (inl none) = no_record none.0 none.1
meta_denied query files (Damaged at) (inr why) = other_streams why
meta_denied query files (OtherPartitions kept partitions) why = why
meta_denied query files (OtherParts stream kept found) why = why
meta_denied query files (LogShort stream part logged found) why = why
meta_denied query files DiskFault why = tt
meta_denied query files NoMemory why = tt

-- or the plans or commits are, of a record that is of the query
pub progress_denied : (query : Query) (files : Files) (m : Meta) (fault : OpenFault) → IsTheMeta files m → IsOf query.text query.streams m
    → ProgressRefuses query.watermarked files (begins m.parts) fault → Denies query files fault
progress_denied query files m (Damaged at) is ours why = of_progress m is ours why
progress_denied query files m (OtherQuery kept) is ours why = absurd why
progress_denied query files m (OtherPartitions kept partitions) is ours why = why
progress_denied query files m (OtherParts stream kept found) is ours why = why
progress_denied query files m (LogShort stream part logged found) is ours why = why
progress_denied query files m DiskFault is ours why = tt
progress_denied query files m NoMemory is ours why = tt

-- a checkpoint that holds what is found is not denied
no_difference : (asked : List ℕ) (streams : ℕ) (m : Meta) (fault : OpenFault) → IsOf asked streams m → QueryDiffers asked streams m fault → ⊥
no_difference asked streams m (OtherQuery kept) ours differs = differs.1 ours.query
no_difference asked streams m (Damaged at) ours differs = differs.2 ours.parts
no_difference asked streams m (OtherPartitions kept partitions) ours differs = differs
no_difference asked streams m (OtherParts stream kept found) ours differs = differs
no_difference asked streams m (LogShort stream part logged found) ours differs = differs
no_difference asked streams m DiskFault ours differs = differs
no_difference asked streams m NoMemory ours differs = differs

no_meta_differs : (asked : List ℕ) (streams : ℕ) (files : Files) (m : Meta) (fault : OpenFault) → IsTheMeta files m → IsOf asked streams m → MetaDiffers asked streams files fault → ⊥
no_meta_differs asked streams files m fault is ours why =
    let P : Meta → Type 0 = λ other. QueryDiffers asked streams other fault in
    no_difference asked streams m fault ours (subst P (is.only why.meta why.is.spells) why.differs)

module _ (query : Query) (files : Files) (meta : Meta) (plans : List Plan) (k : ℕ) (seen : List SeenBy) (keeps : Keeps query files meta plans k seen) where
  not_spoilt : (at : Name) → IsSpoilt query files at → ⊥
  not_spoilt at (no_record is none) = none meta keeps.record_is.spells
  not_spoilt at (other_streams why) = no_meta_differs query.text query.streams files meta (Damaged at) keeps.record_is keeps.ours why
  not_spoilt at (of_progress m is ours damage) =
      let E : List PartEnd → Type 0 = λ first. IsProgress query.watermarked files first plans k seen in
      let same : meta ≡ m = is.only meta keeps.record_is.spells in
      no_progress_damage query.watermarked files (begins m.parts) plans k seen at (subst E (ap (λ (n : Meta). begins n.parts) same) keeps.progress) damage

  pub not_denied : (fault : OpenFault) → Denies query files fault → IsOutside fault
  not_denied (OtherQuery kept) why = absurd (no_meta_differs query.text query.streams files meta (OtherQuery kept) keeps.record_is keeps.ours why)
  not_denied (Damaged at) why = absurd (not_spoilt at why)
  not_denied (OtherPartitions kept partitions) why = why
  not_denied (OtherParts stream kept found) why = why
  not_denied (LogShort stream part logged found) why = why
  not_denied DiskFault why = tt
  not_denied NoMemory why = tt
