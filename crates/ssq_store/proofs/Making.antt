-- What files make, version by version.
use Rattle.std.proofs.Common.{◌≡◌, ℕ, zero, suc, ◌+◌, ◌≤◌, arith, true≢false, is_some, Option, Some, None, IsSome, IfNone, IfSome, [], sym, ap, subst, inl, inr}
use Rattle.std.proofs.lemmas.Bool.{cases_lt}
use Rattle.ssq_outside.specs.declared.name.Name.{Name}
use Rattle.ssq_outside.specs.declared.name.Name.TheVariants as name
use Rattle.ssq_outside.specs.Files.{Content, Files}
use Rattle.ssq_outside.specs.History.{History, files_now}
use Rattle.ssq_version.specs.State.{State, Change, IsState, IsAfter}
use Rattle.ssq_version.proofs.WhatIsNew.{news_between}
use Rattle.ssq_store.specs.declared.fault.StoreFault.{StoreFault}
use Rattle.ssq_store.specs.declared.fault.StoreFault.TheVariants as fault
use Rattle.ssq_store.specs.Fault.{DiskRises, SnapshotRises, snapshot_fault}
use Rattle.ssq_store.specs.Loaded.{IsSnapshot, IsNoSnapshot, ByEither, Makes, DamagedByEither, IsDamaged, Refuses, HaveNone, IsTold, SnapshotRefuses, DeltaRefuses}

no_snapshot : (partition version : ℕ) (state : State) (P : Type 0) → IsSnapshot None partition version state → P
no_snapshot partition version state P is = absurd (true≢false (sym (ap is_some is.is)))

by_snapshot : (content : Content) (partition version : ℕ) (state : State) (otherwise : Type 0) → IsSnapshot content partition version state → ByEither content partition version state otherwise
by_snapshot None partition version state otherwise is = no_snapshot partition version state otherwise is
by_snapshot (Some bytes) partition version state otherwise is = is

-- the state in a version's snapshot
pub makes_snapshot : (files : Files) (partition version : ℕ) (state : State) → IsSnapshot (files (name.Snapshot partition version)) partition version state → Makes files partition (suc version) state
unfolding Makes
makes_snapshot files partition version state is = by_snapshot (files (name.Snapshot partition version)) partition version state _ is

otherwise_is : (content : Content) (partition version : ℕ) (state : State) (otherwise : Type 0) → content ≡ None → otherwise → ByEither content partition version state otherwise
otherwise_is content partition version state otherwise none is = subst (λ (content : Content). ByEither content partition version state otherwise) (sym none) is

-- the state after a version's change
pub makes_next : (files : Files) (partition version : ℕ) (old new : State) (change : Change) → files (name.Snapshot partition version) ≡ None → Makes files partition version old
    → IsTold (files (name.Delta partition version)) partition version old change → IsAfter change old new → IsState new → Makes files partition (suc version) new
unfolding Makes
makes_next files partition version old new change none makes told after kept =
    otherwise_is (files (name.Snapshot partition version)) partition version new _ none
    (old, makes, record { change = change; kept = told.kept; few = told.few; between = news_between old new change told.new after; is = told.is; state = kept })

damaged_otherwise : (content : Content) (partition version : ℕ) (at : Name) (otherwise : Type 0) → content ≡ None → otherwise → DamagedByEither content partition version at otherwise
damaged_otherwise content partition version at otherwise none is = subst (λ (content : Content). DamagedByEither content partition version at otherwise) (sym none) is

damaged_snapshot : (content : Content) (partition version : ℕ) (at : Name) (otherwise : Type 0) → IsSome content → at ≡ name.Snapshot partition version → IsNoSnapshot content partition version → DamagedByEither content partition version at otherwise
damaged_snapshot None partition version at otherwise there is none = absurd (true≢false (sym there))
damaged_snapshot (Some bytes) partition version at otherwise there is none = (is, none)

-- what is damaged among fewer versions is so among more, where these have no snapshot
damaged_up : (files : Files) (partition from count : ℕ) (at : Name) → from ≤ count → HaveNone files partition from count → IsDamaged files partition from at → IsDamaged files partition count at
unfolding IsDamaged
damaged_up files partition from zero at below none is =
    let same : from ≡ 0 = omega (arith, below) in
    subst (λ (n : ℕ). IsDamaged files partition n at) same is
damaged_up files partition from (suc version) at below none is =
    let less : from ≤ version → IsDamaged files partition version at = λ le. damaged_up files partition from version at le (λ v low high. none v low (omega (arith, high))) is in
    elim (cases_lt from (suc version)) [
      | inl lt ↦ damaged_otherwise (files (name.Snapshot partition version)) partition version at _ (none version (omega (arith, lt)) (omega arith)) (inl (less (omega (arith, lt))))
      | inr ge ↦ (let same : from ≡ suc version = omega (arith, ge, below) in subst (λ (n : ℕ). IsDamaged files partition n at) same is)
    ]

pub refuses_up : (files : Files) (partition from count : ℕ) (why : StoreFault) → from ≤ count → HaveNone files partition from count → Refuses files partition from why → Refuses files partition count why
refuses_up files partition from count (fault.Damaged at) below none is = damaged_up files partition from count at below none is
refuses_up files partition from count fault.DiskFault below none is = tt
refuses_up files partition from count fault.NoMemory below none is = tt

-- why a snapshot is not read is why the state is not loaded
pub refuses_snapshot : (files : Files) (partition version : ℕ) (why : StoreFault) → SnapshotRefuses (files (name.Snapshot partition version)) partition version why → Refuses files partition (suc version) why
unfolding IsDamaged
refuses_snapshot files partition version (fault.Damaged at) is = damaged_snapshot (files (name.Snapshot partition version)) partition version at _ is.1 is.0 is.2
refuses_snapshot files partition version fault.DiskFault is = tt
refuses_snapshot files partition version fault.NoMemory is = tt

-- why a delta is not read is why the state is not loaded
pub refuses_delta : (files : Files) (partition version : ℕ) (old : State) (why : StoreFault) → files (name.Snapshot partition version) ≡ None → Makes files partition version old
    → DeltaRefuses (files (name.Delta partition version)) partition version old why → Refuses files partition (suc version) why
unfolding IsDamaged
refuses_delta files partition version old (fault.Damaged at) none makes is =
    damaged_otherwise (files (name.Snapshot partition version)) partition version at _ none (inr (old, makes, is.0, is.1))
refuses_delta files partition version old fault.DiskFault none makes is = tt
refuses_delta files partition version old fault.NoMemory none makes is = tt

pub makes_nothing : (files : Files) (partition : ℕ) (state : State) → state ≡ [] → Makes files partition 0 state
unfolding Makes
makes_nothing files partition state is = is

pub have_none : (files : Files) (partition count : ℕ) → HaveNone files partition count count
have_none files partition count version low high = absurd (omega (arith, low, high))

pub have_more : (files : Files) (partition left version count : ℕ) → left ≡ version + 1 → files (name.Snapshot partition version) ≡ None → HaveNone files partition left count → HaveNone files partition version count
have_more files partition left version count next none have v low high =
    elim (cases_lt version v) [
      | inl lt ↦ have v (omega (arith, next, lt)) high
      | inr le ↦ (let same : version ≡ v = omega (arith, low, le) in subst (λ (n : ℕ). files (name.Snapshot partition n) ≡ None) same none)
    ]

pub if_none : {X : Type 0} (o : Option X) (P : Type 0) → o ≡ None → IfNone o P → P
if_none None P is holds = holds
if_none (Some x) P is holds = absurd (true≢false (ap is_some is))

pub if_some : {X : Type 0} (P : X → Type 0) (o : Option X) (x : X) → o ≡ Some x → IfSome o P → P x
if_some {X} P o x is holds = subst (λ (o : Option X). IfSome o P) is holds

-- ---- on a disk whose files stay

pub refuses_at : (before now : History) (partition left version count : ℕ) (why : StoreFault) → now ≡ before → left ≡ suc version → left ≤ count → HaveNone (files_now before) partition left count
    → SnapshotRefuses (files_now now (name.Snapshot partition version)) partition version why → Refuses (files_now before) partition count why
refuses_at before now partition left version count why same next below none is =
    let here : SnapshotRefuses (files_now before (name.Snapshot partition version)) partition version why = subst (λ (h : History). SnapshotRefuses (files_now h (name.Snapshot partition version)) partition version why) same is in
    let at : Refuses (files_now before) partition left why = subst (λ (n : ℕ). Refuses (files_now before) partition n why) (sym next) (refuses_snapshot (files_now before) partition version why here) in
    refuses_up (files_now before) partition left count why below none at

pub makes_at : (before now : History) (partition left version : ℕ) (state : State) → now ≡ before → left ≡ suc version → IsSnapshot (files_now now (name.Snapshot partition version)) partition version state → Makes (files_now before) partition left state
makes_at before now partition left version state same next is =
    let here : IsSnapshot (files_now before (name.Snapshot partition version)) partition version state = subst (λ (h : History). IsSnapshot (files_now h (name.Snapshot partition version)) partition version state) same is in
    subst (λ (n : ℕ). Makes (files_now before) partition n state) (sym next) (makes_snapshot (files_now before) partition version state here)

pub refuses_later : (before now : History) (partition version count : ℕ) (why : StoreFault) → now ≡ before → suc version ≤ count → HaveNone (files_now before) partition (suc version) count
    → Refuses (files_now now) partition (suc version) why → Refuses (files_now before) partition count why
refuses_later before now partition version count why same below none is =
    refuses_up (files_now before) partition (suc version) count why below none (subst (λ (h : History). Refuses (files_now h) partition (suc version) why) same is)

-- a fault that no object counted is none of the file aside
pub rises_apart : (why : StoreFault) (before now : ℕ) → ((b n : ℕ) → DiskRises why b n) → SnapshotRises (snapshot_fault why) before now
rises_apart (fault.Damaged at) before now rises = tt
rises_apart fault.DiskFault before now rises = rises before now
rises_apart fault.NoMemory before now rises = tt
