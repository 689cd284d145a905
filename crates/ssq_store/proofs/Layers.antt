-- States as entries of a snapshot with those of deltas over them.
use Rattle.std.proofs.Common.{◌≡◌, ℕ, suc, List, Option, Some, None, IfNone, IfSome, IsSomeAnd, true≢false, is_some, [], arith, refl, sym, ap, subst, ◌∙◌}
use Rattle.std.specs.List.Sorted.{IsStrictlySortedBy}
use Rattle.std.specs.Global.{Vec}
use Rattle.std.proofs.lemmas.List.{length-map}
use Rattle.std.proofs.lemmas.List.Elements.{All-from_recursion}
use Rattle.ssq_outside.specs.declared.name.Name.TheVariants as name
use Rattle.ssq_outside.specs.Files.{Files}
use Rattle.ssq_version.specs.State.{State, Change, AreNews, IsChange, IsShort, IsShortOrNone, IsState, by_bytes, laid, layered, said_of}
use Rattle.ssq_version.specs.Text.{AreEntries, file_text, shown}
use Rattle.ssq_version.specs.declared.entry.Entry.{Entry}
use Rattle.ssq_version.specs.declared.form.Form.TheVariants as form
use Rattle.ssq_version.proofs.Laid.{laid_kept, layered_after, layered_kept, layered_said}
use Rattle.ssq_version.proofs.Spelled.{change_is_kept, said_of-state_of, state_is_kept, state_of}
use Rattle.ssq_version.proofs.Leading.{said_kept}
use Rattle.ssq_store.specs.Loaded.{IsSnapshot, IsTold, Makes}
use Rattle.ssq_store.proofs.Making.{if_some, makes_next, makes_snapshot}

-- the state whose file was read
pub read_state : (text : List ℕ) (partition version : ℕ) (entries : Change) → AreEntries form.Snapshot entries → text ≡ file_text form.Snapshot partition version entries
    → (state : State) × (entries ≡ said_of state) × IsSnapshot (Some text) partition version state
read_state text partition version entries are is =
    let state : State = state_of entries are.spelled in
    let same : said_of state ≡ entries = said_of-state_of entries are.spelled in
    let of : AreEntries form.Snapshot (said_of state) = subst (AreEntries form.Snapshot) (sym same) are in (
      state,
      sym same,
      record {
        kept = state_is_kept state of;
        few = omega (arith, of.few, length-map {B = List ℕ × Option (List ℕ)} state (λ (entry : List ℕ × List ℕ). (entry.0, Some entry.1)));
        is = ap Some (is ∙ ap (file_text form.Snapshot partition version) (sym same));
      },
    )

pub entries_make : (files : Files) (partition version : ℕ) (entries : Change) (state : State) → entries ≡ said_of state → IsSnapshot (files (name.Snapshot partition version)) partition version state
    → Makes files partition (suc version) (layered entries [])
entries_make files partition version entries state same is =
    subst (Makes files partition (suc version)) (sym (ap (λ (es : Change). layered es []) same ∙ layered_said state)) (makes_snapshot files partition version state is)

pub entries_kept : (entries : Change) (state : State) → entries ≡ said_of state → IsState state → IsChange entries
entries_kept entries state same kept = subst IsChange (sym same) (said_kept state kept)

-- the state after a version's change
pub layers_next : (files : Files) (partition version : ℕ) (older newer change now : Change) → IsChange older → IsChange newer → files (name.Snapshot partition version) ≡ None
    → Makes files partition version (layered older newer) → IsTold (files (name.Delta partition version)) partition version (layered older newer) change → now ≡ laid change newer
    → Makes files partition (suc version) (layered older now)
layers_next files partition version older newer change now kept also none makes told same =
    subst (λ (es : Change). Makes files partition (suc version) (layered older es)) (sym same)
    (makes_next files partition version (layered older newer) (layered older (laid change newer)) change none makes told (layered_after older newer change kept also told.kept)
    (layered_kept older (laid change newer) kept (laid_kept change newer told.kept also)))

-- ---- what was read of a version

pub if_absent : {X : Type 0} (o : Option X) (P : Type 0) → (o ≡ None → P) → IfNone o P
if_absent None P holds = holds refl
if_absent (Some x) P holds = tt

pub found_state : (text : List ℕ) (partition version : ℕ) (read : Option (ℕ × ℕ × Vec Entry)) (of : Option (Vec Entry)) → IfSome of (λ kept. read ≡ Some (partition, version, kept))
    → IfSome read (λ file. AreEntries form.Snapshot (shown file.2.items) × (text ≡ file_text form.Snapshot file.0 file.1 (shown file.2.items)))
    → IfSome of (λ entries. (state : State) × (shown entries.items ≡ said_of state) × IsSnapshot (Some text) partition version state)
found_state text partition version read None is holds = tt
found_state text partition version read (Some kept) is holds =
    let file = if_some (λ (file : ℕ × ℕ × Vec Entry). AreEntries form.Snapshot (shown file.2.items) × (text ≡ file_text form.Snapshot file.0 file.1 (shown file.2.items))) read (partition, version, kept) is holds in
    read_state text partition version (shown kept.items) file.0 file.1

-- a file that is one of this version is read
pub is_read : {X : Type 0} (read : Option (ℕ × ℕ × X)) (of : Option X) (partition version : ℕ) (P : X → Type 0) → IsSomeAnd read (λ file. (file.0 ≡ partition) × (file.1 ≡ version) × P file.2)
    → ((kept : X) → read ≡ Some (partition, version, kept) → of ≡ Some kept) → (kept : X) × (of ≡ Some kept) × P kept
is_read None of partition version P is each = absurd is
is_read (Some file) of partition version P is each = (file.2, each file.2 (λ i. Some (is.0 i, is.1 i, file.2)), is.2)

pub told_change : (text : List ℕ) (partition version : ℕ) (state : State) (entries : Change) → AreEntries form.Delta entries → text ≡ file_text form.Delta partition version entries → AreNews state entries
    → IsTold (Some text) partition version state entries
told_change text partition version state entries are is news = record { kept = change_is_kept entries are; few = are.few; new = news; is = ap Some is }

ascends_nothing : IsStrictlySortedBy by_bytes []
unfolding IsStrictlySortedBy
ascends_nothing = tt

pub nothing_kept : (entries : List Entry) → entries ≡ [] → IsChange (shown entries)
nothing_kept entries none =
    subst (λ (es : List Entry). IsChange (shown es)) (sym none) (record { ascend = ascends_nothing; keys = All-from_recursion IsShort [] tt; values = All-from_recursion IsShortOrNone [] tt })

-- it is read, and it is not
pub is_there : {X : Type 0} (of : Option X) (P : X → Type 0) → of ≡ None → (kept : X) × (of ≡ Some kept) × P kept → ⊥
is_there of P none is = true≢false (sym (ap is_some (sym none ∙ is.1)))
