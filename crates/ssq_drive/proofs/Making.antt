-- A snapshot that is handed out, and that comes back.
use Rattle.std.proofs.Common.{◌≡◌, ◌<◌, ◌≤◌, ◌+◌, ℕ, Bool, true, false, List, [], ◌∷◌, All, Option, Some, None, IfSome, Result, Ok, Err, IfErr, sym, ap, ◌∙◌, subst, inl, inr, arith, ltb-true}
use Rattle.std.proofs.lemmas.Bool.{or_left}
use Rattle.ssq_outside.specs.declared.name.Name.{Name}
use Rattle.ssq_outside.specs.declared.name.Name.TheVariants as name
use Rattle.ssq_outside.specs.Faults.{Rises}
use Rattle.ssq_outside.specs.Files.{same_name}
use Rattle.ssq_outside.specs.History.{History, files_now}
use Rattle.ssq_outside.proofs.Names.{same_name-same}
use Rattle.ssq_upkeep.specs.Upkeep.{is_among, is_up_to}
use Rattle.ssq_meaning.specs.Meaning.{Line}
use Rattle.ssq_store.specs.declared.fault.SnapshotFault.{SnapshotFault}
use Rattle.ssq_store.specs.Loaded.{files_in, IsDamaged}
use Rattle.ssq_board.specs.declared.front.Cause.{Cause}
use Rattle.ssq_board.specs.declared.front.Entry.{Entry}
use Rattle.ssq_board.specs.declared.front.Entry.TheVariants as entry
use Rattle.ssq_board.specs.Core.{Core, is_stopped}
use Rattle.ssq_board.specs.Rounds.{IsAtRest}
use Rattle.ssq_board.specs.Shelf.{Shelf, acknowledged_in, last_of, there_in}
use Rattle.ssq_board.proofs.Keeping.{up_to_is}
use Rattle.ssq_board.proofs.Telling.{now_stopped}
use Rattle.ssq_ledger.specs.Shown.{Shown, HasRisen, did, shelf_of}
use Rattle.ssq_ledger.specs.Upkept.{NoneIsDue}
use Rattle.ssq_desk.specs.declared.round.Round.{Round}
use Rattle.ssq_desk.specs.declared.upkeep.UpkeepTask.{UpkeepTask}
use Rattle.ssq_desk.specs.Contents.{keeping_in}
use Rattle.ssq_desk.specs.Round.{Owns, setting_of}
use Rattle.ssq_desk.specs.Upkeep.{FailsFor, AreReadFor, IsHandedOut, IsMalformed, IsMissing, IsNextDue, IsTakenBack, cause_of_snapshot, files_for, first_missing, names_in}
use Rattle.ssq_desk.specs.Whole.{opening_in}
use Rattle.ssq_desk.proofs.Snapshots.{newest_older}
use Rattle.ssq_drive.specs.Damaged.{HasDamaged}
use Rattle.ssq_drive.specs.Driven.{StopsFor, IsMade, KeepsUp}
use Rattle.ssq_drive.specs.Good.{IsGood}
use Rattle.ssq_drive.proofs.Dueness.{among_second}
use Rattle.ssq_drive.proofs.Going.{did_more, earlier}
use Rattle.ssq_drive.proofs.Goods.{good_on, still}
use Rattle.ssq_drive.proofs.KeepLemmas.{IsLed, fails_stop, keeps_made, keeps_stop, keeps_still, keeps_unmade, keeps_untaken, made_less, shelf_did}

err_ok : {A : Type 0} {f : Cause} {a : A} → ◌≡◌ {A = Result A Cause} (Err f) (Ok a) → ⊥
err_ok e = cc

same_cause : {A : Type 0} (f g : Cause) → ◌≡◌ {A = Result A Cause} (Err f) (Err g) → f ≡ g
same_cause {A} f g is = ap or is
  where
    or : Result A Cause → Cause
    or (Ok a) = f
    or (Err x) = x

-- what is sure of a commit is that its epoch is acknowledged
sure_below : (v : ℕ) (c : Core) → is_up_to (last_of c) v ≡ true → v < acknowledged_in c
sure_below v c is = ltb-true v (acknowledged_in c) (sym (up_to_is (acknowledged_in c) v) ∙ is)

pub risen_from : (before mid now : ℕ) → before ≤ mid → Rises mid now → Rises before now
risen_from before mid now le risen = omega (arith, le, risen)

module _ {D L : Type 0} (stores logs : Type 0) (history : D → History) (lines : L → List Line) (faults : D → ℕ) (closing : Bool) (old : Shown D (Round L)) (running : old.core.front.stop ≡ None) (rest : IsAtRest old.core) where
  abbrev pub keeping : ℕ
  keeping = keeping_in (setting_of lines old.opening)

  abbrev pub P : Shown D (Round L) → Name → Type 0
  P = HasDamaged stores logs history lines

  abbrev pub k : Shelf
  k = shelf_of (opening_in lines) old

  -- a file that is not there is damaged
  missing : (new : Shown D (Round L)) (p v : ℕ) (f : Cause) → new ≡ did old new.disk (entry.Upkeep p v ∷ entry.Unmade p v f ∷ []) → (stores → history new.disk ≡ history old.disk) → IsNextDue (opening_in lines) keeping old p v → (q : Name)
      → IsMissing stores (Owns stores logs history lines old) (files_now (history old.disk)) p v (there_in k) q → P new q
  missing new p v f is same due q (unread, never) =
      subst (λ (x : Shown D (Round L)). P x q) (sym is) (
        never,
        λ t. record {
          partition = p;
          version = v;
          below = unread.below;
          keeps = due.0;
          tenth = due.2.due.tenth;
          known = sure_below v old.core due.2.due.acknowledged;
          older = newest_older p v (there_in k) unread.below unread.newest;
          needed = unread.unfound.0;
          is = inl (subst (λ (h : History). first_missing (files_now h) (files_for p v unread.below) ≡ Some q) (sym (same t)) (unread.unfound.1 t));
        },
      )

  -- and one of those that were read, where it is not the canonical one
  malformed : {S : Type 0} (new : Shown D (Round L)) (task : UpkeepTask S) (f : Cause) → new ≡ did old new.disk (entry.Upkeep task.partition task.version ∷ entry.Unmade task.partition task.version f ∷ []) → (stores → history new.disk ≡ history old.disk)
      → IsNextDue (opening_in lines) keeping old task.partition task.version → AreReadFor stores (files_now (history old.disk)) (there_in k) task → (q : Name) → is_among (names_in task.files.items) q ≡ true → IsDamaged (files_in task.files.items) task.partition (task.version + 1) q
      → (Owns stores logs history lines old → ⊥) → P new q
  malformed new task f is same due read q among damaged never =
      subst (λ (x : Shown D (Round L)). P x q) (sym is) (
        never,
        λ t. record {
          partition = task.partition;
          version = task.version;
          below = read.below;
          keeps = due.0;
          tenth = due.2.due.tenth;
          known = sure_below task.version old.core due.2.due.acknowledged;
          older = newest_older task.partition task.version (there_in k) read.below read.newest;
          needed = subst (λ (l : List Name). is_among l q ≡ true) read.are among;
          is = inr (
            task.files.items,
            read.are,
            subst (λ (h : History). All (λ file. files_now h file.0 ≡ Some file.1) task.files.items) (sym (same t)) (read.found t),
            damaged,
          );
        },
      )

  -- upkeep failed, and the desk is stopped
  pub record Failed (new : Shown D (Round L)) : Type 0 where
    pub kept : KeepsUp faults P closing old new
    pub stopped : is_stopped new.core.front.stop ≡ true
    pub good : IsGood lines old → IsGood lines new

  -- none was due
  pub none_out : {S : Type 0} (mid : Shown D (Round L)) (one : Option (UpkeepTask S)) → one ≡ None → IsHandedOut (opening_in lines) keeping (λ p v. IsMissing stores (Owns stores logs history lines old) (files_now (history old.disk)) p v (there_in k)) (faults old.disk) (faults mid.disk) old mid (Ok one) → (mid ≡ old) × NoneIsDue keeping old.core k
  none_out {S} mid one is = subst (λ (o : Option (UpkeepTask S)). IsHandedOut (opening_in lines) keeping (λ p v. IsMissing stores (Owns stores logs history lines old) (files_now (history old.disk)) p v (there_in k)) (faults old.disk) (faults mid.disk) old mid (Ok o)) is

  pub none_handed : (mid : Shown D (Round L)) → (mid ≡ old) × NoneIsDue keeping old.core k → KeepsUp faults P closing old mid
  none_handed mid none = keeps_still faults P closing old mid none.0 rest

  -- none could be begun
  pub unhanded : (S : Type 0) (mid : Shown D (Round L)) (f : Cause) → IsHandedOut (opening_in lines) {S = S} keeping (λ p v. IsMissing stores (Owns stores logs history lines old) (files_now (history old.disk)) p v (there_in k)) (faults old.disk) (faults mid.disk) old mid (Err f)
      → (stores → history mid.disk ≡ history old.disk) → faults old.disk ≤ faults mid.disk → Failed mid
  unhanded S mid f (inl (same, is)) still_so counted =
      let here = still old mid (entry.Stop f ∷ []) is in
      record {
        kept = keeps_stop faults P closing old mid f here running rest (subst (λ (x : Cause). HasRisen x (faults old.disk) (faults mid.disk)) (sym same) tt) counted;
        stopped = ap (λ (s : Shown D (Round L)). is_stopped s.core.front.stop) is;
        good = λ good. good_on lines old mid (entry.Stop f ∷ []) here (tt, tt) good;
      }
  unhanded S mid f (inr (p, v, due, is, why)) still_so counted = record {
    kept = keeps_unmade faults P closing old mid p v f is running rest
        (fails_stop (IsMissing stores (Owns stores logs history lines old) (files_now (history old.disk)) p v (there_in k)) (P mid) old.scope mid.core (faults old.disk) (faults mid.disk) f (λ q bad. missing mid p v f is still_so due q bad) why) counted;
    stopped = ap (λ (s : Shown D (Round L)). is_stopped s.core.front.stop) is ∙ now_stopped old.core.front.stop f;
    good = λ good. good_on lines old mid (entry.Upkeep p v ∷ entry.Unmade p v f ∷ []) is (tt, (tt, tt)) good;
  }

  module _ {S : Type 0} (mid : Shown D (Round L)) where
    -- what a snapshot that was handed out came to
    module _ (task : UpkeepTask S) (one : Option (UpkeepTask S)) (is : one ≡ Some task) (handed : IsHandedOut (opening_in lines) keeping (λ p v. IsMissing stores (Owns stores logs history lines old) (files_now (history old.disk)) p v (there_in k)) (faults old.disk) (faults mid.disk) old mid (Ok one)) (first : faults old.disk ≤ faults mid.disk)
        (all_read : IfSome one (AreReadFor stores (files_now (history old.disk)) (there_in k))) (same_mid : stores → history mid.disk ≡ history old.disk) where
      out : (mid ≡ did old mid.disk (entry.Upkeep task.partition task.version ∷ [])) × IsNextDue (opening_in lines) keeping old task.partition task.version
      out = subst (λ (o : Option (UpkeepTask S)). IsHandedOut (opening_in lines) keeping (λ p v. IsMissing stores (Owns stores logs history lines old) (files_now (history old.disk)) p v (there_in k)) (faults old.disk) (faults mid.disk) old mid (Ok o)) is handed

      claimed : mid ≡ did old mid.disk (entry.Upkeep task.partition task.version ∷ [])
      claimed = out.0

      read : AreReadFor stores (files_now (history old.disk)) (there_in k) task
      read = subst (λ (o : Option (UpkeepTask S)). IfSome o (AreReadFor stores (files_now (history old.disk)) (there_in k))) is all_read

      abbrev pub p : ℕ
      p = task.partition

      abbrev pub v : ℕ
      v = task.version

      -- it is being made
      pub is_claimed : (i w : ℕ) → i ≡ p → w ≡ v → is_among (shelf_of (opening_in lines) mid).claimed (name.Snapshot i w) ≡ true
      is_claimed i w here now =
          subst (λ (x : ℕ). is_among (shelf_of (opening_in lines) mid).claimed (name.Snapshot x w) ≡ true) (sym here) (subst (λ (y : ℕ). is_among (shelf_of (opening_in lines) mid).claimed (name.Snapshot p y) ≡ true) (sym now)
          (ap (λ (s : Shelf). is_among s.claimed (name.Snapshot p v)) (shelf_did (opening_in lines) old mid (entry.Upkeep p v) claimed)
          ∙ among_second k.claimed (name.Snapshot p v ∷ []) (name.Snapshot p v) (or_left (same_name (name.Snapshot p v) (name.Snapshot p v)) false (same_name-same (name.Snapshot p v)))))

      module _ {F : Type 0} (new : Shown D (Round L)) (i w : ℕ) (here : i ≡ p) (now : w ≡ v) (outcome : Result F (S × SnapshotFault)) (later : faults mid.disk ≤ faults new.disk) where
        counted : faults old.disk ≤ faults new.disk
        counted = omega (arith, first, later)

        there : (result : Result (Unit {0}) Cause) (risen : Type 0) → IsTakenBack mid new i w outcome result risen → IsTakenBack mid new p v outcome result risen
        there result risen taken = subst (λ (x : ℕ). IsTakenBack mid new x v outcome result risen) here (subst (λ (y : ℕ). IsTakenBack mid new i y outcome result risen) now taken)

        both : (e : Entry) → new ≡ did mid new.disk (e ∷ []) → new ≡ did old new.disk (entry.Upkeep p v ∷ e ∷ [])
        both e is = did_more old mid new (entry.Upkeep p v ∷ []) (e ∷ []) claimed is

        -- it was not made
        pub untaken : (f : Cause) → IsTakenBack mid new i w outcome (Err f) (Rises (faults mid.disk) (faults new.disk)) → FailsFor (IsMalformed (Owns stores logs history lines mid) task.files.items task.partition task.version) (faults mid.disk) (faults new.disk) f
            → (stores → IfErr outcome (λ failed. history new.disk ≡ history mid.disk)) → Failed new
        untaken f taken why same = by outcome (there (Err f) (Rises (faults mid.disk) (faults new.disk)) taken) same
          where
            not_owned : (Owns stores logs history lines mid → ⊥) → Owns stores logs history lines old → ⊥
            not_owned never = subst (λ (x : Shown D (Round L)). Owns stores logs history lines x → ⊥) claimed never

            by : (outcome : Result F (S × SnapshotFault)) → IsTakenBack mid new p v outcome (Err f) (Rises (faults mid.disk) (faults new.disk)) → (stores → IfErr outcome (λ failed. history new.disk ≡ history mid.disk)) → Failed new
            by (Ok file) (inl (is, ok)) same = absurd (err_ok ok)
            by (Ok file) (inr (run, is, told, risen)) same =
                let all = both (entry.Untaken p v) is in
                record {
                  kept = keeps_untaken faults P closing old new p v all running rest (risen_from (faults old.disk) (faults mid.disk) (faults new.disk) first risen) counted;
                  stopped = ap (λ (s : Shown D (Round L)). is_stopped s.core.front.stop) all;
                  good = λ good. good_on lines old new (entry.Upkeep p v ∷ entry.Untaken p v ∷ []) all (tt, (tt, tt)) good;
                }
            by (Err failed) (is, told) same =
                let g = cause_of_snapshot failed.1 in
                let all = both (entry.Unmade p v g) is in
                let es = entry.Upkeep p v ∷ entry.Unmade p v g ∷ [] in
                let bad = λ (q : Name) (m : IsMalformed (Owns stores logs history lines mid) task.files.items task.partition task.version q). malformed new task g all (λ t. same t ∙ same_mid t) out.1 read q m.among m.is (not_owned m.never) in
                record {
                  kept = keeps_unmade faults P closing old new p v g all running rest
                      (earlier (P new) old.scope new.core (faults old.disk) (faults mid.disk) (faults new.disk) g first
                      (subst (StopsFor (P new) old.scope new.core (faults mid.disk) (faults new.disk)) (same_cause f g told)
                      (fails_stop (IsMalformed (Owns stores logs history lines mid) task.files.items task.partition task.version) (P new) old.scope new.core (faults mid.disk) (faults new.disk) f bad why))) counted;
                  stopped = ap (λ (s : Shown D (Round L)). is_stopped s.core.front.stop) all ∙ now_stopped old.core.front.stop g;
                  good = λ good. good_on lines old new es all (tt, (tt, tt)) good;
                }

        -- it was made
        pub taken_is : (risen : Type 0) → IsTakenBack mid new i w outcome (Ok tt) risen → new ≡ did old new.disk (entry.Upkeep p v ∷ entry.Snapshot p v ∷ [])
        taken_is risen taken = by outcome (there (Ok tt) risen taken)
          where
            by : (outcome : Result F (S × SnapshotFault)) → IsTakenBack mid new p v outcome (Ok tt) risen → new ≡ did old new.disk (entry.Upkeep p v ∷ entry.Snapshot p v ∷ [])
            by (Ok file) (inl (is, ok)) = both (entry.Snapshot p v) is
            by (Ok file) (inr (run, is, told, rose)) = absurd (err_ok (sym told))
            by (Err failed) (is, told) = absurd (err_ok (sym told))

        pub made_kept : new ≡ did old new.disk (entry.Upkeep p v ∷ entry.Snapshot p v ∷ []) → KeepsUp faults P closing old new
        made_kept all = keeps_made faults P closing old new p v all running rest counted

        pub made_good : new ≡ did old new.disk (entry.Upkeep p v ∷ entry.Snapshot p v ∷ []) → IsGood lines old → IsGood lines new
        made_good all good = good_on lines old new (entry.Upkeep p v ∷ entry.Snapshot p v ∷ []) all (tt, (tt, tt)) good

        pub is_made : new ≡ did old new.disk (entry.Upkeep p v ∷ entry.Snapshot p v ∷ []) → IsLed (opening_in lines) old → IsMade (opening_in lines) keeping old new true
        is_made all led = (ap (λ (s : Shown D (Round L)). s.core) all, made_less (opening_in lines) old new keeping p v led running all out.1.0 out.1.2.due)
