-- The history of a record: what stands at a name, and what one more event does.
use Rattle.std.proofs.Common.{◌≡◌, ◌++◌, ◌∷◌, [], ◌+◌, ◌-◌, ◌∙◌, ℕ, List, Bool, true, false, suc, None, Some, Result, Ok, Err, refl, ap, sym, subst, inl, inr, arith}
use Rattle.std.specs.Prelude.{if◌then◌else◌, is_some, OnOk, OnErr}
use Rattle.ssq_outside.specs.declared.name.Name.{Name}
use Rattle.ssq_outside.specs.declared.disk.DiskFault.{DiskFault}
use Rattle.ssq_outside.specs.Files.{same_name, Content, newest, MayBe, Had, files_of, changed, removed, settled_at, IsSyncStep}
use Rattle.ssq_outside.specs.History.{History, had_now, files_now, Elapses}
use Rattle.ssq_outside.proofs.Names.{same_name-same}
use Rattle.ssq_outside.proofs.Steps.{last_or-push, files_are_image}
use Rattle.ssq_fakes.specs.declared.record.Event.{Event}
use Rattle.ssq_fakes.specs.declared.record.Event.TheVariants.{Put, Gone, Synced}
use Rattle.ssq_fakes.specs.Records.{had_by, had_after, content_in, is_unsettled}
use Rattle.ssq_fakes.specs.Disks.{history_of}

newest_changed : (b : Bool) (name q : Name) (c : Content) (had : Had)
    → newest (if b then record { settled = (had q).settled; since = (had q).since ++ c ∷ [] } else had q) ≡ (if b then c else newest (had q))
newest_changed true name q c had = last_or-push (had q).settled c (had q).since
newest_changed false name q c had = refl

-- what stands at a name is the content of the newest event about it
pub newest-had_after : (events : List Event) (q : Name) → newest (had_after events q) ≡ content_in events q
newest-had_after [] q = refl
newest-had_after (Put name bytes ∷ older) q =
    newest_changed (same_name q name) name q (Some bytes.items) (had_after older) ∙ ap (λ x. if same_name q name then Some bytes.items else x) (newest-had_after older q)
newest-had_after (Gone name ∷ older) q =
    newest_changed (same_name q name) name q None (had_after older) ∙ ap (λ x. if same_name q name then None else x) (newest-had_after older q)
newest-had_after (Synced ∷ older) q = newest-had_after older q

-- now each name has had what all events made
pub had_now-is : (events : List Event) (clock : ℕ) → had_now (history_of events clock) ≡ had_after events
had_now-is events clock = let now : clock - clock ≡ 0 = omega arith in rw now refl

pub files_now-is : (events : List Event) (clock : ℕ) (q : Name) → files_now (history_of events clock) q ≡ content_in events q
files_now-is events clock q = ap (λ (had : Had). newest (had q)) (had_now-is events clock) ∙ newest-had_after events q

no_last : {A : Type 0} (xs : List A) (x : A) → xs ++ x ∷ [] ≡ [] → ⊥
no_last [] x same = absurd (cc)
no_last (y ∷ ys) x same = absurd (cc)

changed_since : (b : Bool) (q : Name) (c : Content) (had : Had) → b ≡ true → (if b then record { settled = (had q).settled; since = (had q).since ++ c ∷ [] } else had q).since ≡ [] → ⊥
changed_since true q c had is none = no_last (had q).since c none
changed_since false q c had is none = absurd (cc)

-- what changed since the last sync is not settled
unsettled_since : (events : List Event) → is_unsettled events ≡ true → ((q : Name) → (had_after events q).since ≡ []) → ⊥
unsettled_since [] is none = absurd (cc)
unsettled_since (Put name bytes ∷ older) is none = changed_since (same_name name name) name (Some bytes.items) (had_after older) (same_name-same name) (none name)
unsettled_since (Gone name ∷ older) is none = changed_since (same_name name name) name None (had_after older) (same_name-same name) (none name)
unsettled_since (Synced ∷ older) is none = absurd (cc)

pub unsettled : (events : List Event) (clock : ℕ) → is_unsettled events ≡ true → had_now (history_of events clock) ≡ settled_at (files_now (history_of events clock)) → ⊥
unsettled events clock is same = unsettled_since events is (λ q. ap (λ (had : Had). (had q).since) (sym (had_now-is events clock) ∙ same))

-- nothing stands where something does
pub not_there : (content : Content) → is_some content ≡ true → content ≡ None → ⊥
not_there None there none = absurd (cc)
not_there (Some bytes) there none = absurd (cc)

-- no time goes by
pub rests : (h : History) (P : Had → Type 0) → Elapses h h P
rests h P = record { later = omega arith; kept = λ k le. refl; fresh = λ k after le. absurd (omega arith) }

-- one event is one moment
pub grows : (event : Event) (events new : List Event) (clock clock' : ℕ) (P : Had → Type 0) → new ≡ event ∷ events → clock' ≡ clock + 1 → P (had_by event (had_after events))
    → Elapses (history_of events clock) (history_of new clock') P
grows event events new clock clock' P is next allowed = record {
  later = omega arith;
  kept = λ k le. let steps : clock' - k ≡ suc (clock - k) = omega arith in rw (is, steps) refl;
  fresh = λ k after le. let now : clock' - k ≡ 0 = omega arith in rw (is, now) allowed;
}

-- a call that may have put one event into the record
pub advances : (r : Result (Unit {0}) DiskFault) (event : Event) (events new : List Event) (clock clock' : ℕ) (P : Had → Type 0)
    → OnOk r (new ≡ event ∷ events) → OnOk r (clock' ≡ clock + 1) → OnErr r (history_of new clock' ≡ history_of events clock) → P (had_by event (had_after events))
    → Elapses (history_of events clock) (history_of new clock') P
advances (Ok u) event events new clock clock' P is next same allowed = grows event events new clock clock' P is next allowed
advances (Err e) event events new clock clock' P is next same allowed =
    let M : History → Type 0 = λ h. Elapses (history_of events clock) h P in subst M (sym same) (rests (history_of events clock) P)

-- a removal of what is there, and of what isn't
pub removed-there : (events : List Event) (clock : ℕ) (name : Name) → is_some (content_in events name) ≡ true
    → removed name (had_now (history_of events clock)) ≡ changed name None (had_after events)
removed-there events clock name there =
    let test : is_some (newest (had_after events name)) ≡ true = ap is_some (newest-had_after events name) ∙ there in
    rw (had_now-is events clock, test) refl

pub removed-absent : (events : List Event) (clock : ℕ) (name : Name) → is_some (content_in events name) ≡ false
    → removed name (had_now (history_of events clock)) ≡ had_now (history_of events clock)
removed-absent events clock name absent =
    let test : is_some (newest (had_after events name)) ≡ false = ap is_some (newest-had_after events name) ∙ absent in
    rw (had_now-is events clock, test) refl

-- a sync keeps the files and brings no image
pub sync_step : (had : Had) → IsSyncStep had (settled_at (files_of had))
sync_step had = record {
  same = λ q. refl;
  fewer = λ q content may. elim may [
    | inl is ↦ (let M : Content → Type 0 = MayBe (had q) in subst M (sym is) (files_are_image had q))
    | inr among ↦ absurd (omega (arith, among.1))
  ];
}
