-- Crashes by numbers: what is picked is an image, and each image is picked.
use Rattle.std.proofs.Common.{◌≡◌, ◌++◌, ◌∷◌, [], ◌<◌, ◌≤◌, ◌+◌, ◌∙◌, ◌||◌, ℕ, List, Bool, true, false, zero, suc, None, Some, length, take, drop, get_or, refl, ap, sym, subst, inl, inr, arith}
use Rattle.std.specs.Prelude.{if◌then◌else◌, slice_index, min, map, Contains}
use Rattle.std.proofs.lemmas.List.{take_all, take-append-drop}
use Rattle.std.proofs.lemmas.List.Elements.{Contains-append_left}
use Rattle.std.proofs.Common.{length-append}
use lib.Seq.{take-nil}
use Rattle.std.proofs.lemmas.Grind.{common_steps}
use Rattle.ssq_outside.specs.declared.name.Name.{Name}
use Rattle.ssq_outside.specs.declared.name.Name.TheVariants.{Meta}
use Rattle.ssq_outside.specs.Files.{same_name, Content, Contents, Had, Files, newest, last_or, MayBe, settled_at, IsImage}
use Rattle.ssq_outside.specs.History.{had_now, files_now}
use Rattle.ssq_outside.proofs.Names.{same_name-true}
use Rattle.ssq_outside.proofs.Steps.{last_or-push, files_are_image}
use Rattle.ssq_fakes.specs.declared.record.Event.{Event}
use Rattle.ssq_fakes.specs.declared.record.Event.TheVariants.{Put, Gone, Synced}
use Rattle.ssq_fakes.specs.Records.{is_about, is_sync, content_of, content_in, had_after, is_mentioned, is_changed_in}
use Rattle.ssq_fakes.specs.Names.{Lists}
use Rattle.ssq_fakes.specs.Disks.{has_name, history_of}
use Rattle.ssq_fakes.specs.Crashes.{content_at, index_of, picked, has_changed, filled, AreChanged, IsCrashed, EachImageIsPicked}
use Rattle.ssq_fakes.proofs.NameLists.{has_name-Contains}
use Rattle.ssq_fakes.proofs.Unique.{changed_once}
use Rattle.ssq_fakes.proofs.Walks.{changed_cons}
use Rattle.ssq_fakes.proofs.Histories.{newest-had_after, had_now-is}

-- an event that is no sync changes what its name had
abbrev more : Content → Contents → Contents
more content contents = record { settled = contents.settled; since = contents.since ++ content ∷ [] }

had_after-event : (event : Event) (older : List Event) (q : Name) → is_sync event ≡ false → had_after (event ∷ older) q ≡ (if is_about event q then more (content_of event) (had_after older q) else had_after older q)
had_after-event (Put name bytes) older q change = refl
had_after-event (Gone name) older q change = refl
had_after-event Synced older q change = cc

-- one more content, of which the number takes notice
content_at-reached : (contents : Contents) (content : Content) (number : ℕ) → length contents.since < number → content_at (more content contents) number ≡ content
content_at-reached contents content number below =
    let fits : length (contents.since ++ content ∷ []) ≤ number = simp length-append (omega arith) in
    rw (take_all number (contents.since ++ content ∷ []) fits) (last_or-push contents.settled content contents.since)

-- A change that the number reaches: its content stands at the name.
pub content_at-change : (event : Event) (older : List Event) (q : Name) (changes number : ℕ) → is_sync event ≡ false → is_about event q ≡ true
    → changes ≡ min number (length (had_after older q).since) → changes < number → content_at (had_after (event ∷ older) q) number ≡ content_of event
content_at-change event older q changes number change about counted below =
    let reached : length (had_after older q).since < number = omega arith in
    rw (had_after-event event older q change, about) (content_at-reached (had_after older q) (content_of event) number reached)

-- after a sync there is one content
pub content_at-synced : (event : Event) (older : List Event) (q : Name) (number : ℕ) → is_sync event ≡ true → content_at (had_after (event ∷ older) q) number ≡ content_in older q
content_at-synced (Put name bytes) older q number sync = cc
content_at-synced (Gone name) older q number sync = cc
content_at-synced Synced older q number sync = rw take-nil (newest-had_after older q)

-- What is picked may be.

may_be_more : (contents : Contents) (number : ℕ) (content : Content) → MayBe (record { settled = contents.settled; since = take number contents.since }) content → MayBe contents content
may_be_more contents number content may = elim may [
  | inl settled ↦ inl settled
  | inr among ↦ inr (let M : List Content → Type 0 = λ since. Contains since content in
      subst M (take-append-drop number contents.since) (Contains-append_left (take number contents.since) (drop number contents.since) content among))
]

content_may_be : (contents : Contents) (number : ℕ) → MayBe contents (content_at contents number)
content_may_be contents number =
    let front : Contents = record { settled = contents.settled; since = take number contents.since } in
    may_be_more contents number (content_at contents number) (files_are_image (λ _. front) Meta)

-- Each content that may be is picked.

number_for : (contents : Contents) (content : Content) → MayBe contents content → (number : ℕ) × (content_at contents number ≡ content)
number_for contents content (inl settled) = (0, sym settled)
number_for contents content (inr among) = (suc among.0, last_taken contents.settled contents.since among.0 content among.1 among.2)
  where
    last_taken : (first : Content) (since : List Content) (k : ℕ) (content : Content) → k < length since → get_or since k content ≡ content → last_or first (take (suc k) since) ≡ content
    last_taken first [] k content below is = absurd (omega (arith, below))
    last_taken first (c ∷ cs) zero content below is = is
    last_taken first (c ∷ cs) (suc k) content below is = last_taken c cs k content (omega (arith, below)) is

number_at-index : (number : Name → ℕ) (names : List Name) (q : Name) → has_name names q ≡ true → slice_index (map number names) (index_of names q) ≡ number q
number_at-index number [] q has = cc
number_at-index number (name ∷ names) q has = at (same_name q name) (index_of names q) refl has (number_at-index number names q)
  where
    at : (b : Bool) (later : ℕ) → same_name q name ≡ b → (if b then true else has_name names q) ≡ true → (has_name names q ≡ true → slice_index (map number names) later ≡ number q)
        → slice_index (map number (name ∷ names)) (if b then 0 else suc later) ≡ number q
    at true later same has rest = ap number (sym (same_name-true q name same))
    at false later other has rest = rest has

only_settled : (contents : Contents) (content : Content) (number : ℕ) → has_changed contents ≡ false → MayBe contents content → content_at contents number ≡ content
only_settled contents content number same may = unchanged contents.settled contents.since same may
  where
    unchanged : (settled : Content) (since : List Content) → has_changed (record { settled = settled; since = since }) ≡ false → MayBe (record { settled = settled; since = since }) content
        → last_or settled (take number since) ≡ content
    unchanged settled [] same may = rw take-nil (elim may [ inl is ↦ sym is | inr among ↦ absurd (omega (arith, among.1)) ])
    unchanged settled (c ∷ cs) same may = cc

each_picked : (had : Had) (names : List Name) (image : Files) → AreChanged had names → (is : IsImage had image) → (q : Name) → picked had names (map (λ q. (number_for (had q) (image q) (is q)).0) names) q ≡ image q
each_picked had names image changed is q = at (has_changed (had q)) refl
  where
    at : (b : Bool) → has_changed (had q) ≡ b → picked had names (map (λ q. (number_for (had q) (image q) (is q)).0) names) q ≡ image q
    at false same = only_settled (had q) (image q) _ same (is q)
    at true change =
        let among = changed.all q change in
        let has : has_name names q ≡ true = has_name-Contains names q among.0 among.1 among.2 in
        rw (number_at-index (λ q. (number_for (had q) (image q) (is q)).0) names q has) (number_for (had q) (image q) (is q)).1

pub each_image_picked : EachImageIsPicked
each_image_picked had names image changed is =
    let numbers = map (λ (q : Name). (number_for (had q) (image q) (is q)).0) names in
    let M : (q : Name) → List Name → Type 0 = λ q others. picked had others numbers q ≡ image q in
    (numbers, λ others once q. subst (M q) (changed_once had names others changed once) (each_picked had names image changed is q))

-- The disk that begins with what was picked.

-- these files of these names stand, and no others
abbrev pub Holds : List Event → List Name → Files → Type 0
Holds events names files = (q : Name) → content_in events q ≡ (if has_name names q then files q else None)

has_name-push : (names : List Name) (name q : Name) → has_name (names ++ name ∷ []) q ≡ (if has_name names q then true else same_name q name)
has_name-push [] name q = only (same_name q name)
  where
    only : (b : Bool) → (if b then true else false) ≡ b
    only true = refl
    only false = refl
has_name-push (m ∷ ms) name q = later (same_name q m) (has_name (ms ++ name ∷ []) q) (has_name ms q) (has_name-push ms name q)
  where
    later : (b x y : Bool) → x ≡ (if y then true else same_name q name) → (if b then true else x) ≡ (if (if b then true else y) then true else same_name q name)
    later true x y is = refl
    later false x y is = is

one_more : (had same : Bool) (name q : Name) (begun wanted : Content) (before : Files) → same_name q name ≡ same → before q ≡ (if had then wanted else None) → (same ≡ true → begun ≡ wanted)
    → filled name begun before q ≡ (if (if had then true else same) then wanted else None)
one_more true same name q None wanted before is there one = there
one_more false true name q None wanted before is there one = there ∙ one refl
one_more false false name q None wanted before is there one = there
one_more true true name q (Some bytes) wanted before is there one = rw is (one refl)
one_more true false name q (Some bytes) wanted before is there one = rw is there
one_more false true name q (Some bytes) wanted before is there one = rw is (one refl)
one_more false false name q (Some bytes) wanted before is there one = rw is there

-- one more name has its file, if it is one
pub holds_more : (files : Files) (names : List Name) (i : ℕ) (name d : Name) (events new : List Event) → i < length names → name ≡ get_or names i d → Holds events (take i names) files
    → ((q : Name) → content_in new q ≡ filled name (files name) (content_in events) q) → Holds new (take (i + 1) names) files
holds_more files names i name d events new below is holds fills q =
    let taken : take (i + 1) names ≡ take i names ++ name ∷ [] = grind (arith, common_steps) in
    let has : has_name (take (i + 1) names) q ≡ (if has_name (take i names) q then true else same_name q name) = rw taken (has_name-push (take i names) name q) in
    rw (fills q, has)
    (one_more (has_name (take i names) q) (same_name q name) name q (files name) (files q) (content_in events) refl (holds q) (λ same. ap files (sym (same_name-true q name same))))

nothing_yet : (events : List Event) (q : Name) → is_mentioned events q ≡ false → had_after events q ≡ record { settled = None; since = [] }
nothing_yet [] q none = refl
nothing_yet (Put name bytes ∷ older) q none = skipped (same_name q name) none (nothing_yet older q)
  where
    skipped : (b : Bool) → (b || is_mentioned older q) ≡ false → (is_mentioned older q ≡ false → had_after older q ≡ record { settled = None; since = [] })
        → (if b then more (Some bytes.items) (had_after older q) else had_after older q) ≡ record { settled = None; since = [] }
    skipped true none later = cc
    skipped false none later = later none
nothing_yet (Gone name ∷ older) q none = skipped (same_name q name) none (nothing_yet older q)
  where
    skipped : (b : Bool) → (b || is_mentioned older q) ≡ false → (is_mentioned older q ≡ false → had_after older q ≡ record { settled = None; since = [] })
        → (if b then more None (had_after older q) else had_after older q) ≡ record { settled = None; since = [] }
    skipped true none later = cc
    skipped false none later = later none
nothing_yet (Synced ∷ older) q none = rw (nothing_yet older q none) refl

has_changed-more : (contents : Contents) (content : Content) → has_changed (more content contents) ≡ true
has_changed-more contents content = filled_by contents.settled contents.since content
  where
    filled_by : (settled : Content) (since : List Content) (content : Content) → has_changed (record { settled = settled; since = since ++ content ∷ [] }) ≡ true
    filled_by settled [] content = refl
    filled_by settled (c ∷ cs) content = refl

changes_by : (b : Bool) (contents : Contents) (content : Content) (later : Bool) → has_changed contents ≡ later → has_changed (if b then more content contents else contents) ≡ (b || later)
changes_by true contents content later is = has_changed-more contents content
changes_by false contents content later is = is

has_changed-is : (events : List Event) (q : Name) → has_changed (had_after events q) ≡ is_changed_in events q
has_changed-is [] q = refl
has_changed-is (Put name bytes ∷ older) q = rw (changed_cons (Put name bytes) older q) (changes_by (same_name q name) (had_after older q) (Some bytes.items) (is_changed_in older q) (has_changed-is older q))
has_changed-is (Gone name ∷ older) q = rw (changed_cons (Gone name) older q) (changes_by (same_name q name) (had_after older q) None (is_changed_in older q) (has_changed-is older q))
has_changed-is (Synced ∷ older) q = refl

are_changed : (events : List Event) (changed : List Name) → Lists (is_changed_in events) changed → AreChanged (had_after events) changed
are_changed events changed found = record {
  there = λ q among. has_changed-is events q ∙ found.there q among;
  all = λ q change. found.all q (sym (has_changed-is events q) ∙ change);
  in_order = found.in_order;
}

unnamed : (events : List Event) (changed names : List Name) (numbers : List ℕ) (q : Name) (b m : Bool) → Lists (is_mentioned events) names → has_name names q ≡ b → is_mentioned events q ≡ m
    → (if b then picked (had_after events) changed numbers q else None) ≡ picked (had_after events) changed numbers q
unnamed events changed names numbers q true m found has mention = refl
unnamed events changed names numbers q false true found has mention =
    let among = found.all q mention in
    let named : has_name names q ≡ true = has_name-Contains names q among.0 among.1 among.2 in
    cc
unnamed events changed names numbers q false false found has mention = rw (nothing_yet events q mention, take-nil) refl

crashed_after : (events now new : List Event) (changed names : List Name) (numbers : List ℕ) (clock : ℕ) → Lists (is_changed_in events) changed → Lists (is_mentioned events) names
    → Holds now names (picked (had_after events) changed numbers) → new ≡ Synced ∷ now → clock ≡ 0 → IsCrashed (had_after events) numbers (history_of new clock)
crashed_after events now new changed names numbers clock are_these found holds is start =
    let files = picked (had_after events) changed numbers in
    let each : (q : Name) → newest (had_after now q) ≡ files q = λ q.
    newest-had_after now q ∙ holds q ∙ unnamed events changed names numbers q (has_name names q) (is_mentioned events q) found refl refl in
    let settled : had_now (history_of new clock) ≡ settled_at files = had_now-is new clock ∙ ap had_after is ∙ ap settled_at (λ i q. each q i) in
    record {
      names = changed;
      changed = are_changed events changed are_these;
      moment = start;
      settled = settled;
      image = λ q.
          let M : Content → Type 0 = MayBe (had_after events q) in
          let now_is : files_now (history_of new clock) q ≡ files q = ap (λ (had : Had). newest (had q)) settled in
          subst M (sym now_is) (content_may_be (had_after events q) _);
    }

-- A disk that holds what was picked, settled at moment 0, is the disk after that crash.
pub crashed : (events now new : List Event) (had : Had) (changed names : List Name) (numbers : List ℕ) (clock : ℕ)
    → had ≡ had_after events → Lists (is_changed_in events) changed → Lists (is_mentioned events) names
    → Holds now names (picked (had_after events) changed numbers) → new ≡ Synced ∷ now → clock ≡ 0 → IsCrashed had numbers (history_of new clock)
crashed events now new had changed names numbers clock is_had are_these found holds is start =
    let M : Had → Type 0 = λ had. IsCrashed had numbers (history_of new clock) in
    subst M (sym is_had) (crashed_after events now new changed names numbers clock are_these found holds is start)
