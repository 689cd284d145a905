-- A record that is walked from its newest event: what one event more says of a name.
use Rattle.std.proofs.Common.{◌≡◌, ◌∷◌, ◌&&◌, ◌||◌, List, Bool, true, false, Some, refl, ap}
use Rattle.std.specs.Prelude.{if◌then◌else◌, not, is_some}
use Rattle.std.proofs.lemmas.List.Sums.{take_while-cons}
use Rattle.ssq_outside.specs.declared.name.Name.{Name}
use Rattle.ssq_outside.specs.Files.{same_name, Content}
use Rattle.ssq_fakes.specs.declared.record.Event.{Event}
use Rattle.ssq_fakes.specs.declared.record.Event.TheVariants.{Put, Gone, Synced}
use Rattle.ssq_fakes.specs.Records.{is_about, is_sync, name_of, content_of, content_in, is_mentioned, is_changed_in}

taken_in : (about met later : Bool) → (met || (about || later)) ≡ ((about || met) || later)
taken_in true true later = refl
taken_in true false later = refl
taken_in false true later = refl
taken_in false false later = refl

-- the names that were met, with the event's
pub mentioned_more : (event : Event) (older : List Event) (q : Name) (all met more : Bool) → all ≡ (met || is_mentioned (event ∷ older) q) → more ≡ (is_about event q || met)
    → all ≡ (more || is_mentioned older q)
mentioned_more event older q all met more so_far with_it = rw (so_far, with_it) (taken_in (is_about event q) met (is_mentioned older q))

or_false : (b : Bool) → b ≡ (b || false)
or_false true = refl
or_false false = refl

counts_new : (about met present : Bool) (content later : Content)
    → (present || (not met && is_some (if about then content else later))) ≡ ((present || (about && not met && is_some content)) || (not (about || met) && is_some later))
counts_new about met true content later = refl
counts_new true true false content later = refl
counts_new true false false content later = or_false (is_some content)
counts_new false true false content later = refl
counts_new false false false content later = refl

-- and those of them that have a file
pub present_more : (event : Event) (older : List Event) (q : Name) (all met present more_met more : Bool) → all ≡ (present || (not met && is_some (content_in (event ∷ older) q)))
    → more_met ≡ (is_about event q || met) → more ≡ (present || (is_about event q && not met && is_some (content_of event))) → all ≡ (more || (not more_met && is_some (content_in older q)))
present_more event older q all met present more_met more so_far with_it with_file =
    rw (so_far, with_it, with_file) (counts_new (is_about event q) met present (content_of event) (content_in older q))

-- what changed since the last sync, by the newest event
pub changed_cons : (event : Event) (older : List Event) (q : Name) → is_changed_in (event ∷ older) q ≡ (if is_sync event then false else (is_about event q || is_changed_in older q))
changed_cons (Put name bytes) older q = ap (λ (events : List Event). is_mentioned events q) (take_while-cons (λ event. not (is_sync event)) (Put name bytes) older)
changed_cons (Gone name) older q = ap (λ (events : List Event). is_mentioned events q) (take_while-cons (λ event. not (is_sync event)) (Gone name) older)
changed_cons Synced older q = refl

-- the names that changed since the last sync, with that of an event that is none
pub changed_more : (event : Event) (older : List Event) (name q : Name) (all met more : Bool) → name_of event ≡ Some name → all ≡ (met || is_changed_in (event ∷ older) q) → more ≡ (same_name q name || met)
    → all ≡ (more || is_changed_in older q)
changed_more (Put of bytes) older name q all met more named so_far with_it = let one : of ≡ name = cc in rw (so_far, changed_cons (Put of bytes) older q, with_it, ← one) (taken_in (same_name q of) met (is_changed_in older q))
changed_more (Gone of) older name q all met more named so_far with_it = let one : of ≡ name = cc in rw (so_far, changed_cons (Gone of) older q, with_it, ← one) (taken_in (same_name q of) met (is_changed_in older q))
changed_more Synced older name q all met more named so_far with_it = cc
