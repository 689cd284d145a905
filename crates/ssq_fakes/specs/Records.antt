-- The record of a disk in memory: its events, the newest first.
use Rattle.std.specs.Prelude.{Bool, true, false, List, [], ◌∷◌, not, Option, None, Some, take_while, if◌then◌else◌}
use Rattle.std.specs.List.{list_any}
use Rattle.ssq_outside.specs.declared.name.Name.{Name}
use Rattle.ssq_outside.specs.Files.{same_name, Content, Had, files_of, added, changed, settled_at}
use Rattle.ssq_fakes.specs.declared.record.Event.{Event}
use Rattle.ssq_fakes.specs.declared.record.Event.TheVariants.{Put, Gone, Synced}
use Rattle.ssq_fakes.specs.declared.record.Record.{Record, Empty, Then'}

-- the events of a record, the newest first
abbrev pub events_of : Record → List Event
events_of Empty = []
events_of (Then' event p older) = event ∷ events_of older

-- what an event makes of what each name had
abbrev pub had_by : Event → Had → Had
had_by (Put name bytes) had = added name bytes.items had
had_by (Gone name) had = changed name None had
had_by Synced had = settled_at (files_of had)

-- what each name has had after these events, where at first nothing was there
abbrev pub had_after : List Event → Had
had_after [] = λ q. record { settled = None; since = [] }
had_after (event ∷ older) = had_by event (had_after older)

-- the event changes what stands at the name
abbrev pub is_about : Event → Name → Bool
is_about (Put name bytes) q = same_name q name
is_about (Gone name) q = same_name q name
is_about Synced q = false

-- the name that an event changes
abbrev pub name_of : Event → Option Name
name_of (Put name bytes) = Some name
name_of (Gone name) = Some name
name_of Synced = None

-- what an event puts at its name
abbrev pub content_of : Event → Content
content_of (Put name bytes) = Some bytes.items
content_of (Gone name) = None
content_of Synced = None

-- what stands at the name after these events
abbrev pub content_in : List Event → Name → Content
content_in [] q = None
content_in (event ∷ older) q = if is_about event q then content_of event else content_in older q

-- some event changes what stands at the name
abbrev pub is_mentioned : List Event → Name → Bool
is_mentioned events q = list_any (λ event. is_about event q) events

-- the event is a sync of names
abbrev pub is_sync : Event → Bool
is_sync (Put name bytes) = false
is_sync (Gone name) = false
is_sync Synced = true

-- whether something changed since the last sync
abbrev pub is_unsettled : List Event → Bool
is_unsettled [] = false
is_unsettled (event ∷ older) = not (is_sync event)

-- the events since the last sync, the newest first
abbrev pub since_sync : List Event → List Event
since_sync events = take_while (λ event. not (is_sync event)) events

-- whether the name changed since the last sync
abbrev pub is_changed_in : List Event → Name → Bool
is_changed_in events q = is_mentioned (since_sync events) q
