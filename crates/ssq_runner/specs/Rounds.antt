-- Rounds, one after another: how they cut the logs further.
use Rattle.std.specs.Prelude.{◌≡◌, ◌⊎◌, ◌<◌, ◌≤◌, ◌+◌, ◌^◌, ◌++◌, ℕ, true, false, List, [], ◌∷◌, length, get_or, All, Option}
use Rattle.ssq_outside.specs.Logs.{Line}
use Rattle.ssq_core.specs.Course.{Cuts}
use Rattle.ssq_course.specs.Setting.{Setting, closes}
use Rattle.ssq_board.specs.Core.{next_ends, is_behind}
use Rattle.ssq_terms.specs.Laws.{due_at}
use Rattle.ssq_drive.specs.Rounds.{IsMore}

-- A round that is over: how many lines it found in each part, as their logs answered it, and how many epochs there are then.
pub record Round : Type 0 where
  pub found : List ℕ
  pub epochs : ℕ

-- how many epochs there are after rounds, the latest of which comes first, where there were so many before them
abbrev pub epochs_after : ℕ → List Round → ℕ
epochs_after before [] = before
epochs_after before (round ∷ earlier) = round.epochs

-- From one epoch up to another each cut is the next: each part's end goes on to what was found, by no more than the cap. Each epoch has lines; but
-- the last may have none, where the query closes. And where what was opened is the job's own, each was to come: some part had lines that those
-- before it do not cover, or one without lines was due.
pub record AreNext (owned : Type 0) (s : Setting) (cap : Option ℕ) (found : List ℕ) (cuts : Cuts) (from to : ℕ) : Type 0 where
  pub next : (e : ℕ) → from ≤ e → e < to → cuts (e + 1) ≡ next_ends cap (cuts e) found
  pub due : (e : ℕ) → from ≤ e → e < to → (is_behind (cuts e) found ≡ true) ⊎ ((e + 1 ≡ to) × (closes s.job.bound ≡ true))
  pub more : owned → (e : ℕ) → from ≤ e → e < to → IsMore s cuts found e

-- A round cut on until all that it found was covered; and, where what was opened is the job's own, until no epoch without lines was due.
pub record IsOne (owned : Type 0) (s : Setting) (cap : Option ℕ) (cuts : Cuts) (before : ℕ) (round : Round) : Type 0 where
  pub on : before ≤ round.epochs
  pub cut : AreNext owned s cap round.found cuts before round.epochs
  pub covers : is_behind (cuts round.epochs) round.found ≡ false
  pub quiet : owned → due_at s cuts round.epochs ≡ false

-- these rounds did, one after another
unfoldable pub AreRounds : Type 0 → Setting → Option ℕ → Cuts → ℕ → List Round → Type 0
AreRounds owned s cap cuts before [] = Unit {0}
AreRounds owned s cap cuts before (round ∷ earlier) = IsOne owned s cap cuts (epochs_after before earlier) round × AreRounds owned s cap cuts before earlier

-- what the log of a part answered these rounds, the first one first
unfoldable pub answers_of : ℕ → List Round → List ℕ
answers_of i [] = []
answers_of i (round ∷ earlier) = answers_of i earlier ++ get_or round.found i 0 ∷ []

-- What rounds found of a part never falls: the first no fewer lines than were there before, each later one no fewer than the one before it, and
-- no fewer are there after the last.
abbrev pub FindMore : (i before : ℕ) → List Round → (after : ℕ) → Type 0
FindMore i before [] after = before ≤ after
FindMore i before (round ∷ earlier) after = FindMore i before earlier (get_or round.found i 0) × (get_or round.found i 0 ≤ after)

-- the first of these rounds found this of all parts
abbrev pub BeginWith : List ℕ → List Round → Type 0
BeginWith found [] = Unit {0}
BeginWith found (round ∷ []) = round.found ≡ found
BeginWith found (round ∷ later ∷ earlier) = BeginWith found (later ∷ earlier)

-- Where the log of a part tells what it holds: it has the lines that it had, of which no fewer are there than were; and it was asked once
-- for each round, and answered what that round found, which never falls and is not more than it will come to hold.
pub record HasAnswered {L : Type 0} (tells : Type 0) (lines : L → List Line) (available : L → ℕ) (answers : L → List ℕ) (faults : L → ℕ) (i : ℕ) (rounds : List Round) (before after : L) : Type 0 where
  pub same : tells → lines after ≡ lines before
  pub grown : tells → available before ≤ available after
  pub risen : tells → FindMore i (available before) rounds (available after)
  pub answered : tells → length (answers before) + length rounds < 2 ^ 64 → answers after ≡ answers before ++ answers_of i rounds
  pub within : tells → All (λ (round : Round). get_or round.found i 0 ≤ length (lines after)) rounds
  pub counted : faults before ≤ faults after

-- each log did, from this part on
abbrev pub HaveAnswered : {L : Type 0} → Type 0 → (L → List Line) → (L → ℕ) → (L → List ℕ) → (L → ℕ) → ℕ → List Round → (before after : List L) → Type 0
HaveAnswered tells lines available answers faults i rounds [] [] = Unit {0}
HaveAnswered tells lines available answers faults i rounds [] (new ∷ news) = ⊥
HaveAnswered tells lines available answers faults i rounds (old ∷ olds) [] = ⊥
HaveAnswered tells lines available answers faults i rounds (old ∷ olds) (new ∷ news) = HasAnswered tells lines available answers faults i rounds old new × HaveAnswered tells lines available answers faults (i + 1) rounds olds news
