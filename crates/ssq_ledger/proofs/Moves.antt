-- What the disk's calls give of an entry.
use Rattle.std.proofs.Common.{◌≡◌, ◌∙◌, ℕ, true, false, true≢false, List, Option, Some, None, is_some, refl, sym, ap, subst}
use Rattle.ssq_outside.specs.declared.name.Name.{Name}
use Rattle.ssq_outside.specs.declared.name.Name.TheVariants as name
use Rattle.ssq_outside.specs.declared.gate.TaskId.{TaskId}
use Rattle.ssq_outside.specs.Files.{added}
use Rattle.ssq_outside.specs.History.{History, had_now, Elapses}
use Rattle.ssq_core.specs.Course.{Cuts, Job, truth}
use Rattle.ssq_core.specs.Machine.{publishes}
use Rattle.ssq_board.specs.declared.front.Cause.{Cause}
use Rattle.ssq_board.specs.declared.front.Front.{Front}
use Rattle.ssq_board.specs.Core.{Scope}
use Rattle.ssq_board.specs.Follows.{Goes, Tries, publishes_by, makes_by}
use Rattle.ssq_ledger.specs.Shown.{Opening, Shown}

pub went : (q : Name) (bytes true_bytes : List ℕ) (old new : History) → bytes ≡ true_bytes → Elapses old new (λ had. had ≡ added q bytes (had_now old)) → had_now new ≡ added q bytes (had_now old) → Goes (publishes q true_bytes) old new
went q bytes true_bytes old new is steps now = subst (λ (b : List ℕ). Elapses old new (λ had. had ≡ added q b (had_now old)) × (had_now new ≡ added q b (had_now old))) is (steps, now)

pub tried : (q : Name) (bytes true_bytes : List ℕ) (old new : History) → bytes ≡ true_bytes → Elapses old new (λ had. had ≡ added q bytes (had_now old)) → Tries (publishes q true_bytes) old new
tried q bytes true_bytes old new is steps = subst (λ (b : List ℕ). Elapses old new (λ had. had ≡ added q b (had_now old))) is steps

-- from a moment at which the disk was the same
pub went_from : (q : Name) (bytes true_bytes : List ℕ) (old mid new : History) → mid ≡ old → bytes ≡ true_bytes → Elapses mid new (λ had. had ≡ added q bytes (had_now mid)) → had_now new ≡ added q bytes (had_now mid) → Goes (publishes q true_bytes) old new
went_from q bytes true_bytes old mid new same is steps now = subst (λ (x : History). Goes (publishes q true_bytes) x new) same (went q bytes true_bytes mid new is steps now)

pub tried_from : (q : Name) (bytes true_bytes : List ℕ) (old mid new : History) → mid ≡ old → bytes ≡ true_bytes → Elapses mid new (λ had. had ≡ added q bytes (had_now mid)) → Tries (publishes q true_bytes) old new
tried_from q bytes true_bytes old mid new same is steps = subst (λ (x : History). Tries (publishes q true_bytes) x new) same (tried q bytes true_bytes mid new is steps)

-- a version that comes back is published, but not after a Stop
pub version_went : (job : Job) (cuts : Cuts) (t : TaskId) (stop : Option Cause) (old new : History) → stop ≡ None → Goes (publishes (name.Delta t.number t.epoch) (truth (job.course cuts) (name.Delta t.number t.epoch))) old new
    → Goes (publishes_by job cuts t stop) old new
version_went job cuts t stop old new running = subst (λ (o : Option Cause). Goes (publishes_by job cuts t o) old new) (sym running)

pub version_kept : (job : Job) (cuts : Cuts) (t : TaskId) (stop : Option Cause) (disk : History) → is_some stop ≡ true → Goes (publishes_by job cuts t stop) disk disk
version_kept job cuts t None disk is = absurd (true≢false (sym is))
version_kept job cuts t (Some f) disk is = refl

-- and so is a snapshot
pub snapshot_went : (job : Job) (cuts : Cuts) (p v : ℕ) (stop : Option Cause) (old new : History) → stop ≡ None → Goes (publishes (name.Snapshot p v) (truth (job.course cuts) (name.Snapshot p v))) old new → Goes (makes_by job cuts p v stop) old new
snapshot_went job cuts p v stop old new running = subst (λ (o : Option Cause). Goes (makes_by job cuts p v o) old new) (sym running)

pub snapshot_kept : (job : Job) (cuts : Cuts) (p v : ℕ) (stop : Option Cause) (disk : History) → is_some stop ≡ true → Goes (makes_by job cuts p v stop) disk disk
snapshot_kept job cuts p v None disk is = absurd (true≢false (sym is))
snapshot_kept job cuts p v (Some f) disk is = refl

pub none_of : (stop : Option Cause) → is_some stop ≡ false → stop ≡ None
none_of None is = refl
none_of (Some f) is = absurd (true≢false is)

-- what a call says of the file that it publishes is so inside the ledger, with the epoch's number as the code has it
pub right_inside : {D O : Type 0} (told : Type 0) (history : D → History) (tells : O → Scope → History → Type 0) (opening : O → Opening) (cuts : Shown D O → Cuts) (x y : Shown D O) → x ≡ y → (of : ℕ → Name) (number : Front → ℕ) (e : ℕ) → e ≡ number x.core.front
    → (file : List ℕ) → (told × tells y.opening y.scope (history y.opened) → file ≡ truth ((opening y.opening).job.course (cuts y)) (of (number y.core.front)))
    → told × tells x.opening x.scope (history x.opened) → file ≡ truth ((opening x.opening).job.course (cuts x)) (of e)
right_inside {D} {O} told history tells opening cuts x y same of number e is file right t =
    subst (λ (s : Shown D O). told × tells s.opening s.scope (history s.opened) → file ≡ truth ((opening s.opening).job.course (cuts s)) (of (number s.core.front))) (sym same) right t ∙ ap (λ n. truth ((opening x.opening).job.course (cuts x)) (of n)) (sym is)
