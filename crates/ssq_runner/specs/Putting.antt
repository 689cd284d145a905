-- How a round's lines are written, or not.
use Rattle.std.specs.Prelude.{◌≡◌, ◌++◌, ℕ, List, [], take, Result, Ok, Err}
use Rattle.ssq_outside.specs.Faults.{Rises}
use Rattle.ssq_desk.specs.declared.closed.NextRound.{NextRound}
use Rattle.ssq_desk.specs.declared.told.Told.{Told}
use Rattle.ssq_drive.specs.declared.round.Stopped.{Stopped}
use Rattle.ssq_drive.specs.Rounds.{Ended}
use Rattle.ssq_runner.specs.declared.fault.RunFault.{RunFault}
use Rattle.ssq_runner.specs.declared.fault.RunFault.TheVariants as fault
use Rattle.ssq_runner.specs.Faults.{fault_of}
use Rattle.ssq_runner.specs.Told.{told_text}

-- the output failed, which it counted, or memory ran out
abbrev pub OutCause : ℕ → ℕ → RunFault → Type 0
OutCause before now fault.OutFault = Rises before now
OutCause before now fault.NoMemory = Unit {0}
OutCause before now _ = ⊥

-- The lines of a round were not written: it stopped, and they are left; it is over, and the output failed, and a front of them was written; or memory ran
-- out, and lines of its first epochs are left.
pub data IsUntold (Tells : Type 0) (old new : List ℕ) (before now : ℕ) (text : List ℕ) (told : List Told) (end : Ended) (why : RunFault) : Type 0 where
  stopped : (stop : Stopped) → end ≡ Err stop → why ≡ fault_of stop → (Tells → new ≡ old) → text ≡ told_text told → IsUntold Tells old new before now text told end why
  failed : (next : NextRound) → end ≡ Ok next → why ≡ fault.OutFault → Rises before now → (Tells → (n : ℕ) × (new ≡ old ++ take n (told_text told))) → text ≡ [] → IsUntold Tells old new before now text told end why
  starved : why ≡ fault.NoMemory → (first rest : List Told) → told ≡ first ++ rest → (Tells → new ≡ old) → text ≡ told_text first → IsUntold Tells old new before now text told end why

-- where a run ended since the output failed, that was counted
abbrev pub OutRises : ℕ → ℕ → Result (Unit {0}) RunFault → Type 0
OutRises before now (Err fault.OutFault) = Rises before now
OutRises before now _ = Unit {0}
