-- A text that was not written.
use Rattle.std.proofs.Common.{◌≡◌, ◌≤◌, ◌++◌, ◌∙◌, ℕ, List, [], take, Result, Ok, Err, refl, sym, ap, arith}
use Rattle.std.proofs.lemmas.List.{append-nil}
use Rattle.ssq_desk.specs.declared.closed.NextRound.{NextRound}
use Rattle.ssq_desk.specs.declared.told.Told.{Told}
use Rattle.ssq_drive.specs.Rounds.{Ended}
use Rattle.ssq_runner.specs.declared.fault.RunFault.{RunFault}
use Rattle.ssq_runner.specs.declared.fault.RunFault.TheVariants as fault
use Rattle.ssq_runner.specs.Told.{told_text}
use Rattle.ssq_runner.specs.Putting.{IsUntold, OutCause, OutRises, failed, starved}

pub put_untold : (Tells : Type 0) (old new : List ℕ) (before now : ℕ) (text left : List ℕ) (told : List Told) (end : Ended) (why : RunFault) → (next : NextRound) → end ≡ Ok next → OutCause before now why → text ≡ told_text told
    → (why ≡ fault.OutFault → (left ≡ []) × (Tells → (n : ℕ) × (new ≡ old ++ take n text))) → (why ≡ fault.NoMemory → (left ≡ text) × (Tells → new ≡ old)) → IsUntold Tells old new before now left told end why
put_untold Tells old new before now text left told end fault.OutFault next over cause is fails starves =
    failed next over refl cause (λ t. let f = (fails refl).1 t in (f.0, f.1 ∙ ap (λ (l : List ℕ). old ++ take f.0 l) is)) (fails refl).0
put_untold Tells old new before now text left told end fault.NoMemory next over cause is fails starves =
    starved refl told [] (sym (append-nil told)) (starves refl).1 ((starves refl).0 ∙ is)
put_untold Tells old new before now text left told end (fault.Parts f) next over cause is fails starves = absurd cause
put_untold Tells old new before now text left told end (fault.Lines f) next over cause is fails starves = absurd cause
put_untold Tells old new before now text left told end (fault.Open f) next over cause is fails starves = absurd cause
put_untold Tells old new before now text left told end (fault.Round f) next over cause is fails starves = absurd cause
put_untold Tells old new before now text left told end (fault.KeyOverflow key) next over cause is fails starves = absurd cause

-- where the output failed since then, it failed since before
pub put_since : (before mid now : ℕ) (end : Result (Unit {0}) RunFault) → before ≤ mid → OutRises mid now end → OutRises before now end
put_since before mid now (Ok done) le risen = tt
put_since before mid now (Err fault.OutFault) le risen = omega (arith, le, risen)
put_since before mid now (Err fault.NoMemory) le risen = tt
put_since before mid now (Err (fault.Parts f)) le risen = tt
put_since before mid now (Err (fault.Lines f)) le risen = tt
put_since before mid now (Err (fault.Open f)) le risen = tt
put_since before mid now (Err (fault.Round f)) le risen = tt
put_since before mid now (Err (fault.KeyOverflow key)) le risen = tt
