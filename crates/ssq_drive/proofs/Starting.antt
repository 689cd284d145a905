-- Where a round begins.
use Rattle.std.proofs.Common.{◌≡◌, ◌⊎◌, ◌≤◌, ◌+◌, nat_lt, ℕ, Bool, true, false, true≢false, [], ◌∷◌, Option, Some, None, IfSome, sym, refl, ap, ◌∙◌, subst, inl, inr, arith, lt-ltb, ltb-true}
use Rattle.std.proofs.lemmas.Bool.{cases_lt}
use Rattle.ssq_board.specs.declared.front.Cause.{Cause}
use Rattle.ssq_board.specs.declared.front.Entry.TheVariants as entry
use Rattle.ssq_board.specs.Core.{Core, after}
use Rattle.ssq_board.specs.Shown.{Start, first, planned_by}
use Rattle.ssq_board.specs.Rounds.{IsAtRest}
use Rattle.ssq_board.proofs.Resting.{first_rests}
use Rattle.ssq_ledger.specs.Shown.{Shown, HasRisen, did}
use Rattle.ssq_drive.specs.Driven.{StopsFor, IsDriven, no_file}
use Rattle.ssq_drive.proofs.Turning.{goes_turn, stop_goes, risen_stops}

-- a desk that begins was not driven, or it stopped at its files
pub begun : {D O : Type 0} (faults : D → ℕ) (closing : Bool) (s : Start) (old new : Shown D O) → old.core ≡ first old.scope s
    → (new ≡ did old new.disk []) ⊎ ((f : Cause) × (new ≡ did old new.disk (entry.Stop f ∷ [])) × HasRisen f (faults old.disk) (faults new.disk)) → faults old.disk ≤ faults new.disk → IsDriven faults (λ shown. no_file) closing old new
begun faults closing s old new is begins counted = by begins
  where
    running : old.core.front.stop ≡ None
    running = ap (λ (c : Core). c.front.stop) is

    rest : IsAtRest old.core
    rest = subst IsAtRest (sym is) (first_rests old.scope s)

    runs : (f : Cause) → old.core.front.stop ≡ Some f → old.core.front.stop ≡ None → ⊥
    runs f stops none = cc

    by : (new ≡ did old new.disk []) ⊎ ((f : Cause) × (new ≡ did old new.disk (entry.Stop f ∷ [])) × HasRisen f (faults old.disk) (faults new.disk)) → IsDriven faults (λ shown. no_file) closing old new
    by (inl still) = (let core = ap (λ s. s.core) still in record {
      entries = ([], still);
      stopped = λ f stops. absurd (runs f stops running);
      rest = subst IsAtRest (sym core) rest;
      quiet = λ none. refl;
      returned = λ k none. none;
      cause = λ run. subst (λ (o : Option Cause). IfSome o (StopsFor no_file old.scope new.core (faults old.disk) (faults new.disk))) (sym (ap (λ (c : Core). c.front.stop) core ∙ running)) tt;
      counted = counted;
    })
    by (inr (f, stop, risen)) = (goes_turn faults closing old new (entry.Stop f ∷ []) stop (λ none. refl) (λ k none. none)
        (stop_goes old.scope old.core f (faults old.disk) (faults new.disk) running rest (risen_stops old.scope (after old.scope old.core (entry.Stop f)) f (faults old.disk) (faults new.disk) risen)) counted).driven

-- as many epochs are planned as were found
pub planned_found : (committed n : ℕ) → committed ≤ n → n ≤ committed + 1 → planned_by (nat_lt committed n) committed ≡ n
planned_found committed n before near = by (nat_lt committed n) refl
  where
    by : (b : Bool) → nat_lt committed n ≡ b → planned_by b committed ≡ n
    by true is = (let less = ltb-true committed n is in omega (arith, less, near))
    by false is = elim (cases_lt committed n) [
      | inl less ↦ absurd (true≢false (sym (lt-ltb committed n less) ∙ is))
      | inr most ↦ omega (arith, before, most)
    ]
