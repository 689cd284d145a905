-- Turns one after another.
use Rattle.std.proofs.Common.{◌≡◌, ◌≤◌, ◌++◌, ◌||◌, ℕ, Bool, true, false, true≢false, List, [], ◌∷◌, Option, Some, None, IfSome, sym, refl, ap, ◌∙◌, subst, append_assoc, le_refl, arith}
use Rattle.std.specs.List.{list_any}
use Rattle.ssq_outside.specs.declared.name.Name.{Name}
use Rattle.ssq_outside.specs.Faults.{Rises}
use Rattle.ssq_shape.specs.Late.{closes}
use Rattle.ssq_board.specs.declared.front.Cause.{Cause}
use Rattle.ssq_board.specs.declared.front.Cause.TheVariants as cause
use Rattle.ssq_board.specs.declared.front.Entry.{Entry}
use Rattle.ssq_board.specs.Core.{Scope, Core, after, after_all}
use Rattle.ssq_board.specs.Rounds.{IsAtRest}
use Rattle.ssq_board.specs.Shelf.{Shelf, shelf_all, shelf_by}
use Rattle.ssq_ledger.specs.Shown.{Shown, did}
use Rattle.ssq_desk.specs.declared.round.Round.{Round}
use Rattle.ssq_desk.proofs.Wholes.{after_more, did_nothing}
use Rattle.ssq_drive.specs.Driven.{StopsFor, IsDriven, brings_due, no_file}

none_more : (es fs : List Entry) → list_any brings_due es ≡ false → list_any brings_due fs ≡ false → list_any brings_due (es ++ fs) ≡ false
none_more [] fs none later = later
none_more (e ∷ es) fs none later = by (brings_due e) none (λ is. none_more es fs is later)
  where
    by : (b : Bool) → (b || list_any brings_due es) ≡ false → (list_any brings_due es ≡ false → list_any brings_due (es ++ fs) ≡ false) → (b || list_any brings_due (es ++ fs)) ≡ false
    by true is rest = absurd (true≢false is)
    by false is rest = rest is

-- a cause that holds from later on holds from before
pub earlier : (P : Name → Type 0) (r : Scope) (c : Core) (before mid now : ℕ) (f : Cause) → before ≤ mid → StopsFor P r c mid now f → StopsFor P r c before now f
earlier P r c before mid now (cause.BadLine s p o x) le why = tt
earlier P r c before mid now (cause.Overflow s p o) le why = tt
earlier P r c before mid now cause.KeyOverflow le why = tt
earlier P r c before mid now cause.LogFault le why = why
earlier P r c before mid now (cause.LogShort s p l x) le why = tt
earlier P r c before mid now (cause.Damaged q) le why = why
earlier P r c before mid now cause.DiskFault le why = rises_more before mid now le why
  where
    rises_more : (a b c : ℕ) → a ≤ b → Rises b c → Rises a c
    rises_more a b c le risen = omega (arith, le, risen)
earlier P r c before mid now cause.Full le why = why
earlier P r c before mid now cause.NoMemory le why = tt

earlier_if : (P : Name → Type 0) (r : Scope) (c : Core) (before mid now : ℕ) (o : Option Cause) → before ≤ mid → IfSome o (StopsFor P r c mid now) → IfSome o (StopsFor P r c before now)
earlier_if P r c before mid now None le why = tt
earlier_if P r c before mid now (Some f) le why = earlier P r c before mid now f le why

module _ {D O : Type 0} where
  pub did_more : (a b c : Shown D O) (es fs : List Entry) → b ≡ did a b.disk es → c ≡ did b c.disk fs → c ≡ did a c.disk (es ++ fs)
  did_more a b c es fs first later =
      let cores = after_more a.scope a.core es fs in
      let entries = append_assoc a.history es fs in
      later ∙ ap (λ (s : Shown D O). did s c.disk fs) first
      ∙ (λ i. record { opening = a.opening; opened = a.opened; scope = a.scope; disk = c.disk; core = cores i; history = entries i })

-- a cause that no damaged file has is one in any case
no_files : (P : Name → Type 0) (r : Scope) (c : Core) (before now : ℕ) (f : Cause) → StopsFor no_file r c before now f → StopsFor P r c before now f
no_files P r c before now (cause.BadLine s p o x) why = tt
no_files P r c before now (cause.Overflow s p o) why = tt
no_files P r c before now cause.KeyOverflow why = tt
no_files P r c before now cause.LogFault why = why
no_files P r c before now (cause.LogShort s p l x) why = tt
no_files P r c before now (cause.Damaged q) why = absurd why
no_files P r c before now cause.DiskFault why = why
no_files P r c before now cause.Full why = why
no_files P r c before now cause.NoMemory why = tt

pub shelf_on : (r : Scope) (k : Shelf) (c : Core) (es fs : List Entry) → shelf_all r (after_all r c es) (shelf_all r c k es) fs ≡ shelf_all r c k (es ++ fs)
shelf_on r k c [] fs = refl
shelf_on r k c (e ∷ es) fs = shelf_on r (shelf_by c k e) (after r c e) es fs

-- where no file is damaged none of those that may be is
pub driven_any : {D O : Type 0} (faults : D → ℕ) (P : Shown D O → Name → Type 0) (closing : Bool) (a b : Shown D O) → IsDriven faults (λ shown. no_file) closing a b → IsDriven faults P closing a b
driven_any faults P closing a b d = record {
  entries = d.entries;
  quiet = d.quiet;
  returned = d.returned;
  stopped = d.stopped;
  rest = d.rest;
  cause = λ running. any b.core.front.stop (d.cause running);
  counted = d.counted;
}
  where
    any : (o : Option Cause) → IfSome o (StopsFor no_file a.scope b.core (faults a.disk) (faults b.disk)) → IfSome o (StopsFor (P b) a.scope b.core (faults a.disk) (faults b.disk))
    any None why = tt
    any (Some f) why = no_files (P b) a.scope b.core (faults a.disk) (faults b.disk) f why

-- no turn
pub undriven : {D O : Type 0} (faults : D → ℕ) (P : Shown D O → Name → Type 0) (closing : Bool) (a : Shown D O) → IsAtRest a.core → IsDriven faults P closing a a
undriven faults P closing a rest = record {
  entries = ([], did_nothing a);
  stopped = λ f stops. refl;
  rest = rest;
  quiet = λ none. refl;
  returned = λ k none. none;
  cause = λ running. subst (λ (o : Option Cause). IfSome o (StopsFor (P a) a.scope a.core (faults a.disk) (faults a.disk))) (sym running) tt;
  counted = le_refl (faults a.disk);
}

-- what was done, and what was done then
pub driven_more : {D O : Type 0} (faults : D → ℕ) (P : Shown D O → Name → Type 0) (closing : Bool) (a b c : Shown D O) → IsDriven faults P closing a b → IsDriven faults P closing b c → IsDriven faults P closing a c
driven_more {D} {O} faults P closing a b c first later =
    let es = first.entries.0 in
    let fs = later.entries.0 in
    record {
      entries = (es ++ fs, did_more a b c es fs first.entries.1 later.entries.1);
      stopped = λ f stops. (let still = first.stopped f stops in later.stopped f (ap (λ s. s.core.front.stop) still ∙ stops) ∙ still);
      rest = later.rest;
      quiet = λ none. none_more es fs (first.quiet none) (later.quiet none);
      returned = λ k none. sym (ap (λ (s : Shelf). s.claimed) (shelf_on a.scope k a.core es fs))
          ∙ subst (λ (s : Shown D O). (shelf_all s.scope s.core (shelf_all a.scope a.core k es) fs).claimed ≡ []) first.entries.1 (later.returned (shelf_all a.scope a.core k es) (first.returned k none));
      cause = λ running. by b.core.front.stop refl (first.cause running);
      counted = (let early = first.counted in let late = later.counted in omega (arith, early, late));
    }
  where
    by : (o : Option Cause) → b.core.front.stop ≡ o → IfSome o (StopsFor (P b) a.scope b.core (faults a.disk) (faults b.disk)) → IfSome c.core.front.stop (StopsFor (P c) a.scope c.core (faults a.disk) (faults c.disk))
    by None running why = earlier_if (P c) a.scope c.core (faults a.disk) (faults b.disk) (faults c.disk) c.core.front.stop first.counted
        (subst (λ (r : Scope). IfSome c.core.front.stop (StopsFor (P c) r c.core (faults b.disk) (faults c.disk))) (ap (λ s. s.scope) first.entries.1) (later.cause running))
    by (Some f) stops why =
        let still = later.stopped f stops in
        subst (λ (x : Shown D O). IfSome x.core.front.stop (StopsFor (P x) a.scope x.core (faults a.disk) (faults x.disk))) (sym still)
        (subst (λ (o : Option Cause). IfSome o (StopsFor (P b) a.scope b.core (faults a.disk) (faults b.disk))) (sym stops) why)

-- the same of a desk of a round, whose query it is in the end, too
pub driven_on : {D L : Type 0} (faults : D → ℕ) (P : Shown D (Round L) → Name → Type 0) (a b c : Shown D (Round L)) → IsDriven faults P (closes a.opening.view.bound.now) a b → IsDriven faults P (closes b.opening.view.bound.now) b c → IsDriven faults P (closes a.opening.view.bound.now) a c
driven_on {D} {L} faults P a b c first later =
    driven_more faults P (closes a.opening.view.bound.now) a b c first
    (subst (λ (x : Round L). IsDriven faults P (closes x.view.bound.now) b c) (ap (λ (x : Shown D (Round L)). x.opening) first.entries.1) later)
