-- How a driven desk ends.
use Rattle.std.proofs.Common.{◌≡◌, ◌≢◌, ◌⊎◌, not, Bool, true, false, true≢false, Option, Some, None, Result, Ok, Err, IfOk, IfErr, OnErr, refl, sym, ap, ◌∙◌, subst, inl, inr}
use Rattle.std.specs.Prelude.{IsSome, MatchOption, is_some}
use Rattle.ssq_board.specs.declared.front.Cause.{Cause}
use Rattle.ssq_board.specs.declared.front.Ready.{Ready}
use Rattle.ssq_board.specs.declared.front.Ready.TheVariants as ready
use Rattle.ssq_board.specs.Core.{Scope, Core, is_more, is_open, is_stopped, ready_of, ready_tasks}
use Rattle.ssq_board.proofs.Readies.{past, chosen, none_of_tasks}

some_cause : (o : Option Cause) → is_stopped o ≡ true → IsSome o
some_cause None is = is
some_cause (Some f) is = refl

-- where nothing more comes of a desk that is stopped, there is a cause
stopped_is : (r : Scope) (c : Core) → ready_of r c ≡ ready.Stopped → IsSome c.front.stop
stopped_is r c e = elim (chosen (is_stopped c.front.stop) ready.Stopped _ ready.Stopped e) [
  | inl stops ↦ some_cause c.front.stop stops.0
  | inr runs ↦ absurd (elim (chosen (is_open c) (ready_tasks c) _ _ runs.1) [
    | inl opened ↦ none_of_tasks c ready.Stopped refl opened.1
    | inr closed ↦
        let b = past (not c.front.settled) _ _ _ closed.1 (λ x. cc) in
        elim (chosen (is_more r c) ready.Plan ready.Over ready.Stopped b.1) [ inl x ↦ (let y = x.1 in cc) | inr x ↦ (let y = x.1 in cc) ]
  ])
]

-- a desk that gives nothing to go on with is stopped
pub one_of_both : {N : Type 0} (U : Type 0) (r : Scope) (c : Core) (tidy : Bool) (Q : N → Type 0) (next : Option N) (stop : Option Cause) → MatchOption next ((ready_of r c ≢ ready.Over) ⊎ (tidy ≡ false)) Q
    → ((ready_of r c ≡ ready.Over) × U) ⊎ (ready_of r c ≡ ready.Stopped) → (U → tidy ≡ true) → stop ≡ c.front.stop → next ≡ None → IsSome stop
one_of_both {N} U r c tidy Q next stop is end settled same none =
    let other : (ready_of r c ≢ ready.Over) ⊎ (tidy ≡ false) = subst (λ (o : Option N). MatchOption o ((ready_of r c ≢ ready.Over) ⊎ (tidy ≡ false)) Q) none is in
    elim end [
      | inl over ↦ absurd (elim other [ inl more ↦ more over.0 | inr untidy ↦ true≢false (sym (settled over.1) ∙ untidy) ])
      | inr stopped ↦ ap is_some same ∙ stopped_is r c stopped
    ]

-- what the end of a round says of its desk
pub end_over : {N E : Type 0} (P : Type 0) (Q : N → Type 0) (next : Option N) (end : Result N E) → MatchOption next P Q → IfOk end (λ own. next ≡ Some own) → (own : N) → end ≡ Ok own → Q own
end_over {N} {E} P Q next end is ok own same =
    subst (λ (o : Option N). MatchOption o P Q) (subst (λ (e : Result N E). IfOk e (λ own. next ≡ Some own)) same ok) is

pub end_stopped : {N E : Type 0} (Q : E → Type 0) (end : Result N E) → IfErr end Q → (why : E) → end ≡ Err why → Q why
end_stopped {N} {E} Q end err why same = subst (λ (e : Result N E). IfErr e Q) same err

pub same_cause : {f g : Cause} → Some f ≡ Some g → f ≡ g
same_cause {f} {g} is = ap or is
  where
    or : Option Cause → Cause
    or None = f
    or (Some x) = x

-- of a round that is over upkeep is done
pub ended_kept : (U : Type 0) (r : Scope) (c : Core) → ((ready_of r c ≡ ready.Over) × U) ⊎ (ready_of r c ≡ ready.Stopped) → ready_of r c ≡ ready.Over → U
ended_kept U r c (inl over) is = over.1
ended_kept U r c (inr stopped) is = absurd (clash (ready_of r c) stopped is)
  where
    clash : (x : Ready) → x ≡ ready.Stopped → x ≡ ready.Over → ⊥
    clash x stopped over = cc

-- so it is, whatever the answer
pub on_err : {T E P : Type 0} (r : Result T E) → P → OnErr r P
on_err (Ok x) is = tt
on_err (Err f) is = is
