-- Logs that are asked one after the other.
use Rattle.std.proofs.Common.{◌≡◌, ◌≤◌, ◌<◌, ◌+◌, ◌-◌, ◌^◌, ◌++◌, ◌∷◌, [], ℕ, List, length, length-append, Result, Ok, Err, OnOk, IfErr, refl, sym, ap, ◌∙◌, subst, inl, inr, arith}
use Rattle.std.proofs.lemmas.List.{append-nil, append_assoc}
use Rattle.ssq_outside.specs.Logs.{Line}
use Rattle.ssq_logs.specs.declared.fault.LengthFault.{LengthFault}
use Rattle.ssq_logs.specs.Asked.{most_lines, IsAnswered, AreAsked, IsStopAt, IsStopped}

module _ {L : Type 0} (tells : Type 0) (lines : L → List Line) (available : L → ℕ) (answers : L → List ℕ) (faults : L → ℕ) where
  -- where there is no log
  pub asked_none : (acc : List ℕ) (logs : List L) → length logs ≡ 0 → (x : List ℕ) × (acc ≡ acc ++ x) × AreAsked tells lines available answers faults logs logs x
  asked_none acc [] none = ([], sym (append-nil acc), tt)
  asked_none acc (log ∷ logs) none = absurd (omega (arith, none))

  -- what a log answered, from what it tells of that
  pub answered : (old new : L) (found : ℕ) → (tells → lines new ≡ lines old) → (tells → available old ≤ available new) → (tells → (available new ≡ found) × (found ≤ length (lines new)))
      → (tells → length (answers old) < 2 ^ 64 - 1 → answers new ≡ answers old ++ found ∷ []) → faults old ≤ faults new → IsAnswered tells lines available answers faults old new found
  answered old new found same grown are told counted = record {
    same = same;
    there = λ x. (are x).0;
    within = λ x. (are x).1;
    grown = λ x. subst (λ (n : ℕ). available old ≤ n) (are x).0 (grown x);
    told = told;
    counted = counted;
  }

  -- one log more is asked
  pub asked_next : (r : Result (Unit {0}) LengthFault) (acc mid all : List ℕ) (old new : L) (logs olds news : List L) (n : ℕ) → logs ≡ old ∷ olds → mid ≡ acc ++ n ∷ [] → IsAnswered tells lines available answers faults old new n → n ≤ most_lines
      → OnOk r ((x : List ℕ) × (all ≡ mid ++ x) × AreAsked tells lines available answers faults olds news x) → OnOk r ((x : List ℕ) × (all ≡ acc ++ x) × AreAsked tells lines available answers faults logs (new ∷ news) x)
  asked_next (Ok u) acc mid all old new logs olds news n is mid_is answered few rest =
      (n ∷ rest.0, rest.1 ∙ ap (λ l. l ++ rest.0) mid_is ∙ append_assoc acc (n ∷ []) rest.0, subst (λ (l : List L). AreAsked tells lines available answers faults l (new ∷ news) (n ∷ rest.0)) (sym is) (answered, few, rest.2))
  asked_next (Err e) acc mid all old new logs olds news n is mid_is answered few rest = tt

  -- the first log is the last that was asked
  pub stopped_here : (number : ℕ) (old new : L) (logs olds : List L) (fault : LengthFault) → logs ≡ old ∷ olds → IsStopAt tells lines available answers faults number old new fault
      → IsStopped tells lines available answers faults number logs (new ∷ olds) fault
  stopped_here number old new logs olds fault is stop = subst (λ (l : List L). IsStopped tells lines available answers faults number l (new ∷ olds) fault) (sym is) (inl (stop, refl))

  -- a later one is
  pub stopped_later : (r : Result (Unit {0}) LengthFault) (acc mid : List ℕ) (old new : L) (logs olds news : List L) (n : ℕ) → logs ≡ old ∷ olds → mid ≡ acc ++ n ∷ [] → IsAnswered tells lines available answers faults old new n → n ≤ most_lines
      → IfErr r (IsStopped tells lines available answers faults (length mid) olds news) → IfErr r (IsStopped tells lines available answers faults (length acc) logs (new ∷ news))
  stopped_later (Ok u) acc mid old new logs olds news n is mid_is answered few rest = tt
  stopped_later (Err fault) acc mid old new logs olds news n is mid_is answered few rest =
      let one : length mid ≡ length acc + 1 = ap length mid_is ∙ length-append acc (n ∷ []) in
      subst (λ (l : List L). IsStopped tells lines available answers faults (length acc) l (new ∷ news) fault) (sym is)
      (inr (n, answered, few, subst (λ (k : ℕ). IsStopped tells lines available answers faults k olds news fault) one rest))
