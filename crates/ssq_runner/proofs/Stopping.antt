-- Logs whose lines were not counted.
use Rattle.std.proofs.Common.{◌≡◌, ◌<◌, ◌+◌, ◌∙◌, ℕ, suc, List, [], ◌∷◌, refl, sym, subst, arith, inl, inr}
use Rattle.std.specs.List.{sum_by}
use Rattle.std.proofs.lemmas.List.Sums.{sum_by-cons}
use Rattle.ssq_outside.specs.Logs.{Line}
use Rattle.ssq_logs.specs.declared.fault.LengthFault.{LengthFault}
use Rattle.ssq_logs.specs.declared.fault.LengthFault.TheVariants as length_fault
use Rattle.ssq_logs.specs.Asked.{IsAnswered, IsStopped, IsStopAt, most_lines}
use Rattle.ssq_desk.proofs.Wholes.{rises_some}
use Rattle.ssq_runner.specs.Rounds.{Round, HaveAnswered}
use Rattle.ssq_runner.specs.Ending.{HasSoMany, IsUncounted}
use Rattle.ssq_runner.proofs.Answering.{answered_at}

module _ {L : Type 0} (tells : Type 0) (lines : L → List Line) (available : L → ℕ) (answers : L → List ℕ) (faults : L → ℕ) where
  -- why logs were not counted, where so many stand before them
  abbrev UncountedFrom : ℕ → (before after : List L) → LengthFault → Type 0
  UncountedFrom number before after (length_fault.Full at found) = (most_lines < found) × ((k : ℕ) × (at ≡ number + k) × HasSoMany tells lines available answers faults before after k found)
  UncountedFrom number before after length_fault.LogFault = 0 < sum_by faults after
  UncountedFrom number before after length_fault.NoMemory = Unit {0}

  -- with one more before them
  behind : (number : ℕ) (old new : L) (olds news : List L) (fault : LengthFault) → UncountedFrom (number + 1) olds news fault → UncountedFrom number (old ∷ olds) (new ∷ news) fault
  behind number old new olds news (length_fault.Full at found) is =
      let so = is.1.2 in
      (is.0, (suc is.1.0, (let e = is.1.1 in omega (arith, e)), record { old = so.old; own = so.own; was = so.was; is = so.is; there = so.there; within = so.within; grown = so.grown; same = so.same }))
  behind number old new olds news length_fault.LogFault is = (let e = sum_by-cons faults new news in omega (arith, is, e))
  behind number old new olds news length_fault.NoMemory is = tt

  stopped_at : (number : ℕ) (old new : L) (olds news : List L) (fault : LengthFault) → IsStopAt tells lines available answers faults number old new fault → UncountedFrom number (old ∷ olds) (new ∷ news) fault
  stopped_at number old new olds news (length_fault.Full at found) is =
      (is.1, (0, (let e = is.0 in omega (arith, e)), record { old = old; own = new; was = refl; is = refl; there = is.2.there; within = is.2.within; grown = is.2.grown; same = is.2.same }))
  stopped_at number old new olds news length_fault.LogFault is = (let r = rises_some (faults old) (faults new) is.cause in let e = sum_by-cons faults new news in omega (arith, r, e))
  stopped_at number old new olds news length_fault.NoMemory is = tt

  stopped_from : (number : ℕ) (olds news : List L) (fault : LengthFault) → IsStopped tells lines available answers faults number olds news fault → UncountedFrom number olds news fault
  stopped_from number [] news fault is = absurd is
  stopped_from number (old ∷ olds) [] fault is = absurd is
  stopped_from number (old ∷ olds) (new ∷ news) fault (inl here) = stopped_at number old new olds news fault here.0
  stopped_from number (old ∷ olds) (new ∷ news) fault (inr later) = behind number old new olds news fault (stopped_from (number + 1) olds news fault later.3)

  uncounted_by : (olds news : List L) (fault : LengthFault) → UncountedFrom 0 olds news fault → IsUncounted tells lines available answers faults olds news fault
  uncounted_by olds news (length_fault.Full at found) is =
      (is.0, subst (λ (k : ℕ). HasSoMany tells lines available answers faults olds news k found) (let e : is.1.0 ≡ 0 + is.1.0 = omega arith in e ∙ sym is.1.1) is.1.2)
  uncounted_by olds news length_fault.LogFault is = is
  uncounted_by olds news length_fault.NoMemory is = tt

  -- why logs were not counted of which the first was the first to be asked
  pub uncounted_is : (olds news : List L) (fault : LengthFault) → IsStopped tells lines available answers faults 0 olds news fault → IsUncounted tells lines available answers faults olds news fault
  uncounted_is olds news fault is = uncounted_by olds news fault (stopped_from 0 olds news fault is)

  -- and what they held before they were asked for the rounds so far
  pub uncounted_since : (done : List Round) (firsts olds news : List L) (fault : LengthFault) → HaveAnswered tells lines available answers faults 0 done firsts olds → IsUncounted tells lines available answers faults olds news fault
      → IsUncounted tells lines available answers faults firsts news fault
  uncounted_since done firsts olds news (length_fault.Full at found) have is =
      let so = is.1 in
      let first = answered_at tells lines available answers faults 0 done firsts olds have at so.old so.was in
      (is.0, record { old = first.0; own = so.own; was = first.1; is = so.is; there = so.there; within = so.within; grown = λ t. (let a = (first.2 t).1 in let b = so.grown t in omega (arith, a, b)); same = λ t. so.same t ∙ (first.2 t).0 })
  uncounted_since done firsts olds news length_fault.LogFault have is = is
  uncounted_since done firsts olds news length_fault.NoMemory have is = tt

-- the same where less is known
pub uncounted_under : {L : Type 0} (T U : Type 0) (lines : L → List Line) (available : L → ℕ) (answers : L → List ℕ) (faults : L → ℕ) → (U → T) → (olds news : List L) (why : LengthFault) → IsUncounted T lines available answers faults olds news why
    → IsUncounted U lines available answers faults olds news why
uncounted_under T U lines available answers faults less olds news (length_fault.Full at found) is =
    let so = is.1 in
    (is.0, record { old = so.old; own = so.own; was = so.was; is = so.is; there = λ u. so.there (less u); within = λ u. so.within (less u); grown = λ u. so.grown (less u); same = λ u. so.same (less u) })
uncounted_under T U lines available answers faults less olds news length_fault.LogFault is = is
uncounted_under T U lines available answers faults less olds news length_fault.NoMemory is = tt

module _ {L : Type 0} (T U : Type 0) (lines : L → List Line) (available : L → ℕ) (answers : L → List ℕ) (faults : L → ℕ) (less : U → T) where
  answered_under : (old new : L) (found : ℕ) → IsAnswered T lines available answers faults old new found → IsAnswered U lines available answers faults old new found
  answered_under old new found is = record { same = λ u. is.same (less u); there = λ u. is.there (less u); within = λ u. is.within (less u); grown = λ u. is.grown (less u); told = λ u. is.told (less u); counted = is.counted }

  stop_under : (number : ℕ) (old new : L) (fault : LengthFault) → IsStopAt T lines available answers faults number old new fault → IsStopAt U lines available answers faults number old new fault
  stop_under number old new (length_fault.Full at found) is = (is.0, is.1, answered_under old new found is.2)
  stop_under number old new length_fault.LogFault is = record { same = λ u. is.same (less u); grown = λ u. is.grown (less u); untold = λ u. is.untold (less u); counted = is.counted; cause = is.cause }
  stop_under number old new length_fault.NoMemory is = (is.0, answered_under old new is.0 is.1)

  pub stopped_under : (number : ℕ) (olds news : List L) (fault : LengthFault) → IsStopped T lines available answers faults number olds news fault → IsStopped U lines available answers faults number olds news fault
  stopped_under number [] news fault is = absurd is
  stopped_under number (old ∷ olds) [] fault is = absurd is
  stopped_under number (old ∷ olds) (new ∷ news) fault (inl here) = inl (stop_under number old new fault here.0, here.1)
  stopped_under number (old ∷ olds) (new ∷ news) fault (inr later) = inr (later.0, answered_under old new later.0 later.1, later.2, stopped_under (number + 1) olds news fault later.3)
