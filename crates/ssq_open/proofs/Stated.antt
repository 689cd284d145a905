-- The files of a checkpoint that stands make the states of its job.
use Rattle.std.proofs.Common.{◌≡◌, ◌∙◌, ◌<◌, ◌≤◌, ◌+◌, ◌^◌, ℕ, suc, Some, length, sym, ap, subst, inl, inr, arith}
use Rattle.std.specs.Prelude.{IsSome}
use Rattle.ssq_outside.specs.declared.name.Name.{Name}
use Rattle.ssq_outside.specs.declared.name.Name.TheVariants as name
use Rattle.ssq_outside.specs.Files.{Content, Files}
use Rattle.ssq_version.specs.State.{State, IsState, between}
use Rattle.ssq_version.specs.Text.{delta_text}
use Rattle.ssq_store.specs.Loaded.{IsSnapshot, IsDelta, Makes, IsDamaged as IsStateDamaged, AreTrue}
use Rattle.ssq_core.specs.Course.{Course, Cuts, Job, truth}
use Rattle.ssq_core.specs.Standing.{IsThere, StandsAt, CanLoad}
use Rattle.ssq_core.specs.Sound.{AreProper}
use Rattle.ssq_core.proofs.Files.{true_there}
use Rattle.ssq_open.specs.declared.stateful.Keeps.{Keeps}
use Rattle.ssq_open.specs.declared.stateful.Keeps.TheVariants.{Nothing, EachPartition}
use Rattle.ssq_open.specs.Stateful.{keeping_in}
use Rattle.ssq_open.specs.Jobs.{States, IsVersion, AreStates}

-- What is cited of stores: the files of a partition make one state at most, and none where one of them is damaged; those that are true to its
-- states make the last of these; and the file of the change between two states is one of the change from the one to the other.
pub record AreLaws : Type 0 where
  pub one : (files : Files) (p n : ℕ) (state other : State) → p < 2 ^ 32 → n ≤ 2 ^ 32 → Makes files p n state → Makes files p n other → state ≡ other
  pub sound : (files : Files) (p n : ℕ) (state : State) (at : Name) → p < 2 ^ 32 → n ≤ 2 ^ 32 → Makes files p n state → IsStateDamaged files p n at → ⊥
  pub made : (files : Files) (p n floor : ℕ) (states : ℕ → State) → AreTrue files p n floor states → Makes files p n (states n)
  pub change : (p v : ℕ) (before after : State) → IsState before → IsState after → length (between before after) < 2 ^ 64 → IsDelta (Some (delta_text p v (between before after))) p v before after

pub laws : ((files : Files) (p n : ℕ) (state other : State) → p < 2 ^ 32 → n ≤ 2 ^ 32 → Makes files p n state → Makes files p n other → state ≡ other)
    → ((files : Files) (p n : ℕ) (state : State) (at : Name) → p < 2 ^ 32 → n ≤ 2 ^ 32 → Makes files p n state → IsStateDamaged files p n at → ⊥)
    → ((files : Files) (p n floor : ℕ) (states : ℕ → State) → AreTrue files p n floor states → Makes files p n (states n))
    → ((p v : ℕ) (before after : State) → IsState before → IsState after → length (between before after) < 2 ^ 64 → IsDelta (Some (delta_text p v (between before after))) p v before after)
    → AreLaws
laws one sound made change = record { one = one; sound = sound; made = made; change = change }

-- partitions that keep state are no more than there are
pub keeping_few : (keeps : Keeps) (n m : ℕ) → n ≤ m → keeping_in keeps n ≤ m
keeping_few Nothing n m less = omega arith
keeping_few EachPartition n m less = less

module _ (law : AreLaws) (job : Job) (states : States) (of : AreStates job states) (cuts : Cuts) (n k : ℕ) (files : Files) (at : StandsAt (job.course cuts) n k files) (proper : AreProper job cuts n)
    (p : ℕ) (keeps : p < (job.course cuts).keeping) where
  abbrev course : Course
  course = job.course cuts

  file : (q : Name) → IsThere files q → files q ≡ Some (truth course q)
  file q there = true_there files q (truth course q) (at.are_true q) there

  version : (v : ℕ) → v < k → IsVersion course p v (states cuts p v) (states cuts p (v + 1))
  version v low = of.versions cuts n p v proper at.reached.few (let most = at.reached.planned_first in omega (arith, low, most)) keeps

  snapshot_is : (v : ℕ) → v < k → IsSome (files (name.Snapshot p v)) → IsSnapshot (files (name.Snapshot p v)) p v (states cuts p (v + 1))
  snapshot_is v low there =
      let own = version v low in
      record { kept = own.is_kept; few = own.few; is = file (name.Snapshot p v) there ∙ ap Some own.whole }

  delta_is : (v : ℕ) → v < k → IsThere files (name.Delta p v) → IsDelta (files (name.Delta p v)) p v (states cuts p v) (states cuts p (v + 1))
  delta_is v low there =
      let own = version v low in
      let D : Content → Type 0 = λ content. IsDelta content p v (states cuts p v) (states cuts p (v + 1)) in
      subst D (sym (file (name.Delta p v) there ∙ ap Some own.change)) (law.change p v (states cuts p v) (states cuts p (v + 1)) own.was_kept own.is_kept own.few_changes)

  next : (v : ℕ) → v + 1 ≡ suc v
  next v = omega arith

  are_true : (load : CanLoad files p k) → AreTrue files p k load.from (states cuts p)
  are_true load = record {
    first = of.first cuts p;
    snapshots = λ v low there. subst (λ (e : ℕ). IsSnapshot (files (name.Snapshot p v)) p v (states cuts p e)) (next v) (snapshot_is v low there);
    deltas = λ v from low. subst (λ (e : ℕ). IsDelta (files (name.Delta p v)) p v (states cuts p v) (states cuts p e)) (next v) (delta_is v low (load.deltas v from low));
    base = elim load.base [
      | inl none ↦ inl none
      | inr floor ↦ inr (floor.0, floor.1 ∙ next floor.0, (let old = floor.2 in omega (arith, old)), floor.3)
    ];
  }

  pub makes_states : Makes files p k (states cuts p k)
  makes_states = let load = at.loads p keeps in law.made files p k load.from (states cuts p) (are_true load)
