-- The first of the faults of two parts.
use Rattle.std.proofs.Common.{◌≡◌, ◌⊎◌, inl, inr, sym, refl, subst, arith, ℕ, ◌<◌, ◌≤◌, Bool, true, false, ◌&&◌, ◌||◌, nat_lt, nat_eq, Option, Some, None, Result, Ok, Err}
use Rattle.std.proofs.lemmas.Bool.Decides.{nat_tests}
use Rattle.std.specs.Prelude.{if◌then◌else◌}
use Rattle.ssq_value.specs.declared.column.ColType.{ColType}
use Rattle.ssq_check.specs.declared.fault.Cause.{Cause}
use Rattle.ssq_check.specs.declared.fault.BindFault.{BindFault}
use Rattle.ssq_check.specs.Fault.{rank, precedes, earlier, both, Faults, IsNoLater, AreNone, IsFirst, FirstOf, Answers, sooner}
use Rattle.ssq_check.specs.Broken.{Either}
use Rattle.ssq_check.specs.Rules.{together}
use Rattle.ssq_check.specs.Checked.{then_try, Checked}

before_is : (a b r s : ℕ) → (nat_lt a b || (nat_eq a b && nat_lt r s)) ≡ true → (a < b) ⊎ ((a ≡ b) × (r ≤ s))
before_is a b r s is = grind (arith, nat_tests)

not_before_is : (a b r s : ℕ) → (nat_lt a b || (nat_eq a b && nat_lt r s)) ≡ false → (b < a) ⊎ ((b ≡ a) × (s ≤ r))
not_before_is a b r s is = grind (arith, nat_tests)

pub later_still : (a b c r s t : ℕ) → (a < b) ⊎ ((a ≡ b) × (r ≤ s)) → (b < c) ⊎ ((b ≡ c) × (s ≤ t)) → (a < c) ⊎ ((a ≡ c) × (r ≤ t))
later_still a b c r s t (inl p) (inl q) = inl (omega (arith, p, q))
later_still a b c r s t (inl p) (inr q) = inl (omega (arith, p, q.0))
later_still a b c r s t (inr p) (inl q) = inl (omega (arith, p.0, q))
later_still a b c r s t (inr p) (inr q) = inr (omega (arith, p.0, q.0), omega (arith, p.1, q.1))

module _ (P Q : Faults) where
  pub none_either : AreNone P → AreNone Q → AreNone (Either P Q)
  none_either p q cause at (inl x) = p cause at x
  none_either p q cause at (inr x) = q cause at x

  pub first_left : (f : BindFault) → IsFirst P f → AreNone Q → IsFirst (Either P Q) f
  first_left f first none = record { is = inl first.is; least = least }
    where
      least : (cause : Cause) (at : ℕ) → Either P Q cause at → IsNoLater f cause at
      least cause at (inl x) = first.least cause at x
      least cause at (inr x) = absurd (none cause at x)

  pub first_right : (g : BindFault) → AreNone P → IsFirst Q g → IsFirst (Either P Q) g
  first_right g none first = record { is = inr first.is; least = least }
    where
      least : (cause : Cause) (at : ℕ) → Either P Q cause at → IsNoLater g cause at
      least cause at (inl x) = absurd (none cause at x)
      least cause at (inr x) = first.least cause at x

  chosen : (f g : BindFault) (b : Bool) → precedes g f ≡ b → IsFirst P f → IsFirst Q g → IsFirst (Either P Q) (if b then g else f)
  chosen f g true is first second = record { is = inr second.is; least = least }
    where
      least : (cause : Cause) (at : ℕ) → Either P Q cause at → IsNoLater g cause at
      least cause at (inl x) = later_still g.at f.at at (rank g.cause) (rank f.cause) (rank cause) (before_is g.at f.at (rank g.cause) (rank f.cause) is) (first.least cause at x)
      least cause at (inr x) = second.least cause at x
  chosen f g false is first second = record { is = inl first.is; least = least }
    where
      least : (cause : Cause) (at : ℕ) → Either P Q cause at → IsNoLater f cause at
      least cause at (inl x) = first.least cause at x
      least cause at (inr x) = later_still f.at g.at at (rank f.cause) (rank g.cause) (rank cause) (not_before_is g.at f.at (rank g.cause) (rank f.cause) is) (second.least cause at x)

  pub first_both : (f g : BindFault) → IsFirst P f → IsFirst Q g → IsFirst (Either P Q) (earlier f g)
  first_both f g first second = chosen f g (precedes g f) refl first second

  -- both parts are looked at
  pub both_answers : {A B : Type 0} (v : Option A) (u : Option B) (r : Result A BindFault) (s : Result B BindFault) → Answers P v r → Answers Q u s → Answers (Either P Q) (together v u) (both r s)
  both_answers v u (Ok a) (Ok b) h k = ((λ i. together (h.0 i) (k.0 i)), none_either h.1 k.1)
  both_answers v u (Ok a) (Err g) h k = ((λ i. together (h.0 i) (k.0 i)), first_right g h.1 k.1)
  both_answers v u (Err f) (Ok b) h k = ((λ i. together (h.0 i) (k.0 i)), first_left f h.1 k.1)
  both_answers v u (Err f) (Err g) h k = ((λ i. together (h.0 i) (k.0 i)), first_both f g h.1 k.1)

  -- the second part is looked at where the first has no fault
  pub after : {A : Type 0} (v : Option A) (r : Result A BindFault) → AreNone P → Answers Q v r → Answers (Either P Q) v r
  after v (Ok a) none h = (h.0, none_either none h.1)
  after v (Err g) none h = (h.0, first_right g none h.1)

-- What a part breaks by itself counts where its operands have no fault.
pub node : {A : Type 0} (P : Faults) (Own : Option A → Faults) (value : Option A → Option ColType) (v : Option A) (r : Result A BindFault) (next : A → Checked)
    → Answers P v r → ((a : A) → Answers (Own (Some a)) (value (Some a)) (next a)) → AreNone (Own None) → value None ≡ None
    → Answers (Either P (Own v)) (value v) (then_try r next)
node P Own value v (Ok a) next h own none nothing =
    subst (λ u. Answers (Either P (Own u)) (value u) (next a)) (sym h.0) (after P (Own (Some a)) (value (Some a)) (next a) h.1 (own a))
node P Own value v (Err f) next h own none nothing =
    subst (λ u. Answers (Either P (Own u)) (value u) (Err f)) (sym h.0) (nothing, first_left P (Own None) f h.1 none)

pub first_sooner : (P Q : Faults) (a b : Option BindFault) → FirstOf P a → FirstOf Q b → FirstOf (Either P Q) (sooner a b)
first_sooner P Q None None p q = none_either P Q p q
first_sooner P Q None (Some g) p q = first_right P Q g p q
first_sooner P Q (Some f) None p q = first_left P Q f p q
first_sooner P Q (Some f) (Some g) p q = first_both P Q f g p q
