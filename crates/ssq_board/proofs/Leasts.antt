-- The cause for which a phase stops is the one that counts.
use Rattle.std.proofs.Common.{◌≡◌, ◌≤◌, not, ℕ, zero, suc, Bool, true, false, true≢false, List, [], ◌∷◌, Option, Some, None, if◌then◌else◌, sym, refl, ap, ◌∙◌, subst, arith}
use Rattle.std.specs.List.{list_all}
use mathlib.Core.Option.{some, some-injective, some-ne-none}
use lib.ListN.{get_elem?}
use Rattle.ssq_board.specs.declared.front.Cause.{Cause}
use Rattle.ssq_board.specs.declared.front.Place.{Place}
use Rattle.ssq_board.specs.declared.front.Place.TheVariants as place
use Rattle.ssq_board.specs.Core.{is_here, is_of_epoch, worse_by, worse, fault_at, fault_in, due_of, due_stop}
use Rattle.ssq_board.specs.Laws.{IsCauseOf}

none_some : {A : Type 0} {f : Cause} → None ≡ Some f → A
none_some e = absurd (cc)

some_none : {A : Type 0} {f : Cause} → Some f ≡ None → A
some_none e = absurd (cc)

pub some_is : (a b : Cause) → Some a ≡ Some b → a ≡ b
some_is a b e = ap or_a e
  where
    or_a : Option Cause → Cause
    or_a None = a
    or_a (Some x) = x

back_of : (p : Place) (h : Cause) → fault_at p ≡ Some h → p ≡ place.Back (Some h)
back_of place.Rests h e = none_some e
back_of place.Waits h e = none_some e
back_of place.Away h e = none_some e
back_of (place.Back f) h e = ap place.Back e

none_in : (ps : List Place) (i : ℕ) (g : Cause) → fault_in ps ≡ None → get_elem? ps i ≡ some (place.Back (Some g)) → ⊥
none_in [] i g e here = some-ne-none (place.Back (Some g)) (sym here)
none_in (p ∷ ps) zero g e here = by (fault_in ps) (sym (ap (λ x. worse (fault_at x) (fault_in ps)) (some-injective p (place.Back (Some g)) here)) ∙ e)
  where
    by : (o : Option Cause) → worse (Some g) o ≡ None → ⊥
    by None e = some_none e
    by (Some l) e = some_none e
none_in (p ∷ ps) (suc i) g e here = none_in ps i g (rest (fault_at p) (fault_in ps) e) here
  where
    rest : (a o : Option Cause) → worse a o ≡ None → o ≡ None
    rest None o e = e
    rest (Some h) None e = refl
    rest (Some h) (Some l) e = some_none e

abbrev Counts : List Place → Cause → Type 0
Counts ps f = (at : ℕ) × (get_elem? ps at ≡ some (place.Back (Some f))) × (is_of_epoch f ≡ true → (i : ℕ) (g : Cause) → get_elem? ps i ≡ some (place.Back (Some g)) → (is_of_epoch g ≡ true) × (at ≤ i))

counts : (ps : List Place) (f : Cause) → fault_in ps ≡ Some f → Counts ps f
counts [] f e = none_some e
counts (p ∷ ps) f e = by (λ l h. counts ps l h) (fault_at p) (fault_in ps) refl refl e
  where
    of_line : (h g : Cause) → fault_at p ≡ Some h → get_elem? (p ∷ ps) 0 ≡ some (place.Back (Some g)) → is_of_epoch h ≡ true → is_of_epoch g ≡ true
    of_line h g at here line = ap is_of_epoch (some_is g h (ap fault_at (sym (some-injective p (place.Back (Some g)) here)) ∙ at)) ∙ line

    later : (h : Cause) → fault_at p ≡ None → Counts ps h → Counts (p ∷ ps) h
    later h none c = (suc c.0, c.1, λ line i g here. at_later line i g here)
      where
        at_later : is_of_epoch h ≡ true → (i : ℕ) (g : Cause) → get_elem? (p ∷ ps) i ≡ some (place.Back (Some g)) → (is_of_epoch g ≡ true) × (suc c.0 ≤ i)
        at_later line zero g here = none_some (sym none ∙ ap fault_at (some-injective p (place.Back (Some g)) here))
        at_later line (suc i) g here = let r = c.2 line i g here in (r.0, omega (arith, r.1))

    here_first : (h : Cause) → fault_at p ≡ Some h → (is_of_epoch h ≡ true → (i : ℕ) (g : Cause) → get_elem? ps i ≡ some (place.Back (Some g)) → is_of_epoch g ≡ true) → Counts (p ∷ ps) h
    here_first h at others = (0, ap some (back_of p h at), λ line i g here. at_here line i g here)
      where
        at_here : is_of_epoch h ≡ true → (i : ℕ) (g : Cause) → get_elem? (p ∷ ps) i ≡ some (place.Back (Some g)) → (is_of_epoch g ≡ true) × (0 ≤ i)
        at_here line zero g here = (of_line h g at here line, omega arith)
        at_here line (suc i) g here = (others line i g here, omega arith)

    outside_later : (l : Cause) → is_of_epoch l ≡ false → Counts ps l → Counts (p ∷ ps) l
    outside_later l out c = (suc c.0, c.1, λ line. absurd (true≢false (sym line ∙ out)))

    by : ((l : Cause) → fault_in ps ≡ Some l → Counts ps l) → (a o : Option Cause) → fault_at p ≡ a → fault_in ps ≡ o → worse a o ≡ Some f → Counts (p ∷ ps) f
    by within None o at is e = later f at (within f (is ∙ e))
    by within (Some h) None at is e = subst (Counts (p ∷ ps)) (some_is h f e) (here_first h at (λ line i g here. absurd (none_in ps i g is here)))
    by within (Some h) (Some l) at is e = by_line (is_of_epoch h) (is_of_epoch l) refl refl
      where
        by_line : (a b : Bool) → is_of_epoch h ≡ a → is_of_epoch l ≡ b → Counts (p ∷ ps) f
        by_line false b hl ll = subst (Counts (p ∷ ps)) (some_is h f (sym (ap (λ (x : Bool). Some (worse_by x h l)) hl) ∙ e)) (here_first h at (λ line. absurd (true≢false (sym line ∙ hl))))
        by_line true true hl ll = subst (Counts (p ∷ ps)) (some_is h f (sym (ap (λ (x : Bool). Some (worse_by x h l)) hl ∙ ap (λ (x : Bool). Some (if x then h else l)) ll) ∙ e))
            (here_first h at (λ line i g here. ((within l is).2 ll i g here).0))
        by_line true false hl ll = subst (Counts (p ∷ ps)) (some_is l f (sym (ap (λ (x : Bool). Some (worse_by x h l)) hl ∙ ap (λ (x : Bool). Some (if x then h else l)) ll) ∙ e)) (outside_later l ll (within l is))

due_in : (all : Bool) (o : Option Cause) (f : Cause) → due_of all o ≡ Some f → (o ≡ Some f) × (is_of_epoch f ≡ true → all ≡ true)
due_in all None f e = none_some e
due_in true (Some h) f e = (e, λ line. refl)
due_in false (Some h) f e = by (is_of_epoch h) refl e
  where
    by : (b : Bool) → is_of_epoch h ≡ b → (if not (is_of_epoch h) then Some h else None) ≡ Some f → (Some h ≡ Some f) × (is_of_epoch f ≡ true → false ≡ true)
    by true is e = none_some (sym (ap (λ (b : Bool). if not b then Some h else None) is) ∙ e)
    by false is e = let same = sym (ap (λ (b : Bool). if not b then Some h else None) is) ∙ e in (same, λ line. absurd (true≢false (sym line ∙ sym (ap is_of_epoch (some_is h f same)) ∙ is)))

pub cause_counts : (ps : List Place) (f : Cause) → due_stop ps ≡ Some f → IsCauseOf ps f
cause_counts ps f e =
    let d = due_in (list_all is_here ps) (fault_in ps) f e in
    let c = counts ps f d.0 in
    record { place_of = c.0; here = c.1; first = λ line. (d.1 line, c.2 line) }
