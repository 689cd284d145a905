-- One more candidate.
use Rattle.std.proofs.Common.{◌≡◌, ◌++◌, [], ◌∷◌, Some, None, List, Result, Ok, Err, OnOk, ap, sym, subst, ◌∙◌}
use Rattle.std.specs.List.Sorted.{IsPermutation}
use Rattle.std.proofs.lemmas.List.Sorted.{IsPermutation-cons, IsPermutation-refl, IsPermutation-to_front, IsPermutation-trans}
use Rattle.ssq_shape.specs.Evaluation.{overflow}
use Rattle.ssq_meaning.specs.Group.{lesser_key}
use Rattle.ssq_meaning.specs.Join.{Considered, shown_among}
use Rattle.ssq_meaning.specs.Meaning.{Values}
use Rattle.ssq_step.specs.declared.shown.Shown.{Shown}
use Rattle.ssq_join.specs.Telling.{Tells}

pub none_told : (found : Shown) → found.rows.items ≡ [] → found.fault ≡ None → Tells found []
none_told found rows fault = record { rows = subst (λ (l : List Values). IsPermutation l []) (sym rows) (IsPermutation-refl []); fault = fault }

pub row_told : (found now : Shown) (key row : Values) → now.rows.items ≡ found.rows.items ++ row ∷ [] → now.fault ≡ found.fault → (all : List Considered) → Tells found all
    → Tells now (record { key = key; row = Ok (Some row) } ∷ all)
row_told found now key row rows fault all tells = record {
  rows = subst (λ (l : List Values). IsPermutation l (row ∷ shown_among all)) (sym rows)
      (IsPermutation-trans _ _ _ (IsPermutation-to_front found.rows.items row) (IsPermutation-cons row found.rows.items (shown_among all) tells.rows));
  fault = fault ∙ tells.fault;
}

pub nothing_told : (found : Shown) (key : Values) (all : List Considered) → Tells found all → Tells found (record { key = key; row = Ok None } ∷ all)
nothing_told found key all tells = record { rows = tells.rows; fault = tells.fault }

pub fault_told : (found now : Shown) (key : Values) → now.rows.items ≡ found.rows.items → now.fault ≡ Some (lesser_key key found.fault) → (all : List Considered) → Tells found all
    → Tells now (record { key = key; row = Err overflow } ∷ all)
fault_told found now key rows fault all tells = record {
  rows = subst (λ (l : List Values). IsPermutation l (shown_among all)) (sym rows) tells.rows;
  fault = fault ∙ ap (λ least. Some (lesser_key key least)) tells.fault;
}

-- two things that hold where it was done
pub both_ok : {A E P Q R : Type 0} (r : Result A E) → (P → Q → R) → OnOk r P → OnOk r Q → OnOk r R
both_ok (Ok x) make p q = make p q
both_ok (Err e) make p q = tt
