-- The first column of each name, column by column.
use Rattle.std.proofs.Common.{◌≡◌, ℕ, ◌+◌, ◌≤◌, suc, not, Bool, true, false, cond, List, [], ◌∷◌, ◌++◌, length, position, Option, Some, None, refl, sym, ap, subst, ◌∙◌, arith}
use Rattle.std.proofs.lemmas.Grind.{common_steps}
use Rattle.std.proofs.lemmas.Bool.Decides.{nat_tests}
use Rattle.std.proofs.lemmas.List.Folds.{position_or_len_push}
use Rattle.std.proofs.lemmas.Slice.Eq.{bytes_eq-Decides}
use Rattle.std.specs.List.{position_or_len}
use Rattle.std.specs.Str.{bytes_eq}
use Rattle.indexmap.specs.IndexMap.{IndexMap, get, Updates}
use Rattle.ssq_value.specs.declared.column.Column.{Column}
use Rattle.ssq_check.specs.Columns.{FindsFirsts}

abbrev pub or_else : Option ℕ → Option ℕ → Option ℕ
or_else None other = other
or_else (Some at) other = Some at

few : {X : Type 0} (p : X → Bool) (xs : List X) → position_or_len p xs ≤ length xs
few p [] = omega arith
few p (x ∷ xs) = by (p x) (few p xs)
  where
    by : (b : Bool) → position_or_len p xs ≤ length xs → cond (not b) (1 + position_or_len p xs) 0 ≤ suc (length xs)
    by true rest = omega arith
    by false rest = omega arith

pub position_push : {X : Type 0} (p : X → Bool) (xs : List X) (y : X) → position p (xs ++ y ∷ []) ≡ or_else (position p xs) (cond (p y) (Some (length xs)) None)
position_push p xs y =
    let e = position_or_len_push p xs y in
    let most = few p xs in
    grind (arith, nat_tests, common_steps)

-- a name that is new
pub added : (b : Bool) (n : ℕ) (own found : Option ℕ) → own ≡ found → (b ≡ true → own ≡ None) → cond b (Some n) own ≡ or_else found (cond b (Some n) None)
added true n own found same absent = ap (λ o. or_else o (Some n)) (sym (absent refl) ∙ same)
added false n own None same absent = same
added false n own (Some at) same absent = same

-- a name that is there
pub kept : (b : Bool) (n at : ℕ) (own found : Option ℕ) → own ≡ found → (b ≡ true → own ≡ Some at) → own ≡ or_else found (cond b (Some n) None)
kept true n at own found same there = there refl ∙ ap (λ o. or_else o (Some n)) (sym (there refl) ∙ same)
kept false n at own None same there = same
kept false n at own (Some k) same there = same

pub first_of_its_name : {S : Type 0} (columns : List Column) (column : Column) (old new : IndexMap (List ℕ) ℕ S) → FindsFirsts columns old
    → get bytes_eq old column.name ≡ None → Updates bytes_eq old new column.name (Some (length columns)) → FindsFirsts (columns ++ column ∷ []) new
first_of_its_name columns column old new finds absent updates name =
    updates.0 name
    ∙ added (bytes_eq column.name name) (length columns) (get bytes_eq old name) (position (λ c. bytes_eq c.name name) columns) (finds name)
    (λ b. subst (λ n. get bytes_eq old n ≡ None) ((bytes_eq-Decides column.name name).0 b) absent)
    ∙ sym (position_push (λ c. bytes_eq c.name name) columns column)

pub second_of_its_name : {S : Type 0} (columns : List Column) (column : Column) (at : ℕ) (m : IndexMap (List ℕ) ℕ S) → FindsFirsts columns m
    → get bytes_eq m column.name ≡ Some at → FindsFirsts (columns ++ column ∷ []) m
second_of_its_name columns column at m finds there name =
    kept (bytes_eq column.name name) (length columns) at (get bytes_eq m name) (position (λ c. bytes_eq c.name name) columns) (finds name)
    (λ b. subst (λ n. get bytes_eq m n ≡ Some at) ((bytes_eq-Decides column.name name).0 b) there)
    ∙ sym (position_push (λ c. bytes_eq c.name name) columns column)
