-- Columns are found among those that are declared.
use Rattle.std.proofs.Common.{◌≡◌, ◌∙◌, ap, sym, refl, ℕ, ◌+◌, ◌<◌, Bool, not, cond, nat_lt, List, [], ◌∷◌, map, length, get_or, position, Some, None}
use Rattle.std.specs.List.{position_or_len}
use Rattle.std.specs.Option.{option_map}
use Rattle.std.specs.Str.{bytes_eq}
use Rattle.std.proofs.lemmas.List.{length-map}
use Rattle.std.proofs.lemmas.Option.{slice_get-map, slice_get_read}
use Rattle.ssq_value.specs.declared.column.Column.{Column}
use Rattle.ssq_ast.specs.declared.query.ColumnDecl.{ColumnDecl}
use Rattle.ssq_check.specs.declared.scope.Side.{Side}
use Rattle.ssq_check.specs.Scope.{spot_from, spot_where, in_columns}
use Rattle.ssq_check.specs.Names.{column_of}

module _ {A B : Type 0} (f : A → B) (p : B → Bool) where
  or_len_map : (xs : List A) → position_or_len p (map f xs) ≡ position_or_len (λ x. p (f x)) xs
  or_len_map [] = refl
  or_len_map (x ∷ xs) = (λ i. cond (not (p (f x))) (1 + or_len_map xs i) 0)

  position_map : (xs : List A) → position p (map f xs) ≡ position (λ x. p (f x)) xs
  position_map xs = (λ i. cond (nat_lt (or_len_map xs i) (length-map xs f i)) (Some (or_len_map xs i)) None)

abbrev pub is_named : List ℕ → ColumnDecl → Bool
is_named name decl = bytes_eq decl.name.text name

named_position : (decls : List ColumnDecl) (name : List ℕ) → position (λ (column : Column). bytes_eq column.name name) (map column_of decls) ≡ position (is_named name) decls
named_position decls name = position_map column_of (λ (column : Column). bytes_eq column.name name) decls

module _ (own : Side) (decls : List ColumnDecl) (name : List ℕ) where
  pub declared_found : (at : ℕ) (decl : ColumnDecl) → position (is_named name) decls ≡ Some at → at < length decls → decl ≡ get_or decls at decl
      → Some (record { side = own; index = at; kind = decl.kind }) ≡ in_columns own (map column_of decls) name
  declared_found at decl found inside is =
      ap (λ o. spot_from own at (option_map column_of o)) (sym (slice_get_read decls (length decls) at decl refl inside is))
      ∙ ap (spot_from own at) (sym (slice_get-map column_of decls at))
      ∙ ap (spot_where own (map column_of decls)) (sym (named_position decls name ∙ found))

  pub declared_missing : position (is_named name) decls ≡ None → None ≡ in_columns own (map column_of decls) name
  declared_missing missing = ap (spot_where own (map column_of decls)) (sym (named_position decls name ∙ missing))
