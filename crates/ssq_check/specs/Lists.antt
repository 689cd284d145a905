-- Lists: what is wrong with their elements, and names that are given twice.
use Rattle.std.specs.Prelude.{◌≡◌, ℕ, Bool, true, false, if◌then◌else◌, slice_get, List, [], ◌∷◌, ◌++◌, Option, Some, None, Result, Ok, Err}
use Rattle.std.specs.List.{list_any}
use Rattle.std.specs.Str.{bytes_eq}
use Rattle.ssq_ast.specs.declared.query.Item.{Item}
use Rattle.ssq_ast.specs.declared.query.Item.TheVariants as item
use Rattle.ssq_check.specs.declared.fault.Cause.{Cause}
use Rattle.ssq_check.specs.declared.fault.Cause.TheVariants as cause
use Rattle.ssq_check.specs.declared.fault.BindFault.{BindFault}
use Rattle.ssq_check.specs.declared.scope.Scope.{Scope}
use Rattle.ssq_check.specs.declared.scope.Within.{Within}
use Rattle.ssq_check.specs.Fault.{Faults}
use Rattle.ssq_check.specs.Scope.{column_kind}
use Rattle.ssq_check.specs.Broken.{Nothing, Either, Rule, Told, FaultsIn}

-- what is wrong with a clause, where it stands
abbrev pub Where : {A : Type 0} → (A → Faults) → Option A → Faults
Where F None = Nothing
Where F (Some a) = F a

-- the faults of each element
abbrev pub Each : {A : Type 0} → (A → Faults) → List A → Faults
Each F [] = Nothing
Each F (x ∷ xs) = Either (F x) (Each F xs)

abbrev pub has_name : List ℕ → List (List ℕ) → Bool
has_name name names = list_any (bytes_eq name) names

abbrev pub with_name : List (List ℕ) → List ℕ → List (List ℕ)
with_name names name = if has_name name names then names else names ++ name ∷ []

-- these names, and those of a list after them, each once
unfoldable pub names_from : {A : Type 0} → (A → List ℕ) → List (List ℕ) → List A → List (List ℕ)
names_from name seen [] = seen
names_from name seen (x ∷ xs) = names_from name (with_name seen (name x)) xs

module _ {A : Type 0} (name : A → List ℕ) (place : A → ℕ) where
  -- a name that one of these names, or of those in front of it, is
  unfoldable pub Doubled : List (List ℕ) → List A → Faults
  Doubled seen [] = Nothing
  Doubled seen (x ∷ xs) = Either (Rule cause.DoubleName (place x) (has_name (name x) seen ≡ true)) (Doubled (with_name seen (name x)) xs)

-- a name at this place, which may be there already
abbrev pub double_at : ℕ → Bool → Option BindFault
double_at at false = None
double_at at true = Some (record { at = at; cause = cause.DoubleName })

-- a rule that is broken by what stands at a place, where something stands there
abbrev pub Standing : Cause → Option ℕ → Faults
Standing own place = Where (λ at. Rule own at (Unit {0})) place

-- something stands after the first so many
abbrev pub Past : Cause → ℕ → List ℕ → Faults
Past own most places = Standing own (slice_get places most)

-- a 65th of what stands at these places
abbrev pub Beyond : List ℕ → Faults
Beyond places = Past cause.TooMany 64 places

-- the name of an output, and where it is written
abbrev pub item_name : Item → List ℕ
item_name (item.Column column at named_at) = column.column.text
item_name (item.Named value at label) = label.text

-- the first token of an item
abbrev pub item_first : Item → ℕ
item_first (item.Column column at named_at) = at
item_first (item.Named value at label) = at

abbrev pub item_place : Item → ℕ
item_place (item.Column column at named_at) = named_at
item_place (item.Named value at label) = label.at

abbrev pub fault_in : {A : Type 0} → Result A BindFault → Option BindFault
fault_in (Ok kind) = None
fault_in (Err f) = Some f

abbrev pub ItemFaults : Scope → Within → Item → Faults
ItemFaults scope w (item.Column column at named_at) = Told (column_kind scope w column)
ItemFaults scope w (item.Named value at label) = FaultsIn scope w value

-- the faults of SELECT's items, and each second output of one name
abbrev pub ItemsFaults : Scope → Within → List Item → Faults
ItemsFaults scope w items = Either (Each (ItemFaults scope w) items) (Doubled item_name item_place [] items)
