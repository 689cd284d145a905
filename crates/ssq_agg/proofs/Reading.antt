-- Groups that are read out of entries, one after the other.
use Rattle.std.proofs.Common.{◌≡◌, ◌<◌, ◌+◌, ◌++◌, ℕ, [], ◌∷◌, Some, None, List, Option, refl, ap, sym, subst, ◌∙◌, take, length, get_or, append_assoc, append-nil}
use Rattle.std.specs.Prelude.{option_to_list}
use Rattle.std.specs.Borrow.{Bor}
use Rattle.std.specs.List.{cons_option}
use Rattle.std.proofs.lemmas.List.{map-append}
use Rattle.ssq_version.specs.State.{State, value_at}
use Rattle.ssq_shape.specs.declared.bound.Grouping.{Grouping}
use Rattle.ssq_step.proofs.Lists.{one_more}
use Rattle.ssq_agg.specs.declared.kept.Group.{Group}
use Rattle.ssq_agg.specs.Holding.{Entry, Adds, IsRead, AreRead, entry_at, entries_at, seen}

-- one entry more
entry_more : (grouping : Grouping) (entries : List Entry) (entry : Entry) (groups : List Group) (found : Option Group) → AreRead grouping entries groups → IsRead grouping entry found
    → AreRead grouping (entries ++ entry ∷ []) (groups ++ option_to_list found)
entry_more grouping [] entry groups found are is = (found, [], ap (λ l. l ++ option_to_list found) are ∙ sym (append-nil (option_to_list found)), is, refl)
entry_more grouping (first ∷ entries) entry groups found are is =
    let rest = entry_more grouping entries entry are.1 found are.4 is in
    (are.0, are.1 ++ option_to_list found, ap (λ l. l ++ option_to_list found) are.2 ∙ append_assoc (option_to_list are.0) are.1 (option_to_list found), are.3, rest)

-- the groups of the entries in front of those that are left
pub record IsReadTo (grouping : Grouping) (all left : List Entry) (groups : List Group) : Type 0 where
  pub done : List Entry
  pub parts : done ++ left ≡ all
  pub are : AreRead grouping done groups

pub read_begins : (grouping : Grouping) (all left : List Entry) (groups : List Group) → left ≡ all → groups ≡ [] → IsReadTo grouping all left groups
read_begins grouping all left groups same none = record { done = []; parts = same; are = none }

pub read_on : (grouping : Grouping) (all left rest : List Entry) (entry : Entry) (groups pushed : List Group) → left ≡ entry ∷ rest → Adds grouping entry groups pushed
    → IsReadTo grouping all left groups → IsReadTo grouping all rest pushed
read_on grouping all left rest entry groups pushed step adds was = record {
  done = was.done ++ entry ∷ [];
  parts = append_assoc was.done (entry ∷ []) rest ∙ ap (λ l. was.done ++ l) (sym step) ∙ was.parts;
  are = subst (AreRead grouping (was.done ++ entry ∷ [])) (sym adds.1) (entry_more grouping was.done entry groups adds.0 was.are adds.2);
}

pub read_all : (grouping : Grouping) (all left : List Entry) (groups : List Group) → left ≡ [] → IsReadTo grouping all left groups → AreRead grouping all groups
read_all grouping all left groups none was =
    subst (λ l. AreRead grouping l groups) (sym (append-nil was.done) ∙ ap (λ l. was.done ++ l) (sym none) ∙ was.parts) was.are

-- ---- under keys

entries_append : (state : State) (keys more : List (List ℕ)) → entries_at state (keys ++ more) ≡ entries_at state keys ++ entries_at state more
entries_append state [] more = refl
entries_append state (key ∷ keys) more = by (entry_at key (value_at state key)) (entries_append state keys more)
  where
    by : (entry : Option Entry) → entries_at state (keys ++ more) ≡ entries_at state keys ++ entries_at state more
        → cons_option entry (entries_at state (keys ++ more)) ≡ cons_option entry (entries_at state keys) ++ entries_at state more
    by None rest = rest
    by (Some entry) rest = ap (λ l. entry ∷ l) rest

module _ (state : State) (keys : List (Bor (List ℕ))) (at : ℕ) (key : Bor (List ℕ)) (inside : at < length keys) (is : key ≡ get_or keys at key) where
  seen_more : entries_at state (seen (take (at + 1) keys)) ≡ entries_at state (seen (take at keys)) ++ cons_option (entry_at key.now (value_at state key.now)) []
  seen_more =
      ap (λ l. entries_at state (seen l)) (one_more keys at key inside is)
      ∙ ap (entries_at state) (map-append (λ (key : Bor (List ℕ)). key.now) (take at keys) (key ∷ []))
      ∙ entries_append state (seen (take at keys)) (key.now ∷ [])

  -- a key under which there is nothing
  pub none_at : (grouping : Grouping) (groups : List Group) → value_at state key.now ≡ None → AreRead grouping (entries_at state (seen (take at keys))) groups
      → AreRead grouping (entries_at state (seen (take (at + 1) keys))) groups
  none_at grouping groups none was =
      subst (λ l. AreRead grouping l groups)
      (sym (append-nil (entries_at state (seen (take at keys)))) ∙ ap (λ o. entries_at state (seen (take at keys)) ++ cons_option (entry_at key.now o) []) (sym none) ∙ sym seen_more) was

  -- and one under which there is an entry
  pub some_at : (grouping : Grouping) (groups pushed : List Group) (value : List ℕ) → value_at state key.now ≡ Some value → Adds grouping (key.now, value) groups pushed
      → AreRead grouping (entries_at state (seen (take at keys))) groups → AreRead grouping (entries_at state (seen (take (at + 1) keys))) pushed
  some_at grouping groups pushed value there adds was =
      subst (λ l. AreRead grouping l pushed) (ap (λ o. entries_at state (seen (take at keys)) ++ cons_option (entry_at key.now o) []) (sym there) ∙ sym seen_more)
      (subst (AreRead grouping (entries_at state (seen (take at keys)) ++ (key.now, value) ∷ [])) (sym adds.1)
      (entry_more grouping (entries_at state (seen (take at keys))) (key.now, value) groups adds.0 was adds.2))
