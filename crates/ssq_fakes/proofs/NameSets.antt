-- Sets of names: the order of their keys is the order of names.
use Rattle.std.proofs.Common.{◌≡◌, ◌∷◌, [], ◌∙◌, ◌||◌, List, Ordering, Bool, true, false, get_or, refl, sym, ap, arith}
use Rattle.std.specs.Prelude.{if◌then◌else◌, cond}
use Rattle.std.specs.List.{list_any}
use Rattle.std.specs.List.Sorted.{IsStrictlySortedBy}
use Rattle.std.specs.Ordering.{is_eq, is_lt, is_some_and}
use Rattle.std.specs.declared.cmp.Ordering.TheVariants.{Less}
use Rattle.std.specs.BTreeMap.{is_at}
use Rattle.std.proofs.lemmas.Map.Keys.{Less-from_sorted}
use Rattle.std.proofs.lemmas.Bool.Decides.{nat_tests}
use Rattle.ssq_outside.specs.declared.name.Name.{Name}
use Rattle.ssq_outside.specs.declared.name.Name.TheVariants.{Meta, Plan, Commit, Out, Delta, Snapshot}
use Rattle.ssq_outside.specs.Files.{same_name, name_before}
use Rattle.ssq_outside.specs.contracts.name.NameOrd.TheImpl.{cmp-value}
use Rattle.ssq_outside.specs.contracts.name.NameOrd.TheImpl.Laws.{matches_eq-law, matches_partial_cmp-law}
use Rattle.ssq_outside.proofs.Derived.{same_derived, before_derived}
use Rattle.ssq_fakes.specs.Disks.{has_name}
use Rattle.ssq_fakes.specs.Names.{Lists}
use Rattle.ssq_fakes.proofs.NameLists.{Contains-has_name, has_name-Contains}

-- the order of keys
abbrev pub name_cmp : Name → Name → Ordering
name_cmp = cmp-value.it

same_by_cmp : (m n : Name) → is_eq (name_cmp m n) ≡ same_name m n
same_by_cmp m n = sym (matches_eq-law m n) ∙ same_derived m n

before_by_cmp : (m n : Name) → name_cmp m n ≡ Less → name_before m n ≡ true
before_by_cmp m n less = sym (before_derived m n) ∙ ap (is_some_and is_lt) (matches_partial_cmp-law m n) ∙ ap is_lt less

either_is : (b r : Bool) → (b || r) ≡ (if b then true else r)
either_is true r = refl
either_is false r = refl

-- a set has the names among its keys
pub set_has : (names : List Name) (q : Name) → list_any (is_at (name_cmp q)) names ≡ has_name names q
set_has [] q = refl
set_has (m ∷ ms) q = rw (same_by_cmp q m, set_has ms q) (either_is (same_name q m) (has_name ms q))

same_name-back : (m n : Name) → same_name m n ≡ same_name n m
same_name-back Meta Meta = refl
same_name-back (Plan e) (Plan f) = grind (arith, nat_tests)
same_name-back (Commit e) (Commit f) = grind (arith, nat_tests)
same_name-back (Out e) (Out f) = grind (arith, nat_tests)
same_name-back (Delta p v) (Delta q w) = grind (arith, nat_tests)
same_name-back (Snapshot p v) (Snapshot q w) = grind (arith, nat_tests)
same_name-back _ _ = refl

cond_is : (b r : Bool) → cond b true r ≡ (b || r)
cond_is true r = refl
cond_is false r = refl

-- with one name more
pub set_with : (name q : Name) (old new : List Name) → list_any (is_at (name_cmp q)) new ≡ cond (is_at (name_cmp name) q) true (list_any (is_at (name_cmp q)) old)
    → has_name new q ≡ (same_name q name || has_name old q)
set_with name q old new is =
    sym (set_has new q) ∙ is ∙ rw (same_by_cmp name q, same_name-back name q, set_has old q) (cond_is (same_name q name) (has_name old q))

-- its keys are its names in their order
pub keys_listed : (names : List Name) → IsStrictlySortedBy name_cmp names → Lists (has_name names) names
keys_listed names ordered = record {
  there = λ q among. has_name-Contains names q among.0 among.1 among.2;
  all = Contains-has_name names;
  in_order = λ i j d before below. before_by_cmp (get_or names i d) (get_or names j d) (Less-from_sorted name_cmp names i j d ordered before below);
}
