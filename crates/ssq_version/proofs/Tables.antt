-- The entries of a table that finds them by their hashes, in the order of keys.
use Rattle.std.proofs.Common.{◌≡◌, ℕ, suc, ◌≤◌, arith, length, Bool, true, false, true≢false, cond, ◌==◌, nat_eq, Option, Some, None, is_some, IsSome, List, [], ◌∷◌, Ordering, Less, Equal, Greater, refl, sym, ap, ap₂, subst, ◌∙◌}
use Rattle.std.specs.Cmp.{eq_by_cmp_equiv}
use Rattle.std.specs.Cmp.Lexicographic.{nat_list_cmp_total, pointwise, texts_ties}
use Rattle.std.specs.BTreeMap.{is_at, insert_entry}
use Rattle.std.specs.HashMap.{HashMap, IsFromIterResult}
use Rattle.std.specs.List.{AllByRecursion}
use Rattle.std.specs.List.Sorted.{IsStrictlySortedBy}
use Rattle.std.specs.Map.{keys_of, values_of, lookup}
use Rattle.std.specs.Ordering.{match_ordering}
use Rattle.std.proofs.lemmas.List.Elements.{All-from_recursion, recursion_from_All}
use Rattle.std.proofs.lemmas.Map.Keys.{IsDistinct-from_sorted}
use Rattle.std.proofs.lemmas.Map.Made.{update_all_none}
use Rattle.ssq_version.specs.State.{Ascends, IsChangedAt, IsShort, IsState, State, by_bytes, in_order, value_at}
use Rattle.ssq_version.proofs.Collected.{same_entries}
use Rattle.ssq_version.proofs.Leading.{insert_ascends, insert_at}
use Rattle.ssq_version.proofs.LastSaid.{each_has}
use Rattle.ssq_version.proofs.Values.{by_case, either_way, first_at, is_itself, one_key, others_at, whole_rest}

module _ {X : Type 0} where
  -- each key has what it has in the table
  pub order_at : (es : List (List ℕ × X)) (q : List ℕ) → value_at (in_order es) q ≡ value_at es q
  order_at [] q = refl
  order_at (e ∷ es) q = insert_at (in_order es) e.0 e.1 q ∙ ap₂ (λ (b : Bool) (o : Option X). cond b (Some e.1) o) (sym (either_way q e.0)) (order_at es q)

  pub order_ascends : (es : List (List ℕ × X)) → Ascends (in_order es)
  unfolding IsStrictlySortedBy
  order_ascends [] = tt
  order_ascends (e ∷ es) = insert_ascends (in_order es) e.0 e.1 (order_ascends es)

  -- the table's own look-up
  pub same_lookup : (es : List (List ℕ × X)) (q : List ℕ) → lookup (pointwise nat_eq q) es ≡ value_at es q
  same_lookup [] q = refl
  same_lookup (e ∷ es) q = ap₂ (λ (b : Bool) (o : Option X). cond b (Some e.1) o) (texts_ties q e.0) (same_lookup es q)

  pub table_at : (es : List (List ℕ × X)) (q : List ℕ) → lookup (pointwise nat_eq q) es ≡ value_at (in_order es) q
  table_at es q = same_lookup es q ∙ sym (order_at es q)

  -- entries in order that say the same as a table are its entries
  pub ordered_are : (es fs : List (List ℕ × X)) → Ascends fs → ((q : List ℕ) → lookup (pointwise nat_eq q) es ≡ value_at fs q) → in_order es ≡ fs
  ordered_are es fs ascend same = same_entries (in_order es) fs (order_ascends es) ascend (λ q. sym (table_at es q) ∙ same q)

  -- a table that is made of entries in order has these
  pub table_made : {S : Type 0} (es : List (List ℕ × X)) (table : HashMap (List ℕ) X S) → Ascends es → IsFromIterResult (pointwise nat_eq) es table → in_order table.entries ≡ es
  table_made es table ascend is =
      ordered_are table.entries es ascend
      (λ q. is.0 q ∙ update_all_none (eq_by_cmp_equiv nat_list_cmp_total) (pointwise nat_eq) texts_ties es q (IsDistinct-from_sorted by_bytes (keys_of es) ascend))

-- one key has changed
pub table_changed : (key : List ℕ) (value : Option (List ℕ)) (old new : State) → ((q : List ℕ) → lookup (pointwise nat_eq q) new ≡ cond (pointwise nat_eq key q) value (lookup (pointwise nat_eq q) old))
    → IsChangedAt key value (in_order old) (in_order new)
table_changed key value old new updates q =
    sym (table_at new q) ∙ updates q ∙ ap₂ (λ (b : Bool) (o : Option (List ℕ)). cond b value o) (texts_ties key q) (table_at old q)

pub not_there : {X : Type 0} (o : Option X) → o ≡ None → IsSome o → ⊥
not_there None is there = true≢false (sym there)
not_there (Some x) is there = true≢false (ap is_some is)

pub same_some : {X : Type 0} {x y : X} → Some x ≡ Some y → x ≡ y
same_some same = cc

-- ---- keys and values are short

-- an entry of a state
short_at : (es : State) → AllByRecursion IsShort (keys_of es) → AllByRecursion IsShort (values_of es) → (q x : List ℕ) → value_at es q ≡ Some x → IsShort q × IsShort x
short_at [] keys values q x is = absurd cc
short_at (e ∷ es) keys values q x is =
    by_case (is_at (by_bytes q) e.0)
    (λ here. let same : e.1 ≡ x = same_some (sym (first_at e.0 e.1 es q here) ∙ is) in (subst IsShort (sym (one_key q e.0 here)) keys.0, subst IsShort same values.0))
    (λ there. short_at es keys.1 values.1 q x (sym (others_at e.0 e.1 es q there) ∙ is))

pub state_short : (old : State) → IsState old → (q x : List ℕ) → value_at old q ≡ Some x → IsShort q × IsShort x
state_short old kept = short_at old (recursion_from_All IsShort (keys_of old) kept.keys) (recursion_from_All IsShort (values_of old) kept.values)

short_keys : (es : State) → AllByRecursion (λ e. IsShort e.0 × IsShort e.1) es → AllByRecursion IsShort (keys_of es)
short_keys [] all = tt
short_keys (e ∷ es) all = (all.0.0, short_keys es all.1)

short_values : (es : State) → AllByRecursion (λ e. IsShort e.0 × IsShort e.1) es → AllByRecursion IsShort (values_of es)
short_values [] all = tt
short_values (e ∷ es) all = (all.0.1, short_values es all.1)

-- a state is one whose entries are short
pub state_from : (new : State) → Ascends new → ((q x : List ℕ) → value_at new q ≡ Some x → IsShort q × IsShort x) → IsState new
state_from new ascend short =
    let each : AllByRecursion (λ (e : List ℕ × List ℕ). IsShort e.0 × IsShort e.1) new = each_has (λ e. IsShort e.0 × IsShort e.1) new new (whole_rest new new refl ascend) short in
    record {
      ascend = ascend;
      keys = All-from_recursion IsShort (keys_of new) (short_keys new each);
      values = All-from_recursion IsShort (values_of new) (short_values new each);
    }

-- one key has changed in a state
module _ (key : List ℕ) (old new : State) (ascend : Ascends new) where
  changed_short : (value : Option (List ℕ)) → IsChangedAt key value old new → (IsSome value → IsShort key) → ((x : List ℕ) → value ≡ Some x → IsShort x) → IsState old → IsState new
  changed_short value changed short fits kept = state_from new ascend (λ q x at. by (is_at (by_bytes key) q) q x refl (sym (changed q) ∙ at))
    where
      by : (b : Bool) (q x : List ℕ) → is_at (by_bytes key) q ≡ b → cond b value (value_at old q) ≡ Some x → IsShort q × IsShort x
      by true q x here is = (subst IsShort (one_key key q here) (short (ap is_some is)), fits x is)
      by false q x there is = state_short old kept q x is

pub changed_kept : (key : List ℕ) (value : List ℕ) (old new : State) → Ascends new → IsChangedAt key (Some value) old new → IsShort key → IsShort value → IsState old → IsState new
changed_kept key value old new ascend changed short fits = changed_short key old new ascend (Some value) changed (λ _. short) (λ x is. subst IsShort (same_some is) fits)

pub taken_kept : (key : List ℕ) (old new : State) → Ascends new → IsChangedAt key None old new → IsState old → IsState new
taken_kept key old new ascend changed = changed_short key old new ascend None changed (λ there. absurd (true≢false (sym there))) (λ x is. absurd (true≢false (sym (ap is_some is))))

-- ---- how many there are

insert_long : {X : Type 0} (es : List (List ℕ × X)) (k : List ℕ) (x : X) → length (insert_entry by_bytes es k x) ≤ suc (length es)
insert_long [] k x = omega arith
insert_long {X} (e ∷ es) k x = by (by_bytes k e.0) (insert_long es k x)
  where
    by : (r : Ordering) → length (insert_entry by_bytes es k x) ≤ suc (length es) → length (match_ordering r ((k, x) ∷ e ∷ es) ((e.0, x) ∷ es) (e ∷ insert_entry by_bytes es k x)) ≤ suc (suc (length es))
    by Less behind = omega arith
    by Equal behind = omega arith
    by Greater behind = omega (arith, behind)

pub order_long : {X : Type 0} (es : List (List ℕ × X)) → length (in_order es) ≤ length es
order_long [] = omega arith
order_long (e ∷ es) = let one = insert_long (in_order es) e.0 e.1 in let rest = order_long es in omega (arith, one, rest)

not_none : (n : ℕ) → (suc n == 0) ≡ false
not_none n = grind arith

pub order_empty : {X : Type 0} (es : List (List ℕ × X)) → (length es == 0) ≡ (length (in_order es) == 0)
order_empty [] = refl
order_empty {X} (e ∷ es) = by (in_order (e ∷ es)) (order_at (e ∷ es) e.0 ∙ first_at e.0 e.1 es e.0 (is_itself e.0))
  where
    by : (fs : List (List ℕ × X)) → value_at fs e.0 ≡ Some e.1 → (suc (length es) == 0) ≡ (length fs == 0)
    by [] at = absurd (true≢false (sym (ap is_some at)))
    by (f ∷ fs) at = not_none (length es) ∙ sym (not_none (length fs))
