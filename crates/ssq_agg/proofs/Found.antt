-- The groups that are read are those that the state holds.
use Rattle.std.proofs.Common.{◌≡◌, ◌≤◌, ◌+◌, ◌++◌, ℕ, suc, ℤ, [], ◌∷◌, Some, None, List, Option, Bool, true, false, refl, ap, sym, subst, ◌∙◌, arith, filter, map, length}
use Rattle.std.specs.Prelude.{◌&&◌, if◌then◌else◌, is_some, option_map, option_to_list}
use Rattle.std.specs.BTreeMap.{is_at}
use Rattle.std.specs.List.{AllByRecursion, cons_option}
use Rattle.std.specs.List.Sorted.{IsStrictlySortedBy}
use Rattle.std.proofs.lemmas.List.{map-append}
use Rattle.ssq_value.specs.Key.{keys_of}
use Rattle.ssq_version.specs.State.{State, Ascends, by_bytes, value_at}
use Rattle.ssq_version.proofs.Values.{by_case, one_key, first_at, others_at, is_itself, none_behind}
use Rattle.ssq_shape.specs.declared.bound.Bound.{Bound}
use Rattle.ssq_shape.specs.declared.bound.Grouping.{Grouping}
use Rattle.ssq_meaning.specs.FedRows.{FedRow}
use Rattle.ssq_meaning.specs.declared.total.Total.{Total}
use Rattle.ssq_meaning.specs.Group.{closing_time, is_same, members}
use Rattle.ssq_meaning.specs.GroupLaws.{times}
use Rattle.ssq_meaning.specs.Meaning.{Values}
use Rattle.ssq_meaning.specs.Times.{is_past}
use Rattle.ssq_meaning.specs.Totals.{totals_bytes}
use Rattle.ssq_meaning.proofs.Bags.{times-append}
use Rattle.ssq_meaning.proofs.Keys.{same_is, same_itself}
use Rattle.ssq_step.proofs.ByBytes.{spelled_key}
use Rattle.ssq_agg.specs.declared.kept.Group.{Group}
use Rattle.ssq_agg.specs.Closed.{AreAll, AreClosed, is_ended}
use Rattle.ssq_agg.specs.Groups.{Held, touched}
use Rattle.ssq_agg.specs.Holding.{AreDueKeys, AreRead, Entry, Holds, IsGroupOf, IsRead, entries_at, entry_at, stands}
use Rattle.ssq_agg.specs.Readable.{IsKey}
use Rattle.ssq_agg.specs.Steps.{AreKeys, keys_of_groups}

-- the keys of entries
abbrev pub heads : List Entry → List (List ℕ)
heads entries = map (λ (entry : Entry). entry.0) entries

-- the state has each of the entries
abbrev pub AreIn : State → List Entry → Type 0
AreIn state entries = AllByRecursion (λ (entry : Entry). value_at state entry.0 ≡ Some entry.1) entries

abbrev as_group : Values → List Total → Group
as_group key totals = record { key = key; totals = totals }

-- ---- one entry

module _ (grouping : Grouping) (state : State) (own : Held) (holds : Holds grouping state own) where
  -- a group that the state holds stands in the entry under its key
  stands_in : (entry : Entry) (key : Values) (totals : List Total) → value_at state entry.0 ≡ Some entry.1 → own key ≡ Some totals → keys_of key ≡ entry.0 → IsGroupOf grouping entry (as_group key totals)
  stands_in entry key totals there held same =
      let readable = holds.readable key totals held in
      let bytes : Some (totals_bytes totals) ≡ Some entry.1 =
      ap (option_map totals_bytes) (sym held) ∙ sym (holds.found key (spelled_key (length grouping.keys) key readable.key_is)) ∙ ap (value_at state) same ∙ there in
      record { readable = readable; key_is = same; totals_are = cc }

  -- and the group that is read from an entry is held
  is_held : (entry : Entry) (group : Group) → value_at state entry.0 ≡ Some entry.1 → IsRead grouping entry (Some group) → own group.key ≡ Some group.totals
  is_held entry group there is = by (own group.key) refl
    where
      bytes : option_map totals_bytes (own group.key) ≡ Some (totals_bytes group.totals)
      bytes =
          sym (holds.found group.key (spelled_key (length grouping.keys) group.key is.some.readable.key_is))
          ∙ ap (value_at state) is.some.key_is ∙ there ∙ ap (λ v. Some v) (sym is.some.totals_are)

      by : (o : Option (List Total)) → own group.key ≡ o → own group.key ≡ Some group.totals
      by None held = let no : None ≡ Some (totals_bytes group.totals) = ap (option_map totals_bytes) (sym held) ∙ bytes in absurd cc
      by (Some totals) held =
          let found = is.each (as_group group.key totals) (stands_in entry group.key totals there held is.some.key_is) in
          let same : group.totals ≡ totals = cc in
          held ∙ ap (λ t. Some t) (sym same)

  -- how often a key is there
  one_of : (entry : Entry) (found : Option Group) (key : Values) → value_at state entry.0 ≡ Some entry.1 → IsRead grouping entry found
      → times key (keys_of_groups (option_to_list found)) ≡ (if is_some (own key) then (if is_at (by_bytes (keys_of key)) entry.0 then 1 else 0) else 0)
  one_of entry found key there is = by (own key) refl (is_at (by_bytes (keys_of key)) entry.0) refl found is
    where
      by : (o : Option (List Total)) → own key ≡ o → (at : Bool) → is_at (by_bytes (keys_of key)) entry.0 ≡ at → (found : Option Group) → IsRead grouping entry found
          → times key (keys_of_groups (option_to_list found)) ≡ (if is_some o then (if at then 1 else 0) else 0)
      by None held at at_is None is = refl
      by None held at at_is (Some group) is = other (is_same key group.key) refl
        where
          other : (b : Bool) → is_same key group.key ≡ b → length (if b then group.key ∷ [] else []) ≡ 0
          other false same = refl
          other true same = let no : None ≡ Some group.totals = sym held ∙ ap own (same_is key group.key same) ∙ is_held entry group there is in absurd cc
      by (Some totals) held true at_is None is =
          let no : ◌≡◌ {A = Option Group} None (Some (as_group key totals)) = is.each (as_group key totals) (stands_in entry key totals there held (one_key (keys_of key) entry.0 at_is)) in absurd cc
      by (Some totals) held true at_is (Some group) is =
          let found : Some group ≡ Some (as_group key totals) = is.each (as_group key totals) (stands_in entry key totals there held (one_key (keys_of key) entry.0 at_is)) in
          let same : group ≡ as_group key totals = cc in
          ap (λ (b : Bool). length (if b then group.key ∷ [] else [])) (ap (λ (g : Group). is_same key g.key) same ∙ same_itself key)
      by (Some totals) held false at_is None is = refl
      by (Some totals) held false at_is (Some group) is = other (is_same key group.key) refl
        where
          other : (b : Bool) → is_same key group.key ≡ b → length (if b then group.key ∷ [] else []) ≡ 0
          other false same = refl
          other true same =
              let no : true ≡ false = sym (is_itself entry.0) ∙ ap (λ k. is_at (by_bytes k) entry.0) (sym is.some.key_is ∙ ap keys_of (sym (same_is key group.key same))) ∙ at_is in absurd cc

  -- ---- all of them

  pub are_held : (entries : List Entry) (groups : List Group) → AreIn state entries → AreRead grouping entries groups → AllByRecursion (λ (group : Group). own group.key ≡ Some group.totals) groups
  are_held [] groups are read = subst (AllByRecursion (λ (group : Group). own group.key ≡ Some group.totals)) (sym read) tt
  are_held (entry ∷ entries) groups are read = subst (AllByRecursion (λ (group : Group). own group.key ≡ Some group.totals)) (sym read.2) (by read.0 read.3 (are_held entries read.1 are.1 read.4))
    where
      by : (found : Option Group) → IsRead grouping entry found → AllByRecursion (λ (group : Group). own group.key ≡ Some group.totals) read.1
          → AllByRecursion (λ (group : Group). own group.key ≡ Some group.totals) (option_to_list found ++ read.1)
      by None is rest = rest
      by (Some group) is rest = (is_held entry group are.0 is, rest)

  pub held_times : (entries : List Entry) (groups : List Group) → AreIn state entries → AreRead grouping entries groups → (key : Values)
      → times key (keys_of_groups groups) ≡ (if is_some (own key) then stands (keys_of key) (heads entries) else 0)
  held_times [] groups are read key = ap (λ l. times key (keys_of_groups l)) read ∙ none (is_some (own key))
    where
      none : (b : Bool) → ◌≡◌ {A = ℕ} 0 (if b then 0 else 0)
      none true = refl
      none false = refl
  held_times (entry ∷ entries) groups are read key =
      ap (λ l. times key (keys_of_groups l)) read.2
      ∙ ap (times key) (map-append (λ (group : Group). group.key) (option_to_list read.0) read.1)
      ∙ times-append key (keys_of_groups (option_to_list read.0)) (keys_of_groups read.1)
      ∙ (λ i. one_of entry read.0 key are.0 read.3 i + held_times entries read.1 are.1 read.4 key i)
      ∙ sum (is_some (own key)) (is_at (by_bytes (keys_of key)) entry.0) (filter (is_at (by_bytes (keys_of key))) (heads entries))
    where
      sum : (b at : Bool) (rest : List (List ℕ)) → ◌≡◌ {A = ℕ} ((if b then (if at then 1 else 0) else 0) + (if b then length rest else 0)) (if b then length (if at then entry.0 ∷ rest else rest) else 0)
      sum true true rest = omega arith
      sum true false rest = omega arith
      sum false at rest = omega arith

-- ---- all that a state holds

in_itself : (state : State) → Ascends state → (all : State) → ((q : List ℕ) (v : List ℕ) → value_at state q ≡ Some v → value_at all q ≡ Some v) → AreIn all state
unfolding IsStrictlySortedBy
in_itself [] ascend all among = tt
in_itself (entry ∷ state) ascend all among = (
  among entry.0 entry.1 (first_at entry.0 entry.1 state entry.0 (is_itself entry.0)),
  in_itself state ascend.1 all (λ q v has. by_case (is_at (by_bytes q) entry.0)
      (λ at. absurd (gone q v at has))
      (λ apart. among q v (others_at entry.0 entry.1 state q apart ∙ has))),
)
  where
    gone : (q v : List ℕ) → is_at (by_bytes q) entry.0 ≡ true → value_at state q ≡ Some v → ⊥
    gone q v at has = let no : None ≡ Some v = sym (none_behind entry.0 entry.1 state ascend) ∙ ap (value_at state) (sym (one_key q entry.0 at)) ∙ has in absurd cc

stands_once : (state : State) → Ascends state → (q : List ℕ) → stands q (heads state) ≡ (if is_some (value_at state q) then 1 else 0)
unfolding IsStrictlySortedBy
stands_once [] ascend q = refl
stands_once (entry ∷ state) ascend q = by (is_at (by_bytes q) entry.0) refl (stands_once state ascend.1 q)
  where
    by : (b : Bool) → is_at (by_bytes q) entry.0 ≡ b → stands q (heads state) ≡ (if is_some (value_at state q) then 1 else 0)
        → length (if b then entry.0 ∷ filter (is_at (by_bytes q)) (heads state) else filter (is_at (by_bytes q)) (heads state)) ≡ (if is_some (if b then Some entry.1 else value_at state q) then 1 else 0)
    by true at rest =
        let none : stands q (heads state) ≡ 0 = rest ∙ ap (λ o. if is_some o then 1 else 0) (ap (value_at state) (one_key q entry.0 at) ∙ none_behind entry.0 entry.1 state ascend) in
        omega (arith, none)
    by false apart rest = rest

held_there : (grouping : Grouping) (state : State) (own : Held) (holds : Holds grouping state own) (key : Values) (totals : List Total) → own key ≡ Some totals → value_at state (keys_of key) ≡ Some (totals_bytes totals)
held_there grouping state own holds key totals held =
    holds.found key (spelled_key (length grouping.keys) key (holds.readable key totals held).key_is) ∙ ap (option_map totals_bytes) held

each_there : (own : Held) (groups : List Group) → AllByRecursion (λ (group : Group). own group.key ≡ Some group.totals) groups
    → AllByRecursion (λ (group : Group). (own group.key ≡ Some group.totals) × (is_some (own group.key) ≡ true)) groups
each_there own [] all = tt
each_there own (group ∷ groups) all = ((all.0, ap is_some all.0), each_there own groups all.1)

pub all_are : (grouping : Grouping) (state : State) (own : Held) (groups : List Group) → Ascends state → Holds grouping state own → AreRead grouping state groups → AreAll own groups
all_are grouping state own groups ascend holds read =
    let inside = in_itself state ascend state (λ q v has. has) in
    record {
      each = each_there own groups (are_held grouping state own holds state groups inside read);
      once = λ key. held_times grouping state own holds state groups inside read key ∙ by key (own key) refl;
    }
  where
    by : (key : Values) (o : Option (List Total)) → own key ≡ o → (if is_some o then stands (keys_of key) (heads state) else 0) ≡ (if is_some o then 1 else 0)
    by key None held = refl
    by key (Some totals) held = stands_once state ascend (keys_of key) ∙ ap (λ o. if is_some o then 1 else 0) (held_there grouping state own holds key totals held)

-- ---- and those under some keys

in_at : (state : State) (keys : List (List ℕ)) → AreIn state (entries_at state keys)
in_at state [] = tt
in_at state (key ∷ keys) = by (value_at state key) refl (in_at state keys)
  where
    by : (o : Option (List ℕ)) → value_at state key ≡ o → AreIn state (entries_at state keys) → AreIn state (cons_option (entry_at key o) (entries_at state keys))
    by None is rest = rest
    by (Some value) is rest = (is, rest)

stands_at : (state : State) (keys : List (List ℕ)) (q : List ℕ) → stands q (heads (entries_at state keys)) ≡ (if is_some (value_at state q) then stands q keys else 0)
stands_at state [] q = none (is_some (value_at state q))
  where
    none : (b : Bool) → ◌≡◌ {A = ℕ} 0 (if b then 0 else 0)
    none true = refl
    none false = refl
stands_at state (key ∷ keys) q = by (value_at state key) refl (is_at (by_bytes q) key) refl (stands_at state keys q)
  where
    by : (o : Option (List ℕ)) → value_at state key ≡ o → (b : Bool) → is_at (by_bytes q) key ≡ b → stands q (heads (entries_at state keys)) ≡ (if is_some (value_at state q) then stands q keys else 0)
        → stands q (heads (cons_option (entry_at key o) (entries_at state keys))) ≡ (if is_some (value_at state q) then length (if b then key ∷ filter (is_at (by_bytes q)) keys else filter (is_at (by_bytes q)) keys) else 0)
    by None is true at rest =
        let none : value_at state q ≡ None = ap (value_at state) (one_key q key at) ∙ is in
        rest ∙ ap (λ o. if is_some o then stands q keys else 0) none ∙ ap (λ o. if is_some o then length (key ∷ filter (is_at (by_bytes q)) keys) else 0) (sym none)
    by None is false apart rest = rest
    by (Some value) is true at rest =
        let there : value_at state q ≡ Some value = ap (value_at state) (one_key q key at) ∙ is in
        ap (λ b. length (if b then key ∷ filter (is_at (by_bytes q)) (heads (entries_at state keys)) else filter (is_at (by_bytes q)) (heads (entries_at state keys)))) at
        ∙ ap (λ n. suc n) (rest ∙ ap (λ o. if is_some o then stands q keys else 0) there)
        ∙ ap (λ o. if is_some o then length (key ∷ filter (is_at (by_bytes q)) keys) else 0) (sym there)
    by (Some value) is false apart rest =
        ap (λ b. length (if b then key ∷ filter (is_at (by_bytes q)) (heads (entries_at state keys)) else filter (is_at (by_bytes q)) (heads (entries_at state keys)))) apart ∙ rest

-- each of some keys stands among them
counted : (one : Values) (others : List Values) (key : Values) → 1 ≤ times key others → 1 ≤ times key (one ∷ others)
counted one others key some = by (is_same key one)
  where
    by : (b : Bool) → 1 ≤ length (if b then one ∷ filter (is_same key) others else filter (is_same key) others)
    by true = omega arith
    by false = some

each_counted : (groups : List Group) → AllByRecursion (λ (group : Group). 1 ≤ times group.key (keys_of_groups groups)) groups
each_counted [] = tt
each_counted (group ∷ groups) = (
  (let is : times group.key (keys_of_groups (group ∷ groups)) ≡ suc (times group.key (keys_of_groups groups)) = ap (λ b. length (if b then group.key ∷ filter (is_same group.key) (keys_of_groups groups) else filter (is_same group.key) (keys_of_groups groups))) (same_itself group.key) in
      omega (arith, is)),
  more groups (each_counted groups),
)
  where
    more : (some : List Group) → AllByRecursion (λ (other : Group). 1 ≤ times other.key (keys_of_groups groups)) some → AllByRecursion (λ (other : Group). 1 ≤ times other.key (keys_of_groups (group ∷ groups))) some
    more [] all = tt
    more (other ∷ some) all = (counted group.key (keys_of_groups groups) other.key all.0, more some all.1)

both_each : (own : Held) (is_one : Values → Bool) (all : List Values) → ((key : Values) → times key all ≡ (if is_one key then 1 else 0)) → (groups : List Group)
    → AllByRecursion (λ (group : Group). own group.key ≡ Some group.totals) groups → AllByRecursion (λ (group : Group). 1 ≤ times group.key all) groups
    → AllByRecursion (λ (group : Group). (own group.key ≡ Some group.totals) × (is_one group.key ≡ true)) groups
both_each own is_one all once [] held some = tt
both_each own is_one all once (group ∷ groups) held some = ((held.0, by (is_one group.key) (once group.key)), both_each own is_one all once groups held.1 some.1)
  where
    by : (b : Bool) → times group.key all ≡ (if b then 1 else 0) → b ≡ true
    by true is = refl
    by false is = absurd (omega (arith, is, some.0))

pub closed_are : (query : Bound) (grouping : Grouping) (state : State) (own : Held) (now : Option ℤ) (keys : List (List ℕ)) (groups : List Group) → Holds grouping state own → AreDueKeys query grouping state now keys
    → AreRead grouping (entries_at state keys) groups → AreClosed own (closing_time query grouping) now groups
closed_are query grouping state own now keys groups holds due read = record {
  each = both_each own (λ key. is_ended now (closing_time query grouping key) (own key)) (keys_of_groups groups) once groups (are_held grouping state own holds (entries_at state keys) groups (in_at state keys) read) (each_counted groups);
  once = once;
}
  where
    by : (key : Values) (o : Option (List Total)) → own key ≡ o → (if is_some o then stands (keys_of key) (heads (entries_at state keys)) else 0) ≡ (if is_ended now (closing_time query grouping key) o then 1 else 0)
    by key None held = refl
    by key (Some totals) held =
        let there = held_there grouping state own holds key totals held in
        stands_at state keys (keys_of key)
        ∙ ap (λ o. if is_some o then stands (keys_of key) keys else 0) there
        ∙ due key (holds.readable key totals held).key_is
        ∙ ap (λ o. if is_some o && is_past now (closing_time query grouping key) then 1 else 0) there

    once : (key : Values) → times key (keys_of_groups groups) ≡ (if is_ended now (closing_time query grouping key) (own key) then 1 else 0)
    once key = held_times grouping state own holds (entries_at state keys) groups (in_at state keys) read key ∙ by key (own key) refl

-- ---- the keys

-- those of groups that are held
pub held_keys : (grouping : Grouping) (state : State) (own : Held) (is_one : Values → Bool) (groups : List Group) → Holds grouping state own
    → AllByRecursion (λ (group : Group). (own group.key ≡ Some group.totals) × (is_one group.key ≡ true)) groups → AreKeys (length grouping.keys) (keys_of_groups groups)
held_keys grouping state own is_one [] holds each = tt
held_keys grouping state own is_one (group ∷ groups) holds each =
    (spelled_key (length grouping.keys) group.key (holds.readable group.key group.totals each.0.0).key_is, held_keys grouping state own is_one groups holds each.1)

has_row : (grouping : Grouping) (key : Values) (rows : List FedRow) (first : Values) (rest : List Values) → AllByRecursion (λ (row : FedRow). IsKey grouping row.key) rows → members rows key ≡ first ∷ rest → IsKey grouping key
has_row grouping key [] first rest all is = absurd cc
has_row grouping key (row ∷ rows) first rest all is = by (is_same key row.key) refl (has_row grouping key rows first rest all.1)
  where
    by : (b : Bool) → is_same key row.key ≡ b → (members rows key ≡ first ∷ rest → IsKey grouping key) → IsKey grouping key
    by true same other = subst (IsKey grouping) (sym (same_is key row.key same)) all.0
    by false same other = other (ap (λ b. map (λ (row : FedRow). row.values) (if b then row ∷ filter (λ row. is_same key row.key) rows else filter (λ row. is_same key row.key) rows)) (sym same) ∙ is)

-- those of the epoch's rows
pub touched_keys : (grouping : Grouping) (own : Held) (rows : List FedRow) (key : Values) (totals : List Total) → AllByRecursion (λ (row : FedRow). IsKey grouping row.key) rows
    → touched grouping.aggregates (own key) (members rows key) ≡ Some totals → IsKey grouping key
touched_keys grouping own rows key totals all is = by (members rows key) refl is
  where
    by : (some : List Values) → members rows key ≡ some → touched grouping.aggregates (own key) some ≡ Some totals → IsKey grouping key
    by [] none there = let no : None ≡ Some totals = there in absurd cc
    by (first ∷ rest) has there = has_row grouping key rows first rest all has
