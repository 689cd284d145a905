-- The keys of groups by their times, through a change, and by a watermark.
use Rattle.std.proofs.Common.{◌≡◌, ◌+◌, ◌++◌, ℕ, ℤ, ◌<ℤ◌, int_le, [], ◌∷◌, Some, None, List, Option, Bool, true, false, refl, ap, sym, subst, ◌∙◌, arith, filter, length}
use Rattle.std.specs.Prelude.{◌&&◌, ◌||◌, if◌then◌else◌, is_some, option_copied}
use Rattle.std.specs.declared.cmp.Ordering.{Ordering}
use Rattle.std.specs.declared.cmp.Ordering.TheVariants.{Less, Equal, Greater}
use Rattle.std.specs.Borrow.{Bor}
use Rattle.std.specs.BTreeMap.{is_at}
use Rattle.std.specs.Cmp.{int_ranks}
use Rattle.std.specs.List.{AllByRecursion}
use Rattle.std.specs.List.Sorted.{IsStrictlySortedBy}
use Rattle.std.specs.Ordering.{MatchOrdering, int_cmp, is_eq, ordering_then}
use Rattle.std.proofs.lemmas.Bool.{and_right}
use Rattle.std.proofs.lemmas.Cmp.{int_cmp_total, tied_itself}
use Rattle.std.proofs.lemmas.Int.{ints}
use Rattle.std.proofs.lemmas.List.{length-append}
use Rattle.std.proofs.lemmas.List.Elements.{filter-append}
use Rattle.ssq_value.specs.Key.{keys_of}
use Rattle.ssq_version.specs.State.{Ascends, State, by_bytes, value_at}
use Rattle.ssq_version.proofs.Values.{IsRest, by_case, less_rest, one_key, whole_rest}
use Rattle.ssq_meaning.specs.Meaning.{Values}
use Rattle.ssq_meaning.specs.Times.{is_past}
use Rattle.ssq_step.specs.Indexing.{AreDueKeys, Indexes, Timed, by_time, has, is_time, stands}

-- ---- orders

then_is : (o p : Ordering) → is_eq (ordering_then o p) ≡ (is_eq o && is_eq p)
then_is Less p = refl
then_is Equal p = refl
then_is Greater p = refl

pub at_time : (s t : Timed) → is_at (by_time s) t ≡ (is_eq (int_cmp s.0 t.0) && is_at (by_bytes s.1) t.1)
at_time s t = then_is (int_cmp s.0 t.0) (by_bytes s.1 t.1)

same_time : (a b : ℤ) → is_eq (int_cmp a b) ≡ true → a ≡ b
same_time a b is = by (int_cmp a b) (int_ranks a b) is
  where
    by : (o : Ordering) → MatchOrdering o (a <ℤ b) (a ≡ b) (b <ℤ a) → is_eq o ≡ true → a ≡ b
    by Less ranks is = absurd cc
    by Equal ranks is = ranks
    by Greater ranks is = absurd cc

time_itself : (a : ℤ) → is_eq (int_cmp a a) ≡ true
time_itself a = ap is_eq (tied_itself int_cmp_total a)

other_time : (a b : ℤ) → is_eq (int_cmp a b) ≡ false → is_eq (int_cmp b a) ≡ false
other_time a b other = by (is_eq (int_cmp b a)) refl
  where
    by : (c : Bool) → is_eq (int_cmp b a) ≡ c → is_eq (int_cmp b a) ≡ false
    by false is = is
    by true is = let no : true ≡ false = sym (time_itself a) ∙ ap (λ t. is_eq (int_cmp a t)) (sym (same_time b a is)) ∙ other in absurd cc

pub and_true : (a b : Bool) → b ≡ true → (a && b) ≡ a
and_true true b is = is
and_true false b is = refl

-- ---- a walk through entries

pub walk_begins : {X P : Type 0} (all left : List (List ℕ × X)) → left ≡ all → Ascends all → P → Unit {0} × Unit {0} × IsRest all left × P
walk_begins all left same ascend known = (tt, tt, whole_rest all left same ascend, known)

pub walk_on : {X P : Type 0} (all left rest : List (List ℕ × X)) (key : List ℕ) (x : X) → left ≡ (key, x) ∷ rest → IsRest all left → P → Unit {0} × Unit {0} × IsRest all rest × P
walk_on all left rest key x step of known = (tt, tt, (less_rest all left rest key x step of).0, known)

-- ---- the index through a change

-- what a key has on the way: what it had, where the change is yet to be followed at it
abbrev pub on_the_way : Option (Option (List ℕ)) → (old new : Option (List ℕ)) → Option (List ℕ)
on_the_way None old new = new
on_the_way (Some said) old new = old

-- ---- what a watermark closes

-- how many of the entries of a key are past
abbrev pub past_of : Option ℤ → List ℕ → List Timed → ℕ
past_of now q entries = length (filter (λ (e : Timed). is_at (by_bytes q) e.1 && is_past now (Some e.0)) entries)

-- the keys so far and those that are left are all that are past
abbrev pub ArePastTo : Option ℤ → (all left : List Timed) → List (List ℕ) → Type 0
ArePastTo now all left keys = (q : List ℕ) → stands q keys + past_of now q left ≡ past_of now q all

pub past_begins : (now : Option ℤ) (all left : List Timed) (keys : List (List ℕ)) → left ≡ all → keys ≡ [] → ArePastTo now all left keys
past_begins now all left keys same none q = (λ i. stands q (none i) + past_of now q (same i)) ∙ zero_add (past_of now q all)
  where
    zero_add : (n : ℕ) → 0 + n ≡ n
    zero_add n = omega arith

pub past_on : (now : Option ℤ) (all left rest : List Timed) (entry : Timed) (keys pushed : List (List ℕ)) → left ≡ entry ∷ rest → is_past now (Some entry.0) ≡ true → pushed ≡ keys ++ entry.1 ∷ []
    → ArePastTo now all left keys → ArePastTo now all rest pushed
past_on now all left rest entry keys pushed step past push was q =
    (λ i. stands q (push i) + past_of now q rest)
    ∙ (λ i. (ap (λ l. length l) (filter-append (is_at (by_bytes q)) keys (entry.1 ∷ [])) ∙ length-append (filter (is_at (by_bytes q)) keys) (filter (is_at (by_bytes q)) (entry.1 ∷ []))) i + past_of now q rest)
    ∙ sum (is_at (by_bytes q) entry.1) (stands q keys) (filter (λ (e : Timed). is_at (by_bytes q) e.1 && is_past now (Some e.0)) rest)
    ∙ (λ i. stands q keys + length (if is_at (by_bytes q) entry.1 && sym past i then entry ∷ filter (λ (e : Timed). is_at (by_bytes q) e.1 && is_past now (Some e.0)) rest else filter (λ (e : Timed). is_at (by_bytes q) e.1 && is_past now (Some e.0)) rest))
    ∙ ap (λ (l : List Timed). stands q keys + past_of now q l) (sym step)
    ∙ was q
  where
    sum : (b : Bool) (n : ℕ) (l : List Timed) → n + length (if b then entry.1 ∷ [] else []) + length l ≡ n + length (if b && true then entry ∷ l else l)
    sum true n l = omega arith
    sum false n l = omega arith

-- a later time is not past either
open_still : (w e f : ℤ) (o p : Ordering) → MatchOrdering o (e <ℤ f) (e ≡ f) (f <ℤ e) → ordering_then o p ≡ Less → int_le e w ≡ false → int_le f w ≡ false
open_still w e f Less p ranks less is = grind (arith, ints)
open_still w e f Equal p ranks less is = ap (λ t. int_le t w) (sym ranks) ∙ is
open_still w e f Greater p ranks less is = absurd cc

none_past : (now : Option ℤ) (entry : Timed) (rest : List Timed) → AllByRecursion (λ other. by_time entry other ≡ Less) rest → is_past now (Some entry.0) ≡ false → (q : List ℕ) → past_of now q rest ≡ 0
none_past None entry rest all is q = by rest
  where
    by : (some : List Timed) → past_of None q some ≡ 0
    by [] = refl
    by (e ∷ some) = ap (λ b. length (if b then e ∷ filter (λ (e : Timed). is_at (by_bytes q) e.1 && is_past None (Some e.0)) some else filter (λ (e : Timed). is_at (by_bytes q) e.1 && is_past None (Some e.0)) some)) (and_right (is_at (by_bytes q) e.1) false refl) ∙ by some
none_past (Some w) entry [] all is q = refl
none_past (Some w) entry (e ∷ rest) all is q =
    ap (λ b. length (if b then e ∷ filter (λ (e : Timed). is_at (by_bytes q) e.1 && is_past (Some w) (Some e.0)) rest else filter (λ (e : Timed). is_at (by_bytes q) e.1 && is_past (Some w) (Some e.0)) rest))
    (and_right (is_at (by_bytes q) e.1) (int_le e.0 w) (open_still w entry.0 e.0 (int_cmp entry.0 e.0) (by_bytes entry.1 e.1) (int_ranks entry.0 e.0) all.0 is))
    ∙ none_past (Some w) entry rest all.1 is q

pub past_ends : (now : Option ℤ) (all left rest : List Timed) (entry : Timed) (keys : List (List ℕ)) → left ≡ entry ∷ rest → IsStrictlySortedBy by_time left → is_past now (Some entry.0) ≡ false → ArePastTo now all left keys
    → (q : List ℕ) → stands q keys ≡ past_of now q all
unfolding IsStrictlySortedBy
past_ends now all left rest entry keys step sorted is was q =
    let none : past_of now q left ≡ 0 =
    ap (past_of now q) step
    ∙ ap (λ b. length (if b then entry ∷ filter (λ (e : Timed). is_at (by_bytes q) e.1 && is_past now (Some e.0)) rest else filter (λ (e : Timed). is_at (by_bytes q) e.1 && is_past now (Some e.0)) rest)) (and_right (is_at (by_bytes q) entry.1) (is_past now (Some entry.0)) is)
    ∙ none_past now entry rest (subst (λ (l : List Timed). IsStrictlySortedBy by_time l) step sorted).0 is q in
    let all_of = was q in
    omega (arith, none, all_of)

pub past_all : (now : Option ℤ) (all left : List Timed) (keys : List (List ℕ)) → left ≡ [] → ArePastTo now all left keys → (q : List ℕ) → stands q keys ≡ past_of now q all
past_all now all left keys none was q = let no : past_of now q left ≡ 0 = ap (past_of now q) none in let all_of = was q in omega (arith, no, all_of)

pub sorted_behind : (entry : Timed) (left rest : List Timed) → left ≡ entry ∷ rest → IsStrictlySortedBy by_time left → IsStrictlySortedBy by_time rest
unfolding IsStrictlySortedBy
sorted_behind entry left rest step sorted = (subst (λ (l : List Timed). IsStrictlySortedBy by_time l) step sorted).1

-- ---- each key that is past is there once

lacks : (entry : Timed) (rest : List Timed) → AllByRecursion (λ other. by_time entry other ≡ Less) rest → has rest entry ≡ false
lacks entry [] all = refl
lacks entry (e ∷ rest) all = ap (λ r. is_eq r || has rest entry) all.0 ∙ lacks entry rest all.1

once_past : (now : Option ℤ) (q : List ℕ) (time : Option ℤ) (alive : Bool) (entries : List Timed) → IsStrictlySortedBy by_time entries → ((t : ℤ) → has entries (t, q) ≡ (alive && is_time t time))
    → past_of now q entries ≡ (if alive && is_past now time then 1 else 0)
unfolding IsStrictlySortedBy
once_past now q time alive [] sorted is = by alive time is
  where
    by : (b : Bool) (o : Option ℤ) → ((t : ℤ) → false ≡ (b && is_time t o)) → ◌≡◌ {A = ℕ} 0 (if b && is_past now o then 1 else 0)
    by false o is = refl
    by true None is = none now
      where
        none : (now : Option ℤ) → ◌≡◌ {A = ℕ} 0 (if is_past now None then 1 else 0)
        none None = refl
        none (Some w) = refl
    by true (Some s) is = let no : false ≡ true = is s ∙ time_itself s in absurd cc
once_past now q time alive (entry ∷ rest) sorted is = by_case (is_at (by_bytes q) entry.1) (here (λ alive rest_is. once_past now q time alive rest sorted.1 rest_is)) (there (λ alive rest_is. once_past now q time alive rest sorted.1 rest_is))
  where
    here : ((alive : Bool) → ((t : ℤ) → has rest (t, q) ≡ (alive && is_time t time)) → past_of now q rest ≡ (if alive && is_past now time then 1 else 0))
        → is_at (by_bytes q) entry.1 ≡ true → past_of now q (entry ∷ rest) ≡ (if alive && is_past now time then 1 else 0)
    here next at = by alive time refl refl (sym there_is ∙ is entry.0)
      where
        there_is : (is_at (by_time (entry.0, q)) entry || has rest (entry.0, q)) ≡ true
        there_is = ap (λ b. b || has rest (entry.0, q)) (at_time (entry.0, q) entry ∙ (λ i. time_itself entry.0 i && at i))

        one : q ≡ entry.1
        one = one_key q entry.1 at

        none_left : (s : ℤ) → time ≡ Some s → s ≡ entry.0 → (t : ℤ) → has rest (t, q) ≡ (false && is_time t time)
        none_left s time_is same t =
            by_case (is_eq (int_cmp t entry.0))
            (λ now_is. (λ i. has rest (same_time t entry.0 now_is i, one i)) ∙ lacks entry rest sorted.0)
            (λ other.
            ap (λ b. b || has rest (t, q)) (sym (at_time (t, q) entry ∙ ap (λ b. b && is_at (by_bytes q) entry.1) other))
            ∙ is t
            ∙ ap (λ o. alive && is_time t o) (time_is ∙ ap (λ z. Some z) same)
            ∙ and_right alive (is_eq (int_cmp entry.0 t)) (other_time t entry.0 other))

        by : (b : Bool) (o : Option ℤ) → alive ≡ b → time ≡ o → true ≡ (b && is_time entry.0 o) → past_of now q (entry ∷ rest) ≡ (if alive && is_past now time then 1 else 0)
        by false o alive_is time_is holds = absurd cc
        by true None alive_is time_is holds = absurd cc
        by true (Some s) alive_is time_is holds =
            let same : s ≡ entry.0 = same_time s entry.0 (sym holds) in
            let none : past_of now q rest ≡ 0 = next false (none_left s time_is same) in
            ap (λ b. length (if b && is_past now (Some entry.0) then entry ∷ filter (λ (e : Timed). is_at (by_bytes q) e.1 && is_past now (Some e.0)) rest else filter (λ (e : Timed). is_at (by_bytes q) e.1 && is_past now (Some e.0)) rest)) at
            ∙ count (is_past now (Some entry.0)) none
            ∙ (λ i. if sym alive_is i && is_past now (sym (time_is ∙ ap (λ z. Some z) same) i) then 1 else 0)
          where
            count : (p : Bool) → past_of now q rest ≡ 0 → length (if p then entry ∷ filter (λ (e : Timed). is_at (by_bytes q) e.1 && is_past now (Some e.0)) rest else filter (λ (e : Timed). is_at (by_bytes q) e.1 && is_past now (Some e.0)) rest) ≡ (if p then 1 else 0)
            count true none = omega (arith, none)
            count false none = none

    there : ((alive : Bool) → ((t : ℤ) → has rest (t, q) ≡ (alive && is_time t time)) → past_of now q rest ≡ (if alive && is_past now time then 1 else 0))
        → is_at (by_bytes q) entry.1 ≡ false → past_of now q (entry ∷ rest) ≡ (if alive && is_past now time then 1 else 0)
    there next apart =
        ap (λ b. length (if b && is_past now (Some entry.0) then entry ∷ filter (λ (e : Timed). is_at (by_bytes q) e.1 && is_past now (Some e.0)) rest else filter (λ (e : Timed). is_at (by_bytes q) e.1 && is_past now (Some e.0)) rest)) apart
        ∙ next alive (λ t. ap (λ b. b || has rest (t, q)) (sym (at_time (t, q) entry ∙ and_right (is_eq (int_cmp t entry.0)) (is_at (by_bytes q) entry.1) apart)) ∙ is t)

pub due_are : (size : ℕ) (time_of : Values → Option ℤ) (state : State) (now : Option ℤ) (all : List Timed) (keys : List (List ℕ)) → IsStrictlySortedBy by_time all → Indexes size time_of state all
    → ((q : List ℕ) → stands q keys ≡ past_of now q all) → AreDueKeys size time_of state now keys
due_are size time_of state now all keys sorted indexes stand key readable =
    stand (keys_of key) ∙ once_past now (keys_of key) (time_of key) (is_some (value_at state (keys_of key))) all sorted (indexes key readable)

-- the same of one key, by what stands at it
pub due_at : (now : Option ℤ) (all : List Timed) (keys : List (List ℕ)) → IsStrictlySortedBy by_time all → ((q : List ℕ) → stands q keys ≡ past_of now q all)
    → (key : List ℕ) (time : Option ℤ) → ((t : ℤ) → has all (t, key) ≡ is_time t time) → stands key keys ≡ (if is_past now time then 1 else 0)
due_at now all keys sorted stand key time stands_at = stand key ∙ once_past now key time true all sorted stands_at

pub copied_some : {A : Type 0} (o : Option (Bor A)) → is_some o ≡ is_some (option_copied o)
copied_some None = refl
copied_some (Some x) = refl
