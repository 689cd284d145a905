-- The change between two states.
use Rattle.std.proofs.Common.{◌≡◌, ℕ, suc, ◌≤◌, arith, length, Bool, true, false, true≢false, cond, is_some, is_eq, Ordering, Less, Equal, Greater, Option, Some, None, option_map, map, filter, All, List, [], ◌∷◌, refl, sym, ap, subst, ◌∙◌}
use Rattle.std.specs.List.{AllByRecursion}
use Rattle.std.specs.List.Sorted.{IsStrictlySortedBy}
use Rattle.std.specs.Ordering.{match_ordering, ordering_reverse}
use Rattle.std.specs.Cmp.Lexicographic.{nat_list_cmp_total}
use Rattle.std.specs.BTreeMap.{is_at, insert_entry}
use Rattle.std.specs.Map.{keys_of, values_of}
use Rattle.std.proofs.lemmas.List.Elements.{All-from_recursion, recursion_from_All}
use Rattle.std.proofs.lemmas.Map.Lookups.{exact_bytes}
use Rattle.ssq_version.specs.State.{State, Change, by_bytes, Ascends, value_at, value_after, IsShort, IsShortOrNone, IsState, IsChange, IsAfter, IsBetween, is_news, news, said_of, with_gone, between}
use Rattle.ssq_version.proofs.Kept.{kept_inserted}
use Rattle.ssq_version.proofs.Listing.{below_all}
use Rattle.ssq_version.proofs.Spelled.{keys_said}
use Rattle.ssq_version.proofs.Values.{by_case, one_key, is_itself, other_way, first_at, others_at}
use Rattle.ssq_version.proofs.WhatIsNew.{news_are_between, news_ascend, one_between}

-- ---- one more entry

same_way : (q k : List ℕ) → is_at (by_bytes q) k ≡ true → is_at (by_bytes k) q ≡ true
same_way q k at = subst (λ (x : List ℕ). is_at (by_bytes x) q ≡ true) (one_key q k at) (is_itself q)

pub insert_at : {X : Type 0} (es : List (List ℕ × X)) (k : List ℕ) (x : X) (q : List ℕ) → value_at (insert_entry by_bytes es k x) q ≡ cond (is_at (by_bytes k) q) (Some x) (value_at es q)
insert_at {X} [] k x q =
    by_case (is_at (by_bytes q) k)
    (λ at. first_at k x [] q at ∙ sym (ap (λ (b : Bool). cond b (Some x) None) (same_way q k at)))
    (λ apart. others_at k x [] q apart ∙ sym (ap (λ (b : Bool). cond b (Some x) None) (other_way q k apart)))
insert_at {X} (e ∷ es) k x q = go (by_bytes k e.0) refl (insert_at es k x q)
  where
    whole : (r : Ordering) → by_bytes k e.0 ≡ r → value_at (insert_entry by_bytes (e ∷ es) k x) q ≡ value_at (match_ordering r ((k, x) ∷ e ∷ es) ((e.0, x) ∷ es) (e ∷ insert_entry by_bytes es k x)) q
    whole r is = ap (λ (o : Ordering). value_at (match_ordering o ((k, x) ∷ e ∷ es) ((e.0, x) ∷ es) (e ∷ insert_entry by_bytes es k x)) q) is

    go : (r : Ordering) → by_bytes k e.0 ≡ r → value_at (insert_entry by_bytes es k x) q ≡ cond (is_at (by_bytes k) q) (Some x) (value_at es q)
        → value_at (insert_entry by_bytes (e ∷ es) k x) q ≡ cond (is_at (by_bytes k) q) (Some x) (value_at (e ∷ es) q)
    go Less is behind =
        by_case (is_at (by_bytes q) k)
        (λ at. whole Less is ∙ first_at k x (e ∷ es) q at ∙ sym (ap (λ (b : Bool). cond b (Some x) (value_at (e ∷ es) q)) (same_way q k at)))
        (λ apart. whole Less is ∙ others_at k x (e ∷ es) q apart ∙ sym (ap (λ (b : Bool). cond b (Some x) (value_at (e ∷ es) q)) (other_way q k apart)))
    go Equal is behind =
        let same : k ≡ e.0 = exact_bytes k e.0 is in
        by_case (is_at (by_bytes q) e.0)
        (λ at. whole Equal is ∙ first_at e.0 x es q at
        ∙ sym (ap (λ (b : Bool). cond b (Some x) (value_at (e ∷ es) q)) (ap (λ (j : List ℕ). is_at (by_bytes j) q) same ∙ same_way q e.0 at)))
        (λ apart. whole Equal is ∙ others_at e.0 x es q apart
        ∙ sym (ap (λ (b : Bool). cond b (Some x) (value_at (e ∷ es) q)) (ap (λ (j : List ℕ). is_at (by_bytes j) q) same ∙ other_way q e.0 apart) ∙ others_at e.0 e.1 es q apart))
    go Greater is behind =
        by_case (is_at (by_bytes q) e.0)
        (λ at. let apart : is_at (by_bytes k) q ≡ false = ap (is_at (by_bytes k)) (one_key q e.0 at) ∙ ap is_eq is in
        whole Greater is ∙ first_at e.0 e.1 (insert_entry by_bytes es k x) q at ∙ sym (ap (λ (b : Bool). cond b (Some x) (value_at (e ∷ es) q)) apart ∙ first_at e.0 e.1 es q at))
        (λ apart. whole Greater is ∙ others_at e.0 e.1 (insert_entry by_bytes es k x) q apart ∙ behind
        ∙ sym (ap (λ (o : Option X). cond (is_at (by_bytes k) q) (Some x) o) (others_at e.0 e.1 es q apart)))

below_inserted : {X : Type 0} (j : List ℕ) (es : List (List ℕ × X)) (k : List ℕ) (x : X) → by_bytes j k ≡ Less → AllByRecursion (λ y. by_bytes j y ≡ Less) (keys_of es) → AllByRecursion (λ y. by_bytes j y ≡ Less) (keys_of (insert_entry by_bytes es k x))
below_inserted j [] k x less all = (less, tt)
below_inserted {X} j (e ∷ es) k x less all = go (by_bytes k e.0) (below_inserted j es k x less all.1)
  where
    go : (r : Ordering) → AllByRecursion (λ y. by_bytes j y ≡ Less) (keys_of (insert_entry by_bytes es k x))
        → AllByRecursion (λ y. by_bytes j y ≡ Less) (keys_of (match_ordering r ((k, x) ∷ e ∷ es) ((e.0, x) ∷ es) (e ∷ insert_entry by_bytes es k x)))
    go Less behind = (less, all)
    go Equal behind = all
    go Greater behind = (all.0, behind)

pub insert_ascends : {X : Type 0} (es : List (List ℕ × X)) (k : List ℕ) (x : X) → Ascends es → Ascends (insert_entry by_bytes es k x)
unfolding IsStrictlySortedBy
insert_ascends [] k x ascend = (tt, tt)
insert_ascends {X} (e ∷ es) k x ascend = go (by_bytes k e.0) refl (insert_ascends es k x ascend.1)
  where
    go : (r : Ordering) → by_bytes k e.0 ≡ r → Ascends (insert_entry by_bytes es k x) → Ascends (match_ordering r ((k, x) ∷ e ∷ es) ((e.0, x) ∷ es) (e ∷ insert_entry by_bytes es k x))
    go Less is behind = ((is, below_all k e.0 (keys_of es) is ascend.0), ascend)
    go Equal is behind = ascend
    go Greater is behind = (below_inserted e.0 es k x (nat_list_cmp_total.antisymm e.0 k ∙ ap ordering_reverse is) ascend.0, behind)

-- ---- keys that go

or_gone : Option (Option (List ℕ)) → Option (List ℕ) → Option (Option (List ℕ))
or_gone (Some said) old = Some said
or_gone None (Some value) = Some None
or_gone None None = None

-- a key that is said or goes already
gone_said : (o : Option (Option (List ℕ))) (old new : Option (List ℕ)) → is_some o ≡ true → or_gone o old ≡ or_gone o new
unfolding or_gone
gone_said None old new some = absurd (true≢false (sym some))
gone_said (Some said) old new some = refl

gone_at : (old : State) (said : Change) (q : List ℕ) → value_at (with_gone old said) q ≡ or_gone (value_at said q) (value_at old q)
unfolding with_gone or_gone
gone_at [] said q = go (value_at said q)
  where
    go : (o : Option (Option (List ℕ))) → o ≡ or_gone o None
    go None = refl
    go (Some x) = refl
gone_at (e ∷ old) said q = go (gone_at old said q) (gone_at old (insert_entry by_bytes said e.0 None) q)
  where
    lead : (b : Bool) → is_some (value_at said e.0) ≡ b → value_at (with_gone (e ∷ old) said) q ≡ value_at (with_gone old (cond b said (insert_entry by_bytes said e.0 None))) q
    lead b is = ap (λ (c : Bool). value_at (with_gone old (cond c said (insert_entry by_bytes said e.0 None))) q) is

    none_of : (o : Option (Option (List ℕ))) → is_some o ≡ false → o ≡ None
    none_of None is = refl
    none_of (Some x) is = absurd (true≢false is)

    go : value_at (with_gone old said) q ≡ or_gone (value_at said q) (value_at old q)
        → value_at (with_gone old (insert_entry by_bytes said e.0 None)) q ≡ or_gone (value_at (insert_entry by_bytes said e.0 None) q) (value_at old q)
        → value_at (with_gone (e ∷ old) said) q ≡ or_gone (value_at said q) (value_at (e ∷ old) q)
    go without within = by_case (is_some (value_at said e.0)) is_said not_said
      where
        is_said : is_some (value_at said e.0) ≡ true → value_at (with_gone (e ∷ old) said) q ≡ or_gone (value_at said q) (value_at (e ∷ old) q)
        is_said some =
            lead true some ∙ without ∙ by_case (is_at (by_bytes q) e.0)
            (λ at. gone_said (value_at said q) (value_at old q) (value_at (e ∷ old) q) (ap (λ (k : List ℕ). is_some (value_at said k)) (one_key q e.0 at) ∙ some))
            (λ apart. ap (or_gone (value_at said q)) (sym (others_at e.0 e.1 old q apart)))

        not_said : is_some (value_at said e.0) ≡ false → value_at (with_gone (e ∷ old) said) q ≡ or_gone (value_at said q) (value_at (e ∷ old) q)
        not_said none =
            lead false none ∙ within ∙ ap (λ (o : Option (Option (List ℕ))). or_gone o (value_at old q)) (insert_at said e.0 None q) ∙ by_case (is_at (by_bytes q) e.0)
            (λ at. ap (λ (b : Bool). or_gone (cond b (Some None) (value_at said q)) (value_at old q)) (same_way q e.0 at)
            ∙ sym (ap (λ (o : Option (List ℕ)). or_gone (value_at said q) o) (first_at e.0 e.1 old q at)
            ∙ ap (λ (o : Option (Option (List ℕ))). or_gone o (Some e.1)) (ap (λ (k : List ℕ). value_at said k) (one_key q e.0 at) ∙ none_of (value_at said e.0) none)))
            (λ apart. ap (λ (b : Bool). or_gone (cond b (Some None) (value_at said q)) (value_at old q)) (other_way q e.0 apart)
            ∙ ap (or_gone (value_at said q)) (sym (others_at e.0 e.1 old q apart)))

gone_ascends : (old : State) (said : Change) → Ascends said → Ascends (with_gone old said)
unfolding with_gone
gone_ascends [] said ascend = ascend
gone_ascends (e ∷ old) said ascend = gone_ascends old _ (go (is_some (value_at said e.0)))
  where
    go : (b : Bool) → Ascends (cond b said (insert_entry by_bytes said e.0 None))
    go true = ascend
    go false = insert_ascends said e.0 None ascend

gone_kept : (old : State) (said : Change) → AllByRecursion IsShort (keys_of old) → IsChange said → IsChange (with_gone old said)
unfolding with_gone
gone_kept [] said short kept = kept
gone_kept (e ∷ old) said short kept = gone_kept old _ short.1 (go (is_some (value_at said e.0)))
  where
    go : (b : Bool) → IsChange (cond b said (insert_entry by_bytes said e.0 None))
    go true = kept
    go false = kept_inserted IsShortOrNone said (insert_entry by_bytes said e.0 None) e.0 None refl (insert_ascends said e.0 None kept.ascend) kept short.0 tt

-- ---- what a state says

value_said : (state : State) (q : List ℕ) → value_at (said_of state) q ≡ option_map Some (value_at state q)
value_said [] q = refl
value_said (e ∷ state) q = go (is_at (by_bytes q) e.0) (value_said state q)
  where
    go : (b : Bool) → value_at (said_of state) q ≡ option_map Some (value_at state q) → cond b (Some (Some e.1)) (value_at (said_of state) q) ≡ option_map Some (cond b (Some e.1) (value_at state q))
    go true behind = refl
    go false behind = behind

short_said : (state : State) → AllByRecursion IsShort (values_of state) → AllByRecursion IsShortOrNone (values_of (said_of state))
short_said [] short = tt
short_said (e ∷ state) short = (short.0, short_said state short.1)

said_ascends : (state : State) → Ascends state → Ascends (said_of state)
said_ascends state ascend = subst (IsStrictlySortedBy by_bytes) (sym (keys_said state)) ascend

pub said_kept : (state : State) → IsState state → IsChange (said_of state)
said_kept state kept = record {
  ascend = said_ascends state kept.ascend;
  keys = subst (All IsShort) (sym (keys_said state)) kept.keys;
  values = All-from_recursion IsShortOrNone (values_of (said_of state)) (short_said state (recursion_from_All IsShort (values_of state) kept.values));
}

leads : (old new : State) → IsAfter (with_gone old (said_of new)) old new
unfolding or_gone
leads old new q =
    go (value_at new q) (value_at old q)
    ∙ sym (ap (λ (o : Option (Option (List ℕ))). value_after o (value_at old q)) (gone_at old (said_of new) q ∙ ap (λ (o : Option (Option (List ℕ))). or_gone o (value_at old q)) (value_said new q)))
  where
    go : (n o : Option (List ℕ)) → n ≡ value_after (or_gone (option_map Some n) o) o
    go None None = refl
    go None (Some v) = refl
    go (Some w) o = refl

-- ---- of that what is new

kept_filtered : {A : Type 0} (P : A → Type 0) (shows : List ℕ × Option (List ℕ) → A) (test : List ℕ × Option (List ℕ) → Bool) (es : Change) → AllByRecursion P (map shows es) → AllByRecursion P (map shows (filter test es))
kept_filtered P shows test [] all = tt
kept_filtered P shows test (e ∷ es) all = go (test e) (kept_filtered P shows test es all.1)
  where
    go : (b : Bool) → AllByRecursion P (map shows (filter test es)) → AllByRecursion P (map shows (cond b (e ∷ filter test es) (filter test es)))
    go true behind = (all.0, behind)
    go false behind = behind

pub news_kept : (old : State) (change : Change) → IsChange change → IsChange (news old change)
news_kept old change kept = record {
  ascend = news_ascend old change kept.ascend;
  keys = All-from_recursion IsShort (keys_of (news old change)) (kept_filtered IsShort (λ e. e.0) (is_news old) change (recursion_from_All IsShort (keys_of change) kept.keys));
  values = All-from_recursion IsShortOrNone (values_of (news old change)) (kept_filtered IsShortOrNone (λ e. e.1) (is_news old) change (recursion_from_All IsShortOrNone (values_of change) kept.values));
}

pub between_kept : (old new : State) → IsState old → IsState new → IsChange (between old new)
unfolding between
between_kept old new kept too = news_kept old (with_gone old (said_of new)) (gone_kept old (said_of new) (recursion_from_All IsShort (keys_of old) kept.keys) (said_kept new too))

pub between_leads : (old new : State) → Ascends new → IsBetween old new (between old new)
unfolding between
between_leads old new ascend = news_are_between old new (with_gone old (said_of new)) (gone_ascends old (said_of new) (said_ascends new ascend)) (leads old new)

-- what a change to a state says that is new is the change between the states
pub news_is_between : (old new : State) (change : Change) → Ascends change → Ascends new → IsAfter change old new → news old change ≡ between old new
unfolding between
news_is_between old new change ascend also after =
    let all = with_gone old (said_of new) in
    let ascends = gone_ascends old (said_of new) (said_ascends new also) in
    one_between old new (news old change) (news old all) (news_ascend old change ascend) (news_ascend old all ascends)
    (news_are_between old new change ascend after) (news_are_between old new all ascends (leads old new))

few_filtered : (test : List ℕ × Option (List ℕ) → Bool) (es : Change) → length (filter test es) ≤ length es
few_filtered test [] = omega arith
few_filtered test (e ∷ es) = go (test e) (few_filtered test es)
  where
    go : (b : Bool) → length (filter test es) ≤ length es → length (cond b (e ∷ filter test es) (filter test es)) ≤ suc (length es)
    go true few = omega (arith, few)
    go false few = omega (arith, few)

pub news_few : (old : State) (change : Change) → length (news old change) ≤ length change
news_few old change = few_filtered (is_news old) change
