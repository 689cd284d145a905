-- What a change says that is new to a state.
use Rattle.std.proofs.Common.{◌≡◌, ◌≢◌, ℕ, Bool, true, false, not, true≢false, cond, filter, Option, Some, None, is_some, Decides, nat_eq, List, [], ◌∷◌, refl, sym, ap, subst, ◌∙◌}
use Rattle.std.specs.List.{AllByRecursion}
use Rattle.std.specs.List.Sorted.{IsStrictlySortedBy}
use Rattle.std.specs.Map.{keys_of}
use Rattle.std.specs.declared.cmp.Ordering.TheVariants.{Less}
use Rattle.std.specs.BTreeMap.{is_at}
use Rattle.std.specs.Cmp.Lexicographic.{pointwise}
use Rattle.std.proofs.lemmas.Slice.Eq.{slice_eq-Decides}
use Rattle.std.proofs.lemmas.Bool.Decides.{Decides-eqb}
use borrow.Author.Tests.{not-true, not-false}
use Rattle.ssq_version.specs.State.{State, Change, by_bytes, Ascends, value_at, value_after, IsAfter, IsBetween, is_same, is_news, news, AreNews}
use Rattle.ssq_version.proofs.Collected.{same_entries}
use Rattle.ssq_version.proofs.Values.{by_case, one_key, first_at, others_at, none_behind, ascends_behind, IsRest, whole_rest, less_rest}

-- ---- entry by entry

pub news_first : (state : State) (it rest : Change) (k : List ℕ) (x : Option (List ℕ)) → it ≡ (k, x) ∷ rest → is_news state (k, x) ≡ true → news state it ≡ (k, x) ∷ news state rest
news_first state it rest k x step is = ap (news state) step ∙ ap (λ (b : Bool). cond b ((k, x) ∷ news state rest) (news state rest)) is

pub news_others : (state : State) (it rest : Change) (k : List ℕ) (x : Option (List ℕ)) → it ≡ (k, x) ∷ rest → is_news state (k, x) ≡ false → news state it ≡ news state rest
news_others state it rest k x step is = ap (news state) step ∙ ap (λ (b : Bool). cond b ((k, x) ∷ news state rest) (news state rest)) is

pub are_more : (state : State) (it rest all : Change) (k : List ℕ) (x : Option (List ℕ)) → it ≡ (k, x) ∷ rest → is_news state (k, x) ≡ true → (AreNews state it → AreNews state all) → AreNews state rest → AreNews state all
are_more state it rest all k x step is gives are = gives (subst (AreNews state) (sym step) (is, are))

pub are_first : (state : State) (it rest : Change) (k : List ℕ) (x : Option (List ℕ)) → it ≡ (k, x) ∷ rest → AreNews state it → (is_news state (k, x) ≡ true) × AreNews state rest
are_first state it rest k x step are = subst (AreNews state) step are

pub are_none : (state : State) (it : Change) → it ≡ [] → AreNews state it
are_none state it none = subst (AreNews state) (sym none) tt

-- ---- by what keys have

pub bytes_decide : (one other : List ℕ) → Decides (pointwise nat_eq one other) (one ≡ other)
bytes_decide one other = slice_eq-Decides Decides-eqb one other (pointwise nat_eq one other) refl

pub is_same-itself : (value : Option (List ℕ)) → is_same value value ≡ true
is_same-itself None = refl
is_same-itself (Some bytes) = (bytes_decide bytes bytes).1 refl

pub is_same-is : (one other : Option (List ℕ)) → is_same one other ≡ true → one ≡ other
is_same-is None None same = refl
is_same-is (Some one) (Some other) same = ap Some ((bytes_decide one other).0 same)
is_same-is None (Some other) same = absurd (true≢false (sym same))
is_same-is (Some one) None same = absurd (true≢false (sym same))

-- what is new is not what the key has
pub news_differ : (state : State) (key : List ℕ) (value : Option (List ℕ)) → is_news state (key, value) ≡ true → value_at state key ≢ value
news_differ state key value is same =
    true≢false (sym (is_same-itself value) ∙ ap (λ (o : Option (List ℕ)). is_same o value) (sym same) ∙ not-true (is_same (value_at state key) value) is)

pub differ_news : (state : State) (key : List ℕ) (value : Option (List ℕ)) → value_at state key ≢ value → is_news state (key, value) ≡ true
differ_news state key value differ =
    by_case (is_same (value_at state key) value)
    (λ same. absurd (differ (is_same-is (value_at state key) value same)))
    (λ apart. ap not apart)

-- all that is said is new where it differs from what the keys have
pub differ_all : (state : State) (all left : Change) → IsRest all left → ((key : List ℕ) (value : Option (List ℕ)) → value_at all key ≡ Some value → value_at state key ≢ value) → AreNews state left
differ_all state all [] rest differ = tt
differ_all state all (e ∷ left) rest differ =
    let less = less_rest all (e ∷ left) left e.0 e.1 refl rest in
    (differ_news state e.0 e.1 (differ e.0 e.1 less.1), differ_all state all left less.0 differ)

-- an entry of a change that is all new is new
pub news_at : (state : State) (change : Change) (key : List ℕ) (value : Option (List ℕ)) → AreNews state change → value_at change key ≡ Some value → is_news state (key, value) ≡ true
news_at state [] key value are at = absurd (true≢false (sym (ap is_some at)))
news_at state (e ∷ change) key value are at =
    let behind = news_at state change key value are.1 in
    by_case (is_at (by_bytes key) e.0)
    (λ here. let same : Some e.1 ≡ Some value = sym (first_at e.0 e.1 change key here) ∙ at in
    let is : e.1 ≡ value = cc in
    subst (λ (k : List ℕ). is_news state (k, value) ≡ true) (sym (one_key key e.0 here)) (subst (λ (v : Option (List ℕ)). is_news state (e.0, v) ≡ true) is are.0))
    (λ apart. behind (sym (others_at e.0 e.1 change key apart) ∙ at))

-- a change that is all new leads to a state that differs from the old one just there
pub news_between : (old new : State) (change : Change) → AreNews old change → IsAfter change old new → IsBetween old new change
news_between old new change are after = record {
  told = λ key value at. (
    after key ∙ ap (λ (o : Option (Option (List ℕ))). value_after o (value_at old key)) at,
    news_differ old key value (news_at old change key value are at),
  );
  untold = λ key none. after key ∙ ap (λ (o : Option (Option (List ℕ))). value_after o (value_at old key)) none;
}

pub between_news : (old new : State) (change : Change) → Ascends change → IsBetween old new change → AreNews old change
between_news old new change ascend between = differ_all old change change (whole_rest change change refl ascend) (λ key value at. (between.told key value at).1)

-- ---- of any change, what is new is the change between the states

-- what is new of what a change says of a key
new_of : State → List ℕ → Option (Option (List ℕ)) → Option (Option (List ℕ))
new_of state key None = None
new_of state key (Some value) = cond (is_news state (key, value)) (Some value) None

value_news : (state : State) (change : Change) (key : List ℕ) → Ascends change → value_at (news state change) key ≡ new_of state key (value_at change key)
unfolding new_of
value_news state [] key ascend = refl
value_news state (e ∷ change) key ascend =
    let behind = value_news state change key (ascends_behind e.0 e.1 change ascend) in
    go behind (none_behind e.0 e.1 change ascend)
  where
    go : value_at (news state change) key ≡ new_of state key (value_at change key) → value_at change e.0 ≡ None → value_at (news state (e ∷ change)) key ≡ new_of state key (value_at (e ∷ change) key)
    go behind none = by_case (is_at (by_bytes key) e.0) here there
      where
        lead : (b : Bool) → is_news state e ≡ b → value_at (news state (e ∷ change)) key ≡ value_at (cond b (e ∷ news state change) (news state change)) key
        lead b is = ap (λ (c : Bool). value_at (cond c (e ∷ news state change) (news state change)) key) is

        here : is_at (by_bytes key) e.0 ≡ true → value_at (news state (e ∷ change)) key ≡ new_of state key (value_at (e ∷ change) key)
        here at =
            let same = one_key key e.0 at in
            let right : new_of state key (value_at (e ∷ change) key) ≡ cond (is_news state e) (Some e.1) None =
            ap (new_of state key) (first_at e.0 e.1 change key at) ∙ ap (λ (k : List ℕ). cond (is_news state (k, e.1)) (Some e.1) None) same in
            let gone : value_at (news state change) key ≡ None = behind ∙ ap (new_of state key) (ap (λ (k : List ℕ). value_at change k) same ∙ none) in
            by_case (is_news state e)
            (λ is. lead true is ∙ first_at e.0 e.1 (news state change) key at ∙ sym (right ∙ ap (λ (c : Bool). cond c (Some e.1) None) is))
            (λ not_new. lead false not_new ∙ gone ∙ sym (right ∙ ap (λ (c : Bool). cond c (Some e.1) None) not_new))

        there : is_at (by_bytes key) e.0 ≡ false → value_at (news state (e ∷ change)) key ≡ new_of state key (value_at (e ∷ change) key)
        there apart =
            let right = ap (new_of state key) (others_at e.0 e.1 change key apart) in
            by_case (is_news state e)
            (λ is. lead true is ∙ others_at e.0 e.1 (news state change) key apart ∙ behind ∙ sym right)
            (λ not_new. lead false not_new ∙ behind ∙ sym right)

pub news_are_between : (old new : State) (change : Change) → Ascends change → IsAfter change old new → IsBetween old new (news old change)
unfolding new_of
news_are_between old new change ascend after = record {
  told = λ key value at. told key value (value_at change key) refl (sym (value_news old change key ascend) ∙ at);
  untold = λ key none. untold key (value_at change key) refl (sym (value_news old change key ascend) ∙ none);
}
  where
    said : (key : List ℕ) (o : Option (Option (List ℕ))) → value_at change key ≡ o → value_at new key ≡ value_after o (value_at old key)
    said key o is = after key ∙ ap (λ (o : Option (Option (List ℕ))). value_after o (value_at old key)) is

    some_is : (b : Bool) (x y : Option (List ℕ)) → cond b (Some x) None ≡ Some y → (b ≡ true) × (x ≡ y)
    some_is true x y e = let same : Some x ≡ Some y = e in (refl, cc)
    some_is false x y e = absurd (true≢false (sym (ap is_some e)))

    none_is : (b : Bool) (x : Option (List ℕ)) → cond b (Some x) None ≡ None → b ≡ false
    none_is true x e = absurd (true≢false (ap is_some e))
    none_is false x e = refl

    told : (key : List ℕ) (value : Option (List ℕ)) (o : Option (Option (List ℕ))) → value_at change key ≡ o → new_of old key o ≡ Some value → (value_at new key ≡ value) × (value_at old key ≢ value)
    told key value None is e = absurd (true≢false (sym (ap is_some e)))
    told key value (Some x) is e =
        let two = some_is (is_news old (key, x)) x value e in
        (said key (Some x) is ∙ two.1, subst (λ (v : Option (List ℕ)). value_at old key ≢ v) two.1 (news_differ old key x two.0))

    untold : (key : List ℕ) (o : Option (Option (List ℕ))) → value_at change key ≡ o → new_of old key o ≡ None → value_at new key ≡ value_at old key
    untold key None is e = said key None is
    untold key (Some x) is e =
        said key (Some x) is ∙ sym (is_same-is (value_at old key) x (not-false (is_same (value_at old key) x) (none_is (is_news old (key, x)) x e)))

-- ---- there is but one

pub one_after : (change : Change) (old one other : State) → Ascends one → Ascends other → IsAfter change old one → IsAfter change old other → one ≡ other
one_after change old one other ascend also after likewise = same_entries one other ascend also (λ key. after key ∙ sym (likewise key))

pub leads_between : (old new : State) (change : Change) → IsBetween old new change → IsAfter change old new
leads_between old new change between key = go (value_at change key) refl
  where
    go : (o : Option (Option (List ℕ))) → value_at change key ≡ o → value_at new key ≡ value_after (value_at change key) (value_at old key)
    go None is = between.untold key is ∙ sym (ap (λ (o : Option (Option (List ℕ))). value_after o (value_at old key)) is)
    go (Some value) is = (between.told key value is).0 ∙ sym (ap (λ (o : Option (Option (List ℕ))). value_after o (value_at old key)) is)

pub one_between : (old new : State) (one other : Change) → Ascends one → Ascends other → IsBetween old new one → IsBetween old new other → one ≡ other
one_between old new one other ascend also first second = same_entries one other ascend also (λ key. go key (value_at one key) (value_at other key) refl refl)
  where
    go : (key : List ℕ) (o p : Option (Option (List ℕ))) → value_at one key ≡ o → value_at other key ≡ p → value_at one key ≡ value_at other key
    go key None None is too = is ∙ sym too
    go key None (Some value) is too = absurd ((second.told key value too).1 (sym (first.untold key is) ∙ (second.told key value too).0))
    go key (Some value) None is too = absurd ((first.told key value is).1 (sym (second.untold key too) ∙ (first.told key value is).0))
    go key (Some value) (Some also) is too = is ∙ ap Some (sym (first.told key value is).0 ∙ (second.told key also too).0) ∙ sym too

-- what is new ascends, as what is said does
below_filtered : (k : List ℕ) (test : List ℕ × Option (List ℕ) → Bool) (es : Change) → AllByRecursion (λ y. by_bytes k y ≡ Less) (keys_of es) → AllByRecursion (λ y. by_bytes k y ≡ Less) (keys_of (filter test es))
below_filtered k test [] all = tt
below_filtered k test (e ∷ es) all = go (test e) (below_filtered k test es all.1)
  where
    go : (b : Bool) → AllByRecursion (λ y. by_bytes k y ≡ Less) (keys_of (filter test es)) → AllByRecursion (λ y. by_bytes k y ≡ Less) (keys_of (cond b (e ∷ filter test es) (filter test es)))
    go true behind = (all.0, behind)
    go false behind = behind

ascend_filtered : (test : List ℕ × Option (List ℕ) → Bool) (es : Change) → Ascends es → Ascends (filter test es)
unfolding IsStrictlySortedBy
ascend_filtered test [] ascend = tt
ascend_filtered test (e ∷ es) ascend = go (test e) (ascend_filtered test es ascend.1)
  where
    go : (b : Bool) → Ascends (filter test es) → Ascends (cond b (e ∷ filter test es) (filter test es))
    go true behind = (below_filtered e.0 test es ascend.0, behind)
    go false behind = behind

pub news_ascend : (old : State) (change : Change) → Ascends change → Ascends (news old change)
news_ascend old change ascend = ascend_filtered (is_news old) change ascend

pub news_all : (old new : State) (change : Change) → Ascends change → IsBetween old new change → news old change ≡ change
news_all old new change ascend between =
    one_between old new (news old change) change (news_ascend old change ascend) ascend
    (news_are_between old new change ascend (leads_between old new change between)) between
