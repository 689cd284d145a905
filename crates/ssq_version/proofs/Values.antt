-- What keys have, through a change of one key.
use Rattle.std.proofs.Common.{◌≡◌, ℕ, suc, ◌+◌, arith, length, Bool, true, false, true≢false, cond, ◌||◌, Option, Some, None, IsSome, is_some, is_eq, option_copied, IfSome, Bor, Result, Ok, Err, OnOk, OnErr, List, [], ◌∷◌, ◌++◌, refl, sym, ap, subst, ◌∙◌}
use Rattle.std.specs.Cmp.{Equal-is, tied_itself, eq_by_cmp_equiv}
use Rattle.std.specs.Cmp.Lexicographic.{nat_list_cmp_total}
use Rattle.std.specs.BTreeMap.{is_at}
use Rattle.std.specs.Map.{keys_of}
use Rattle.std.proofs.lemmas.List.Folds.{list_any-append}
use Rattle.std.proofs.lemmas.Map.{lookup-none}
use Rattle.std.proofs.lemmas.Map.Entries.{none_past_head}
use Rattle.std.proofs.lemmas.Map.Keys.{IsDistinct-from_sorted, sorted_tail}
use Rattle.std.proofs.lemmas.Map.Lookups.{exact_bytes}
use Rattle.ssq_version.specs.State.{State, Change, by_bytes, Ascends, value_at, value_after, IsAfter, IsChangedAt, HasRoom, SaysSame, is_among, IsWithout}
use Rattle.ssq_version.proofs.Collected.{same_entries}

pub by_case : {P : Type 0} (b : Bool) → (b ≡ true → P) → (b ≡ false → P) → P
by_case true here there = here refl
by_case false here there = there refl

-- equal keys are one key
pub one_key : (q k : List ℕ) → is_at (by_bytes q) k ≡ true → q ≡ k
one_key q k at = exact_bytes q k ((Equal-is (by_bytes q k)).0 at)

pub is_itself : (k : List ℕ) → is_at (by_bytes k) k ≡ true
is_itself k = ap is_eq (tied_itself nat_list_cmp_total k)

pub other_way : (q k : List ℕ) → is_at (by_bytes q) k ≡ false → is_at (by_bytes k) q ≡ false
other_way q k apart =
    by_case (is_at (by_bytes k) q)
    (λ at. absurd (true≢false (sym (is_itself q) ∙ ap (λ (x : List ℕ). is_at (by_bytes q) x) (sym (one_key k q at)) ∙ apart)))
    (λ apart. apart)

pub either_way : (q k : List ℕ) → is_at (by_bytes q) k ≡ is_at (by_bytes k) q
either_way q k = by_case (is_at (by_bytes q) k)
    (λ at. at ∙ sym (ap (λ x. is_at (by_bytes k) x) (one_key q k at) ∙ is_itself k))
    (λ apart. apart ∙ sym (other_way q k apart))

-- ---- the first entry, and the others

pub first_at : {X : Type 0} (k : List ℕ) (x : X) (es : List (List ℕ × X)) (q : List ℕ) → is_at (by_bytes q) k ≡ true → value_at ((k, x) ∷ es) q ≡ Some x
first_at {X} k x es q at = ap (λ (b : Bool). cond b (Some x) (value_at es q)) at

pub others_at : {X : Type 0} (k : List ℕ) (x : X) (es : List (List ℕ × X)) (q : List ℕ) → is_at (by_bytes q) k ≡ false → value_at ((k, x) ∷ es) q ≡ value_at es q
others_at {X} k x es q apart = ap (λ (b : Bool). cond b (Some x) (value_at es q)) apart

pub none_behind : {X : Type 0} (k : List ℕ) (x : X) (es : List (List ℕ × X)) → Ascends ((k, x) ∷ es) → value_at es k ≡ None
none_behind k x es ascend =
    lookup-none (is_at (by_bytes k)) es (none_past_head (eq_by_cmp_equiv nat_list_cmp_total) k (k, x) es (IsDistinct-from_sorted by_bytes (keys_of ((k, x) ∷ es)) ascend) (is_itself k))

pub ascends_behind : {X : Type 0} (k : List ℕ) (x : X) (es : List (List ℕ × X)) → Ascends ((k, x) ∷ es) → Ascends es
ascends_behind k x es ascend = sorted_tail by_bytes k (keys_of es) ascend

-- what is left of entries in order: each key has in them what it has in all
pub record IsRest {X : Type 0} (all left : List (List ℕ × X)) : Type 0 where
  pub ascend : Ascends left
  pub among : (key : List ℕ) (x : X) → value_at left key ≡ Some x → value_at all key ≡ Some x

pub whole_rest : {X : Type 0} (all left : List (List ℕ × X)) → left ≡ all → Ascends all → IsRest all left
whole_rest {X} all left same ascend = record { ascend = subst (Ascends {X = X}) (sym same) ascend; among = λ key x at. ap (λ (es : List (List ℕ × X)). value_at es key) (sym same) ∙ at }

pub less_rest : {X : Type 0} (all left rest : List (List ℕ × X)) (k : List ℕ) (x : X) → left ≡ (k, x) ∷ rest → IsRest all left → IsRest all rest × (value_at all k ≡ Some x)
less_rest {X} all left rest k x step is =
    let ascend : Ascends ((k, x) ∷ rest) = subst (Ascends {X = X}) step is.ascend in
    let among : (key : List ℕ) (y : X) → value_at ((k, x) ∷ rest) key ≡ Some y → value_at all key ≡ Some y =
    λ key y at. is.among key y (ap (λ (es : List (List ℕ × X)). value_at es key) step ∙ at) in (
      record {
        ascend = ascends_behind k x rest ascend;
        among = λ key y at. by_case (is_at (by_bytes key) k)
            (λ here. absurd (none_is_some y (sym (none_behind k x rest ascend) ∙ ap (λ (q : List ℕ). value_at rest q) (sym (one_key key k here)) ∙ at)))
            (λ there. among key y (others_at k x rest key there ∙ at));
      },
      among k x (first_at k x rest k (is_itself k)),
    )
  where
    none_is_some : (y : X) → ◌≡◌ {A = Option X} None (Some y) → ⊥
    none_is_some y e = true≢false (sym (ap is_some e))

-- ---- a change, key by key

pub changed_here : (key : List ℕ) (value : Option (List ℕ)) (old new : State) → IsChangedAt key value old new → value_at new key ≡ value
changed_here key value old new is = is key ∙ ap (λ (b : Bool). cond b value (value_at old key)) (is_itself key)

pub changed_there : (key : List ℕ) (value : Option (List ℕ)) (old new : State) (q : List ℕ) → is_at (by_bytes key) q ≡ false → IsChangedAt key value old new → value_at new q ≡ value_at old q
changed_there key value old new q apart is = is q ∙ ap (λ (b : Bool). cond b value (value_at old q)) apart

-- what is left of a change leads to what all of it leads to
abbrev pub LeadsTo : Change → State → Change → State → Type 0
LeadsTo all old left now = (q : List ℕ) → value_after (value_at all q) (value_at old q) ≡ value_after (value_at left q) (value_at now q)

pub leads_on : (all left rest : Change) (old now new : State) (k : List ℕ) (x : Option (List ℕ)) → left ≡ (k, x) ∷ rest → Ascends left → IsChangedAt k x now new → LeadsTo all old left now → LeadsTo all old rest new
leads_on all left rest old now new k x step ascend changed leads q =
    leads q ∙ ap (λ (es : Change). value_after (value_at es q) (value_at now q)) step ∙ by_case (is_at (by_bytes q) k) here there
  where
    behind : Ascends ((k, x) ∷ rest)
    behind = subst (Ascends {X = Option (List ℕ)}) step ascend

    here : is_at (by_bytes q) k ≡ true → value_after (value_at ((k, x) ∷ rest) q) (value_at now q) ≡ value_after (value_at rest q) (value_at new q)
    here at =
        let same = one_key q k at in
        ap (λ (o : Option (Option (List ℕ))). value_after o (value_at now q)) (first_at k x rest q at)
        ∙ sym (changed_here k x now new changed)
        ∙ ap (λ (o : List ℕ). value_at new o) (sym same)
        ∙ sym (ap (λ (o : Option (Option (List ℕ))). value_after o (value_at new q)) (ap (λ (o : List ℕ). value_at rest o) same ∙ none_behind k x rest behind))

    there : is_at (by_bytes q) k ≡ false → value_after (value_at ((k, x) ∷ rest) q) (value_at now q) ≡ value_after (value_at rest q) (value_at new q)
    there apart =
        ap (λ (o : Option (Option (List ℕ))). value_after o (value_at now q)) (others_at k x rest q apart)
        ∙ ap (λ (o : Option (List ℕ)). value_after (value_at rest q) o) (sym (changed_there k x now new q (other_way q k apart) changed))

pub room_here : (left rest : Change) (now : State) (k v : List ℕ) → left ≡ (k, Some v) ∷ rest → HasRoom now left → IsSome (value_at now k)
room_here left rest now k v step room = room k v (ap (λ (es : Change). value_at es k) step ∙ first_at k (Some v) rest k (is_itself k))

pub room_on : (left rest : Change) (now new : State) (k : List ℕ) (x : Option (List ℕ)) → left ≡ (k, x) ∷ rest → Ascends left → IsChangedAt k x now new → HasRoom now left → HasRoom new rest
room_on left rest now new k x step ascend changed room q v at =
    by_case (is_at (by_bytes q) k)
    (λ here. absurd (true≢false (sym (ap is_some (sym (none_behind k x rest behind) ∙ ap (λ (o : List ℕ). value_at rest o) (sym (one_key q k here)) ∙ at)))))
    (λ apart. subst (λ (o : Option (List ℕ)). IsSome o) (sym (changed_there k x now new q (other_way q k apart) changed)) (room q v (ap (λ (es : Change). value_at es q) step ∙ others_at k x rest q apart ∙ at)))
  where
    behind : Ascends ((k, x) ∷ rest)
    behind = subst (Ascends {X = Option (List ℕ)}) step ascend

-- ---- room

-- each key that is given a value is there, or among what is left
abbrev pub RoomBut : State → Change → Change → Type 0
RoomBut now all left = (key value : List ℕ) → value_at all key ≡ Some (Some value) → value_at left key ≡ None → IsSome (value_at now key)

-- which of two states with the same at other keys it was makes no difference, where this key is given a value
pub same_but : (all : Change) (old now new : State) (k v : List ℕ) → value_at all k ≡ Some (Some v) → ((q : List ℕ) → is_at (by_bytes k) q ≡ false → value_at new q ≡ value_at now q) → SaysSame all old now → SaysSame all old new
same_but all old now new k v told others same q =
    by_case (is_at (by_bytes k) q)
    (λ at. let e : value_at all q ≡ Some (Some v) = ap (λ (o : List ℕ). value_at all o) (sym (one_key k q at)) ∙ told in
    ap (λ (o : Option (Option (List ℕ))). value_after o (value_at new q)) e ∙ sym (ap (λ (o : Option (Option (List ℕ))). value_after o (value_at old q)) e))
    (λ apart. ap (λ (o : Option (List ℕ)). value_after (value_at all q) o) (others q apart) ∙ same q)

pub room_made : (all left rest : Change) (now new : State) (k v : List ℕ) → left ≡ (k, Some v) ∷ rest → IsSome (value_at new k) → ((q : List ℕ) → is_at (by_bytes k) q ≡ false → value_at new q ≡ value_at now q) → RoomBut now all left → RoomBut new all rest
room_made all left rest now new k v step there others but q w told none =
    by_case (is_at (by_bytes k) q)
    (λ at. subst (λ (o : List ℕ). IsSome (value_at new o)) (one_key k q at) there)
    (λ apart. subst (λ (o : Option (List ℕ)). IsSome o) (sym (others q apart))
    (but q w told (ap (λ (es : Change). value_at es q) step ∙ others_at k (Some v) rest q (other_way k q apart) ∙ none)))

pub room_passed : (all left rest : Change) (now : State) (k : List ℕ) → left ≡ (k, None) ∷ rest → value_at all k ≡ Some None → RoomBut now all left → RoomBut now all rest
room_passed all left rest now k step told but q w is none =
    by_case (is_at (by_bytes k) q)
    (λ at. absurd (none_is_some w (some_once None (Some w) (sym told ∙ ap (λ (o : List ℕ). value_at all o) (one_key k q at) ∙ is))))
    (λ apart. but q w is (ap (λ (es : Change). value_at es q) step ∙ others_at k None rest q (other_way k q apart) ∙ none))
  where
    none_is_some : (y : List ℕ) → ◌≡◌ {A = Option (List ℕ)} None (Some y) → ⊥
    none_is_some y e = true≢false (sym (ap is_some e))

    some_once : (x y : Option (List ℕ)) → Some x ≡ Some y → x ≡ y
    some_once x y e = cc

pub room_begins : (now : State) (all left : Change) → left ≡ all → RoomBut now all left
room_begins now all left same q v told none =
    absurd (true≢false (sym (ap is_some (sym none ∙ ap (λ (es : Change). value_at es q) same ∙ told))))

-- ---- keys that come away again

among-push : {A : Type 0} (shows : A → List ℕ) (keys : List A) (k : A) (q : List ℕ) → is_among shows (keys ++ k ∷ []) q ≡ (is_among shows keys q || (is_at (by_bytes q) (shows k) || false))
among-push shows keys k q = list_any-append (λ x. is_at (by_bytes q) (shows x)) keys (k ∷ [])

-- a key that was not there is noted, and may be there now
pub without_more : {A : Type 0} (shows : A → List ℕ) (keys pushed : List A) (k : A) (start now new : State) → pushed ≡ keys ++ k ∷ [] → value_at now (shows k) ≡ None
    → ((q : List ℕ) → is_at (by_bytes (shows k)) q ≡ false → value_at new q ≡ value_at now q) → IsWithout shows keys start now → IsWithout shows pushed start new
without_more {A} shows keys pushed k start now new push absent others without q =
    without q ∙ by_case (is_at (by_bytes q) (shows k)) here there
    ∙ ap (λ (b : Bool). cond b None (value_at new q)) (sym (ap (λ (ks : List A). is_among shows ks q) push ∙ among-push shows keys k q))
  where
    gone : (b : Bool) → (o : Option (List ℕ)) → o ≡ None → cond b None o ≡ None
    gone true o e = refl
    gone false o e = e

    either : (b c : Bool) → c ≡ true → ◌≡◌ {A = Option (List ℕ)} None (cond (b || (c || false)) None (value_at new q))
    either true c e = refl
    either false true e = refl
    either false false e = absurd (true≢false (sym e))

    here : is_at (by_bytes q) (shows k) ≡ true → cond (is_among shows keys q) None (value_at now q) ≡ cond (is_among shows keys q || (is_at (by_bytes q) (shows k) || false)) None (value_at new q)
    here at =
        gone (is_among shows keys q) (value_at now q) (ap (λ (o : List ℕ). value_at now o) (one_key q (shows k) at) ∙ absent)
        ∙ either (is_among shows keys q) (is_at (by_bytes q) (shows k)) at

    neither : (b c : Bool) (x y : Option (List ℕ)) → c ≡ false → x ≡ y → cond b None x ≡ cond (b || (c || false)) None y
    neither true c x y e same = refl
    neither false false x y e same = same
    neither false true x y e same = absurd (true≢false e)

    there : is_at (by_bytes q) (shows k) ≡ false → cond (is_among shows keys q) None (value_at now q) ≡ cond (is_among shows keys q || (is_at (by_bytes q) (shows k) || false)) None (value_at new q)
    there apart = neither (is_among shows keys q) (is_at (by_bytes q) (shows k)) (value_at now q) (value_at new q) apart (sym (others q (other_way q (shows k) apart)))

-- one of them is taken away
pub without_less : {A : Type 0} (shows : A → List ℕ) (keys rest : List A) (k : A) (start now new : State) → keys ≡ k ∷ rest → IsChangedAt (shows k) None now new → IsWithout shows keys start now → IsWithout shows rest start new
without_less {A} shows keys rest k start now new step changed without q =
    without q ∙ ap (λ (ks : List A). cond (is_among shows ks q) None (value_at now q)) step ∙ by_case (is_at (by_bytes q) (shows k)) here there
  where
    gone : (b c : Bool) (o : Option (List ℕ)) → c ≡ true → o ≡ None → cond (c || b) None (value_at now q) ≡ cond b None o
    gone true true o e none = refl
    gone false true o e none = sym none
    gone b false o e none = absurd (true≢false (sym e))

    here : is_at (by_bytes q) (shows k) ≡ true → cond (is_at (by_bytes q) (shows k) || is_among shows rest q) None (value_at now q) ≡ cond (is_among shows rest q) None (value_at new q)
    here at = gone (is_among shows rest q) (is_at (by_bytes q) (shows k)) (value_at new q) at (ap (λ (o : List ℕ). value_at new o) (one_key q (shows k) at) ∙ changed_here (shows k) None now new changed)

    kept : (b c : Bool) (o : Option (List ℕ)) → c ≡ false → o ≡ value_at now q → cond (c || b) None (value_at now q) ≡ cond b None o
    kept true false o e same = refl
    kept false false o e same = sym same
    kept b true o e same = absurd (true≢false e)

    there : is_at (by_bytes q) (shows k) ≡ false → cond (is_at (by_bytes q) (shows k) || is_among shows rest q) None (value_at now q) ≡ cond (is_among shows rest q) None (value_at new q)
    there apart = kept (is_among shows rest q) (is_at (by_bytes q) (shows k)) (value_at new q) apart (changed_there (shows k) None now new q (other_way q (shows k) apart) changed)

-- where none is left to be taken away, the state is the first one
pub without_none : {A : Type 0} (shows : A → List ℕ) (keys : List A) (start now : State) → keys ≡ [] → Ascends start → Ascends now → IsWithout shows keys start now → now ≡ start
without_none {A} shows keys start now none one other without =
    same_entries now start other one (λ q. sym (without q ∙ ap (λ (ks : List A). cond (is_among shows ks q) None (value_at now q)) none))

-- ---- by what a call answers

pub others_stay : {A E : Type 0} (r : Result A E) (key : List ℕ) (value : Option (List ℕ)) (old new : State) → OnOk r (IsChangedAt key value old new) → OnErr r (new ≡ old)
    → (q : List ℕ) → is_at (by_bytes key) q ≡ false → value_at new q ≡ value_at old q
others_stay (Ok x) key value old new done failed q apart = changed_there key value old new q apart done
others_stay (Err x) key value old new done failed q apart = ap (λ (state : State). value_at state q) failed

pub is_there : {A E : Type 0} (r : Result A E) (key value : List ℕ) (old new : State) → OnOk r (IsChangedAt key (Some value) old new) → OnOk r (IsSome (value_at new key))
is_there (Ok x) key value old new done = ap is_some (changed_here key (Some value) old new done)
is_there (Err x) key value old new done = tt

pub none_copied : {X : Type 0} (o : Option (Bor X)) → is_some o ≡ false → option_copied o ≡ None
none_copied None none = refl
none_copied (Some x) none = absurd (true≢false none)

pub begins : (all left : Change) (old : State) → left ≡ all → LeadsTo all old left old
begins all left old same q = ap (λ (es : Change). value_after (value_at es q) (value_at old q)) (sym same)

pub room_same : (all left : Change) (now : State) → left ≡ all → HasRoom now all → HasRoom now left
room_same all left now same room = subst (HasRoom now) (sym same) room

pub room_if : (left rest : Change) (now : State) (k : List ℕ) (x : Option (List ℕ)) → left ≡ (k, x) ∷ rest → HasRoom now left → IfSome x (λ v. IsSome (value_at now k))
room_if left rest now k None step room = tt
room_if left rest now k (Some v) step room = room_here left rest now k v step room

pub same_but_some : (all : Change) (old now new : State) (k : List ℕ) (x : Option (List ℕ)) → is_some x ≡ true → value_at all k ≡ Some x → ((q : List ℕ) → is_at (by_bytes k) q ≡ false → value_at new q ≡ value_at now q) → SaysSame all old now → SaysSame all old new
same_but_some all old now new k None is told others same = absurd (true≢false (sym is))
same_but_some all old now new k (Some v) is told others same = same_but all old now new k v told others same

pub room_made_some : (all left rest : Change) (now new : State) (k : List ℕ) (x : Option (List ℕ)) → is_some x ≡ true → left ≡ (k, x) ∷ rest → IsSome (value_at new k) → ((q : List ℕ) → is_at (by_bytes k) q ≡ false → value_at new q ≡ value_at now q) → RoomBut now all left → RoomBut new all rest
room_made_some all left rest now new k None is step there others but = absurd (true≢false (sym is))
room_made_some all left rest now new k (Some v) is step there others but = room_made all left rest now new k v step there others but

pub room_passed_none : (all left rest : Change) (now : State) (k : List ℕ) (x : Option (List ℕ)) → is_some x ≡ false → left ≡ (k, x) ∷ rest → value_at all k ≡ Some x → RoomBut now all left → RoomBut now all rest
room_passed_none all left rest now k None is step told but = room_passed all left rest now k step told but
room_passed_none all left rest now k (Some v) is step told but = absurd (true≢false is)

pub leads_all : (all left : Change) (old now : State) → left ≡ [] → LeadsTo all old left now → IsAfter all old now
leads_all all left old now none leads q = sym (leads q ∙ ap (λ (es : Change). value_after (value_at es q) (value_at now q)) none)

-- a change after room was made for it is the change
pub after_room : (change : Change) (old mid new : State) → SaysSame change old mid → IsAfter change mid new → IsAfter change old new
after_room change old mid new same after q = after q ∙ same q

pub without_begins : {A : Type 0} (shows : A → List ℕ) (keys : List A) (now : State) → keys ≡ [] → IsWithout shows keys now now
without_begins {A} shows keys now none q = ap (λ (ks : List A). cond (is_among shows ks q) None (value_at now q)) (sym none)

pub less_items : {A : Type 0} (items rest : List A) (x : A) (len left : ℕ) → items ≡ x ∷ rest → left + 1 ≡ len → len ≡ length items → left ≡ length rest
less_items items rest x len left step less is = let e : length items ≡ suc (length rest) = ap length step in omega (arith, e, less, is)

pub no_items : {A : Type 0} (items : List A) (len : ℕ) → len ≡ 0 → len ≡ length items → items ≡ []
no_items [] len none is = refl
no_items (x ∷ items) len none is = absurd (omega (arith, none, is))
