-- Entries where they lie, and newer ones put among them.
use Rattle.std.proofs.Common.{◌≡◌, ℕ, List, Bool, cond, Option, None, Some, Ordering, Less, Equal, Greater, [], ◌∷◌, ◌++◌, ◌+◌, length, drop, take, ◌-◌, suc, zero, arith, append_assoc, drop-drop, length-drop, take_all, drop-cons, append-nil, slice_index_or, ◌<◌, ◌≤◌, option_copied, refl, sym, ap, ap₂, subst, ◌∙◌}
use Rattle.std.specs.Cmp.Lexicographic.{nat_list_cmp_total}
use Rattle.std.specs.List.{AllByRecursion}
use Rattle.std.specs.List.Sorted.{IsStrictlySortedBy}
use Rattle.std.specs.Map.{keys_of, values_of}
use Rattle.std.specs.Option.{option_or}
use Rattle.std.specs.Ordering.{match_ordering, ordering_reverse}
use Rattle.std.specs.BTreeMap.{insert_entry, is_at}
use Rattle.std.proofs.lemmas.List.{drop_all}
use Rattle.std.proofs.lemmas.List.Elements.{All-from_recursion, recursion_from_All}
use Rattle.std.proofs.lemmas.Map.Lookups.{exact_bytes}
use Rattle.ssq_version.specs.declared.entry.Entry.{Entry}
use Rattle.ssq_version.specs.State.{State, Change, Ascends, IsAfter, IsChange, IsShort, IsShortOrNone, IsState, by_bytes, given_by, given_first, laid, layered, said_of, value_after, value_at}
use Rattle.ssq_version.specs.declared.form.Form.TheVariants.{Snapshot}
use Rattle.ssq_version.specs.Text.{entries_text, kept_text, shown}
use Rattle.ssq_version.proofs.Listing.{below_all}
use Rattle.ssq_version.proofs.Values.{ascends_behind, by_case, either_way, first_at, none_behind, one_key, others_at}
use Rattle.ssq_version.proofs.Filling.{given_at, given_kept}
use Rattle.ssq_version.proofs.Kept.{kept_inserted}
use Rattle.ssq_version.proofs.Leading.{insert_ascends, insert_at}
use Rattle.ssq_version.proofs.Spelled.{put_all, put_more}

pub shown_more : (entries : List Entry) (entry : Entry) → shown (entries ++ entry ∷ []) ≡ shown entries ++ (entry.key.now, option_copied entry.value) ∷ []
shown_more [] entry = refl
shown_more (first ∷ entries) entry = ap (λ (es : Change). (first.key.now, option_copied first.value) ∷ es) (shown_more entries entry)

-- one more entry of a state: those that are listed, with what is left of the state, are all
pub listed_more : (made now : List Entry) (all : Change) (entry : Entry) (key value : List ℕ) (it rest : State) → it ≡ (key, value) ∷ rest → now ≡ made ++ entry ∷ [] → entry.key.now ≡ key → option_copied entry.value ≡ Some value
    → shown made ++ said_of it ≡ all → shown now ++ said_of rest ≡ all
listed_more made now all entry key value it rest step more same also is =
    ap (λ (es : List Entry). shown es ++ said_of rest) more ∙ ap (λ (es : Change). es ++ said_of rest) (shown_more made entry)
    ∙ append_assoc (shown made) ((entry.key.now, option_copied entry.value) ∷ []) (said_of rest)
    ∙ ap₂ (λ (k : List ℕ) (v : Option (List ℕ)). shown made ++ (k, v) ∷ said_of rest) same also
    ∙ ap (λ (es : State). shown made ++ said_of es) (sym step) ∙ is

pub listed_all : (made : List Entry) (all : Change) (it : State) → it ≡ [] → shown made ++ said_of it ≡ all → shown made ≡ all
listed_all made all it none is = sym (append-nil (shown made)) ∙ ap (λ (es : State). shown made ++ said_of es) (sym none) ∙ is

-- ---- newer entries among older ones

-- an entry goes after what comes before its key
put_behind : {X : Type 0} (first : List ℕ × X) (es : List (List ℕ × X)) (k : List ℕ) (x : X) → by_bytes first.0 k ≡ Less → insert_entry by_bytes (first ∷ es) k x ≡ first ∷ insert_entry by_bytes es k x
put_behind {X} first es k x less =
    ap (λ (o : Ordering). match_ordering o ((k, x) ∷ first ∷ es) ((first.0, x) ∷ es) (first ∷ insert_entry by_bytes es k x)) (nat_list_cmp_total.antisymm k first.0 ∙ ap ordering_reverse less)

-- what comes before all newer keys stays first
stays_first : {X : Type 0} (newer : List (List ℕ × X)) (first : List ℕ × X) (es : List (List ℕ × X)) → AllByRecursion (λ y. by_bytes first.0 y ≡ Less) (keys_of newer) → laid newer (first ∷ es) ≡ first ∷ laid newer es
stays_first [] first es below = refl
stays_first {X} (entry ∷ newer) first es below =
    ap (λ (older : List (List ℕ × X)). laid newer older) (put_behind first es entry.0 entry.1 below.0) ∙ stays_first newer first (insert_entry by_bytes es entry.0 entry.1) below.1

below_first : {X : Type 0} (entry : List ℕ × X) (newer : List (List ℕ × X)) → Ascends (entry ∷ newer) → AllByRecursion (λ y. by_bytes entry.0 y ≡ Less) (keys_of newer)
unfolding IsStrictlySortedBy
below_first entry newer ascend = ascend.0

pub old_first : {X : Type 0} (old new : List ℕ × X) (older newer : List (List ℕ × X)) → Ascends (new ∷ newer) → by_bytes old.0 new.0 ≡ Less → laid (new ∷ newer) (old ∷ older) ≡ old ∷ laid (new ∷ newer) older
old_first old new older newer ascend less = stays_first (new ∷ newer) old older (less, below_all old.0 new.0 (keys_of newer) less (below_first new newer ascend))

pub both_first : {X : Type 0} (old new : List ℕ × X) (older newer : List (List ℕ × X)) → Ascends (new ∷ newer) → by_bytes old.0 new.0 ≡ Equal → laid (new ∷ newer) (old ∷ older) ≡ new ∷ laid newer older
both_first {X} old new older newer ascend is =
    ap (λ (o : Ordering). laid newer (match_ordering o ((new.0, new.1) ∷ old ∷ older) ((old.0, new.1) ∷ older) (old ∷ insert_entry by_bytes older new.0 new.1))) (nat_list_cmp_total.antisymm new.0 old.0 ∙ ap ordering_reverse is)
    ∙ ap (λ (k : List ℕ). laid newer ((k, new.1) ∷ older)) (exact_bytes old.0 new.0 is)
    ∙ stays_first newer new older (below_first new newer ascend)

pub new_first : {X : Type 0} (old new : List ℕ × X) (older newer : List (List ℕ × X)) → Ascends (new ∷ newer) → by_bytes old.0 new.0 ≡ Greater → laid (new ∷ newer) (old ∷ older) ≡ new ∷ laid newer (old ∷ older)
new_first {X} old new older newer ascend is =
    ap (λ (o : Ordering). laid newer (match_ordering o ((new.0, new.1) ∷ old ∷ older) ((old.0, new.1) ∷ older) (old ∷ insert_entry by_bytes older new.0 new.1))) (nat_list_cmp_total.antisymm new.0 old.0 ∙ ap ordering_reverse is)
    ∙ stays_first newer new (old ∷ older) (below_first new newer ascend)

pub only_new : {X : Type 0} (new : List ℕ × X) (newer : List (List ℕ × X)) → Ascends (new ∷ newer) → laid (new ∷ newer) [] ≡ new ∷ laid newer []
only_new new newer ascend = stays_first newer new [] (below_first new newer ascend)

-- ---- the same of entries where they lie

abbrev pub said : Entry → List ℕ × Option (List ℕ)
said entry = (entry.key.now, option_copied entry.value)

pub no_entries : (entries : List Entry) → length entries ≡ 0 → entries ≡ []
no_entries [] none = refl
no_entries (entry ∷ entries) none = absurd (omega (arith, none))

two : (one other : List Entry) (more less : List Entry) → one ≡ more → other ≡ less → laid (shown one) (shown other) ≡ laid (shown more) (shown less)
two one other more less is also = ap₂ (λ (a b : List Entry). laid (shown a) (shown b)) is also

first : (newer ns : List Entry) (n : Entry) → newer ≡ n ∷ ns → Ascends (shown newer) → Ascends (shown (n ∷ ns))
first newer ns n is ascend = subst (λ (es : List Entry). Ascends (shown es)) is ascend

pub none_of_both : (older newer : List Entry) → length older ≡ 0 → length newer ≡ 0 → laid (shown newer) (shown older) ≡ []
none_of_both older newer none also = two newer older [] [] (no_entries newer also) (no_entries older none)

-- what is left after the first of one list, of the other, or of both
abbrev pub left : ℕ → ℕ → List Entry → List Entry → Change
left olds news older newer = laid (shown (drop news newer)) (shown (drop olds older))

pub old_of_one : (older newer os : List Entry) (o : Entry) → older ≡ o ∷ os → length newer ≡ 0 → laid (shown newer) (shown older) ≡ said o ∷ left 1 0 older newer
old_of_one older newer os o is none =
    two newer older [] (o ∷ os) (no_entries newer none) is ∙ sym (ap₂ (λ (a b : List Entry). said o ∷ left 1 0 a b) is (no_entries newer none))

pub new_of_one : (older newer ns : List Entry) (n : Entry) → length older ≡ 0 → newer ≡ n ∷ ns → Ascends (shown newer) → laid (shown newer) (shown older) ≡ said n ∷ left 0 1 older newer
new_of_one older newer ns n none is ascend =
    two newer older (n ∷ ns) [] is (no_entries older none) ∙ only_new (said n) (shown ns) (first newer ns n is ascend)
    ∙ sym (ap₂ (λ (a b : List Entry). said n ∷ left 0 1 a b) (no_entries older none) is)

pub old_of_two : (older newer os ns : List Entry) (o n : Entry) → older ≡ o ∷ os → newer ≡ n ∷ ns → Ascends (shown newer) → by_bytes o.key.now n.key.now ≡ Less → laid (shown newer) (shown older) ≡ said o ∷ left 1 0 older newer
old_of_two older newer os ns o n is also ascend less =
    two newer older (n ∷ ns) (o ∷ os) also is ∙ old_first (said o) (said n) (shown os) (shown ns) (first newer ns n also ascend) less
    ∙ sym (ap₂ (λ (a b : List Entry). said o ∷ left 1 0 a b) is also)

pub both_of_two : (older newer os ns : List Entry) (o n : Entry) → older ≡ o ∷ os → newer ≡ n ∷ ns → Ascends (shown newer) → by_bytes o.key.now n.key.now ≡ Equal → laid (shown newer) (shown older) ≡ said n ∷ left 1 1 older newer
both_of_two older newer os ns o n is also ascend same =
    two newer older (n ∷ ns) (o ∷ os) also is ∙ both_first (said o) (said n) (shown os) (shown ns) (first newer ns n also ascend) same
    ∙ sym (ap₂ (λ (a b : List Entry). said n ∷ left 1 1 a b) is also)

pub new_of_two : (older newer os ns : List Entry) (o n : Entry) → older ≡ o ∷ os → newer ≡ n ∷ ns → Ascends (shown newer) → by_bytes o.key.now n.key.now ≡ Greater → laid (shown newer) (shown older) ≡ said n ∷ left 0 1 older newer
new_of_two older newer os ns o n is also ascend more =
    two newer older (n ∷ ns) (o ∷ os) also is ∙ new_first (said o) (said n) (shown os) (shown ns) (first newer ns n also ascend) more
    ∙ sym (ap₂ (λ (a b : List Entry). said n ∷ left 0 1 a b) is also)

-- one more entry is taken
pub taken : (older newer : List Entry) (old new olds news : ℕ) (made more : List Entry) (entry : Entry) (all : Change) → more ≡ made ++ entry ∷ []
    → laid (shown (drop new newer)) (shown (drop old older)) ≡ said entry ∷ laid (shown (drop news (drop new newer))) (shown (drop olds (drop old older)))
    → shown made ++ left old new older newer ≡ all → shown more ++ left (old + olds) (new + news) older newer ≡ all
taken older newer old new olds news made more entry all push step whole =
    ap (λ (es : List Entry). shown es ++ left (old + olds) (new + news) older newer) push
    ∙ ap (λ (es : Change). es ++ left (old + olds) (new + news) older newer) (shown_more made entry)
    ∙ append_assoc (shown made) (said entry ∷ []) (left (old + olds) (new + news) older newer)
    ∙ ap₂ (λ (a b : List Entry). shown made ++ said entry ∷ laid (shown a) (shown b)) (sym (drop-drop news new newer)) (sym (drop-drop olds old older))
    ∙ sym (ap (λ (es : Change). shown made ++ es) step)
    ∙ whole

drop_ascends : (n : ℕ) (entries : List Entry) → Ascends (shown entries) → Ascends (shown (drop n entries))
drop_ascends zero entries ascend = ascend
drop_ascends (suc n) [] ascend = ascend
drop_ascends (suc n) (entry ∷ entries) ascend = drop_ascends n entries (ascends_behind entry.key.now (option_copied entry.value) (shown entries) ascend)

-- what is left ascends
pub rest_ascends : (entries : List Entry) (n : ℕ) → Ascends (shown entries) → Ascends (shown (take (length entries - n) (drop n entries)))
rest_ascends entries n ascend =
    let same : take (length entries - n) (drop n entries) ≡ drop n entries = take_all (length entries - n) (drop n entries) (omega (arith, length-drop n entries)) in
    subst (λ (es : List Entry). Ascends (shown es)) (sym same) (drop_ascends n entries ascend)

-- ---- the state of layers

-- of each key the newer entries count
pub laid_at : {X : Type 0} (newer older : List (List ℕ × X)) (key : List ℕ) → Ascends newer → value_at (laid newer older) key ≡ option_or (value_at newer key) (value_at older key)
laid_at [] older key ascend = refl
laid_at {X} (entry ∷ newer) older key ascend =
    laid_at newer (insert_entry by_bytes older entry.0 entry.1) key (ascends_behind entry.0 entry.1 newer ascend)
    ∙ ap (λ (o : Option X). option_or (value_at newer key) o) (insert_at older entry.0 entry.1 key)
    ∙ by_case (is_at (by_bytes key) entry.0)
    (λ at. let same = one_key key entry.0 at in
    ap₂ (λ (o : Option X) (b : Bool). option_or o (cond b (Some entry.1) (value_at older key))) (ap (λ (k : List ℕ). value_at newer k) same ∙ none_behind entry.0 entry.1 newer ascend) (sym (either_way key entry.0) ∙ at)
    ∙ sym (ap (λ (o : Option X). option_or o (value_at older key)) (first_at entry.0 entry.1 newer key at)))
    (λ apart.
    ap (λ (b : Bool). option_or (value_at newer key) (cond b (Some entry.1) (value_at older key))) (sym (either_way key entry.0) ∙ apart)
    ∙ sym (ap (λ (o : Option X). option_or o (value_at older key)) (others_at entry.0 entry.1 newer key apart)))

behind_kept : (entry : List ℕ × Option (List ℕ)) (newer : Change) → IsChange (entry ∷ newer) → IsShort entry.0 × IsShortOrNone entry.1 × IsChange newer
behind_kept entry newer kept =
    let keys = recursion_from_All IsShort (keys_of (entry ∷ newer)) kept.keys in
    let values = recursion_from_All IsShortOrNone (values_of (entry ∷ newer)) kept.values in (
      keys.0,
      values.0,
      record {
        ascend = ascends_behind entry.0 entry.1 newer kept.ascend;
        keys = All-from_recursion IsShort (keys_of newer) keys.1;
        values = All-from_recursion IsShortOrNone (values_of newer) values.1;
      },
    )

pub laid_kept : (newer older : Change) → IsChange newer → IsChange older → IsChange (laid newer older)
laid_kept [] older kept also = also
laid_kept (entry ∷ newer) older kept also =
    let behind = behind_kept entry newer kept in
    laid_kept newer (insert_entry by_bytes older entry.0 entry.1) behind.2
    (kept_inserted IsShortOrNone older (insert_entry by_bytes older entry.0 entry.1) entry.0 entry.1 refl (insert_ascends older entry.0 entry.1 also.ascend) also behind.0 behind.1)

pub layered_kept : (older newer : Change) → IsChange older → IsChange newer → IsState (layered older newer)
layered_kept older newer kept also = given_kept (laid newer older) (laid_kept newer older also kept)

pub layered_at : (older newer : Change) (key : List ℕ) → IsChange older → IsChange newer → value_at (layered older newer) key ≡ value_after (option_or (value_at newer key) (value_at older key)) None
layered_at older newer key kept also =
    given_at (laid newer older) (laid_kept newer older also kept).ascend key ∙ ap (λ (said : Option (Option (List ℕ))). value_after said None) (laid_at newer older key also.ascend)

-- a change over them leads to the state with the change laid over the newer ones
pub layered_after : (older newer change : Change) → IsChange older → IsChange newer → IsChange change → IsAfter change (layered older newer) (layered older (laid change newer))
layered_after older newer change kept also told key =
    layered_at older (laid change newer) key kept (laid_kept change newer told also)
    ∙ ap (λ (o : Option (Option (List ℕ))). value_after (option_or o (value_at older key)) None) (laid_at change newer key told.ascend)
    ∙ by (value_at change key)
    ∙ sym (ap (λ (old : Option (List ℕ)). value_after (value_at change key) old) (layered_at older newer key kept also))
  where
    by : (said : Option (Option (List ℕ))) → value_after (option_or (option_or said (value_at newer key)) (value_at older key)) None ≡ value_after said (value_after (option_or (value_at newer key) (value_at older key)) None)
    by None = refl
    by (Some value) = refl

-- without newer entries it is what the older ones say
pub layered_said : (state : State) → layered (said_of state) [] ≡ state
layered_said [] = refl
layered_said (entry ∷ state) = ap (λ (es : State). entry ∷ es) (layered_said state)

pub said_by_newer : (older newer : Change) (key : List ℕ) (said : Option (List ℕ)) → IsChange older → IsChange newer → value_at newer key ≡ Some said → said ≡ value_at (layered older newer) key
said_by_newer older newer key said kept also is = sym (layered_at older newer key kept also ∙ ap (λ (o : Option (Option (List ℕ))). value_after (option_or o (value_at older key)) None) is)

pub said_by_older : (older newer : Change) (key : List ℕ) (said : Option (Option (List ℕ))) → IsChange older → IsChange newer → value_at newer key ≡ None → value_at older key ≡ said → value_after said None ≡ value_at (layered older newer) key
said_by_older older newer key said kept also none is =
    sym (layered_at older newer key kept also ∙ ap₂ (λ (o p : Option (Option (List ℕ))). value_after (option_or o p) None) none is)

-- ---- what entries give, as it is written

-- what the entries from this one on give
abbrev pub left_text : ℕ → List Entry → List ℕ
left_text n entries = entries_text Snapshot (said_of (given_by (shown (drop n entries))))

pub given_put : (entries : List Entry) (n : ℕ) (d : Entry) (out now all : List ℕ) → n < length entries → now ≡ out ++ kept_text (slice_index_or entries n d).key.now (option_copied (slice_index_or entries n d).value)
    → out ++ left_text n entries ≡ all → now ++ left_text (n + 1) entries ≡ all
given_put entries n d out now all within put is = subst (λ (m : ℕ). now ++ left_text m entries ≡ all) {x = suc n} (omega arith) (by (option_copied (slice_index_or entries n d).value) put (sym (ap (λ (es : List Entry). out ++ entries_text Snapshot (said_of (given_by (shown es)))) (drop-cons entries n d within)) ∙ is))
  where
    rest : State
    rest = given_by (shown (drop (suc n) entries))

    key : List ℕ
    key = (slice_index_or entries n d).key.now

    by : (value : Option (List ℕ)) → now ≡ out ++ kept_text key value → out ++ entries_text Snapshot (said_of (given_first key value rest)) ≡ all → now ++ entries_text Snapshot (said_of rest) ≡ all
    by None put is = ap (λ (text : List ℕ). text ++ entries_text Snapshot (said_of rest)) (put ∙ append-nil out) ∙ is
    by (Some value) put is = put_more Snapshot out now all (said_of (given_first key (Some value) rest)) (said_of rest) (key, Some value) refl put is

pub given_ends : (entries : List Entry) (n : ℕ) (out all : List ℕ) → length entries ≤ n → out ++ left_text n entries ≡ all → out ≡ all
given_ends entries n out all past is = put_all Snapshot out all (said_of (given_by (shown (drop n entries)))) (ap (λ (es : List Entry). said_of (given_by (shown es))) (drop_all n entries past)) is

pub is_short_at : (entries : List Entry) (n : ℕ) (d : Entry) → IsChange (shown entries) → n < length entries → IsShort (slice_index_or entries n d).key.now × IsShortOrNone (option_copied (slice_index_or entries n d).value)
is_short_at [] n d kept within = absurd (omega (arith, within))
is_short_at (entry ∷ entries) zero d kept within = let behind = behind_kept (said entry) (shown entries) kept in (behind.0, behind.1)
is_short_at (entry ∷ entries) (suc n) d kept within = is_short_at entries n d (behind_kept (said entry) (shown entries) kept).2 (omega (arith, within))

-- ---- copies of entries

-- what is left begins with the entry at its place
pub left_step : (entries : List Entry) (n : ℕ) (d : Entry) → n < length entries → shown (drop n entries) ≡ said (slice_index_or entries n d) ∷ shown (drop (n + 1) entries)
left_step entries n d within =
    subst (λ (m : ℕ). shown (drop n entries) ≡ said (slice_index_or entries n d) ∷ shown (drop m entries)) {x = suc n} (omega arith) (ap (λ (es : List Entry). shown es) (drop-cons entries n d within))

pub left_none : (entries : List Entry) (n : ℕ) → length entries ≤ n → shown (drop n entries) ≡ []
left_none entries n past = ap (λ (es : List Entry). shown es) (drop_all n entries past)

pub copied_more : (made more all left rest : Change) (copy entry : List ℕ × Option (List ℕ)) → more ≡ made ++ copy ∷ [] → copy ≡ entry → left ≡ entry ∷ rest → made ++ left ≡ all → more ++ rest ≡ all
copied_more made more all left rest copy entry push same step is =
    ap (λ (es : Change). es ++ rest) push ∙ append_assoc made (copy ∷ []) rest ∙ ap (λ (e : List ℕ × Option (List ℕ)). made ++ e ∷ rest) same ∙ sym (ap (λ (es : Change). made ++ es) step) ∙ is

pub copied_ends : (made all left : Change) → left ≡ [] → made ++ left ≡ all → made ≡ all
copied_ends made all left none is = sym (append-nil made) ∙ sym (ap (λ (es : Change). made ++ es) none) ∙ is
