-- One row more.
use Rattle.std.proofs.Common.{◌≡◌, ◌⊎◌, ◌<◌, ◌+◌, ◌++◌, ℕ, [], ◌∷◌, Some, List, Option, Bool, true, false, cond, All, refl, ap, sym, subst, ◌∙◌, inl, inr, take, length, get_or}
use Rattle.std.specs.Prelude.{◌&&◌, ◌||◌, not, if◌then◌else◌, is_some}
use Rattle.std.specs.BTreeMap.{is_at}
use Rattle.std.specs.List.{AllByRecursion}
use Rattle.std.proofs.lemmas.List.{append_assoc, append-nil, map-append}
use Rattle.std.proofs.lemmas.List.Elements.{All-get_or, All-push}
use mathlib.Core.Bool.{or-false}
use Rattle.ssq_time.specs.Time.{IsStampTime}
use Rattle.ssq_value.specs.Kind.{IfTime}
use Rattle.ssq_value.specs.Key.{keys_of}
use Rattle.ssq_version.specs.State.{Change, State, by_bytes, value_at}
use Rattle.ssq_version.proofs.Values.{by_case, one_key}
use Rattle.ssq_meaning.specs.FedRows.{FedRow}
use Rattle.ssq_meaning.specs.Dedup.{firsts, values_in}
use Rattle.ssq_meaning.specs.DedupLaws.{entry_if}
use Rattle.ssq_meaning.specs.Fit.{IsFitRow}
use Rattle.ssq_meaning.specs.Group.{has_key, is_same}
use Rattle.ssq_meaning.specs.Meaning.{Values}
use Rattle.ssq_meaning.proofs.Coding.{AreApart}
use Rattle.ssq_meaning.proofs.Counted.{has_key-append}
use Rattle.ssq_meaning.proofs.Keys.{same_back, same_is}
use Rattle.ssq_step.specs.Indexing.{IsReadableKey}
use Rattle.ssq_step.proofs.ByBytes.{same_bytes, spelled_key}
use Rattle.ssq_step.proofs.Lists.{one_more}
use Rattle.ssq_step.proofs.Printing.{fit_times}
use Rattle.ssq_dedup.specs.Firsts.{HoldsKeys, IsKeyed, SaysFirsts, Takes, TakesIf, first_among, said_if}

or_back : (a b : Bool) → (a || b) ≡ (b || a)
or_back true true = refl
or_back true false = refl
or_back false true = refl
or_back false false = refl

-- ---- the rows that are no repeats

pub first_among-append : (is_held : Values → Bool) (earlier xs ys : List FedRow) → first_among is_held earlier (xs ++ ys) ≡ first_among is_held earlier xs ++ first_among is_held (earlier ++ xs) ys
unfolding first_among
first_among-append is_held earlier [] ys = ap (λ e. first_among is_held e ys) (sym (append-nil earlier))
first_among-append is_held earlier (x ∷ xs) ys =
    by (first_among-append is_held (earlier ++ x ∷ []) xs ys ∙ ap (λ e. first_among is_held (earlier ++ x ∷ []) xs ++ first_among is_held e ys) (append_assoc earlier (x ∷ []) xs))
    (is_held x.key || has_key earlier x.key)
  where
    by : first_among is_held (earlier ++ x ∷ []) (xs ++ ys) ≡ first_among is_held (earlier ++ x ∷ []) xs ++ first_among is_held (earlier ++ x ∷ xs) ys → (b : Bool)
        → (if b then first_among is_held (earlier ++ x ∷ []) (xs ++ ys) else x ∷ first_among is_held (earlier ++ x ∷ []) (xs ++ ys))
        ≡ (if b then first_among is_held (earlier ++ x ∷ []) xs else x ∷ first_among is_held (earlier ++ x ∷ []) xs) ++ first_among is_held (earlier ++ x ∷ xs) ys
    by rest true = rest
    by rest false = ap (λ l. x ∷ l) rest

-- where a key is kept exactly where an old row has it, they are those that no old row repeats
pub among_are : (is_held : Values → Bool) (old earlier rows : List FedRow) → AllByRecursion (λ (row : FedRow). is_held row.key ≡ has_key old row.key) rows
    → first_among is_held earlier rows ≡ firsts (old ++ earlier) rows
unfolding first_among firsts
among_are is_held old earlier [] known = refl
among_are is_held old earlier (row ∷ rows) known =
    let test : (is_held row.key || has_key earlier row.key) ≡ has_key (old ++ earlier) row.key = ap (λ b. b || has_key earlier row.key) known.0 ∙ sym (has_key-append old earlier row.key) in
    let rest : first_among is_held (earlier ++ row ∷ []) rows ≡ firsts ((old ++ earlier) ++ row ∷ []) rows =
    among_are is_held old (earlier ++ row ∷ []) rows known.1 ∙ ap (λ e. firsts e rows) (sym (append_assoc old earlier (row ∷ []))) in
    λ i. if test i then rest i else row ∷ rest i

-- ---- a row more

-- a key that is noted is new exactly where it was not there
pub was_there : (is_new has : Bool) → is_new ≡ not has → is_new ≡ false → has ≡ true
was_there is_new true says no_more = refl
was_there is_new false says no_more = let no : true ≡ false = sym says ∙ no_more in absurd cc

pub was_absent : (is_new has : Bool) → is_new ≡ not has → is_new ≡ true → has ≡ false
was_absent is_new false says yes_more = refl
was_absent is_new true says yes_more = let no : true ≡ false = sym yes_more ∙ says in absurd cc

pub put_in : (key own : Values) (old new : Values → Bool) → ((q : Values) → new q ≡ cond (is_same key q) true (old q)) → key ≡ own → (q : Values) → new q ≡ (is_same own q || old q)
put_in key own old new is same q = is q ∙ ap (λ k. cond (is_same k q) true (old q)) same ∙ by (is_same own q)
  where
    by : (b : Bool) → cond b true (old q) ≡ (b || old q)
    by true = refl
    by false = refl

-- a row whose key a row before it has
pub takes_repeat : (state : State) (row : FedRow) (has_row : Bool) → has_row ≡ true → (entries : Change) (shown : List Values) → Takes state row has_row entries entries shown shown
takes_repeat state row has_row has entries shown = subst (λ b. Takes state row b entries entries shown shown) (sym has) (refl, refl)

-- one whose key the state keeps or not, as is said
pub takes_by : (state : State) (row : FedRow) (has_row is_kept : Bool) → has_row ≡ false → is_kept ≡ is_some (value_at state (keys_of row.key)) → (before after : Change) (shown more : List Values)
    → TakesIf is_kept row before after shown more → Takes state row has_row before after shown more
takes_by state row has_row is_kept has kept before after shown more takes =
    let known : (false || is_kept) ≡ (has_row || is_some (value_at state (keys_of row.key))) = λ i. sym has i || kept i in
    subst (λ b. TakesIf b row before after shown more) known takes

has_more : (done : List FedRow) (row : FedRow) (key : Values) → has_key (done ++ row ∷ []) key ≡ (has_key done key || is_same key row.key)
has_more done row key = has_key-append done (row ∷ []) key ∙ ap (λ b. has_key done key || b) (or-false (is_same key row.key))

-- the keys of the rows so far, with that of one row more
pub keys_more : (rows : List FedRow) (at : ℕ) (row : FedRow) → at < length rows → row ≡ get_or rows at row → (old new : Values → Bool) → ((key : Values) → new key ≡ (is_same row.key key || old key))
    → ((key : Values) → old key ≡ has_key (take at rows) key) → (key : Values) → new key ≡ has_key (take (at + 1) rows) key
keys_more rows at row inside is old new more was key =
    more key
    ∙ (λ i. same_back row.key key i || was key i)
    ∙ or_back (is_same key row.key) (has_key (take at rows) key)
    ∙ sym (has_more (take at rows) row key)
    ∙ ap (λ l. has_key l key) (sym (one_more rows at row inside is))

module _ (is_held : Values → Bool) (done : List FedRow) (row : FedRow) where
  -- the rows that are shown, with one row more
  shown_more : (known : Bool) → (is_held row.key || has_key done row.key) ≡ known → (shown more : List Values) → more ≡ shown ++ values_in (if known then [] else row ∷ [])
      → shown ≡ values_in (first_among is_held [] done) → more ≡ values_in (first_among is_held [] (done ++ row ∷ []))
  unfolding first_among
  shown_more known is shown more added was =
      added
      ∙ (λ i. was i ++ values_in (if sym is i then [] else row ∷ []))
      ∙ sym (ap values_in (first_among-append is_held [] done (row ∷ [])) ∙ map-append (λ (row : FedRow). row.values) (first_among is_held [] done) (first_among is_held done (row ∷ [])))

  shows : (known : Bool) (before after : Change) (shown more : List Values) → TakesIf known row before after shown more → more ≡ shown ++ values_in (if known then [] else row ∷ [])
  shows true before after shown more takes = takes.1 ∙ sym (append-nil shown)
  shows false before after shown more takes = takes.1

  known_is : (count : ℕ) (state : State) → HoldsKeys count state is_held → IsKeyed count row → (has_row : Bool) → has_row ≡ has_key done row.key
      → (has_row || is_some (value_at state (keys_of row.key))) ≡ (is_held row.key || has_key done row.key)
  known_is count state holds keyed has_row has = (λ i. has i || is_some (holds row.key keyed i)) ∙ by (has_key done row.key) (is_held row.key)
    where
      by : (r h : Bool) → (r || is_some (entry_if h)) ≡ (h || r)
      by true true = refl
      by true false = refl
      by false true = refl
      by false false = refl

-- ---- what is said

-- what is said of a key after one row more, whose key was known or not
flags : (known same held has : Bool) (said : Option (Option (List ℕ))) → (same ≡ true → (held || has) ≡ known)
    → (if known then said_if (not held && has) said else (if same then Some (Some []) else said_if (not held && has) said)) ≡ said_if (not held && (has || same)) said
flags true false true has said is = refl
flags true false false true said is = refl
flags true false false false said is = refl
flags true true true has said is = refl
flags true true false true said is = refl
flags true true false false said is = let no : false ≡ true = is refl in absurd cc
flags false false true has said is = refl
flags false false false true said is = refl
flags false false false false said is = refl
flags false true true has said is = let no : true ≡ false = is refl in absurd cc
flags false true false true said is = let no : true ≡ false = is refl in absurd cc
flags false true false false said is = refl

none_said : (b : Bool) (said : Option (Option (List ℕ))) → said ≡ said_if (b && false) said
none_said true said = refl
none_said false said = refl

still : {K A : Type 0} (before now after : A) → after ≡ now → K ⊎ (now ≡ before) → K ⊎ (after ≡ before)
still before now after same was = elim was [
  | inl key ↦ inl key
  | inr unsaid ↦ inr (same ∙ unsaid)
]

module _ (apart : AreApart) (count : ℕ) (is_held : Values → Bool) (done : List FedRow) (row : FedRow) (keyed : IsKeyed count row) (before now after : Change) (shown more : List Values) where
  told_by : (known : Bool) → TakesIf known row now after shown more → (key : Values) → IsReadableKey count key
      → value_at after (keys_of key) ≡ (if known then value_at now (keys_of key) else (if is_same key row.key then Some (Some []) else value_at now (keys_of key)))
  told_by true takes key readable = ap (λ (c : Change). value_at c (keys_of key)) takes.0
  told_by false takes key readable =
      takes.0 (keys_of key) ∙ ap (λ b. if b then Some (Some []) else value_at now (keys_of key)) (same_bytes apart count row.key key (spelled_key count row.key keyed) (spelled_key count key readable) ∙ same_back row.key key)

  only_by : (known : Bool) → TakesIf known row now after shown more → (bytes : List ℕ) → ((key : Values) × (bytes ≡ keys_of key) × IsReadableKey count key) ⊎ (value_at now bytes ≡ value_at before bytes)
      → ((key : Values) × (bytes ≡ keys_of key) × IsReadableKey count key) ⊎ (value_at after bytes ≡ value_at before bytes)
  only_by true takes bytes was = still (value_at before bytes) (value_at now bytes) (value_at after bytes) (ap (λ (c : Change). value_at c bytes) takes.0) was
  only_by false takes bytes was =
      by_case (is_at (by_bytes (keys_of row.key)) bytes)
      (λ at. inl (row.key, sym (one_key (keys_of row.key) bytes at), keyed))
      (λ other. still (value_at before bytes) (value_at now bytes) (value_at after bytes) (takes.0 bytes ∙ ap (λ b. if b then Some (Some []) else value_at now bytes) other) was)

  says_more : (known : Bool) → (is_held row.key || has_key done row.key) ≡ known → TakesIf known row now after shown more → SaysFirsts count is_held done before now
      → SaysFirsts count is_held (done ++ row ∷ []) before after
  says_more known is takes says = record {
    told = λ key readable.
        told_by known takes key readable
        ∙ (λ i. if known then says.told key readable i else (if is_same key row.key then Some (Some []) else says.told key readable i))
        ∙ flags known (is_same key row.key) (is_held key) (has_key done key) (value_at before (keys_of key)) (λ same. ap (λ k. is_held k || has_key done k) (same_is key row.key same) ∙ is)
        ∙ ap (λ b. said_if (not (is_held key) && b) (value_at before (keys_of key))) (sym (has_more done row key));
    only = λ bytes. only_by known takes bytes (says.only bytes);
  }

-- what is said so far, and the rows shown, are those of the rows that are no repeats
abbrev pub AreFirsts : ℕ → (Values → Bool) → List FedRow → (before now : Change) → List Values → Type 0
AreFirsts count is_held done before now shown = SaysFirsts count is_held done before now × (shown ≡ values_in (first_among is_held [] done))

pub begins : (count : ℕ) (is_held : Values → Bool) (before : Change) (shown : List Values) → shown ≡ [] → AreFirsts count is_held [] before before shown
unfolding first_among
begins count is_held before shown none = (record { told = λ key readable. none_said (not (is_held key)) (value_at before (keys_of key)); only = λ bytes. inr refl }, none)

pub row_more : AreApart → (count : ℕ) (is_held : Values → Bool) (state : State) → HoldsKeys count state is_held → (rows : List FedRow) → All (IsKeyed count) rows → (at : ℕ) (row : FedRow)
    → at < length rows → row ≡ get_or rows at row → (has_row : Bool) → has_row ≡ has_key (take at rows) row.key → (before now after : Change) (shown more : List Values)
    → Takes state row has_row now after shown more → AreFirsts count is_held (take at rows) before now shown → AreFirsts count is_held (take (at + 1) rows) before after more
row_more apart count is_held state holds rows keyed at row inside is has_row has before now after shown more takes was =
    let done = take at rows in
    let known : Bool = is_held row.key || has_key done row.key in
    let own : IsKeyed count row = subst (IsKeyed count) (sym is) (All-get_or (IsKeyed count) rows at row inside keyed) in
    let taken : TakesIf (is_held row.key || has_key done row.key) row now after shown more = subst (λ b. TakesIf b row now after shown more) (known_is is_held done row count state holds own has_row has) takes in
    subst (λ (l : List FedRow). AreFirsts count is_held l before after more) (sym (one_more rows at row inside is)) (
      says_more apart count is_held done row own before now after shown more known refl taken was.0,
      shown_more is_held done row known refl shown more (shows is_held done row known now after shown more taken) was.1,
    )

-- ---- what can be printed

printed_by : (known : Bool) (row : FedRow) (before after : Change) (shown more : List Values) → TakesIf known row before after shown more → IsFitRow row → All (All (IfTime IsStampTime)) shown
    → All (All (IfTime IsStampTime)) more
printed_by true row before after shown more takes fit was = subst (All (All (IfTime IsStampTime))) (sym takes.1) was
printed_by false row before after shown more takes fit was =
    subst (All (All (IfTime IsStampTime))) (sym takes.1) (All-push (All (IfTime IsStampTime)) shown row.values was (fit_times row.values fit.values))

pub printed_more : (state : State) (row : FedRow) (has_row : Bool) (before after : Change) (shown more : List Values) → Takes state row has_row before after shown more → IsFitRow row
    → All (All (IfTime IsStampTime)) shown → All (All (IfTime IsStampTime)) more
printed_more state row has_row before after shown more takes fit was = printed_by (has_row || is_some (value_at state (keys_of row.key))) row before after shown more takes fit was
