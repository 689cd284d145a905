-- The sink files are gone through, one after the other.
use Rattle.std.proofs.Common.{◌≡◌, ℕ, zero, suc, ◌+◌, ◌<◌, ◌≤◌, max, ◌^◌, List, [], ◌∷◌, ◌++◌, length, take, Some, refl, sym, ap, ◌∙◌, subst, append_assoc, append-nil, arith, inl, inr, ◌⊎◌, IsUtf8, Result, Ok, Err, OnOk}
use Rattle.std.specs.Prelude.{slice_get, Contains, unwrap_or}
use Rattle.std.proofs.lemmas.List.Elements.{Contains-append_left, Contains-push, Contains-push_cases}
use Rattle.std.proofs.lemmas.Bool.{cases_lt}
use Rattle.std.proofs.lemmas.Str.{IsUtf8-nil}
use Rattle.ssq_outside.specs.declared.name.Name.{Name}
use Rattle.ssq_outside.specs.declared.name.Name.TheVariants as name
use Rattle.ssq_outside.specs.Files.{Files, AreNames}
use Rattle.ssq_outside.specs.History.{History, files_now}
use Rattle.ssq_shape.specs.declared.bound.Bound.{Bound}
use Rattle.ssq_shape.specs.declared.bound.Output.{Output}
use Rattle.ssq_shape.specs.Plain.{output_names}
use Rattle.ssq_json.specs.Stored.{AreRows, lines_of}
use Rattle.ssq_json.proofs.Restoring.{none_is_not}
use Rattle.ssq_meaning.specs.Meaning.{Values}
use Rattle.ssq_sink.specs.declared.fault.SinkFault.{SinkFault}
use Rattle.ssq_sink.specs.declared.fault.SinkFault.TheVariants.{Damaged, DiskFault, NoMemory}
use Rattle.ssq_sink.specs.declared.reading.Reading.{Reading}
use Rattle.ssq_sink.specs.Latest.{IsLatest}
use Rattle.ssq_sink.specs.Fault.{HasRisen, IfDamaged, IsBad}
use Rattle.ssq_sink.specs.Passing.{HasText, past}
use Rattle.ssq_sink.specs.Table.{AreCounted, AreFirst, IsBadSink, IsFirstBad, IsSink, IsSinkOf, IsTable, joined, last_of, output_kinds, reading, table_text, text_read}

-- a fault is counted over several calls
pub risen : (fault : SinkFault) (a b c : ℕ) → a ≤ b → HasRisen fault b c → HasRisen fault a c
risen (Damaged at) a b c low has = tt
risen DiskFault a b c low has = omega (arith, low, has)
risen NoMemory a b c low has = tt

-- two things that hold of one call
pub on_ok_both : {T E P Q R : Type 0} (r : Result T E) → (P → Q → R) → OnOk r P → OnOk r Q → OnOk r R
on_ok_both (Ok x) f p q = f p q
on_ok_both (Err e) f p q = tt

-- ---- the files that were gone through

some_is : {A : Type 0} {a b : A} → Some a ≡ Some b → a ≡ b
some_is {A} {a} {b} e = ap (λ o. unwrap_or o a) e

pub none_first : (query : Bound) (files : Files) → AreFirst query files []
none_first query files e rows here = none_is_not here

pub none_utf8 : (text : List ℕ) → text ≡ [] → IsUtf8 text
none_utf8 text none = subst IsUtf8 (sym none) IsUtf8-nil

slice_get-push : {A : Type 0} (xs : List A) (x y : A) (e : ℕ) → slice_get (xs ++ x ∷ []) e ≡ Some y → (slice_get xs e ≡ Some y) ⊎ ((e ≡ length xs) × (x ≡ y))
slice_get-push [] x y zero is = inr (refl, some_is is)
slice_get-push [] x y (suc e) is = none_is_not is
slice_get-push (z ∷ xs) x y zero is = inl is
slice_get-push (z ∷ xs) x y (suc e) is = elim (slice_get-push xs x y e is) [ inl there ↦ inl there | inr last ↦ inr (ap (λ n. suc n) last.0, last.1) ]

-- a sink file that is rows is the bytes that were read of it
pub rows_read : (query : Bound) (files : Files) (e : ℕ) (bytes : List ℕ) → files (name.Out e) ≡ Some bytes → (sink : IsSink query files e) → AreRows (output_names query) (output_kinds query) bytes sink.rows
rows_read query files e bytes found sink = subst (λ own. AreRows (output_names query) (output_kinds query) own sink.rows) (some_is (sym sink.is.there ∙ found)) sink.is.are

last_of-push : {A : Type 0} (lists : List (List A)) (own : List A) → last_of (lists ++ own ∷ []) ≡ own
last_of-push [] own = refl
last_of-push (one ∷ []) own = refl
last_of-push (one ∷ next ∷ lists) own = last_of-push (next ∷ lists) own

pub first_more : (query : Bound) (files : Files) (epochs : List (List Values)) (rows : List Values) (n : ℕ) → length epochs ≡ n → IsSinkOf query files n rows → AreFirst query files epochs → AreFirst query files (epochs ++ rows ∷ [])
first_more query files epochs rows n len own each e some here =
    elim (slice_get-push epochs rows some e here) [
      | inl there ↦ each e some there
      | inr last ↦ subst (λ k. IsSinkOf query files k some) (sym (last.0 ∙ len)) (subst (IsSinkOf query files n) last.1 own)
    ]

pub joined-push : (epochs : List (List Values)) (rows : List Values) → joined (epochs ++ rows ∷ []) ≡ joined epochs ++ rows
joined-push [] rows = append-nil rows
joined-push (own ∷ epochs) rows = ap (λ l. own ++ l) (joined-push epochs rows) ∙ sym (append_assoc own (joined epochs) rows)

pub get_some : {A : Type 0} (xs : List A) (e : ℕ) → e < length xs → (x : A) × (slice_get xs e ≡ Some x)
get_some [] e low = absurd (omega arith)
get_some (x ∷ xs) zero low = (x, refl)
get_some (x ∷ xs) (suc e) low = get_some xs e (omega arith)

-- all were right before this one
pub first_bad : (query : Bound) (files : Files) (n m : ℕ) (fault : SinkFault) (epochs : List (List Values)) → n < m → length epochs ≡ n → AreFirst query files epochs → IfDamaged (IsBad query files n) fault → IfDamaged (IsFirstBad query files m) fault
first_bad query files n m (Damaged at) epochs low len each bad = record {
  e = n;
  is = bad.0;
  below = low;
  before = λ f less. let own = get_some epochs f (omega (arith, less, len)) in record { rows = own.0; is = each f own.0 own.1 };
  bad = bad.1;
}
first_bad query files n m DiskFault epochs low len each bad = tt
first_bad query files n m NoMemory epochs low len each bad = tt

-- ---- what is kept

-- of a file that was begun no row is there yet
joined_begun : (epochs : List (List Values)) → joined (epochs ++ [] ∷ []) ≡ joined epochs
joined_begun epochs = joined-push epochs [] ∙ append-nil (joined epochs)

pub each_begun : (names : List (List ℕ)) (epochs : List (List Values)) (text : List ℕ) → text ≡ lines_of names (joined epochs) → text ≡ lines_of names (joined (epochs ++ [] ∷ []))
each_begun names epochs text is = is ∙ ap (lines_of names) (sym (joined_begun epochs))

pub latest_begun : (outputs : List Output) (epochs : List (List Values)) (entries : List (Values × Values)) → IsLatest outputs (joined epochs) entries → IsLatest outputs (joined (epochs ++ [] ∷ [])) entries
latest_begun outputs epochs entries so = subst (λ rows. IsLatest outputs rows entries) (sym (joined_begun epochs)) so

pub last_begun : (names : List (List ℕ)) (epochs : List (List Values)) (text : List ℕ) → text ≡ [] → text ≡ lines_of names (last_of (epochs ++ [] ∷ []))
last_begun names epochs text is = is ∙ ap (lines_of names) (sym (last_of-push epochs []))

-- one row more of the last file
pub joined_more : (epochs : List (List Values)) (rows : List Values) (row : Values) → joined (epochs ++ (rows ++ row ∷ []) ∷ []) ≡ joined (epochs ++ rows ∷ []) ++ row ∷ []
joined_more epochs rows row = joined-push epochs (rows ++ row ∷ []) ∙ sym (append_assoc (joined epochs) rows (row ∷ [])) ∙ ap (λ all. all ++ row ∷ []) (sym (joined-push epochs rows))

pub last_more : (epochs : List (List Values)) (rows : List Values) (row : Values) → last_of (epochs ++ (rows ++ row ∷ []) ∷ []) ≡ last_of (epochs ++ rows ∷ []) ++ row ∷ []
last_more epochs rows row = last_of-push epochs (rows ++ row ∷ []) ∙ ap (λ all. all ++ row ∷ []) (sym (last_of-push epochs rows))

-- a text that is read so is the query's table
pub is_table_text : (own : Reading) (query : Bound) (epochs : List (List Values)) (text : List ℕ) → reading query ≡ own → text ≡ text_read own query epochs → text ≡ table_text query epochs
is_table_text own query epochs text way is = is ∙ ap (λ one. text_read one query epochs) (sym way)

-- ---- the table

-- all sink files were gone through
pub table_read : (query : Bound) (old new : History) (m : ℕ) (text : List ℕ) → new ≡ old → AreCounted (files_now old) m → HasText query (files_now new) m text → IsTable query (files_now old) text
table_read query old new m text same counted has =
    let so : HasText query (files_now old) m text = subst (λ h. HasText query (files_now h) m text) same has in
    record { epochs = so.epochs; sinks = record { counted = subst (AreCounted (files_now old)) (sym so.all) counted; each = so.each }; is = so.is }

-- one of them is bad, or the outside failed
pub table_bad : (query : Bound) (old new : History) (m : ℕ) (fault : SinkFault) → new ≡ old → AreCounted (files_now old) m → IfDamaged (IsFirstBad query (files_now new) m) fault → IfDamaged (IsBadSink query (files_now old)) fault
table_bad query old new m (Damaged at) same counted bad = record { m = m; counted = counted; first = subst (λ h. IsFirstBad query (files_now h) m at) same bad }
table_bad query old new m DiskFault same counted bad = tt
table_bad query old new m NoMemory same counted bad = tt

-- ---- counting

-- one more than the greatest epoch of these sink files
pub record CountsOuts (names : List Name) (count : ℕ) : Type 0 where
  pub few : count ≤ 2 ^ 32
  pub all : (e : ℕ) → Contains names (name.Out e) → e < count
  pub last : (e : ℕ) → count ≡ e + 1 → Contains names (name.Out e)

pub none_counted : CountsOuts [] 0
none_counted = record { few = omega arith; all = λ e has. absurd (omega (arith, has.1)); last = λ e is. absurd (omega (arith, is)) }

past_out : (one : Name) (e : ℕ) → past one ≡ e + 1 → one ≡ name.Out e
past_out name.Meta e is = absurd (omega (arith, is))
past_out (name.Plan f) e is = absurd (omega (arith, is))
past_out (name.Commit f) e is = absurd (omega (arith, is))
past_out (name.Out f) e is = let same : f ≡ e = omega (arith, is) in ap (λ k. name.Out k) same
past_out (name.Delta p v) e is = absurd (omega (arith, is))
past_out (name.Snapshot p v) e is = absurd (omega (arith, is))

-- one name more
pub one_counted : (names : List Name) (one : Name) (count new : ℕ) → new ≤ 2 ^ 32 → new ≡ max count (past one) → CountsOuts names count → CountsOuts (names ++ one ∷ []) new
one_counted names one count new few is so = record {
  few = omega (arith, few, is, so.few);
  all = λ e has. elim (Contains-push_cases names one (name.Out e) has) [
    | inl there ↦ omega (arith, is, so.all e there)
    | inr last ↦ let own : past one ≡ e + 1 = ap past last in omega (arith, is, own)
  ];
  last = λ e here. elim (cases_lt count (past one)) [
    | inl less ↦ let own : past one ≡ e + 1 = omega (arith, is, here, less) in subst (Contains (names ++ one ∷ [])) (past_out one e own) (Contains-push names one)
    | inr more ↦ Contains-append_left names (one ∷ []) (name.Out e) (so.last e (omega (arith, is, here, more)))
  ];
}

pub all_counted : (names : List Name) (count : ℕ) → CountsOuts names count → (files : Files) → AreNames files names → AreCounted files count
all_counted names count so files are = record { all = λ e some. so.all e (are.all (name.Out e) some); last = λ e is. are.there (name.Out e) (so.last e is) }

pub take-all : {A : Type 0} (xs : List A) (n : ℕ) → length xs ≡ n → take n xs ≡ xs
take-all [] zero is = refl
take-all [] (suc n) is = refl
take-all (x ∷ xs) zero is = absurd (omega (arith, is))
take-all (x ∷ xs) (suc n) is = ap (λ l. x ∷ l) (take-all xs n (omega (arith, is)))
