-- What has a spelling as the entries of a file: changes and states.
use Rattle.std.proofs.Common.{◌≡◌, ℕ, suc, ◌<◌, ◌^◌, Option, Some, None, List, [], ◌∷◌, ◌++◌, length, refl, sym, ap, subst, ◌∙◌, append_assoc, append-nil, All}
use Rattle.std.specs.List.{AllByRecursion}
use Rattle.std.specs.List.Sorted.{IsStrictlySortedBy}
use Rattle.std.specs.Map.{keys_of, values_of}
use Rattle.std.proofs.lemmas.List.Elements.{All-from_recursion, recursion_from_All}
use Rattle.ssq_version.specs.declared.form.Form.{Form}
use Rattle.ssq_version.specs.declared.form.Form.TheVariants as form
use Rattle.ssq_version.specs.State.{State, Change, by_bytes, IsShort, IsShortOrNone, IsState, IsChange}
use Rattle.ssq_version.specs.Text.{entry_text, entries_text, CanSay, IsSpelled, AreEntries, IsFile, said_of, file_text, snapshot_text}

short_keys : (form : Form) (es : Change) → AllByRecursion (IsSpelled form) es → AllByRecursion IsShort (keys_of es)
short_keys form [] all = tt
short_keys form (e ∷ es) all = (all.0.0, short_keys form es all.1)

short_values : (es : Change) → AllByRecursion (IsSpelled form.Delta) es → AllByRecursion IsShortOrNone (values_of es)
short_values [] all = tt
short_values ((k, None) ∷ es) all = (tt, short_values es all.1)
short_values ((k, Some v) ∷ es) all = (all.0.1, short_values es all.1)

spelled_change : (es : Change) → AllByRecursion IsShort (keys_of es) → AllByRecursion IsShortOrNone (values_of es) → AllByRecursion (IsSpelled form.Delta) es
spelled_change [] keys values = tt
spelled_change ((k, None) ∷ es) keys values = ((keys.0, tt), spelled_change es keys.1 values.1)
spelled_change ((k, Some v) ∷ es) keys values = ((keys.0, values.0), spelled_change es keys.1 values.1)

pub change_is_kept : (change : Change) → AreEntries form.Delta change → IsChange change
change_is_kept change are = record {
  ascend = are.ascend;
  keys = All-from_recursion IsShort (keys_of change) (short_keys form.Delta change are.spelled);
  values = All-from_recursion IsShortOrNone (values_of change) (short_values change are.spelled);
}

pub kept_is_entries : (change : Change) → IsChange change → length change < 2 ^ 64 → AreEntries form.Delta change
kept_is_entries change kept few = record {
  ascend = kept.ascend;
  spelled = spelled_change change (recursion_from_All IsShort (keys_of change) kept.keys) (recursion_from_All IsShortOrNone (values_of change) kept.values);
  few = few;
}

pub change_spelled : (change : Change) → IsChange change → AllByRecursion (IsSpelled form.Delta) change
change_spelled change kept = spelled_change change (recursion_from_All IsShort (keys_of change) kept.keys) (recursion_from_All IsShortOrNone (values_of change) kept.values)

-- ---- states

pub keys_said : (state : State) → keys_of (said_of state) ≡ keys_of state
keys_said [] = refl
keys_said (e ∷ state) = ap (λ (ks : List (List ℕ)). e.0 ∷ ks) (keys_said state)

pub length_said : (state : State) → length (said_of state) ≡ length state
length_said [] = refl
length_said (e ∷ state) = ap suc (length_said state)

short_said : (state : State) → AllByRecursion (IsSpelled form.Snapshot) (said_of state) → AllByRecursion IsShort (values_of state)
short_said [] all = tt
short_said (e ∷ state) all = (all.0.1, short_said state all.1)

spelled_said : (state : State) → AllByRecursion IsShort (keys_of state) → AllByRecursion IsShort (values_of state) → AllByRecursion (IsSpelled form.Snapshot) (said_of state)
spelled_said [] keys values = tt
spelled_said (e ∷ state) keys values = ((keys.0, values.0), spelled_said state keys.1 values.1)

-- what a snapshot says is of a state
pub state_of : (es : Change) → AllByRecursion (IsSpelled form.Snapshot) es → State
state_of [] all = []
state_of ((k, None) ∷ es) all = absurd all.0.1
state_of ((k, Some v) ∷ es) all = (k, v) ∷ state_of es all.1

pub said_of-state_of : (es : Change) (all : AllByRecursion (IsSpelled form.Snapshot) es) → said_of (state_of es all) ≡ es
unfolding state_of
said_of-state_of [] all = refl
said_of-state_of ((k, None) ∷ es) all = absurd all.0.1
said_of-state_of ((k, Some v) ∷ es) all = ap (λ (es : Change). (k, Some v) ∷ es) (said_of-state_of es all.1)

pub state_is_kept : (state : State) → AreEntries form.Snapshot (said_of state) → IsState state
state_is_kept state are = record {
  ascend = subst (IsStrictlySortedBy by_bytes) (keys_said state) are.ascend;
  keys = subst (λ (ks : List (List ℕ)). All IsShort ks) (keys_said state) (All-from_recursion IsShort (keys_of (said_of state)) (short_keys form.Snapshot (said_of state) are.spelled));
  values = All-from_recursion IsShort (values_of state) (short_said state are.spelled);
}

pub state_is_entries : (state : State) → IsState state → length state < 2 ^ 64 → AreEntries form.Snapshot (said_of state)
state_is_entries state kept few = record {
  ascend = subst (IsStrictlySortedBy by_bytes) (sym (keys_said state)) kept.ascend;
  spelled = spelled_said state (recursion_from_All IsShort (keys_of state) kept.keys) (recursion_from_All IsShort (values_of state) kept.values);
  few = subst (λ (n : ℕ). n < 2 ^ 64) (sym (length_said state)) few;
}

pub state_spelled : (state : State) → IsState state → AllByRecursion (IsSpelled form.Snapshot) (said_of state)
state_spelled state kept = spelled_said state (recursion_from_All IsShort (keys_of state) kept.keys) (recursion_from_All IsShort (values_of state) kept.values)

-- ---- written one after the other

-- one more entry: what is written so far, with the entries that are left, is all
pub put_more : (form : Form) (out now all : List ℕ) (it rest : Change) (e : List ℕ × Option (List ℕ)) → it ≡ e ∷ rest → now ≡ out ++ entry_text form e → out ++ entries_text form it ≡ all → now ++ entries_text form rest ≡ all
unfolding entries_text
put_more form out now all it rest e step wrote is =
    ap (λ (o : List ℕ). o ++ entries_text form rest) wrote ∙ append_assoc out (entry_text form e) (entries_text form rest)
    ∙ ap (λ (es : Change). out ++ entries_text form es) (sym step) ∙ is

pub put_all : (form : Form) (out all : List ℕ) (it : Change) → it ≡ [] → out ++ entries_text form it ≡ all → out ≡ all
unfolding entries_text
put_all form out all it none is = sym (append-nil out) ∙ ap (λ (es : Change). out ++ entries_text form es) (sym none) ∙ is

pub spelled_first : (form : Form) (it rest : Change) (e : List ℕ × Option (List ℕ)) → it ≡ e ∷ rest → AllByRecursion (IsSpelled form) it → IsSpelled form e × AllByRecursion (IsSpelled form) rest
spelled_first form it rest e step all = subst (AllByRecursion (IsSpelled form)) step all

pub short_or_none : (value : Option (List ℕ)) → CanSay form.Delta value → IsShortOrNone value
short_or_none None can = tt
short_or_none (Some value) can = can

-- ---- the state in a file

pub record HoldsState (text : List ℕ) (partition version : ℕ) (held : List ℕ) (state : State) : Type 0 where
  pub are : AreEntries form.Snapshot (said_of state)
  pub whole : text ≡ snapshot_text partition version state
  pub bytes : held ≡ entries_text form.Snapshot (said_of state)

pub file_state : (text : List ℕ) (partition version count : ℕ) (bytes : List ℕ) → IsFile form.Snapshot text partition version count bytes → (state : State) × HoldsState text partition version bytes state
file_state text partition version count bytes file =
    let same = sym (said_of-state_of file.0 file.1.spelled) in (
      state_of file.0 file.1.spelled,
      record {
        are = subst (AreEntries form.Snapshot) same file.1;
        whole = file.2 ∙ ap (file_text form.Snapshot partition version) same;
        bytes = file.4 ∙ ap (entries_text form.Snapshot) same;
      },
    )
