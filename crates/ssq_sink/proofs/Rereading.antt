-- Bytes are read as rows, line by line.
use Rattle.std.proofs.Common.{◌≡◌, ◌⊎◌, inl, inr, ℕ, suc, ◌+◌, min, Bool, true, false, true≢false, ◌==◌, List, [], ◌∷◌, ◌++◌, length, map, drop, is_some, refl, sym, ap, ap₂, ◌∙◌, append_assoc, append-nil, arith}
use Rattle.std.specs.Prelude.{if◌then◌else◌}
use Rattle.std.specs.List.{All}
use Rattle.std.proofs.lemmas.Bool.{cases_lt}
use Rattle.std.proofs.lemmas.List.{drop_all, length-append, length-map}
use Rattle.std.proofs.lemmas.List.Elements.{All-nil, All-cons, All-head, All-tail, All-push}
use Rattle.ssq_time.specs.Time.{IsStampTime}
use Rattle.ssq_value.specs.declared.column.ColType.{ColType}
use Rattle.ssq_value.specs.declared.value.Value.{Value}
use Rattle.ssq_value.specs.Kind.{IfTime}
use Rattle.ssq_shape.specs.declared.bound.Output.{Output}
use Rattle.ssq_json.specs.RowText.{heads_from, heads_of, row_text}
use Rattle.ssq_json.specs.Stored.{AreRows, AreStoredIn, line_of, lines_of}
use Rattle.ssq_json.proofs.Writing.{not_empty as some_items}
use Rattle.ssq_meaning.specs.Meaning.{Values}
use Rattle.ssq_meaning.specs.Table.{key_cells}
use Rattle.ssq_sink.specs.Sink.{line_with}

pub lines-append : (names : List (List ℕ)) (xs ys : List Values) → lines_of names (xs ++ ys) ≡ lines_of names xs ++ lines_of names ys
lines-append names [] ys = refl
lines-append names (x ∷ xs) ys = ap (λ l. line_of names x ++ l) (lines-append names xs ys) ∙ sym (append_assoc (line_of names x) (lines_of names xs) (lines_of names ys))

-- these are rows, and then what is left
pub record AreDone (names : List (List ℕ)) (kinds : List ColType) (bytes left : List ℕ) (done : List Values) : Type 0 where
  pub stored : All (AreStoredIn kinds) done
  pub text : bytes ≡ lines_of names done ++ left

-- wherever the bytes are rows, what is left is rows that are left
pub record AreLeft (names : List (List ℕ)) (kinds : List ColType) (left : List ℕ) : Type 0 where
  pub more : List Values
  pub stored : All (AreStoredIn kinds) more
  pub text : left ≡ lines_of names more

abbrev pub WouldLeave : List (List ℕ) → List ColType → (bytes left : List ℕ) → Type 0
WouldLeave names kinds bytes left = (rows : List Values) → AreRows names kinds bytes rows → AreLeft names kinds left

pub none_done : (names : List (List ℕ)) (kinds : List ColType) (bytes : List ℕ) → AreDone names kinds bytes bytes []
none_done names kinds bytes = record { stored = All-nil (AreStoredIn kinds); text = refl }

pub all_left : (names : List (List ℕ)) (kinds : List ColType) (bytes : List ℕ) → WouldLeave names kinds bytes bytes
all_left names kinds bytes rows are = record { more = rows; stored = are.stored; text = are.text }

pub one_done : (names : List (List ℕ)) (kinds : List ColType) (bytes left after : List ℕ) (done : List Values) (row : Values) → left ≡ line_of names row ++ after → AreStoredIn kinds row
    → AreDone names kinds bytes left done → AreDone names kinds bytes after (done ++ row ∷ [])
one_done names kinds bytes left after done row is stored so = record {
  stored = All-push (AreStoredIn kinds) done row so.stored stored;
  text = so.text ∙ ap (λ l. lines_of names done ++ l) is ∙ sym (append_assoc (lines_of names done) (line_of names row) after)
      ∙ ap (λ l. l ++ after) (ap (λ l. lines_of names done ++ l) (sym (append-nil (line_of names row))) ∙ sym (lines-append names done (row ∷ [])));
}

-- what a reader of one line finds
abbrev pub FindsLine : List (List ℕ) → List ColType → (left after : List ℕ) → Values → Type 0
FindsLine names kinds left after row = (one : Values) (rest : List ℕ) → AreStoredIn kinds one → left ≡ line_of names one ++ rest → (row ≡ one) × (after ≡ rest)

pub no_line : (names : List (List ℕ)) (row : Values) (after : List ℕ) → [] ≡ line_of names row ++ after → ⊥
no_line names row after e = let len = length-append (line_of names row) after in let own = length-append (row_text names row) (10 ∷ []) in omega (arith, ap length e, len, own)

pub one_left : (names : List (List ℕ)) (kinds : List ColType) (bytes left after : List ℕ) (row : Values) → left ≡ line_of names row ++ after → FindsLine names kinds left after row
    → WouldLeave names kinds bytes left → WouldLeave names kinds bytes after
one_left names kinds bytes left after row is finds would rows are = go (would rows are).more (would rows are).stored (would rows are).text
  where
    go : (more : List Values) → All (AreStoredIn kinds) more → left ≡ lines_of names more → AreLeft names kinds after
    go [] stored text = absurd (no_line names row after (sym text ∙ is))
    go (one ∷ more) stored text = record {
      more = more;
      stored = All-tail (AreStoredIn kinds) one more stored;
      text = (finds one (lines_of names more) (All-head (AreStoredIn kinds) one more stored) text).1;
    }

-- no line stands in front, so the bytes are no rows
pub none_stands : (names : List (List ℕ)) (kinds : List ColType) (bytes left : List ℕ) → (left ≡ [] → ⊥) → ((one : Values) (rest : List ℕ) → AreStoredIn kinds one → left ≡ line_of names one ++ rest → ⊥)
    → WouldLeave names kinds bytes left → (rows : List Values) → AreRows names kinds bytes rows → ⊥
none_stands names kinds bytes left some none would rows are = go (would rows are).more (would rows are).stored (would rows are).text
  where
    go : (more : List Values) → All (AreStoredIn kinds) more → left ≡ lines_of names more → ⊥
    go [] stored text = some text
    go (one ∷ more) stored text = none one (lines_of names more) (All-head (AreStoredIn kinds) one more stored) text

pub all_done : (names : List (List ℕ)) (kinds : List ColType) (bytes left : List ℕ) (done : List Values) → left ≡ [] → AreDone names kinds bytes left done → AreRows names kinds bytes done
all_done names kinds bytes left done none so = record { stored = so.stored; text = so.text ∙ ap (λ l. lines_of names done ++ l) none ∙ append-nil (lines_of names done) }

-- both, for any names that have these heads
pub record AreReadSo (heads : List (List ℕ)) (kinds : List ColType) (bytes left : List ℕ) : Type 0 where
  pub own : List Values
  pub done : (names : List (List ℕ)) → heads ≡ heads_of names → AreDone names kinds bytes left own
  pub would : (names : List (List ℕ)) → heads ≡ heads_of names → WouldLeave names kinds bytes left

abbrev pub none_read : (heads : List (List ℕ)) (kinds : List ColType) (bytes : List ℕ) → AreReadSo heads kinds bytes bytes
none_read heads kinds bytes = record { own = []; done = λ names of. none_done names kinds bytes; would = λ names of. all_left names kinds bytes }

-- one line more
abbrev pub one_read : (heads : List (List ℕ)) (kinds : List ColType) (bytes left after : List ℕ) (row : Values) → ((names : List (List ℕ)) → heads ≡ heads_of names → (left ≡ line_of names row ++ after) × AreStoredIn kinds row)
    → ((names : List (List ℕ)) → heads ≡ heads_of names → FindsLine names kinds left after row) → AreReadSo heads kinds bytes left → AreReadSo heads kinds bytes after
one_read heads kinds bytes left after row found finds so = record {
  own = so.own ++ row ∷ [];
  done = λ names of. one_done names kinds bytes left after so.own row (found names of).0 (found names of).1 (so.done names of);
  would = λ names of. one_left names kinds bytes left after row (found names of).0 (finds names of) (so.would names of);
}

-- one line more that is added
pub line_added : (names heads : List (List ℕ)) (rows more : List Values) (row : Values) (before after : List ℕ) → heads ≡ heads_of names → more ≡ rows ++ row ∷ [] → before ≡ lines_of names rows → after ≡ before ++ line_with heads row → after ≡ lines_of names more
unfolding row_text
line_added names heads rows more row before after of one so_far is =
    is ∙ ap₂ (λ b h. b ++ line_with h row) so_far of ∙ ap (λ l. lines_of names rows ++ l) (sym (append-nil (line_of names row))) ∙ sym (lines-append names rows (row ∷ [])) ∙ ap (lines_of names) (sym one)

-- such values have texts
pub times_stored : (kinds : List ColType) (row : Values) → AreStoredIn kinds row → All (IfTime IsStampTime) row
times_stored [] [] are = All-nil (IfTime IsStampTime)
times_stored [] (value ∷ row) are = absurd are
times_stored (kind ∷ kinds) [] are = absurd are
times_stored (kind ∷ kinds) (value ∷ row) are = All-cons (IfTime IsStampTime) value row are.0.time (times_stored kinds row are.1)

heads_length : (later : Bool) (names : List (List ℕ)) → length (heads_from later names) ≡ length names
unfolding heads_from
heads_length later [] = refl
heads_length later (name ∷ names) = ap (λ n. suc n) (heads_length true names)

-- as many heads as types
pub columns_same : (outputs : List Output) (heads : List (List ℕ)) (kinds : List ColType) → heads ≡ heads_of (map (λ output. output.name) outputs) → kinds ≡ map (λ output. output.kind) outputs → length heads ≡ length kinds
columns_same outputs heads kinds one two =
    ap length one ∙ heads_length false (map (λ output. output.name) outputs) ∙ length-map outputs (λ output. output.name) ∙ sym (length-map outputs (λ output. output.kind)) ∙ ap length (sym two)

key-none : (outputs : List Output) (row : Values) → (outputs ≡ []) ⊎ (row ≡ []) → key_cells outputs row ≡ []
unfolding key_cells
key-none [] row none = refl
key-none (output ∷ outputs) [] none = refl
key-none (output ∷ outputs) (value ∷ row) (inl none) = absurd (omega (arith, ap length none))
key-none (output ∷ outputs) (value ∷ row) (inr none) = absurd (omega (arith, ap length none))

pub key-ends : (outputs : List Output) (row : Values) (n : ℕ) → n ≡ min (length outputs) (length row) → key_cells (drop n outputs) (drop n row) ≡ []
key-ends outputs row n is =
    elim (cases_lt (length outputs) (length row)) [
      | inl less ↦ key-none (drop n outputs) (drop n row) (inl (drop_all n outputs (omega arith)))
      | inr more ↦ key-none (drop n outputs) (drop n row) (inr (drop_all n row (omega arith)))
    ]

key-cons : (output : Output) (outputs : List Output) (value : Value) (row : Values) → key_cells (output ∷ outputs) (value ∷ row) ≡ (if is_some output.key then value ∷ [] else []) ++ key_cells outputs row
unfolding key_cells
key-cons output outputs value row = by (is_some output.key)
  where
    by : (b : Bool) → (if b then value ∷ key_cells outputs row else key_cells outputs row) ≡ (if b then value ∷ [] else []) ++ key_cells outputs row
    by true = refl
    by false = refl

-- one cell more
pub key-more : (outputs : List Output) (row : Values) (n : ℕ) (output : Output) (value : Value) (cells new : Values) → drop n outputs ≡ output ∷ drop (n + 1) outputs → drop n row ≡ value ∷ drop (n + 1) row
    → new ≡ cells ++ (if is_some output.key then value ∷ [] else []) → key_cells outputs row ≡ cells ++ key_cells (drop n outputs) (drop n row) → key_cells outputs row ≡ new ++ key_cells (drop (n + 1) outputs) (drop (n + 1) row)
key-more outputs row n output value cells new os vs is so =
    let own : Values = if is_some output.key then value ∷ [] else [] in
    let rest = key_cells (drop (n + 1) outputs) (drop (n + 1) row) in
    so ∙ ap₂ (λ o v. cells ++ key_cells o v) os vs ∙ ap (λ l. cells ++ l) (key-cons output (drop (n + 1) outputs) value (drop (n + 1) row)) ∙ sym (append_assoc cells own rest) ∙ ap (λ l. l ++ rest) (sym is)

pub is_none : {A : Type 0} (xs : List A) → (length xs == 0) ≡ true → xs ≡ []
is_none [] empty = refl
is_none (x ∷ xs) empty = absurd (true≢false (sym empty ∙ some_items (length xs)))

pub is_some_left : {A : Type 0} (xs : List A) → (length xs == 0) ≡ false → xs ≡ [] → ⊥
is_some_left xs some none = true≢false (sym (ap (λ l. length l == 0) none) ∙ some)
