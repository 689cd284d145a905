-- Words in which clap finds no fault name a subcommand that has what it needs.
use Rattle.std.proofs.Common.{◌≡◌, ◌⊎◌, ◌∙◌, ℕ, Bool, true, false, cond, refl, sym, ap, subst, List, [], ◌∷◌, not, ◌&&◌, ◌||◌, Option, Some, None, is_some, inl, inr, true≢false, codes, arith}
use Rattle.std.proofs.lemmas.Bool.{ne_eqb}
use Rattle.std.specs.List.{All, find}
use Rattle.std.proofs.lemmas.List.Elements.{All-cons, All-head, All-nil, All-tail}
use Rattle.std.specs.Option.{IfSome, option_map, option_map_or}
use Rattle.std.specs.Prelude.{if◌then◌else◌, option_and_then, slice_get}
use Rattle.std.specs.Str.{bytes_eq}
use Rattle.clap.specs.Values.{IsUnsignedIn, refused_kind}
use Rattle.clap.specs.ValueTests.{accepts}
use Rattle.clap.specs.Facts.{explicit_source, parser_of_value}
use Rattle.clap.specs.Kinds.{IsAmong, Kinds, check_kinds, value_kinds}
use Rattle.clap.specs.Faults.{check_fault, entered_fault, level_fault}
use Rattle.clap.specs.Walk.{Row, Rule, Text, answers_to, is_empty, nothing_held, row_text, rows_after, stop_after}
use Rattle.clap.specs.Simple.{Shape, argument_words, built, entered, filled, is_simple, label_of, names_of, rows_at, with_index}
use Rattle.clap.specs.Takes.{is_given}
use Rattle.clap.specs.Words.{fault_of, first_of, new_app, subcommand_of, with_rule}
use Rattle.clap.specs.Faults.{is_simple_and_free}
use Rattle.clap.proofs.ValueTestLemmas.{accepts-Accepts}
use Rattle.clap.specs.declared.builder.value_parser.ValueParser.{ValueParser}
use Rattle.clap.specs.declared.builder.value_parser.ValueParser.TheVariants.{Unsigned}
use Rattle.ssq_words.specs.Program.{count_rule, explain_app, gen_app, max_lines_rule, number_rule, partitions_rule, program, query_rule, rounds_rule, run_app, show_app, status_app, tables_app, top_app}
use Rattle.clap.specs.declared.error.ErrorKind.{ErrorKind}
use Rattle.ssq_words.specs.declared.error.AskError.{AskError}
use Rattle.ssq_words.specs.declared.error.AskError.TheVariants.{Usage, NoMemory}
use Rattle.ssq_words.specs.Asking.{Asked, IsCause, asked, asks_gen, explain_asked, gen_asked, number_given, number_of, run_asked, show_asked, status_asked, subcommand_asked}
use Rattle.ssq_words.specs.Reading.{HasNumberIn, HasQuery, IsNumberIn, IsWhole}
use Rattle.ssq_words.proofs.WalkLemmas.{IsGiven, IsOne, found_by, level_good, some_kind}

-- ---- the command as it is built

abbrev query_built : Rule
query_built = with_index 1 (filled query_rule)

abbrev partitions_built : Rule
partitions_built = with_index 2 (filled partitions_rule)

abbrev lines_built : Rule
lines_built = with_index 2 (filled max_lines_rule)

abbrev rounds_built : Rule
rounds_built = with_index 2 (filled rounds_rule)

unfoldable run_built : Shape
unfolding run_app
run_built = record run_app.top {
  rules = query_built ∷ partitions_built ∷ lines_built ∷ rounds_built ∷ [];
  disable_help_flag = true;
  disable_help_subcommand = true;
  is_built = true;
}

-- a subcommand that takes the query alone
unfoldable file_built : Text → Shape
file_built name = record (with_rule (new_app name) query_rule).top {
  rules = query_built ∷ [];
  disable_help_flag = true;
  disable_help_subcommand = true;
  is_built = true;
}

abbrev number_built : Rule
number_built = with_index 1 (filled number_rule)

abbrev count_built : Rule
count_built = with_index 2 (filled count_rule)

-- the subcommand that takes two numbers
unfoldable gen_built : Shape
unfolding gen_app
gen_built = record gen_app.top {
  rules = number_built ∷ count_built ∷ [];
  disable_help_flag = true;
  disable_help_subcommand = true;
  is_built = true;
}

subs_built : (built program).subs ≡ run_built ∷ file_built (codes "show") ∷ file_built (codes "explain") ∷ file_built (codes "status") ∷ gen_built ∷ []
unfolding program run_app show_app explain_app status_app gen_app tables_app top_app run_built file_built gen_built
subs_built = refl

pub program_is_free : is_simple_and_free program ≡ true
unfolding program run_app show_app explain_app status_app gen_app tables_app top_app
program_is_free = refl

pub program_is_simple : is_simple program ≡ true
unfolding program run_app show_app explain_app status_app gen_app tables_app top_app
program_is_simple = refl

-- ---- what good rows hold

found_row : {X : Type 0} (Q : X → Type 0) (p : X → Bool) (xs : List X) → All Q xs → IfSome (find p xs) (λ x. Q x × (p x ≡ true))
found_row Q p [] all = tt
found_row Q p (x ∷ xs) all = go (p x) refl (found_row Q p xs (All-tail Q x xs all))
  where
    go : (b : Bool) → p x ≡ b → IfSome (find p xs) (λ x. Q x × (p x ≡ true)) → IfSome (cond b (Some x) (find p xs)) (λ x. Q x × (p x ≡ true))
    go true e rest = (All-head Q x xs all, e)
    go false e rest = rest

-- a value that the parser of numbers in these bounds takes
in_bounds : (ignore_case : Bool) (low high : ℕ) (v : Text) → value_kinds ignore_case (Unsigned low high) v ≡ [] → IsUnsignedIn low high v
in_bounds ignore_case low high v e = accepts-Accepts ignore_case (Unsigned low high) v (go (accepts ignore_case (Unsigned low high) v) e)
  where
    go : (b : Bool) → (if b then [] else refused_kind (Unsigned low high) ∷ []) ≡ [] → b ≡ true
    go true e = refl
    go false e = absurd (some_kind _ _ e)

module _ (P : Rule → Type 0) (rows : List Row) (all : All (IsGiven P) rows) where
  row_of_id : (id : Text) → IfSome (find (λ r. bytes_eq r.id id) rows) (λ r. IsGiven P r × (bytes_eq r.id id ≡ true))
  row_of_id id = found_row (IsGiven P) (λ r. bytes_eq r.id id) rows all

  has_given : (id : Text) → is_given id rows ≡ true → is_some (first_of id rows) ≡ true
  has_given id e = go (find (λ r. bytes_eq r.id id) rows) (row_of_id id) e
    where
      go : (o : Option Row) → IfSome o (λ r. IsGiven P r × (bytes_eq r.id id ≡ true)) → option_map_or (λ r. explicit_source r.source) o false ≡ true
          → is_some (option_and_then (λ r. slice_get r.values 0) o) ≡ true
      go None g e = absurd (true≢false (sym e))
      go (Some r) g e = subst (λ (x : Row). is_some (slice_get x.values 0) ≡ true) (sym g.0.4) refl

  has_query : is_given (codes "query") rows ≡ true → HasQuery rows
  has_query = has_given (codes "query")

  module _ (low high : ℕ) (id : Text) (bounds : (a : Rule) → P a → bytes_eq a.id id ≡ true → parser_of_value a.parser ≡ Unsigned low high) where
    number_of_row : (r : Row) → IsGiven P r → bytes_eq r.id id ≡ true → IfSome (slice_get r.values 0) (IsUnsignedIn low high)
    number_of_row r g same =
        let key : bytes_eq g.0.id id ≡ true = subst (λ (x : Row). bytes_eq x.id id ≡ true) g.4 same in
        let taken : value_kinds g.0.ignore_case (Unsigned low high) g.2 ≡ [] = subst (λ (q : ValueParser). value_kinds g.0.ignore_case q g.2 ≡ []) (bounds g.0 g.1 key) g.3 in
        subst (λ (x : Row). IfSome (slice_get x.values 0) (IsUnsignedIn low high)) (sym g.4) (in_bounds g.0.ignore_case low high g.2 taken)

    has_number : HasNumberIn low high id rows
    has_number = record {
      number = number (find (λ r. bytes_eq r.id id) rows) (row_of_id id);
      written = written (find (λ r. bytes_eq r.id id) rows) (row_of_id id);
    }
      where
        number : (o : Option Row) → IfSome o (λ r. IsGiven P r × (bytes_eq r.id id ≡ true)) → IfSome (option_and_then (λ r. slice_get r.values 0) o) (IsUnsignedIn low high)
        number None g = tt
        number (Some r) g = number_of_row r g.0 g.1

        written : (o : Option Row) → IfSome o (λ r. IsGiven P r × (bytes_eq r.id id ≡ true)) → option_and_then row_text o ≡ option_and_then (λ r. slice_get r.values 0) o
        written None g = refl
        written (Some r) g = subst (λ (x : Row). row_text x ≡ slice_get x.values 0) (sym g.0.4) refl

-- ---- the arguments of the subcommands

query_one : IsOne query_built
query_one = record { action = refl; range = refl; reading = refl; defaults = refl }

lines_one : IsOne lines_built
lines_one = record { action = refl; range = refl; reading = refl; defaults = refl }

partitions_one : IsOne partitions_built
partitions_one = record { action = refl; range = refl; reading = refl; defaults = refl }

rounds_one : IsOne rounds_built
rounds_one = record { action = refl; range = refl; reading = refl; defaults = refl }

number_one : IsOne number_built
number_one = record { action = refl; range = refl; reading = refl; defaults = refl }

count_one : IsOne count_built
count_one = record { action = refl; range = refl; reading = refl; defaults = refl }

abbrev IsGenRule : Rule → Type 0
IsGenRule a = (a ≡ number_built) ⊎ (a ≡ count_built)

abbrev IsRunRule : Rule → Type 0
IsRunRule a = (a ≡ query_built) ⊎ ((a ≡ partitions_built) ⊎ ((a ≡ lines_built) ⊎ (a ≡ rounds_built)))

abbrev IsFileRule : Rule → Type 0
IsFileRule a = a ≡ query_built

run_one : (a : Rule) → IsRunRule a → IsOne a
run_one a (inl e) = subst IsOne (sym e) query_one
run_one a (inr (inl e)) = subst IsOne (sym e) partitions_one
run_one a (inr (inr (inl e))) = subst IsOne (sym e) lines_one
run_one a (inr (inr (inr e))) = subst IsOne (sym e) rounds_one

file_one : (a : Rule) → IsFileRule a → IsOne a
file_one a e = subst IsOne (sym e) query_one

gen_one : (a : Rule) → IsGenRule a → IsOne a
gen_one a (inl e) = subst IsOne (sym e) number_one
gen_one a (inr e) = subst IsOne (sym e) count_one

gen_all : All IsGenRule gen_built.rules
unfolding gen_built
gen_all = All-cons IsGenRule number_built (count_built ∷ []) (inl refl) (All-cons IsGenRule count_built [] (inr refl) (All-nil IsGenRule))

run_all : All IsRunRule run_built.rules
unfolding run_built
run_all =
    All-cons IsRunRule query_built (partitions_built ∷ lines_built ∷ rounds_built ∷ []) (inl refl)
    (All-cons IsRunRule partitions_built (lines_built ∷ rounds_built ∷ []) (inr (inl refl))
    (All-cons IsRunRule lines_built (rounds_built ∷ []) (inr (inr (inl refl)))
    (All-cons IsRunRule rounds_built [] (inr (inr (inr refl))) (All-nil IsRunRule))))

file_all : (name : Text) → All IsFileRule (file_built name).rules
unfolding file_built
file_all name = All-cons IsFileRule query_built [] refl (All-nil IsFileRule)

run_once : run_built.args_override_self ≡ false
unfolding run_built run_app
run_once = refl

gen_once : gen_built.args_override_self ≡ false
unfolding gen_built gen_app
gen_once = refl

file_once : (name : Text) → (file_built name).args_override_self ≡ false
unfolding file_built
file_once name = refl

-- a rule of another id
other_id : {A : Type 0} (a b : Rule) (id : Text) → a ≡ b → bytes_eq b.id id ≡ false → bytes_eq a.id id ≡ true → A
other_id a b id e not same = absurd (true≢false (sym same ∙ ap (λ (x : Rule). bytes_eq x.id id) e ∙ not))

partitions_bounds : (a : Rule) → IsRunRule a → bytes_eq a.id (codes "partitions") ≡ true → parser_of_value a.parser ≡ Unsigned 1 64
partitions_bounds a (inl e) same = other_id a query_built (codes "partitions") e refl same
partitions_bounds a (inr (inl e)) same = ap (λ (x : Rule). parser_of_value x.parser) e
partitions_bounds a (inr (inr (inl e))) same = other_id a lines_built (codes "partitions") e refl same
partitions_bounds a (inr (inr (inr e))) same = other_id a rounds_built (codes "partitions") e refl same

lines_bounds : (a : Rule) → IsRunRule a → bytes_eq a.id (codes "max-lines") ≡ true → parser_of_value a.parser ≡ Unsigned 1 1099511627776
lines_bounds a (inl e) same = other_id a query_built (codes "max-lines") e refl same
lines_bounds a (inr (inl e)) same = other_id a partitions_built (codes "max-lines") e refl same
lines_bounds a (inr (inr (inl e))) same = ap (λ (x : Rule). parser_of_value x.parser) e
lines_bounds a (inr (inr (inr e))) same = other_id a rounds_built (codes "max-lines") e refl same

rounds_bounds : (a : Rule) → IsRunRule a → bytes_eq a.id (codes "rounds") ≡ true → parser_of_value a.parser ≡ Unsigned 1 1000000
rounds_bounds a (inl e) same = other_id a query_built (codes "rounds") e refl same
rounds_bounds a (inr (inl e)) same = other_id a partitions_built (codes "rounds") e refl same
rounds_bounds a (inr (inr (inl e))) same = other_id a lines_built (codes "rounds") e refl same
rounds_bounds a (inr (inr (inr e))) same = ap (λ (x : Rule). parser_of_value x.parser) e

number_bounds : (a : Rule) → IsGenRule a → bytes_eq a.id (codes "number") ≡ true → parser_of_value a.parser ≡ Unsigned 0 65536
number_bounds a (inl e) same = ap (λ (x : Rule). parser_of_value x.parser) e
number_bounds a (inr e) same = other_id a count_built (codes "number") e refl same

count_bounds : (a : Rule) → IsGenRule a → bytes_eq a.id (codes "lines") ≡ true → parser_of_value a.parser ≡ Unsigned 1 10000000
count_bounds a (inl e) same = other_id a number_built (codes "lines") e refl same
count_bounds a (inr e) same = ap (λ (x : Rule). parser_of_value x.parser) e

-- ---- the subcommands

needed : (g : Bool) → check_kinds false false (not g || false) ≡ [] → g ≡ true
needed true e = refl
needed false e = absurd (some_kind _ _ e)

both_needed : (g h : Bool) → check_kinds false false (not g || (not h || false)) ≡ [] → (g ≡ true) × (h ≡ true)
both_needed true true e = (refl, refl)
both_needed true false e = absurd (some_kind _ _ e)
both_needed false h e = absurd (some_kind _ _ e)

gen_needs : (rows : List Row) → check_fault gen_built rows false ≡ [] → (is_given (codes "number") rows ≡ true) × (is_given (codes "lines") rows ≡ true)
unfolding gen_built gen_app
gen_needs rows e = both_needed (is_given (codes "number") rows) (is_given (codes "lines") rows) e

run_needs : (rows : List Row) → check_fault run_built rows false ≡ [] → is_given (codes "query") rows ≡ true
unfolding run_built run_app
run_needs rows e = needed (is_given (codes "query") rows) e

file_needs : (name : Text) (rows : List Row) → check_fault (file_built name) rows false ≡ [] → is_given (codes "query") rows ≡ true
unfolding file_built
file_needs name rows e = needed (is_given (codes "query") rows) e

run_name : run_built.name ≡ codes "run"
unfolding run_built run_app
run_name = refl

gen_name : gen_built.name ≡ codes "gen"
unfolding gen_built gen_app
gen_name = refl

file_name : (name : Text) → (file_built name).name ≡ name
unfolding file_built
file_name name = refl

run_whole : (words : List Text) → level_fault run_built [] nothing_held words false [] ≡ [] → IsWhole (Some (rows_at run_built words))
run_whole words e =
    let level = level_good run_built IsRunRule run_all run_one run_once [] words false [] e in
    let rows = rows_after run_built.rules [] words in
    inl (
      run_name,
      record {
        query = has_query IsRunRule rows level.0 (run_needs rows level.1);
        partitions = has_number IsRunRule rows level.0 1 64 (codes "partitions") partitions_bounds;
        max_lines = has_number IsRunRule rows level.0 1 1099511627776 (codes "max-lines") lines_bounds;
        rounds = has_number IsRunRule rows level.0 1 1000000 (codes "rounds") rounds_bounds;
      },
    )

file_query : (name : Text) (words : List Text) → level_fault (file_built name) [] nothing_held words false [] ≡ [] → HasQuery (rows_after (file_built name).rules [] words)
file_query name words e =
    let level = level_good (file_built name) IsFileRule (file_all name) file_one (file_once name) [] words false [] e in
    let rows = rows_after (file_built name).rules [] words in
    has_query IsFileRule rows level.0 (file_needs name rows level.1)

show_whole : (words : List Text) → level_fault (file_built (codes "show")) [] nothing_held words false [] ≡ [] → IsWhole (Some (rows_at (file_built (codes "show")) words))
show_whole words e = inr (inl (file_name (codes "show"), file_query (codes "show") words e))

gen_whole : (words : List Text) → level_fault gen_built [] nothing_held words false [] ≡ [] → IsWhole (Some (rows_at gen_built words))
gen_whole words e =
    let level = level_good gen_built IsGenRule gen_all gen_one gen_once [] words false [] e in
    let rows = rows_after gen_built.rules [] words in
    let given = gen_needs rows level.1 in
    inr (inr (inr (inr (
      gen_name,
      record {
        number = record { there = has_given IsGenRule rows level.0 (codes "number") given.0; number = has_number IsGenRule rows level.0 0 65536 (codes "number") number_bounds };
        lines = record { there = has_given IsGenRule rows level.0 (codes "lines") given.1; number = has_number IsGenRule rows level.0 1 10000000 (codes "lines") count_bounds };
      },
    ))))

explain_whole : (words : List Text) → level_fault (file_built (codes "explain")) [] nothing_held words false [] ≡ [] → IsWhole (Some (rows_at (file_built (codes "explain")) words))
explain_whole words e = inr (inr (inl (file_name (codes "explain"), file_query (codes "explain") words e)))

status_whole : (words : List Text) → level_fault (file_built (codes "status")) [] nothing_held words false [] ≡ [] → IsWhole (Some (rows_at (file_built (codes "status")) words))
status_whole words e = inr (inr (inr (inl (file_name (codes "status"), file_query (codes "status") words e))))

-- ---- the whole command

abbrev IsSub : Shape → Type 0
IsSub s =
    (s ≡ run_built) ⊎ ((s ≡ file_built (codes "show")) ⊎ ((s ≡ file_built (codes "explain")) ⊎ ((s ≡ file_built (codes "status")) ⊎ (s ≡ gen_built))))

-- words in which this subcommand finds no fault give it what it needs
abbrev IsSound : Shape → Type 0
IsSound s = (words : List Text) → level_fault s [] nothing_held words false [] ≡ [] → IsWhole (Some (rows_at s words))

sub_whole : (s : Shape) (words : List Text) → IsSub s → level_fault s [] nothing_held words false [] ≡ [] → IsWhole (Some (rows_at s words))
sub_whole s words (inl e) fault = subst IsSound (sym e) run_whole words fault
sub_whole s words (inr (inl e)) fault = subst IsSound (sym e) show_whole words fault
sub_whole s words (inr (inr (inl e))) fault = subst IsSound (sym e) explain_whole words fault
sub_whole s words (inr (inr (inr (inl e)))) fault = subst IsSound (sym e) status_whole words fault
sub_whole s words (inr (inr (inr (inr e)))) fault = subst IsSound (sym e) gen_whole words fault

met_whole : (o : Option Shape) (words : List Text) → IfSome o IsSub → option_map_or (λ s. level_fault s [] nothing_held words false []) o [] ≡ []
    → is_some (option_map (λ s. rows_at s words) o) ≡ true → IsWhole (option_map (λ s. rows_at s words) o)
met_whole None words sub fault some = absurd (true≢false (sym some))
met_whole (Some s) words sub fault some = sub_whole s words sub fault

subs : All IsSub (built program).subs
subs = subst (All IsSub) (sym subs_built)
    (All-cons IsSub run_built (file_built (codes "show") ∷ file_built (codes "explain") ∷ file_built (codes "status") ∷ gen_built ∷ []) (inl refl)
    (All-cons IsSub (file_built (codes "show")) (file_built (codes "explain") ∷ file_built (codes "status") ∷ gen_built ∷ []) (inr (inl refl))
    (All-cons IsSub (file_built (codes "explain")) (file_built (codes "status") ∷ gen_built ∷ []) (inr (inr (inl refl)))
    (All-cons IsSub (file_built (codes "status")) (gen_built ∷ []) (inr (inr (inr (inl refl)))) (All-cons IsSub gen_built [] (inr (inr (inr (inr refl)))) (All-nil IsSub))))))

entered_whole : (stop : Option (Text × List Text)) → entered_fault (built program) stop ≡ [] → is_some (entered (built program) stop) ≡ true → IsWhole (entered (built program) stop)
entered_whole None fault some = absurd (true≢false (sym some))
entered_whole (Some p) fault some =
    met_whole (find (λ s. answers_to p.0 (label_of s)) (built program).subs) p.1 (found_by IsSub (λ s. answers_to p.0 (label_of s)) (built program).subs subs) fault some

-- ---- the program

abbrev IsTopRule : Rule → Type 0
IsTopRule a = ⊥

top_rules : (built program).top.rules ≡ []
unfolding program run_app show_app explain_app status_app gen_app tables_app top_app
top_rules = refl

top_once : (built program).top.args_override_self ≡ false
unfolding program run_app show_app explain_app status_app gen_app tables_app top_app
top_once = refl

wanted : (has : Bool) → check_kinds (not has && false) (not has && true) false ≡ [] → has ≡ true
wanted true e = refl
wanted false e = absurd (some_kind _ _ e)

-- a subcommand is required
top_needs : (rows : List Row) (has : Bool) → check_fault (built program).top rows has ≡ [] → has ≡ true
unfolding program run_app show_app explain_app status_app gen_app tables_app top_app
top_needs rows has e = wanted has e

pub taken_whole : (words : List Text) → fault_of program words ≡ [] → IsWhole (subcommand_of program words)
taken_whole words e =
    let stop = stop_after (built program).top.rules (names_of (built program)) (argument_words program words) in
    let level = level_good (built program).top IsTopRule (subst (All IsTopRule) (sym top_rules) (All-nil IsTopRule)) (λ a p. absurd p) top_once
    (names_of (built program)) (argument_words program words) (is_some (entered (built program) stop)) (entered_fault (built program) stop) e in
    entered_whole stop level.2
    (top_needs (rows_after (built program).top.rules (names_of (built program)) (argument_words program words)) (is_some (entered (built program) stop)) level.1)

-- ---- what is asked

pub asked_free : (words : List Text) → fault_of program words ≡ [] → asked words ≡ option_and_then (λ p. subcommand_asked p.0 p.1) (subcommand_of program words)
unfolding asked
asked_free words e =
    ap (λ (ks : Kinds). if is_empty ks then option_and_then (λ p. subcommand_asked p.0 p.1) (subcommand_of program words) else None) e

pub asked_faulty : (words : List Text) (k : ErrorKind) → IsAmong k (fault_of program words) → asked words ≡ None
unfolding asked
asked_faulty words k among = go (fault_of program words) among
  where
    go : (ks : Kinds) → IsAmong k ks
        → (if is_empty ks then option_and_then (λ p. subcommand_asked p.0 p.1) (subcommand_of program words) else None) ≡ None
    go [] h = absurd h
    go (x ∷ xs) h =
        let some : is_empty (x ∷ xs) ≡ false = ne_eqb _ _ (λ e. omega arith) in
        ap (λ (b : Bool). if b then option_and_then (λ p. subcommand_asked p.0 p.1) (subcommand_of program words) else None) some

mapped : {X Y : Type 0} (f : X → Y) (o : Option X) → is_some o ≡ true → is_some (option_map f o) ≡ true
mapped f None e = e
mapped f (Some x) e = refl

mapped_twice : {X Y Z : Type 0} (f : X → Y → Z) (o : Option X) (p : Option Y) → is_some o ≡ true → is_some p ≡ true → is_some (option_and_then (λ x. option_map (f x) p) o) ≡ true
mapped_twice f None p e e' = e
mapped_twice f (Some x) p e e' = mapped (f x) p e'

whole_asks : (o : Option (Text × List Row)) → IsWhole o → is_some (option_and_then (λ p. subcommand_asked p.0 p.1) o) ≡ true
unfolding subcommand_asked run_asked show_asked explain_asked status_asked gen_asked
whole_asks None whole = absurd whole
whole_asks (Some p) (inl run) = subst (λ (name : Text). is_some (subcommand_asked name p.1) ≡ true) (sym run.0) (mapped _ (first_of (codes "query") p.1) run.1.query)
whole_asks (Some p) (inr (inl show)) = subst (λ (name : Text). is_some (subcommand_asked name p.1) ≡ true) (sym show.0) (mapped _ (first_of (codes "query") p.1) show.1)
whole_asks (Some p) (inr (inr (inl explain))) = subst (λ (name : Text). is_some (subcommand_asked name p.1) ≡ true) (sym explain.0) (mapped _ (first_of (codes "query") p.1) explain.1)
whole_asks (Some p) (inr (inr (inr (inl status)))) = subst (λ (name : Text). is_some (subcommand_asked name p.1) ≡ true) (sym status.0) (mapped _ (first_of (codes "query") p.1) status.1)
whole_asks (Some p) (inr (inr (inr (inr gen)))) =
    subst (λ (name : Text). is_some (subcommand_asked name p.1) ≡ true) (sym gen.0)
    (mapped_twice asks_gen (number_given (codes "number") p.1) (number_given (codes "lines") p.1) (mapped number_of (first_of (codes "number") p.1) gen.1.number.there)
    (mapped number_of (first_of (codes "lines") p.1) gen.1.lines.there))

pub free_asks : (words : List Text) → fault_of program words ≡ [] → is_some (asked words) ≡ true
free_asks words e =
    subst (λ (o : Option Asked). is_some o ≡ true) (sym (asked_free words e)) (whole_asks (subcommand_of program words) (taken_whole words e))

pub cause : (words : List Text) (e : AskError) → (e ≡ Usage → asked words ≡ None) → IsCause words e
cause words Usage h = h refl
cause words NoMemory h = tt
