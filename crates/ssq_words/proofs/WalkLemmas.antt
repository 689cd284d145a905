-- A walk in which clap finds no fault, of a command whose arguments take one value each: each row is of one of the arguments and has
-- one value, which that argument's parser takes.
use Rattle.std.proofs.Common.{◌≡◌, ◌∙◌, ℕ, Bool, cond, true, false, zero, suc, refl, sym, ap, subst, arith, List, [], ◌∷◌, ◌++◌, length, drop, not, ◌&&◌, ◌||◌, ◌==◌, Option, Some, None, is_some, true≢false, append-nil}
use Rattle.std.proofs.lemmas.Bool.{ne_eqb}
use Rattle.std.proofs.lemmas.List.Elements.{All-head, All-nil, All-push, All-tail}
use Rattle.std.specs.List.{All, find, fold}
use Rattle.std.specs.Option.{IfSome, option_map_or}
use Rattle.std.specs.Prelude.{encode_utf8, slice_get, if◌then◌else◌}
use Rattle.std.specs.Str.{bytes_eq, chars}
use Rattle.clap.specs.Facts.{parser_of_value, unwrap_or_range}
use Rattle.clap.specs.Lexer.{long_of, short_of}
use Rattle.clap.specs.Kinds.{Kinds, or_else, range_kinds, value_kinds}
use Rattle.clap.specs.Faults.{action_fault, bundle_fault, stray_fault, bundle_step_fault, check_fault, flag_word_fault, flags_fault, level_fault, long_fault, option_fault, other_fault, positional_fault, react_fault, set_fault, settle_fault, short_fault, step_fault, turn_fault, use_fault, walk_fault, word_fault}
use Rattle.clap.specs.Walk.{Held, Names, Outcome, Row, Rule, Step, Text, Waiting, Walk, action_of, after_flag, after_step, bundle, has_long, has_short, long_or_other, nothing_held, rows_after, short_or_plain, subcommand_or_other, arg_by_id, arg_by_index, arg_by_long, arg_by_short, at_row, attached_value, bundle_met, bundle_step, default_rows, done, has_row, idle, is_pending, long_met, more_values, next, option, option_met, option_word, plain, plain_word, positional, positional_held, reacted, reading_by, refused, settled, settled_rows, short_met, subcommand, subcommand_met, takes_several, takes_values, to_positional, trailing, used, used_as, used_by_id, value, values_or_missing, waits, walk, walk_from, walked, walked_from, with_default, with_values, without, word_met}
use Rattle.clap.specs.Simple.{Shape}
use Rattle.clap.specs.declared.builder.ArgAction.{ArgAction}
use Rattle.clap.specs.declared.builder.ArgAction.TheVariants.{Set}
use Rattle.clap.specs.declared.builder.ValueRange.{ValueRange}
use Rattle.clap.specs.declared.builder.value_parser.Reading.{Reading}
use Rattle.clap.specs.declared.builder.value_parser.Reading.TheVariants.{AsWritten}
use Rattle.clap.specs.declared.error.ErrorKind.{ErrorKind}
use Rattle.clap.specs.declared.error.ErrorKind.TheVariants.{ArgumentConflict}
use Rattle.clap.specs.declared.parser.matches.ValueSource.{ValueSource}
use Rattle.clap.specs.declared.parser.matches.ValueSource.TheVariants.{CommandLine}

-- ---- lists of faults

abbrev has_kind : Kinds → Bool
has_kind [] = false
has_kind (k ∷ ks) = true

pub some_kind : (k : ErrorKind) (ks : Kinds) → k ∷ ks ≡ [] → ⊥
some_kind k ks e = true≢false (ap has_kind e)

pub no_kinds : (a b : Kinds) → or_else a b ≡ [] → (a ≡ []) × (b ≡ [])
no_kinds [] b e = (refl, e)
no_kinds (k ∷ ks) b e = absurd (some_kind k ks e)

-- ---- arguments with one value

abbrev pub one_value : Option ValueRange
one_value = Some (record { start_inclusive = 1; end_inclusive = 1 })

-- the argument takes one value, once, which is read as it was written, and has no default
pub record IsOne (a : Rule) : Type 0 where
  pub action : action_of a ≡ Set
  pub range : a.range ≡ one_value
  pub reading : reading_by a ≡ AsWritten
  pub defaults : a.defaults ≡ []

abbrev pub passes : Rule → Text → Type 0
passes a v = value_kinds a.ignore_case (parser_of_value a.parser) v ≡ []

-- the row of an argument that the words give a value
abbrev new_given : Text → Reading → Text → Row
new_given id how v = record { id = id; values = v ∷ []; count = None; source = Some CommandLine; reading = how }

abbrev pub given : Rule → Text → Row
given a v = new_given a.id AsWritten v

-- the row is of an argument that P tells, with a value that it takes
abbrev pub IsGiven : (Rule → Type 0) → Row → Type 0
IsGiven P r = (a : Rule) × P a × (v : Text) × passes a v × (r ≡ given a v)

-- an argument was given, where `has` says that it was given before
abbrev repeat_kinds : Bool → Bool → Kinds
repeat_kinds has again = if has && not again then ArgumentConflict ∷ [] else []

one_alone : (values : List Text) → range_kinds 1 1 (length values) ≡ [] → (v : Text) × (values ≡ v ∷ [])
one_alone [] e = absurd (some_kind _ _ e)
one_alone (v ∷ []) e = (v, refl)
one_alone (v ∷ w ∷ vs) e =
    let zero_not : (length (v ∷ w ∷ vs) == 0) ≡ false = ne_eqb _ _ (λ h. omega arith) in
    let one_not : (1 == length (v ∷ w ∷ vs)) ≡ false = ne_eqb _ _ (λ h. omega arith) in
    absurd (some_kind _ _ (rw (zero_not, one_not) at e))

takes_one : (a : Rule) → IsOne a → takes_values a ≡ true
takes_one a one = ap (λ o. not ((unwrap_or_range o).end_inclusive == 0)) one.range

at_row_absent : (id : Text) (change : Row → List Row) (missing rows : List Row) → has_row id rows ≡ false → at_row id change missing rows ≡ rows ++ missing
at_row_absent id change missing [] e = refl
at_row_absent id change missing (r ∷ rs) e = go (bytes_eq r.id id) e (at_row_absent id change missing rs)
  where
    go : (b : Bool) → (b || has_row id rs) ≡ false → (has_row id rs ≡ false → at_row id change missing rs ≡ rs ++ missing)
        → (if b then change r ++ rs else r ∷ at_row id change missing rs) ≡ (r ∷ rs) ++ missing
    go true e more = absurd (true≢false e)
    go false e more = ap (λ xs. r ∷ xs) (more e)

-- a new row comes last
new_row : (id : Text) (how : Reading) (s : ValueSource) (vs : List Text) (rows : List Row) → has_row id rows ≡ false
    → with_values id how s vs (without id rows) ≡ rows ++ record { id = id; values = vs; count = None; source = Some s; reading = how } ∷ []
new_row id how s vs rows absent =
    let same : without id rows ≡ rows = at_row_absent id (λ r. []) [] rows absent ∙ append-nil rows in
    ap (with_values id how s vs) same ∙ at_row_absent id (more_values s vs) (record { id = id; values = vs; count = None; source = Some s; reading = how } ∷ []) rows absent

pub found_by : {X : Type 0} (Q : X → Type 0) (p : X → Bool) (xs : List X) → All Q xs → IfSome (find p xs) Q
found_by Q p [] all = tt
found_by Q p (x ∷ xs) all = go (p x) (found_by Q p xs (All-tail Q x xs all))
  where
    go : (b : Bool) → IfSome (find p xs) Q → IfSome (cond b (Some x) (find p xs)) Q
    go true rest = All-head Q x xs all
    go false rest = rest

plain_rows : (c : List Rule) (waiting : Waiting) (word : Text) (h : Held) → (plain_word c waiting word h).0.rows ≡ h.rows
plain_rows c idle word h = refl
plain_rows c (option id) word h = go (arg_by_id c id)
  where
    go : (o : Option Rule) → (option_word o id word h).0.rows ≡ h.rows
    go None = refl
    go (Some a) = refl
plain_rows c positional word h = refl

flag_rows : (c : List Rule) (waiting : Waiting) (word : Text) (h : Held) (o : Outcome) → (after_flag c waiting word h o).0.rows ≡ h.rows
flag_rows c waiting word h done = refl
flag_rows c waiting word h (waits id) = refl
flag_rows c waiting word h plain = plain_rows c waiting word h
flag_rows c waiting word h refused = plain_rows c waiting word h

-- ---- a walk of a command s whose arguments P tells, and of which none may be given twice

conflict_free : (has again : Bool) → again ≡ false → repeat_kinds has again ≡ [] → has ≡ false
conflict_free false again once e = refl
conflict_free true true once e = absurd (true≢false once)
conflict_free true false once e = absurd (some_kind _ _ e)

module _ (s : Shape) (P : Rule → Type 0) (all : All P s.rules) (one : (a : Rule) → P a → IsOne a) (once : s.args_override_self ≡ false) where
  abbrev again : Bool
  again = s.args_override_self

  abbrev Good : List Row → Type 0
  Good = All (IsGiven P)

  found : (p : Rule → Bool) → IfSome (find p s.rules) P
  found p = found_by P p s.rules all

  -- ---- one use

  value_used : (a : Rule) → P a → (v : Text) (rows : List Row) → set_fault again a (v ∷ []) rows ≡ [] → Good rows → Good (used_as Set a.id (reading_by a) (v ∷ []) rows)
  value_used a p v rows e good =
      let parts = no_kinds _ _ e in
      let absent : has_row a.id rows ≡ false = conflict_free (has_row a.id rows) again once parts.0 in
      let row : with_values a.id (reading_by a) CommandLine (v ∷ []) (without a.id rows) ≡ rows ++ given a v ∷ [] =
      new_row a.id (reading_by a) CommandLine (v ∷ []) rows absent
      ∙ ap (λ (how : Reading). rows ++ new_given a.id how v ∷ []) (one a p).reading in
      let good_row : IsGiven P (given a v) = (a, p, v, (no_kinds _ _ parts.1).0, refl) in
      subst Good (sym row) (All-push (IsGiven P) rows (given a v) good good_row)

  values_used : (a : Rule) → P a → (values : List Text) (rows : List Row) → (x : ArgAction) → x ≡ Set → (v : Text) → values ≡ v ∷ []
      → action_fault x again a (values_or_missing a values) rows ≡ [] → Good rows → Good (used_as x a.id (reading_by a) (values_or_missing a values) rows)
  values_used a p values rows x set v is e good =
      let fault : action_fault Set again a (values_or_missing a (v ∷ [])) rows ≡ [] = rw (set, is) at e in
      rw (set, is) (value_used a p v rows fault good)

  use_good : (a : Rule) → P a → (values : List Text) (rows : List Row) → use_fault again a values rows ≡ [] → Good rows → Good (used a values rows)
  use_good a p values rows e good =
      let parts = no_kinds _ _ e in
      let alone = one_alone values (subst (λ (o : Option ValueRange). range_kinds (unwrap_or_range o).start_inclusive (unwrap_or_range o).end_inclusive (length values) ≡ []) (one a p).range parts.0) in
      values_used a p values rows (action_of a) (one a p).action alone.0 alone.1 parts.1 good

  -- ---- what waits is used

  by_id_good : (o : Option Rule) → IfSome o P → (values : List Text) (rows : List Row) → option_map_or (λ a. use_fault again a values rows) o [] ≡ [] → Good rows
      → Good (used_by_id o values rows)
  by_id_good None p values rows e good = good
  by_id_good (Some a) p values rows e good = use_good a p values rows e good

  pending_good : (o : Option (Text × List Text)) (rows : List Row)
      → option_map_or (λ p. option_map_or (λ a. use_fault again a p.1 rows) (arg_by_id s.rules p.0) []) o [] ≡ [] → Good rows → Good (settled_rows s.rules o rows)
  pending_good None rows e good = good
  pending_good (Some p) rows e good = by_id_good (arg_by_id s.rules p.0) (found (λ a. bytes_eq a.id p.0)) p.1 rows e good

  settle_good : (h : Held) → settle_fault s.rules again h ≡ [] → Good h.rows → Good (settled s.rules h).rows
  settle_good h e good = pending_good h.pending h.rows e good

  react_good : (a : Rule) → P a → (values : List Text) (h : Held) → react_fault s.rules again a values h ≡ [] → Good h.rows → Good (reacted s.rules a values h).rows
  react_good a p values h e good =
      let parts = no_kinds _ _ e in
      use_good a p values (settled s.rules h).rows parts.1 (settle_good h parts.0 good)

  -- ---- options

  option_good : (a : Rule) → P a → (v : Option Text) (h : Held) → option_fault s.rules again a v h ≡ [] → Good h.rows → Good (option_met s.rules a v h).0.rows
  option_good a p (Some v) h e good = react_good a p (v ∷ []) h e good
  option_good a p None h e good = settle_good h e good

  long_good : (o : Option Rule) → IfSome o P → (v : Option Text) (h : Held) → long_fault s.rules again o v h ≡ [] → Good h.rows → Good (long_met s.rules o v h).0.rows
  long_good None p v h e good = absurd (some_kind _ _ e)
  long_good (Some a) p v h e good =
      let takes = takes_one a (one a p) in
      let fault : option_fault s.rules again a v h ≡ [] = rw takes at e in
      rw takes (option_good a p v h fault good)

  short_good : (o : Option Rule) → IfSome o P → (rest : Text) (h : Held) (faults : Held → Kinds) (more : Held → Held × Outcome)
      → short_fault s.rules again o rest h faults ≡ [] → Good h.rows → Good (short_met s.rules o rest h more).0.rows
  short_good None p rest h faults more e good = absurd (some_kind _ _ e)
  short_good (Some a) p rest h faults more e good =
      let takes = takes_one a (one a p) in
      let fault : option_fault s.rules again a (attached_value rest) h ≡ [] = rw takes at e in
      rw takes (option_good a p (attached_value rest) h fault good)

  character_good : (o : Option ℕ) (flags : Text) (skip : ℕ) (so_far : Outcome) (h : Held) (faults : Text → ℕ → Held → Kinds) (more : Text → ℕ → Outcome → Held → Held × Outcome)
      → ((flags : Text) (skip : ℕ) (so_far : Outcome) (h : Held) → faults flags skip h ≡ [] → Good h.rows → Good (more flags skip so_far h).0.rows)
      → bundle_step_fault s.rules again o flags skip h faults ≡ [] → Good h.rows → Good (bundle_step s.rules o flags skip so_far h more).0.rows
  character_good None flags skip so_far h faults more each e good = good
  character_good (Some x) flags zero so_far h faults more each e good =
      let rest = drop (length (encode_utf8 x)) flags in
      short_good (arg_by_short s.rules x) (found (λ a. not (is_some a.index) && has_short a x)) rest h (faults rest 0) (more rest 0 done) e good
  character_good (Some x) flags (suc skip) so_far h faults more each e good = each (drop (length (encode_utf8 x)) flags) skip so_far h e good

  bundle_good : (k : ℕ) (flags : Text) (skip : ℕ) (so_far : Outcome) (h : Held) → flags_fault s.rules again k flags skip h ≡ [] → Good h.rows
      → Good (bundle_met s.rules k flags skip so_far h).0.rows
  unfolding bundle_met flags_fault
  bundle_good zero flags skip so_far h e good = good
  bundle_good (suc k) flags skip so_far h e good =
      character_good (slice_get (chars flags) 0) flags skip so_far h (flags_fault s.rules again k) (bundle_met s.rules k) (bundle_good k) e good

  -- ---- words

  short_word_good : (o : Option Text) (waiting : Waiting) (word : Text) (h : Held)
      → option_map_or (λ flags. bundle_fault s.rules again flags h) o [] ≡ [] → Good h.rows → Good (short_or_plain s.rules waiting word o h).0.rows
  short_word_good None waiting word h e good = subst Good (sym (plain_rows s.rules waiting word h)) good
  short_word_good (Some flags) waiting word h e good =
      subst Good (sym (flag_rows s.rules waiting word (bundle s.rules flags h).0 (bundle s.rules flags h).1))
      (bundle_good (length flags) flags h.skip plain (record h { skip = 0 }) e good)

  flag_word_good : (o : Option (Text × Option Text)) (waiting : Waiting) (word : Text) (h : Held) → flag_word_fault s.rules again o word h ≡ [] → Good h.rows
      → Good (long_or_other s.rules waiting word o h).0.rows
  flag_word_good None waiting word h e good = short_word_good (short_of word) waiting word h e good
  flag_word_good (Some p) waiting word h e good =
      let met = long_met s.rules (arg_by_long s.rules p.0) p.1 h in
      subst Good (sym (flag_rows s.rules waiting word met.0 met.1))
      (long_good (arg_by_long s.rules p.0) (found (λ a. not (is_some a.index) && has_long a p.0)) p.1 h e good)

  other_good : (o : Option Text) (waiting : Waiting) (position : ℕ) (word : Text) (h : Held) → other_fault s o word h ≡ [] → Good h.rows
      → Good (subcommand_or_other s.rules o waiting position word h).0.rows
  other_good (Some name) waiting position word h e good = good
  other_good None waiting position word h e good = go (bytes_eq word (45 ∷ 45 ∷ [])) e
    where
      go : (b : Bool) → (if b then [] else flag_word_fault s.rules again (long_of word) word h) ≡ []
          → Good (if b then (h, trailing position) else long_or_other s.rules waiting word (long_of word) h).0.rows
      go true e = good
      go false e = flag_word_good (long_of word) waiting word h e good

  word_good : (names : Names) (is_trailing : Bool) (waiting : Waiting) (position : ℕ) (word : Text) (h : Held)
      → word_fault s names is_trailing waiting word h ≡ [] → Good h.rows → Good (word_met s.rules names is_trailing waiting position word h).0.rows
  word_good names true waiting position word h e good = good
  word_good names false waiting position word h e good = other_good (subcommand_met names waiting word) waiting position word h e good

  -- ---- the walk

  positional_good : (a : Rule) (word : Text) (h : Held) → positional_fault s.rules again a h ≡ [] → Good h.rows → Good (positional_held s.rules a word h).rows
  positional_good a word h e good = go (is_pending a h.pending && takes_several a) e
    where
      go : (b : Bool) → (if b then [] else settle_fault s.rules again h) ≡ [] → Good (if b then h else settled s.rules h).rows
      go true e = good
      go false e = settle_good h e good

  to_good : (o : Option Rule) (word : Text) (w : Walk) (h : Held) → option_map_or (λ a. positional_fault s.rules again a h) o (stray_fault s) ≡ [] → Good h.rows
      → Good (to_positional s.rules o word w h).held.rows
  to_good None word w h e good = good
  to_good (Some a) word w h e good = positional_good a word h e good

  step_good : (word : Text) (w : Walk) (h : Held) (x : Step) → step_fault s w.position h x ≡ [] → Good h.rows → Good (after_step s.rules word w h x).held.rows
  step_good word w h (next waiting) e good = good
  step_good word w h (trailing position) e good = good
  step_good word w h (subcommand name) e good = good
  step_good word w h value e good = to_good (arg_by_index s.rules w.position) word w h e good

  turn_good : (names : Names) (w : Walk) (word : Text) → turn_fault s names w word ≡ [] → Good w.held.rows → Good (walked s.rules names w word).held.rows
  unfolding walked
  turn_good names w word e good = go w.stopped e
    where
      met : Held × Step
      met = word_met s.rules names w.is_trailing w.waiting w.position word w.held

      go : (o : Option (Text × List Text))
          → (if is_some o then [] else or_else (word_fault s names w.is_trailing w.waiting word w.held) (step_fault s w.position met.0 met.1)) ≡ []
          → Good (walked_from s.rules names o w word).held.rows
      go (Some p) e = good
      go None e =
          let parts = no_kinds _ _ e in
          step_good word w met.0 met.1 parts.1 (word_good names w.is_trailing w.waiting w.position word w.held parts.0 good)

  walk_good : (names : Names) (w : Walk) (words : List Text) → walk_fault s names w words ≡ [] → Good w.held.rows → Good (fold (walked s.rules names) w words).held.rows
  unfolding walk_fault
  walk_good names w [] e good = good
  walk_good names w (word ∷ rest) e good =
      let parts = no_kinds _ _ e in
      walk_good names (walked s.rules names w word) rest parts.1 (turn_good names w word parts.0 good)

  -- ---- the end of the walk

  default_none : (a : Rule) → P a → (rows : List Row) → with_default rows a ≡ rows
  default_none a p rows = go (has_row a.id rows)
    where
      go : (b : Bool) → (if b then rows else default_rows a.id (reading_by a) a.defaults rows) ≡ rows
      go true = refl
      go false = ap (λ (ds : List Text). default_rows a.id (reading_by a) ds rows) (one a p).defaults

  defaults_none : (xs : List Rule) → All P xs → (rows : List Row) → fold with_default rows xs ≡ rows
  defaults_none [] ps rows = refl
  defaults_none (x ∷ xs) ps rows = ap (λ (r : List Row). fold with_default r xs) (default_none x (All-head P x xs ps) rows) ∙ defaults_none xs (All-tail P x xs ps) rows

  -- a level in which there is no fault: what its last checks read is good, and they find none
  pub level_good : (names : Names) (words : List Text) (has_subcommand : Bool) (below : Kinds) → level_fault s names nothing_held words has_subcommand below ≡ []
      → Good (rows_after s.rules names words) × (check_fault s (rows_after s.rules names words) has_subcommand ≡ []) × (below ≡ [])
  level_good names words has_subcommand below e =
      let walk_parts = no_kinds _ _ e in
      let below_parts = no_kinds _ _ walk_parts.1 in
      let settle_parts = no_kinds _ _ below_parts.1 in
      let default_parts = no_kinds _ _ settle_parts.1 in
      let end = (walk s.rules names nothing_held words).held in
      let good = settle_good end settle_parts.0 (walk_good names (walk_from nothing_held) words walk_parts.0 (All-nil (IsGiven P))) in
      (subst Good (sym (defaults_none s.rules all (settled s.rules end).rows)) good, default_parts.1, below_parts.0)
