-- Which rows met a partner among the candidates of an epoch's rows, taken in turn.
use Rattle.std.proofs.Common.{◌≡◌, ◌++◌, ℕ, [], ◌∷◌, List, Option, Some, None, Bool, true, false, refl, ap, sym, ◌∙◌, subst, filter, map}
use Rattle.std.specs.Prelude.{◌&&◌, ◌||◌, not, if◌then◌else◌}
use Rattle.std.specs.BTreeMap.{is_at}
use Rattle.std.specs.List.{AllByRecursion, list_any}
use Rattle.std.proofs.lemmas.Bool.{and_right}
use Rattle.std.proofs.lemmas.List.{append_assoc, append-nil}
use Rattle.std.proofs.lemmas.List.Folds.{list_any-append}
use mathlib.Core.Bool.{and-true}
use Rattle.ssq_version.specs.State.{by_bytes}
use Rattle.ssq_version.proofs.Values.{one_key}
use Rattle.ssq_shape.specs.declared.bound.Joining.{Joining}
use Rattle.ssq_meaning.specs.FedRows.{FedRow}
use Rattle.ssq_meaning.specs.Join.{has_partner, have_equal_keys, is_candidate, is_left, is_near, is_on, is_pair, is_partner, row_key}
use Rattle.ssq_meaning.specs.JoinLaws.{AreApart, are_candidates}
use Rattle.ssq_meaning.specs.Meaning.{is_true_answer}
use Rattle.ssq_meaning.proofs.Handing.{all_append}
use Rattle.ssq_step.proofs.Lists.{back_all}
use Rattle.ssq_join.specs.Changing.{find_row}
use Rattle.ssq_join.specs.Telling.{candidates_of, touches}
use Rattle.ssq_join.specs.Turning.{turns}
use Rattle.ssq_join.proofs.Placed.{back_apart, front_apart}

-- ---- partners

-- partners are candidates
partner_meets : (joining : Joining) (row other : FedRow) → (are_candidates joining row other && is_partner joining row other) ≡ is_partner joining row other
partner_meets joining row other =
    by (is_candidate joining row other) (is_candidate joining other row) (is_true_answer (is_on joining row other)) (is_true_answer (is_on joining other row))
  where
    by : (a b c d : Bool) → ((a || b) && ((a && c) || (b && d))) ≡ ((a && c) || (b && d))
    by true b c d = refl
    by false true c d = refl
    by false false c d = refl

-- of either for the other
partners_turned : (joining : Joining) (row other : FedRow) → is_partner joining row other ≡ is_partner joining other row
partners_turned joining row other = by (is_pair joining row other) (is_pair joining other row)
  where
    by : (a b : Bool) → (a || b) ≡ (b || a)
    by true true = refl
    by true false = refl
    by false true = refl
    by false false = refl

-- none is its own
none_itself : (joining : Joining) (row : FedRow) → is_partner joining row row ≡ false
none_itself joining row = by (is_left row.stream)
  where
    by : (b : Bool) → ((((b && not b) && (have_equal_keys row row && is_near joining.bound row.time row.time)) && is_true_answer (is_on joining row row))
        || (((b && not b) && (have_equal_keys row row && is_near joining.bound row.time row.time)) && is_true_answer (is_on joining row row))) ≡ false
    by true = refl
    by false = refl

-- ---- the candidates of one row

-- no row is kept under these bytes
abbrev pub AreElsewhere : List ℕ → List FedRow → Type 0
AreElsewhere key rows = AllByRecursion (λ (row : FedRow). is_at (by_bytes key) (row_key row) ≡ false) rows

-- whether one is a partner of the row, and kept under these bytes or the row itself is
abbrev touched_by : Joining → List ℕ → (row : FedRow) → List FedRow → Bool
touched_by joining key row others = list_any (λ other. is_partner joining row other && (is_at (by_bytes key) (row_key row) || is_at (by_bytes key) (row_key other))) others

of_candidates : (joining : Joining) (key : List ℕ) (row : FedRow) (others : List FedRow) → list_any (touches joining key) (candidates_of joining row others) ≡ touched_by joining key row others
of_candidates joining key row [] = refl
of_candidates joining key row (other ∷ others) =
    by (are_candidates joining row other) (is_partner joining row other) (is_at (by_bytes key) (row_key row) || is_at (by_bytes key) (row_key other)) refl (partner_meets joining row other) (of_candidates joining key row others)
  where
    by : (c p a : Bool) → are_candidates joining row other ≡ c → (c && is_partner joining row other) ≡ is_partner joining row other → list_any (touches joining key) (candidates_of joining row others) ≡ touched_by joining key row others
        → list_any (touches joining key) (map (λ (own : FedRow). (row, own)) (if c then other ∷ filter (are_candidates joining row) others else filter (are_candidates joining row) others))
        ≡ ((is_partner joining row other && (is_at (by_bytes key) (row_key row) || is_at (by_bytes key) (row_key other))) || touched_by joining key row others)
    by true p a is partner rest = ap (λ b. (is_partner joining row other && (is_at (by_bytes key) (row_key row) || is_at (by_bytes key) (row_key other))) || b) rest
    by false p a is partner rest = rest ∙ ap (λ b. (b && (is_at (by_bytes key) (row_key row) || is_at (by_bytes key) (row_key other))) || touched_by joining key row others) partner

-- of the row that is kept there itself
touched_own : (joining : Joining) (key : List ℕ) (row : FedRow) → is_at (by_bytes key) (row_key row) ≡ true → (others : List FedRow) → touched_by joining key row others ≡ has_partner joining others row
touched_own joining key row at [] = refl
touched_own joining key row at (other ∷ others) =
    (λ i. (is_partner joining row other && (at i || is_at (by_bytes key) (row_key other))) || touched_own joining key row at others i)
    ∙ ap (λ b. b || has_partner joining others row) (and-true (is_partner joining row other))

-- of another one
touched_none : (joining : Joining) (key : List ℕ) (row : FedRow) → is_at (by_bytes key) (row_key row) ≡ false → (others : List FedRow) → AreElsewhere key others → touched_by joining key row others ≡ false
touched_none joining key row not_at [] all = refl
touched_none joining key row not_at (other ∷ others) all =
    (λ i. (is_partner joining row other && (not_at i || all.0 i)) || touched_none joining key row not_at others all.1 i) ∙ ap (λ b. b || false) (and_right (is_partner joining row other) false refl)

touched_one : (joining : Joining) (key : List ℕ) (row own : FedRow) → is_at (by_bytes key) (row_key row) ≡ false → is_at (by_bytes key) (row_key own) ≡ true → (front back : List FedRow) → AreElsewhere key front → AreElsewhere key back
    → touched_by joining key row (front ++ own ∷ back) ≡ is_partner joining row own
touched_one joining key row own not_at at front back before behind =
    list_any-append (λ other. is_partner joining row other && (is_at (by_bytes key) (row_key row) || is_at (by_bytes key) (row_key other))) front (own ∷ back)
    ∙ (λ i. touched_none joining key row not_at front before i || ((is_partner joining row own && (not_at i || at i)) || touched_none joining key row not_at back behind i))
    ∙ by (is_partner joining row own)
  where
    by : (b : Bool) → ((b && true) || false) ≡ b
    by true = refl
    by false = refl

-- ---- the candidates of all rows

abbrev pub any_turned : Joining → List ℕ → (earlier rows : List FedRow) → Bool
any_turned joining key earlier rows = list_any (touches joining key) (turns joining earlier rows)

one_turn : (joining : Joining) (key : List ℕ) (earlier : List FedRow) (row : FedRow) (rows : List FedRow)
    → any_turned joining key earlier (row ∷ rows) ≡ (touched_by joining key row earlier || any_turned joining key (earlier ++ row ∷ []) rows)
one_turn joining key earlier row rows =
    list_any-append (touches joining key) (candidates_of joining row earlier) (turns joining (earlier ++ row ∷ []) rows)
    ∙ ap (λ b. b || any_turned joining key (earlier ++ row ∷ []) rows) (of_candidates joining key row earlier)

-- a row before them met a partner where it has one among them
met_before : (joining : Joining) (key : List ℕ) (own : FedRow) → is_at (by_bytes key) (row_key own) ≡ true → (front back rows : List FedRow) → AreElsewhere key front → AreElsewhere key back → AreElsewhere key rows
    → any_turned joining key (front ++ own ∷ back) rows ≡ has_partner joining rows own
met_before joining key own at front back [] before behind others = refl
met_before joining key own at front back (row ∷ rows) before behind others =
    one_turn joining key (front ++ own ∷ back) row rows
    ∙ ap (λ l. touched_by joining key row (front ++ own ∷ back) || any_turned joining key l rows) (append_assoc front (own ∷ back) (row ∷ []))
    ∙ (λ i. touched_one joining key row own others.0 at front back before behind i
    || met_before joining key own at front (back ++ row ∷ []) rows before (all_append (λ (own : FedRow). is_at (by_bytes key) (row_key own) ≡ false) back (row ∷ []) behind (others.0, tt)) others.1 i)
    ∙ ap (λ b. b || has_partner joining rows own) (partners_turned joining row own)

-- one of them met a partner where it has one before it or among them
met_among : (joining : Joining) (key : List ℕ) (own : FedRow) → is_at (by_bytes key) (row_key own) ≡ true → (earlier front back : List FedRow) → AreElsewhere key earlier → AreElsewhere key front → AreElsewhere key back
    → any_turned joining key earlier (front ++ own ∷ back) ≡ (has_partner joining (earlier ++ front) own || has_partner joining back own)
met_among joining key own at earlier [] back before first behind =
    one_turn joining key earlier own back
    ∙ (λ i. touched_own joining key own at earlier i || met_before joining key own at earlier [] back before tt behind i)
    ∙ ap (λ l. has_partner joining l own || has_partner joining back own) (sym (append-nil earlier))
met_among joining key own at earlier (row ∷ front) back before first behind =
    one_turn joining key earlier row (front ++ own ∷ back)
    ∙ (λ i. touched_none joining key row first.0 earlier before i
    || met_among joining key own at (earlier ++ row ∷ []) front back (all_append (λ (own : FedRow). is_at (by_bytes key) (row_key own) ≡ false) earlier (row ∷ []) before (first.0, tt)) first.1 behind i)
    ∙ ap (λ l. has_partner joining l own || has_partner joining back own) (append_assoc earlier (row ∷ []) front)

-- ---- rows that are found

-- where the row stands among rows that are apart
pub record IsPlaced (key : List ℕ) (rows : List FedRow) (row : FedRow) : Type 0 where
  pub front : List FedRow
  pub back : List FedRow
  pub is : rows ≡ front ++ row ∷ back
  pub at : is_at (by_bytes key) (row_key row) ≡ true
  pub before : AreElsewhere key front
  pub behind : AreElsewhere key back

elsewhere_by : (key : List ℕ) (row : FedRow) → is_at (by_bytes key) (row_key row) ≡ true → (rows : List FedRow) → AllByRecursion (λ (other : FedRow). is_at (by_bytes (row_key row)) (row_key other) ≡ false) rows → AreElsewhere key rows
elsewhere_by key row at rows apart = subst (λ k. AreElsewhere k rows) (sym (one_key key (row_key row) at)) apart

pub placed : (key : List ℕ) (rows : List FedRow) (row : FedRow) → AreApart rows → find_row key rows ≡ Some row → IsPlaced key rows row
placed key [] row apart is = absurd cc
placed key (one ∷ rows) row apart is = by (is_at (by_bytes key) (row_key one)) refl is (placed key rows row apart.1)
  where
    by : (b : Bool) → is_at (by_bytes key) (row_key one) ≡ b → (if b then Some one else find_row key rows) ≡ Some row → (find_row key rows ≡ Some row → IsPlaced key rows row) → IsPlaced key (one ∷ rows) row
    by true at is rest =
        let same : one ≡ row = cc in
        record { front = []; back = rows; is = ap (λ r. r ∷ rows) same; at = subst (λ (r : FedRow). is_at (by_bytes key) (row_key r) ≡ true) same at; before = tt; behind = elsewhere_by key one at rows apart.0 }
    by false not_at is rest =
        let found = rest is in
        record { front = one ∷ found.front; back = found.back; is = ap (λ l. one ∷ l) found.is; at = found.at; before = (not_at, found.before); behind = found.behind }

-- the bytes of one of the first are none of the others'
pub others_elsewhere : (key : List ℕ) (xs ys : List FedRow) (row : FedRow) → AreApart (xs ++ ys) → find_row key xs ≡ Some row → AreElsewhere key ys
others_elsewhere key [] ys row apart is = absurd cc
others_elsewhere key (x ∷ xs) ys row apart is = by (is_at (by_bytes key) (row_key x)) refl is (others_elsewhere key xs ys row apart.1)
  where
    by : (b : Bool) → is_at (by_bytes key) (row_key x) ≡ b → (if b then Some x else find_row key xs) ≡ Some row → (find_row key xs ≡ Some row → AreElsewhere key ys) → AreElsewhere key ys
    by true at is rest = back_all (λ (own : FedRow). is_at (by_bytes key) (row_key own) ≡ false) xs ys (elsewhere_by key x at (xs ++ ys) apart.0)
    by false not_at is rest = rest is

pub none_elsewhere : (key : List ℕ) (rows : List FedRow) → AreElsewhere key rows → find_row key rows ≡ None
none_elsewhere key [] all = refl
none_elsewhere key (row ∷ rows) all = ap (λ b. if b then Some row else find_row key rows) all.0 ∙ none_elsewhere key rows all.1

found_elsewhere : (key : List ℕ) (rows : List FedRow) → find_row key rows ≡ None → AreElsewhere key rows
found_elsewhere key [] is = tt
found_elsewhere key (row ∷ rows) is = by (is_at (by_bytes key) (row_key row)) refl is (found_elsewhere key rows)
  where
    by : (b : Bool) → is_at (by_bytes key) (row_key row) ≡ b → (if b then Some row else find_row key rows) ≡ None → (find_row key rows ≡ None → AreElsewhere key rows) → AreElsewhere key (row ∷ rows)
    by true at is rest = absurd cc
    by false not_at is rest = (not_at, rest is)

module _ (joining : Joining) (held new : List FedRow) (apart : AreApart (held ++ new)) (key : List ℕ) (row : FedRow) where
  -- a row that is kept met a partner where it has one among the new ones
  pub held_met : find_row key held ≡ Some row → any_turned joining key held new ≡ has_partner joining new row
  held_met is =
      let at = placed key held row (front_apart held new apart) is in
      ap (λ l. any_turned joining key l new) at.is
      ∙ met_before joining key row at.at at.front at.back new at.before at.behind (others_elsewhere key held new row apart is)

  -- a new one where it has one among both
  pub new_met : find_row key new ≡ Some row → any_turned joining key held new ≡ has_partner joining (held ++ new) row
  new_met is =
      let at = placed key new row (back_apart held new apart) is in
      ap (any_turned joining key held) at.is
      ∙ met_among joining key row at.at held at.front at.back (found_elsewhere key held (none_before (find_row key held) refl)) at.before at.behind
      ∙ sym (
      ap (λ l. has_partner joining (held ++ l) row) at.is
      ∙ ap (λ l. has_partner joining l row) (sym (append_assoc held at.front (row ∷ at.back)))
      ∙ list_any-append (is_partner joining row) (held ++ at.front) (row ∷ at.back)
      ∙ ap (λ b. has_partner joining (held ++ at.front) row || (b || has_partner joining at.back row)) (none_itself joining row)
      )
    where
      none_before : (o : Option FedRow) → find_row key held ≡ o → find_row key held ≡ None
      none_before None was = was
      none_before (Some other) was =
          let no : None ≡ Some row = sym (none_elsewhere key new (others_elsewhere key held new other apart was)) ∙ is in absurd cc
