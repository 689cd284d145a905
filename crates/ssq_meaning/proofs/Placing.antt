-- No two of the rows that a join accepts have one place, and so none are kept under the same bytes.
use Rattle.std.proofs.Common.{◌≡◌, ◌≤◌, ◌<◌, ◌+◌, ◌-◌, ◌^◌, ◌++◌, [], ◌∷◌, ℕ, zero, suc, List, Result, Ok, Err, Bool, true, false, refl, ap, sym, ◌∙◌, subst, arith, filter, length, drop}
use Rattle.std.specs.Prelude.{IfOk, IfSome, not, if◌then◌else◌}
use Rattle.std.specs.declared.cmp.Ordering.{Ordering}
use Rattle.std.specs.BTreeMap.{is_at}
use Rattle.std.specs.Cmp.Lexicographic.{slice_cmp}
use Rattle.std.specs.FinMap.{nat_cmp-IsAntisymmetric, slice_cmp-IsAntisymmetric}
use Rattle.std.specs.Int.{w32, w64, from_be_bytes, to_be_bytes}
use Rattle.std.specs.List.{AllByRecursion, enumerate_from, flat_map}
use Rattle.std.specs.Ordering.{nat_cmp}
use Rattle.std.proofs.lemmas.Bool.Decides.{nat_tests}
use Rattle.std.proofs.lemmas.List.{length-drop, length-map, length-take}
use Rattle.std.proofs.lemmas.List.Elements.{All-weaker, recursion_from_All}
use Rattle.std.proofs.lemmas.Nat.{from_be_bytes-to_be_bytes_4, from_be_bytes-to_be_bytes_8}
use Rattle.ssq_value.specs.declared.value.Value.{Value}
use Rattle.ssq_value.specs.Key.{IsSpelled}
use Rattle.ssq_value.proofs.Fronts.{same_fronts}
use Rattle.ssq_shape.specs.declared.bound.Bound.{Bound}
use Rattle.ssq_shape.specs.declared.bound.Joining.{Joining}
use Rattle.ssq_shape.specs.declared.bound.Shape.{Shape}
use Rattle.ssq_shape.specs.declared.bound.Shape.TheVariants.{Join}
use Rattle.ssq_shape.specs.Evaluation.{cell_at}
use Rattle.ssq_shape.specs.Fit.{IsFit}
use Rattle.ssq_shape.specs.Windows.{HasWindows, HasWindowsBy}
use Rattle.ssq_meaning.specs.FedRows.{FedRow}
use Rattle.ssq_meaning.specs.declared.line.LineFault.{LineFault}
use Rattle.ssq_meaning.specs.Cut.{Cut, Cuts, of_parts}
use Rattle.ssq_meaning.specs.Epochs.{accepted, fed, fed_between, on_time, watermark}
use Rattle.ssq_meaning.specs.Feeding.{fed_at, fed_if, fed_in, line_handed, read_at}
use Rattle.ssq_meaning.specs.Fit.{IsFitRow}
use Rattle.ssq_meaning.specs.GroupLaws.{IsKeySpelled}
use Rattle.ssq_meaning.specs.Handed.{Handed}
use Rattle.ssq_meaning.specs.Join.{is_left, key_column, row_key, side_byte}
use Rattle.ssq_meaning.specs.JoinLaws.{AreApart, ArePartsApart, HasFewLines, IsJoinRow, IsOtherPart}
use Rattle.ssq_meaning.specs.Meaning.{Line, lines_between}
use Rattle.ssq_meaning.specs.Operator.{operator_of}
use Rattle.ssq_meaning.specs.Parts.{Part, parts_from, parts_of}
use Rattle.ssq_meaning.proofs.Coding.{AreApart as KeysAreApart, is_equal}
use Rattle.ssq_meaning.proofs.FitRows.{AreHeld, RowsFit, StaysFit, accepted_fit, spelled}
use Rattle.ssq_meaning.proofs.Handing.{Gives, all_append, any_read, line_has, weaker}
use Rattle.ssq_meaning.proofs.JoinEpochs.{accepted_joined}
use Rattle.ssq_meaning.proofs.Keys.{All-by}

abbrev by_bytes : List ℕ → List ℕ → Ordering
by_bytes = slice_cmp nat_cmp

-- ---- places

-- rows of two sides, epochs, parts or lines
abbrev IsElsewhere : (one other : FedRow) → Type 0
IsElsewhere one other = is_left one.stream ≡ is_left other.stream → one.epoch ≡ other.epoch → one.part ≡ other.part → one.offset ≡ other.offset → ⊥

abbrev AreElsewhere : List FedRow → Type 0
AreElsewhere [] = Unit {0}
AreElsewhere (row ∷ rows) = AllByRecursion (IsElsewhere row) rows × AreElsewhere rows

-- the numbers of a place fit its bytes
record IsPlaced (row : FedRow) : Type 0 where
  pub epoch : row.epoch < 2 ^ 32
  pub part : row.part < 2 ^ 32
  pub offset : row.offset < 2 ^ 64

elsewhere_append : (xs ys : List FedRow) → AreElsewhere xs → AreElsewhere ys → AllByRecursion (λ x. AllByRecursion (IsElsewhere x) ys) xs → AreElsewhere (xs ++ ys)
elsewhere_append [] ys a b across = b
elsewhere_append (x ∷ xs) ys a b across = (all_append (IsElsewhere x) xs ys a.0 across.0, elsewhere_append xs ys a.1 b across.1)

elsewhere_filter : (p : FedRow → Bool) (rows : List FedRow) → AreElsewhere rows → AreElsewhere (filter p rows)
elsewhere_filter p [] apart = tt
elsewhere_filter p (row ∷ rows) apart = by (p row) (elsewhere_filter p rows apart.1)
  where
    by : (b : Bool) → AreElsewhere (filter p rows) → AreElsewhere (if b then row ∷ filter p rows else filter p rows)
    by true rest = (All-by (IsElsewhere row) p rows apart.0, rest)
    by false rest = rest

-- what holds of each row of one list with each of another
across : (P Q : FedRow → Type 0) → ((x y : FedRow) → P x → Q y → IsElsewhere x y) → (xs ys : List FedRow) → AllByRecursion P xs → AllByRecursion Q ys → AllByRecursion (λ x. AllByRecursion (IsElsewhere x) ys) xs
across P Q apart [] ys ps qs = tt
across P Q apart (x ∷ xs) ys ps qs = (weaker Q (IsElsewhere x) (λ y. apart x y ps.0) ys qs, across P Q apart xs ys ps.1 qs)

-- ---- bytes

first_byte : List ℕ → ℕ
first_byte [] = 0
first_byte (x ∷ xs) = x

later_bytes : List ℕ → List ℕ
later_bytes [] = []
later_bytes (x ∷ xs) = xs

pub same_side : (a b : Bool) → side_byte a ≡ side_byte b → a ≡ b
same_side true true is = refl
same_side true false is = absurd (omega (arith, is))
same_side false true is = absurd (omega (arith, is))
same_side false false is = refl

same_4 : (a b : ℕ) (x y : List ℕ) → a < 2 ^ 32 → b < 2 ^ 32 → to_be_bytes w32 a ++ x ≡ to_be_bytes w32 b ++ y → (a ≡ b) × (x ≡ y)
same_4 a b x y f g is =
    let parts = same_fronts (to_be_bytes w32 a) (to_be_bytes w32 b) x y refl is in
    (sym (from_be_bytes-to_be_bytes_4 a f) ∙ ap (from_be_bytes w32) parts.0 ∙ from_be_bytes-to_be_bytes_4 b g, parts.1)

same_8 : (a b : ℕ) → a < 2 ^ 64 → b < 2 ^ 64 → to_be_bytes w64 a ≡ to_be_bytes w64 b → a ≡ b
same_8 a b f g is = sym (from_be_bytes-to_be_bytes_8 a f) ∙ ap (from_be_bytes w64) is ∙ from_be_bytes-to_be_bytes_8 b g

module _ (keys_apart : KeysAreApart) (count : ℕ) where
  apart_bytes : (a b : FedRow) → IsPlaced a → IsPlaced b → IsKeySpelled count a.key → IsKeySpelled count b.key → IsElsewhere a b → is_at (by_bytes (row_key a)) (row_key b) ≡ false
  unfolding first_byte later_bytes
  apart_bytes a b at_a at_b key_a key_b elsewhere = by (is_at (by_bytes (row_key a)) (row_key b)) refl
    where
      by : (t : Bool) → is_at (by_bytes (row_key a)) (row_key b) ≡ t → is_at (by_bytes (row_key a)) (row_key b) ≡ false
      by false is = is
      by true is =
          let bytes : row_key a ≡ row_key b = slice_cmp-IsAntisymmetric nat_cmp-IsAntisymmetric (row_key a) (row_key b) (is_equal (by_bytes (row_key a) (row_key b)) is) in
          let side = same_side (is_left a.stream) (is_left b.stream) (ap first_byte bytes) in
          let rest = keys_apart a.key b.key
          (to_be_bytes w32 a.epoch ++ (to_be_bytes w32 a.part ++ to_be_bytes w64 a.offset)) (to_be_bytes w32 b.epoch ++ (to_be_bytes w32 b.part ++ to_be_bytes w64 b.offset))
          (key_a.1 ∙ sym key_b.1) key_a.0 key_b.0 (ap later_bytes bytes) in
          let epoch = same_4 a.epoch b.epoch (to_be_bytes w32 a.part ++ to_be_bytes w64 a.offset) (to_be_bytes w32 b.part ++ to_be_bytes w64 b.offset) at_a.epoch at_b.epoch rest.1 in
          let part = same_4 a.part b.part (to_be_bytes w64 a.offset) (to_be_bytes w64 b.offset) at_a.part at_b.part epoch.1 in
          absurd (elsewhere side epoch.0 part.0 (same_8 a.offset b.offset at_a.offset at_b.offset part.1))

  abbrev IsWhole : FedRow → Type 0
  IsWhole row = IsPlaced row × IsKeySpelled count row.key

  from_others : (row : FedRow) → IsWhole row → (rows : List FedRow) → AllByRecursion IsWhole rows → AllByRecursion (IsElsewhere row) rows
      → AllByRecursion (λ other. is_at (by_bytes (row_key row)) (row_key other) ≡ false) rows
  from_others row own [] all apart = tt
  from_others row own (other ∷ rows) all apart = (apart_bytes row other own.0 all.0.0 own.1 all.0.1 apart.0, from_others row own rows all.1 apart.1)

  all_apart : (rows : List FedRow) → AllByRecursion IsWhole rows → AreElsewhere rows → AreApart rows
  all_apart [] all apart = tt
  all_apart (row ∷ rows) all apart = (from_others row all.0 rows all.1 apart.0, all_apart rows all.1 apart.1)

-- ---- rows of a part

-- a row of an epoch and of a part, whose line stands at these offsets or between them
record IsOf (epoch : ℕ) (part : Part) (from to : ℕ) (row : FedRow) : Type 0 where
  pub epoch_is : row.epoch ≡ epoch
  pub stream_is : row.stream ≡ part.stream
  pub part_is : row.part ≡ part.part
  pub from_on : from ≤ row.offset
  pub below : row.offset < to

module _ (query : Bound) (joining : Joining) (is : query.shape ≡ Join joining) where
  line_once : (stream : ℕ) (line : Line) → IfOk (line_handed query stream line) (λ rows. length rows ≤ 1)
  line_once stream line =
      line_has query (λ rows. length rows ≤ 1) (omega arith) stream line
      (subst (λ (of : Shape). IfOk (read_at query stream line) (λ row. IfSome row (Gives query (λ rows. length rows ≤ 1) stream of))) (sym is)
      (any_read (Gives query (λ rows. length rows ≤ 1) stream (Join joining)) (λ row. omega arith) (read_at query stream line)))

  if_once : (epoch : ℕ) (part : Part) (at to : ℕ) → at < to → (rows : Result (List Handed) LineFault) → IfOk rows (λ rows. length rows ≤ 1)
      → AreElsewhere (fed_if epoch part at rows) × AllByRecursion (IsOf epoch part at (suc at)) (fed_if epoch part at rows) × AllByRecursion (IsOf epoch part at to) (fed_if epoch part at rows)
  if_once epoch part at to low (Ok []) once = (tt, tt, tt)
  if_once epoch part at to low (Ok (row ∷ [])) once = (
    (tt, tt),
    (record { epoch_is = refl; stream_is = refl; part_is = refl; from_on = omega arith; below = omega arith }, tt),
    (record { epoch_is = refl; stream_is = refl; part_is = refl; from_on = omega arith; below = low }, tt),
  )
  if_once epoch part at to low (Ok (row ∷ other ∷ rows)) once = absurd (omega (arith, once))
  if_once epoch part at to low (Err fault) once = (tt, tt, tt)

  -- the rows of lines one after the other
  lines_once : (epoch : ℕ) (part : Part) (at to : ℕ) (lines : List Line) → length lines ≤ to - at
      → AreElsewhere (flat_map (λ line. fed_at query epoch part line.0 line.1) (enumerate_from at lines))
      × AllByRecursion (IsOf epoch part at to) (flat_map (λ line. fed_at query epoch part line.0 line.1) (enumerate_from at lines))
  lines_once epoch part at to [] low = (tt, tt)
  lines_once epoch part at to (line ∷ lines) low =
      let here = if_once epoch part at to (omega (arith, low)) (line_handed query part.stream line) (line_once part.stream line) in
      let rest = lines_once epoch part (at + 1) to lines (omega (arith, low)) in
      let own = fed_at query epoch part at line in
      let others = flat_map (λ line. fed_at query epoch part line.0 line.1) (enumerate_from (at + 1) lines) in (
        elsewhere_append own others here.0 rest.0
            (across (IsOf epoch part at (suc at)) (IsOf epoch part (at + 1) to) (λ x y of_x of_y side same_epoch same_part same. let low = of_x.below in let high = of_y.from_on in omega (arith, low, high, same)) own others here.1 rest.1),
        all_append (IsOf epoch part at to) own others here.2
            (weaker (IsOf epoch part (at + 1) to) (IsOf epoch part at to)
            (λ row of. record { epoch_is = of.epoch_is; stream_is = of.stream_is; part_is = of.part_is; from_on = let low = of.from_on in omega (arith, low); below = of.below }) others rest.1),
      )

  part_once : (epoch : ℕ) (part : Part) (from to : ℕ)
      → AreElsewhere (fed_in query epoch part from to) × AllByRecursion (IsOf epoch part from (length part.lines)) (fed_in query epoch part from to)
  part_once epoch part from to =
      lines_once epoch part from (length part.lines) (lines_between from to part.lines)
      (omega (arith, length-take (to - from) (drop from part.lines), length-drop from part.lines))

  -- ---- rows of an epoch

  -- what holds of the rows of each part holds of all
  rows_between : (P : FedRow → Type 0) (epoch : ℕ) (parts : List Part) → AllByRecursion (λ part. (from to : ℕ) → AllByRecursion P (fed_in query epoch part from to)) parts
      → (froms tos : Cut) → AllByRecursion P (fed_between query epoch parts froms tos)
  unfolding of_parts
  rows_between P epoch [] all froms tos = tt
  rows_between P epoch (part ∷ parts) all [] tos = tt
  rows_between P epoch (part ∷ parts) all (from ∷ froms) [] = tt
  rows_between P epoch (part ∷ parts) all (from ∷ froms) (to ∷ tos) =
      all_append P (fed_in query epoch part from to) (fed_between query epoch parts froms tos) (all.0 from to) (rows_between P epoch parts all.1 froms tos)

  -- the row is of another part than this one
  abbrev IsNotOf : Part → FedRow → Type 0
  IsNotOf part row = is_left part.stream ≡ is_left row.stream → part.part ≡ row.part → ⊥

  other_part : (epoch : ℕ) (part other : Part) → IsOtherPart part other → (from to : ℕ) → AllByRecursion (IsNotOf part) (fed_in query epoch other from to)
  other_part epoch part other apart from to =
      weaker (IsOf epoch other from (length other.lines)) (IsNotOf part) (λ row of side same. apart (side ∙ ap is_left of.stream_is) (same ∙ of.part_is)) (fed_in query epoch other from to) (part_once epoch other from to).1

  between_once : (epoch : ℕ) (parts : List Part) → ArePartsApart parts → (froms tos : Cut) → AreElsewhere (fed_between query epoch parts froms tos)
  unfolding of_parts
  between_once epoch [] apart froms tos = tt
  between_once epoch (part ∷ parts) apart [] tos = tt
  between_once epoch (part ∷ parts) apart (from ∷ froms) [] = tt
  between_once epoch (part ∷ parts) apart (from ∷ froms) (to ∷ tos) =
      let own = part_once epoch part from to in
      elsewhere_append (fed_in query epoch part from to) (fed_between query epoch parts froms tos) own.0 (between_once epoch parts apart.1 froms tos)
      (across (IsOf epoch part from (length part.lines)) (IsNotOf part)
      (λ x y of_x not_of_y side same_epoch same_part same. not_of_y (ap is_left (sym of_x.stream_is) ∙ side) (sym of_x.part_is ∙ same_part))
      (fed_in query epoch part from to) (fed_between query epoch parts froms tos) own.1
      (rows_between (IsNotOf part) epoch parts (weaker (IsOtherPart part) (λ other. (from to : ℕ) → AllByRecursion (IsNotOf part) (fed_in query epoch other from to)) (other_part epoch part) parts apart.0) froms tos))

  -- the row is one of an epoch, and its numbers fit the bytes of its place
  record IsIn (epoch : ℕ) (row : FedRow) : Type 0 where
    pub is_of : row.epoch ≡ epoch
    pub part : row.part < 2 ^ 32
    pub offset : row.offset < 2 ^ 64

  part_in : (epoch : ℕ) (part : Part) → HasFewLines part → (from to : ℕ) → AllByRecursion (IsIn epoch) (fed_in query epoch part from to)
  part_in epoch part few from to =
      weaker (IsOf epoch part from (length part.lines)) (IsIn epoch)
      (λ row of. record {
        is_of = of.epoch_is;
        part = let number = few.number in let same = of.part_is in omega (arith, number, same);
        offset = let lines = few.lines in let low = of.below in omega (arith, lines, low);
      }) (fed_in query epoch part from to) (part_once epoch part from to).1

  module _ (parts : List Part) (apart : ArePartsApart parts) (few : AllByRecursion HasFewLines parts) (cuts : Cuts) where
    fed_in_epoch : (e : ℕ) → AllByRecursion (IsIn e) (fed query parts cuts e)
    fed_in_epoch e =
        rows_between (IsIn e) e parts (weaker HasFewLines (λ part. (from to : ℕ) → AllByRecursion (IsIn e) (fed_in query e part from to)) (part_in e) parts few) (cuts e) (cuts (e + 1))

    on_time_in : (e : ℕ) → AllByRecursion (IsIn e) (on_time query parts cuts e)
    on_time_in e = All-by (IsIn e) (λ row. not ((operator_of query).is_late (watermark query parts cuts e) row)) (fed query parts cuts e) (fed_in_epoch e)

    on_time_once : (e : ℕ) → AreElsewhere (on_time query parts cuts e)
    on_time_once e = elsewhere_filter (λ row. not ((operator_of query).is_late (watermark query parts cuts e) row)) (fed query parts cuts e) (between_once e parts apart (cuts e) (cuts (e + 1)))

    -- the row is one of an earlier epoch
    record IsBefore (epoch : ℕ) (row : FedRow) : Type 0 where
      pub earlier : row.epoch < epoch
      pub part : row.part < 2 ^ 32
      pub offset : row.offset < 2 ^ 64

    accepted_before : (n : ℕ) → AllByRecursion (IsBefore n) (accepted query parts cuts n)
    unfolding accepted
    accepted_before zero = tt
    accepted_before (suc n) =
        all_append (IsBefore (suc n)) (accepted query parts cuts n) (on_time query parts cuts n)
        (weaker (IsBefore n) (IsBefore (suc n)) (λ row of. record { earlier = let low = of.earlier in omega (arith, low); part = of.part; offset = of.offset }) (accepted query parts cuts n) (accepted_before n))
        (weaker (IsIn n) (IsBefore (suc n)) (λ row of. record { earlier = let same = of.is_of in omega (arith, same); part = of.part; offset = of.offset }) (on_time query parts cuts n) (on_time_in n))

    accepted_once : (n : ℕ) → AreElsewhere (accepted query parts cuts n)
    unfolding accepted
    accepted_once zero = tt
    accepted_once (suc n) =
        elsewhere_append (accepted query parts cuts n) (on_time query parts cuts n) (accepted_once n) (on_time_once n)
        (across (IsBefore n) (IsIn n) (λ x y of_x of_y side same_epoch same_part same. let low = of_x.earlier in let high = of_y.is_of in omega (arith, low, high, same_epoch))
        (accepted query parts cuts n) (on_time query parts cuts n) (accepted_before n) (on_time_in n))

-- ---- what is kept

pub key_lengths : (joining : Joining) (row : FedRow) → IsJoinRow joining row → length row.key ≡ length joining.keys
key_lengths joining row own = ap (λ (key : List Value). length key) own.key ∙ length-map joining.keys (λ pair. cell_at row.values (key_column (is_left row.stream) pair))

module _ (keys_apart : KeysAreApart) (rows_fit : RowsFit) (stays : StaysFit) (held : AreHeld) where
  whole_rows : (joining : Joining) (n : ℕ) → n ≤ 2 ^ 32 → (rows : List FedRow) → AllByRecursion (λ (row : FedRow). (row.epoch < n) × (row.part < 2 ^ 32) × (row.offset < 2 ^ 64)) rows
      → AllByRecursion (IsJoinRow joining) rows → AllByRecursion IsFitRow rows → AllByRecursion (IsWhole keys_apart (length joining.keys)) rows
  whole_rows joining n most [] places own fit = tt
  whole_rows joining n most (row ∷ rows) places own fit = (
    (
      record { epoch = let low = places.0.0 in omega (arith, low, most); part = places.0.1; offset = places.0.2 },
      (All-weaker IsFit IsSpelled spelled row.key fit.0.key, key_lengths joining row own.0),
    ),
    whole_rows joining n most rows places.1 own.1 fit.1,
  )

  pub accepted_apart : (query : Bound) (joining : Joining) → query.shape ≡ Join joining → (parts : List Part) → ArePartsApart parts → AllByRecursion HasFewLines parts
      → (cuts : Cuts) (n : ℕ) → n ≤ 2 ^ 32 → AreApart (accepted query parts cuts n)
  accepted_apart query joining is parts apart few cuts n most =
      let rows = accepted query parts cuts n in
      let windows : HasWindows query = subst HasWindowsBy (sym is) tt in
      all_apart keys_apart (length joining.keys) rows
      (whole_rows joining n most rows
      (weaker (IsBefore query joining is parts apart few cuts n) (λ (row : FedRow). (row.epoch < n) × (row.part < 2 ^ 32) × (row.offset < 2 ^ 64)) (λ row of. (of.earlier, of.part, of.offset)) rows
      (accepted_before query joining is parts apart few cuts n))
      (recursion_from_All _ rows (accepted_joined query joining is parts cuts n))
      (recursion_from_All _ rows (accepted_fit rows_fit stays held query windows parts cuts n)))
      (accepted_once query joining is parts apart few cuts n)

-- ---- the parts of two streams

-- a part of a stream up to 1, of a later one than this or of this one with no lower number
record IsBehind (stream part : ℕ) (other : Part) : Type 0 where
  pub no_earlier : stream ≤ other.stream
  pub most : other.stream ≤ 1
  pub behind : stream ≡ other.stream → part ≤ other.part

behind_weaker : (stream part : ℕ) (other : Part) → IsBehind stream (part + 1) other → IsBehind stream part other
behind_weaker stream part other of = record { no_earlier = of.no_earlier; most = of.most; behind = λ same. let low = of.behind same in omega (arith, low) }

next_stream : (stream part : ℕ) (other : Part) → IsBehind (stream + 1) 0 other → IsBehind stream part other
next_stream stream part other of = record {
  no_earlier = let low = of.no_earlier in omega (arith, low);
  most = of.most;
  behind = λ same. let low = of.no_earlier in absurd (omega (arith, low, same));
}

other_streams : (stream part : ℕ) (other : Part) → stream ≤ 1 → IsBehind stream (part + 1) other → is_left stream ≡ is_left other.stream → part ≡ other.part → ⊥
other_streams zero part other low of side same =
    let left : other.stream ≡ 0 = grind (arith, nat_tests, side) in
    let behind = of.behind (sym left) in
    omega (arith, behind, same)
other_streams (suc stream) part other low of side same =
    let no_earlier = of.no_earlier in
    let most = of.most in
    let one : suc stream ≡ other.stream = omega (arith, low, no_earlier, most) in
    let behind = of.behind one in
    omega (arith, behind, same)

parts_behind : (stream part left : ℕ) (counts : List ℕ) (lines : List (List Line)) → stream + length counts ≤ 1 → AllByRecursion (IsBehind stream part) (parts_from stream part left counts lines)
unfolding parts_from
parts_behind stream part left counts [] most = tt
parts_behind stream part (suc left) counts (own ∷ lines) most = (
  record { no_earlier = omega arith; most = omega (arith, most); behind = λ same. omega arith },
  weaker (IsBehind stream (part + 1)) (IsBehind stream part) (behind_weaker stream part) (parts_from stream (part + 1) left counts lines) (parts_behind stream (part + 1) left counts lines most),
)
parts_behind stream part zero [] (own ∷ lines) most = tt
parts_behind stream part zero (count ∷ counts) (own ∷ lines) most =
    weaker (IsBehind (stream + 1) 0) (IsBehind stream part) (next_stream stream part) (parts_from (stream + 1) 0 count counts (own ∷ lines))
    (parts_behind (stream + 1) 0 count counts (own ∷ lines) (omega (arith, most)))

apart_from : (stream part left : ℕ) (counts : List ℕ) (lines : List (List Line)) → stream + length counts ≤ 1 → ArePartsApart (parts_from stream part left counts lines)
unfolding parts_from
apart_from stream part left counts [] most = tt
apart_from stream part (suc left) counts (own ∷ lines) most = (
  weaker (IsBehind stream (part + 1)) (IsOtherPart (record { stream = stream; part = part; lines = own })) (λ other of. other_streams stream part other (omega (arith, most)) of)
      (parts_from stream (part + 1) left counts lines) (parts_behind stream (part + 1) left counts lines most),
  apart_from stream (part + 1) left counts lines most,
)
apart_from stream part zero [] (own ∷ lines) most = tt
apart_from stream part zero (count ∷ counts) (own ∷ lines) most = apart_from (stream + 1) 0 count counts (own ∷ lines) (omega (arith, most))

pub parts_apart : (counts : List ℕ) (lines : List (List Line)) → length counts ≤ 2 → ArePartsApart (parts_of counts lines)
parts_apart [] lines few = tt
parts_apart (count ∷ counts) lines few = apart_from 0 0 count counts lines (omega (arith, few))
