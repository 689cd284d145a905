-- Lines of commits and greatest times.
use Rattle.std.proofs.Common.{◌≡◌, ◌<◌, ◌≤◌, ◌+◌, ◌==◌, ◌++◌, [], ◌∷◌, ℕ, zero, suc, ℤ, List, Option, Some, None, Bool, true, false, true≢false, refl, ap, sym, ◌∙◌, subst, arith, map, drop, length, get_or}
use Rattle.std.specs.Prelude.{All, IfSome, filter, if◌then◌else◌, is_some}
use Rattle.std.specs.List.{cons_option}
use Rattle.std.specs.Option.{ForSome}
use Rattle.std.proofs.lemmas.Bool.{eqb-true, eqb-false, eq-eqb, ne_eqb}
use Rattle.std.proofs.lemmas.List.{drop_more, drop_all, append_assoc, append-nil}
use Rattle.std.proofs.lemmas.List.Elements.{All-cons, All-head, All-tail, All-nil}
use Rattle.ssq_time.specs.Time.{IsLineTime}
use Rattle.ssq_shape.specs.declared.bound.Bound.{Bound}
use Rattle.ssq_shape.specs.declared.bound.Stream.{Stream}
use Rattle.ssq_meaning.specs.Times.{Delay, delay_of, delays, delays_from, later, greatest}
use Rattle.ssq_meaning.proofs.Greatest.{later_assoc}
use Rattle.ssq_meaning.proofs.Water.{later_none}
use Rattle.ssq_water.specs.Water.{seen_at, AreLineTimes}
use Rattle.ssq_plans.specs.declared.seen.SeenBy.{SeenBy}
use Rattle.ssq_plans.specs.Records.{HasLineTime}
use Rattle.ssq_task.specs.Committing.{line_of, lines_of, told, AreOwn}

-- ---- the lines of a commit

-- the lines from this stream on
abbrev pub lines_from : ℕ → List Stream → List (Option ℤ) → List SeenBy
lines_from at streams times = map (line_of times) (delays_from at streams)

-- the line of a stream
abbrev pub line : ℕ → Option ℤ → SeenBy
line stream time = record { stream = stream; time = time }

front : (at : ℕ) (streams : List Stream) (times : List (Option ℤ)) (stream : Stream) → at < length streams → stream ≡ get_or streams at stream
    → lines_from at (drop at streams) times ≡ map (line_of times) (cons_option (delay_of at stream.delay) (delays_from (at + 1) (drop (at + 1) streams)))
unfolding delays_from
front at streams times stream inside is =
    let split : drop at streams ≡ stream ∷ drop (at + 1) streams = drop_more streams at stream inside ∙ ap (λ (s : Stream). s ∷ drop (at + 1) streams) (sym is) in
    ap (λ left. lines_from at left times) split

with_delay : (at : ℕ) (delay : Option ℤ) (left : List Delay) (times : List (Option ℤ)) → is_some delay ≡ true
    → map (line_of times) (cons_option (delay_of at delay) left) ≡ line at (seen_at times at) ∷ map (line_of times) left
with_delay at None left times is = absurd (true≢false (sym is))
with_delay at (Some delay) left times is = refl

without_delay : (at : ℕ) (delay : Option ℤ) (left : List Delay) (times : List (Option ℤ)) → is_some delay ≡ false
    → map (line_of times) (cons_option (delay_of at delay) left) ≡ map (line_of times) left
without_delay at None left times is = refl
without_delay at (Some delay) left times is = absurd (true≢false is)

-- one watermarked stream more
pub one_line : (at : ℕ) (streams : List Stream) (times : List (Option ℤ)) (stream : Stream) (time : Option ℤ) (before all : List SeenBy) → at < length streams → stream ≡ get_or streams at stream
    → is_some stream.delay ≡ true → time ≡ get_or times at None → before ++ lines_from at (drop at streams) times ≡ all
    → (before ++ line at time ∷ []) ++ lines_from (at + 1) (drop (at + 1) streams) times ≡ all
one_line at streams times stream time before all inside is watermarked own left =
    let rest = lines_from (at + 1) (drop (at + 1) streams) times in
    let same : time ≡ seen_at times at = own in
    let split : lines_from at (drop at streams) times ≡ line at time ∷ rest =
    front at streams times stream inside is ∙ with_delay at stream.delay (delays_from (at + 1) (drop (at + 1) streams)) times watermarked
    ∙ ap (λ (t : Option ℤ). line at t ∷ rest) (sym same) in
    append_assoc before (line at time ∷ []) rest ∙ ap (λ (more : List SeenBy). before ++ more) (sym split) ∙ left

-- a stream that isn't watermarked
pub no_line : (at : ℕ) (streams : List Stream) (times : List (Option ℤ)) (stream : Stream) (before all : List SeenBy) → at < length streams → stream ≡ get_or streams at stream
    → is_some stream.delay ≡ false → before ++ lines_from at (drop at streams) times ≡ all → before ++ lines_from (at + 1) (drop (at + 1) streams) times ≡ all
no_line at streams times stream before all inside is unmarked left =
    let same = front at streams times stream inside is ∙ without_delay at stream.delay (delays_from (at + 1) (drop (at + 1) streams)) times unmarked in
    ap (λ (more : List SeenBy). before ++ more) (sym same) ∙ left

-- no stream is left
pub all_lines : (at : ℕ) (streams : List Stream) (times : List (Option ℤ)) (before all : List SeenBy) → length streams ≤ at → before ++ lines_from at (drop at streams) times ≡ all → before ≡ all
unfolding delays_from
all_lines at streams times before all over left =
    let none : drop at streams ≡ [] = drop_all at streams over in
    sym (append-nil before) ∙ ap (λ (s : List Stream). before ++ lines_from at s times) (sym none) ∙ left

timed_at : (times : List (Option ℤ)) → AreLineTimes times → (at : ℕ) → IfSome (seen_at times at) IsLineTime
timed_at [] are at = tt
timed_at (t ∷ ts) are zero = All-head (λ (time : Option ℤ). IfSome time IsLineTime) t ts are
timed_at (t ∷ ts) are (suc at) = timed_at ts (All-tail (λ (time : Option ℤ). IfSome time IsLineTime) t ts are) at

for_some : (time : Option ℤ) → IfSome time IsLineTime → ForSome time IsLineTime
for_some None is = λ t e. absurd (true≢false (sym (ap is_some e)))
for_some (Some time) is = λ t e. subst (λ (o : Option ℤ). IfSome o IsLineTime) e is

timed : (streams : List Delay) (times : List (Option ℤ)) → AreLineTimes times → All HasLineTime (map (line_of times) streams)
timed [] times are = All-nil HasLineTime
timed (d ∷ ds) times are = All-cons HasLineTime (line_of times d) (map (line_of times) ds) (for_some (seen_at times d.0) (timed_at times are d.0)) (timed ds times are)

-- they can be written
pub lines_timed : (query : Bound) (times : List (Option ℤ)) → AreLineTimes times → All HasLineTime (lines_of query times)
lines_timed query times are = timed (delays query) times are

-- ---- the times that lines tell

pub same_test : (m n : ℕ) (b : Bool) → (m == n) ≡ b → (n == m) ≡ b
same_test m n true is = eq-eqb n m (sym (eqb-true m n is))
same_test m n false is = ne_eqb n m (λ same. eqb-false m n is (sym same))

pub told_more : (first : SeenBy) (lines : List SeenBy) (stream : ℕ) (b : Bool) → (first.stream == stream) ≡ b
    → told (first ∷ lines) stream ≡ (if b then later first.time (told lines stream) else told lines stream)
told_more first lines stream true is = ap (λ (b : Bool). greatest (map (λ (l : SeenBy). l.time) (if b then first ∷ filter (λ (l : SeenBy). l.stream == stream) lines else filter (λ (l : SeenBy). l.stream == stream) lines))) is
told_more first lines stream false is = ap (λ (b : Bool). greatest (map (λ (l : SeenBy). l.time) (if b then first ∷ filter (λ (l : SeenBy). l.stream == stream) lines else filter (λ (l : SeenBy). l.stream == stream) lines))) is

-- one line more
pub one_told : (lines : List SeenBy) (at : ℕ) (first : SeenBy) (old new : List (Option ℤ)) (time : Option ℤ) → at < length lines → first ≡ get_or lines at first → time ≡ first.time
    → ((other : ℕ) → seen_at new other ≡ (if other == first.stream then later (seen_at old other) time else seen_at old other))
    → ((other : ℕ) → later (seen_at old other) (told (drop at lines) other) ≡ told lines other)
    → (other : ℕ) → later (seen_at new other) (told (drop (at + 1) lines) other) ≡ told lines other
one_told lines at first old new time inside is timed raised left other =
    let rest = told (drop (at + 1) lines) other in
    let split : drop at lines ≡ first ∷ drop (at + 1) lines = drop_more lines at first inside ∙ ap (λ (l : SeenBy). l ∷ drop (at + 1) lines) (sym is) in
    let by : (b : Bool) → (first.stream == other) ≡ b → later (if b then later (seen_at old other) time else seen_at old other) rest ≡ told lines other = λ b. by_test b split in
    ap (λ (t : Option ℤ). later t rest) (raised other ∙ ap (λ (b : Bool). if b then later (seen_at old other) time else seen_at old other) (same_test first.stream other (first.stream == other) refl)) ∙ by (first.stream == other) refl
  where
    by_test : (b : Bool) → drop at lines ≡ first ∷ drop (at + 1) lines → (first.stream == other) ≡ b → later (if b then later (seen_at old other) time else seen_at old other) (told (drop (at + 1) lines) other) ≡ told lines other
    by_test true split same =
        later_assoc (seen_at old other) time (told (drop (at + 1) lines) other)
        ∙ ap (λ (t : Option ℤ). later (seen_at old other) (later t (told (drop (at + 1) lines) other))) timed
        ∙ ap (later (seen_at old other)) (sym (told_more first (drop (at + 1) lines) other true same))
        ∙ ap (λ (ls : List SeenBy). later (seen_at old other) (told ls other)) (sym split)
        ∙ left other
    by_test false split same =
        ap (later (seen_at old other)) (sym (told_more first (drop (at + 1) lines) other false same))
        ∙ ap (λ (ls : List SeenBy). later (seen_at old other) (told ls other)) (sym split)
        ∙ left other

-- a line without a time
pub none_told : (lines : List SeenBy) (at : ℕ) (first : SeenBy) (old : List (Option ℤ)) → at < length lines → first ≡ get_or lines at first → first.time ≡ None
    → ((other : ℕ) → later (seen_at old other) (told (drop at lines) other) ≡ told lines other)
    → (other : ℕ) → later (seen_at old other) (told (drop (at + 1) lines) other) ≡ told lines other
none_told lines at first old inside is none left =
    one_told lines at first old old None inside is (sym none) (λ other. same other (other == first.stream)) left
  where
    same : (other : ℕ) (b : Bool) → seen_at old other ≡ (if b then later (seen_at old other) None else seen_at old other)
    same other true = sym (later_none (seen_at old other))
    same other false = refl

-- before the first line
pub first_told : (lines : List SeenBy) (old : List (Option ℤ)) → ((other : ℕ) → seen_at old other ≡ None) → (other : ℕ) → later (seen_at old other) (told (drop 0 lines) other) ≡ told lines other
first_told lines old none other = ap (λ (t : Option ℤ). later t (told lines other)) (none other)

-- no line is left
pub all_told : (lines : List SeenBy) (at : ℕ) (old : List (Option ℤ)) → length lines ≤ at → ((other : ℕ) → later (seen_at old other) (told (drop at lines) other) ≡ told lines other)
    → (other : ℕ) → seen_at old other ≡ told lines other
all_told lines at old over left other =
    sym (later_none (seen_at old other)) ∙ ap (λ (ls : List SeenBy). later (seen_at old other) (told ls other)) (sym (drop_all at lines over)) ∙ left other

-- ---- the lines of a commit tell its times

head_of : List ℕ → ℕ
head_of [] = 0
head_of (x ∷ xs) = x

tail_of : List ℕ → List ℕ
tail_of [] = []
tail_of (x ∷ xs) = xs

abbrev pub streams_of : List SeenBy → List ℕ
streams_of lines = map (λ (l : SeenBy). l.stream) lines

abbrev pub places_of : List Delay → List ℕ
places_of streams = map (λ (d : Delay). d.0) streams

-- no line of later streams is of this one
pub none_before : (at stream : ℕ) (streams : List Stream) (lines : List SeenBy) → stream < at → streams_of lines ≡ places_of (delays_from at streams) → told lines stream ≡ None
unfolding delays_from head_of tail_of
none_before at stream [] [] less own = refl
none_before at stream [] (l ∷ ls) less own = absurd (let e = ap length own in omega arith)
none_before at stream (s ∷ ss) lines less own = by_delay s.delay lines own (λ more. none_before (at + 1) stream ss more (omega (arith, less)))
  where
    by_delay : (delay : Option ℤ) (lines : List SeenBy) → streams_of lines ≡ places_of (cons_option (delay_of at delay) (delays_from (at + 1) ss))
        → ((more : List SeenBy) → streams_of more ≡ places_of (delays_from (at + 1) ss) → told more stream ≡ None) → told lines stream ≡ None
    by_delay None lines own rest = rest lines own
    by_delay (Some delay) [] own rest = refl
    by_delay (Some delay) (l ∷ ls) own rest =
        let here : l.stream ≡ at = ap head_of own in
        told_more l ls stream false (ne_eqb l.stream stream (λ same. omega (arith, less, here, same))) ∙ rest ls (ap tail_of own)

inverse_from : (at : ℕ) (streams : List Stream) (lines : List SeenBy) (times : List (Option ℤ)) → streams_of lines ≡ places_of (delays_from at streams)
    → ((stream : ℕ) → at ≤ stream → seen_at times stream ≡ told lines stream) → map (line_of times) (delays_from at streams) ≡ lines
unfolding delays_from head_of tail_of
inverse_from at [] [] times own are = refl
inverse_from at [] (l ∷ ls) times own are = absurd (let e = ap length own in omega arith)
inverse_from at (s ∷ ss) lines times own are = by_delay s.delay lines own are (λ more. inverse_from (at + 1) ss more times)
  where
    by_delay : (delay : Option ℤ) (lines : List SeenBy) → streams_of lines ≡ places_of (cons_option (delay_of at delay) (delays_from (at + 1) ss))
        → ((stream : ℕ) → at ≤ stream → seen_at times stream ≡ told lines stream)
        → ((more : List SeenBy) → streams_of more ≡ places_of (delays_from (at + 1) ss) → ((stream : ℕ) → at + 1 ≤ stream → seen_at times stream ≡ told more stream) → map (line_of times) (delays_from (at + 1) ss) ≡ more)
        → map (line_of times) (cons_option (delay_of at delay) (delays_from (at + 1) ss)) ≡ lines
    by_delay None lines own are rest = rest lines own (λ stream le. are stream (omega (arith, le)))
    by_delay (Some delay) [] own are rest = absurd (let e = ap length own in omega arith)
    by_delay (Some delay) (l ∷ ls) own are rest =
        let here : l.stream ≡ at = ap head_of own in
        let left = ap tail_of own in
        let none : told ls at ≡ None = none_before (at + 1) at ss ls (omega arith) left in
        let time : seen_at times at ≡ l.time =
        are at (omega arith) ∙ told_more l ls at true (eq-eqb l.stream at here) ∙ ap (later l.time) none ∙ later_none l.time in
        (λ i. line (sym here i) (time i) ∷ rest ls left (λ stream le. are stream (omega (arith, le)) ∙ told_more l ls stream false (ne_eqb l.stream stream (λ same. omega (arith, le, here, same)))) i)

-- lines that are one for each watermarked stream, in order, are those of the times that they tell
pub inverse : (query : Bound) (lines : List SeenBy) (times : List (Option ℤ)) → ((stream : ℕ) → seen_at times stream ≡ told lines stream) → AreOwn query lines → lines_of query times ≡ lines
inverse query lines times are own = inverse_from 0 query.streams lines times own (λ stream le. are stream)
