-- The sink files of a checkpoint that stands are the rows of their epochs.
use Rattle.std.proofs.Common.{◌≡◌, ◌∙◌, refl, sym, ap, subst, inl, inr, ◌+◌, ◌∷◌, [], ◌<◌, ◌≤◌, ℕ, zero, suc, List, map, Option, Some, None, Bool, true, false, arith, ltb-true, lt-ltb}
use Rattle.std.specs.Prelude.{All, IsSome, if◌then◌else◌, length}
use Rattle.std.specs.List.{AllByRecursion}
use Rattle.std.proofs.lemmas.Bool.{cases_lt}
use Rattle.std.proofs.lemmas.List.Elements.{All-from_recursion, recursion_from_All}
use Rattle.ssq_outside.specs.declared.name.Name.TheVariants as name
use Rattle.ssq_outside.specs.Files.{Files}
use Rattle.ssq_shape.specs.declared.bound.Bound.{Bound}
use Rattle.ssq_shape.specs.Plain.{output_names}
use Rattle.ssq_json.specs.Stored.{AreRows, AreStoredIn}
use Rattle.ssq_meaning.specs.Epochs.{out}
use Rattle.ssq_meaning.specs.Meaning.{Line, Values}
use Rattle.ssq_meaning.specs.Parts.{Part, parts_from, parts_of}
use Rattle.ssq_sink.specs.Sink.{is_row_below, ordered_text, sink_text}
use Rattle.ssq_sink.specs.Sorted.{placed, sorted}
use Rattle.ssq_sink.specs.Table.{AreCounted, IsSinkOf, output_kinds}
use Rattle.ssq_core.specs.Course.{Cuts}
use Rattle.ssq_core.specs.Standing.{IsThere, StandsAt}
use Rattle.ssq_core.specs.Staying.{IsNoOther}
use Rattle.ssq_course.specs.Setting.{Setting, course_of, cuts_of, parts_in, rows_at}
use Rattle.ssq_tables.specs.Checkpoint.{CheckpointsHoldTables, HoldsTable, rows_in_order}
use Rattle.ssq_tables.specs.Shown.{AreOfStreams, CanShow, EpochsAreStored, kinds_of}

-- ---- the text of rows is that of rows that can be read again

module _ (S : Values → Type 0) (below : Values → Values → Bool) where
  placed_has : (row : Values) (rows : List Values) → S row → AllByRecursion S rows → AllByRecursion S (placed below row rows)
  unfolding placed
  placed_has row [] own all = (own, tt)
  placed_has row (next ∷ rows) own all = by (below next row) (placed_has row rows own all.1)
    where
      by : (b : Bool) → AllByRecursion S (placed below row rows) → AllByRecursion S (if b then next ∷ placed below row rows else row ∷ next ∷ rows)
      by true rest = (all.0, rest)
      by false rest = (own, (all.0, all.1))

  sorted_has : (rows : List Values) → AllByRecursion S rows → AllByRecursion S (sorted below rows)
  unfolding sorted
  sorted_has [] all = tt
  sorted_has (row ∷ rows) all = placed_has row (sorted below rows) all.0 (sorted_has rows all.1)

rows_are : (query : Bound) (rows : List Values) → All (AreStoredIn (kinds_of query.outputs)) rows → AreRows (output_names query) (output_kinds query) (sink_text query rows) (sorted (is_row_below query.order) rows)
unfolding sink_text ordered_text
rows_are query rows all = record {
  stored = All-from_recursion (AreStoredIn (kinds_of query.outputs)) (sorted (is_row_below query.order) rows)
      (sorted_has (AreStoredIn (kinds_of query.outputs)) (is_row_below query.order) rows (recursion_from_All (AreStoredIn (kinds_of query.outputs)) rows all));
  text = refl;
}

-- ---- the parts of a job are of its streams

parts_below : (count stream part left : ℕ) (counts : List ℕ) (lines : List (List Line)) → stream + 1 + length counts ≤ count → AllByRecursion (λ (one : Part). one.stream < count) (parts_from stream part left counts lines)
unfolding parts_from
parts_below count stream part left counts [] low = tt
parts_below count stream part (suc left) counts (own ∷ lines) low = (omega (arith, low), parts_below count stream (part + 1) left counts lines low)
parts_below count stream part zero [] (own ∷ lines) low = tt
parts_below count stream part zero (more ∷ counts) (own ∷ lines) low = parts_below count (stream + 1) 0 more counts (own ∷ lines) (omega (arith, low))

all_below : (counts : List ℕ) (lines : List (List Line)) → AllByRecursion (λ (one : Part). one.stream < length counts) (parts_of counts lines)
all_below [] lines = tt
all_below (count ∷ counts) lines = parts_below (length (count ∷ counts)) 0 0 count counts lines (omega arith)

are_of_streams : (s : Setting) → length s.job.parts ≡ length s.job.bound.streams → AreOfStreams s.job.bound (parts_in s)
are_of_streams s same =
    subst (λ (count : ℕ). All (λ (one : Part). one.stream < count) (parts_in s)) same
    (All-from_recursion (λ (one : Part). one.stream < length s.job.parts) (parts_in s) (all_below s.job.parts s.lines))

-- ---- the files

there_is : {A : Type 0} (o : Option A) → (o ≡ None → ⊥) → IsSome o
there_is None none = absurd (none refl)
there_is (Some x) none = refl

absent_not : {A : Type 0} (o : Option A) → o ≡ None → IsSome o → ⊥
absent_not None is there = absurd cc
absent_not (Some x) is there = absurd cc

module _ (s : Setting) (cuts : Cuts) (planned committed : ℕ) (files : Files) (m : ℕ) (at : StandsAt (course_of s cuts) planned committed files) (counted : AreCounted files m) where
  sinks_least : committed ≤ m
  sinks_least = by committed refl
    where
      by : (k : ℕ) → k ≡ committed → committed ≤ m
      by zero is = omega (arith, is)
      by (suc e) is = let there = counted.all e (at.needed (name.Out e) (lt-ltb e committed (omega (arith, is)))) in omega (arith, is, there)

  sinks_most : m ≤ planned
  sinks_most = by m refl
    where
      by : (k : ℕ) → k ≡ m → m ≤ planned
      by zero is = omega (arith, is)
      by (suc e) is = let low = ltb-true e planned (at.allowed (name.Out e) (counted.last e (omega (arith, is)))) in omega (arith, is, low)

  sink_there : (e : ℕ) → e < m → IsThere files (name.Out e)
  sink_there e below = elim (cases_lt e committed) [
    | inl low ↦ at.needed (name.Out e) (lt-ltb e committed low)
    | inr high ↦ counted.last e (let ahead = at.reached.one_ahead in let most = sinks_most in omega (arith, below, high, ahead, most))
  ]

  sink_is : (e : ℕ) → e < m → files (name.Out e) ≡ Some (rows_at s cuts e)
  sink_is e below = by (at.are_true (name.Out e))
    where
      by : IsNoOther files (name.Out e) (rows_at s cuts e) → files (name.Out e) ≡ Some (rows_at s cuts e)
      by (inl none) = absurd (absent_not (files (name.Out e)) none (sink_there e below))
      by (inr is) = is

pub checkpoints_hold_tables : EpochsAreStored → CheckpointsHoldTables
checkpoints_hold_tables stored s cuts planned committed files m can same at counted =
    let query = s.job.bound in
    record {
      least = sinks_least s cuts planned committed files m at counted;
      most = sinks_most s cuts planned committed files m at counted;
      each = λ e below. record {
        bytes = rows_at s cuts e;
        there = sink_is s cuts planned committed files m at counted e below;
        are = rows_are query (out query (parts_in s) (cuts_of cuts) e) (stored query (parts_in s) (cuts_of cuts) e can (are_of_streams s same));
      };
    }
