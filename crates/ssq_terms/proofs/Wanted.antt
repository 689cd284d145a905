-- The job of a setting is the one that is wanted.
use Rattle.std.proofs.Common.{◌≡◌, ◌<◌, ◌≤◌, ◌+◌, ◌^◌, [], ◌∷◌, ℕ, List, Option, refl, ap, sym, ◌∙◌, subst, arith, length}
use Rattle.std.specs.Prelude.{All}
use Rattle.std.proofs.lemmas.List.Elements.{All-cons, All-nil, All-head, All-tail}
use Rattle.std.proofs.lemmas.List.{length-map}
use Rattle.std.specs.Str.{IsUtf8}
use Rattle.ssq_water.specs.Water.{HasDelays}
use Rattle.ssq_plans.specs.declared.meta.Meta.{Meta}
use Rattle.ssq_plans.specs.declared.part.PartEnd.{PartEnd}
use Rattle.ssq_plans.specs.Records.{IsCount, IsMetaRecord}
use Rattle.ssq_shape.specs.declared.bound.Bound.{Bound}
use Rattle.ssq_shape.specs.declared.bound.Shape.{Shape}
use Rattle.ssq_shape.specs.declared.bound.Shape.TheVariants.{Plain, Group, Dedup, Join}
use Rattle.ssq_meaning.specs.Parts.{parts_of}
use Rattle.ssq_course.specs.Setting.{Setting, parts_in, meta_of, keeping_of, job_of}
use Rattle.ssq_course.specs.Laws.{IsFit}
use Rattle.ssq_course.specs.Laws.{AreCausal, PlansCanBeWritten as PlansAreWritable}
use Rattle.ssq_course.proofs.Proper.{is_next_if}
use Rattle.ssq_open.specs.declared.wanted.Lens.{Lens}
use Rattle.ssq_open.specs.Lens.{asked, counts_of, found_from, IsFew}
use Rattle.ssq_open.specs.Looking.{begins}
use Rattle.ssq_open.specs.Stateful.{keeps_state, keeping_in}
use Rattle.ssq_open.specs.Sought.{IsJob}
use Rattle.ssq_open.specs.Jobs.{IsWantedJob}
use Rattle.ssq_terms.specs.Setting.{IsSettingOf, AreFound, found_lines}
use Rattle.ssq_terms.specs.Laws.{JobIsWanted, FirstRecordIsJobs, PartsAreFound}
use Rattle.ssq_terms.proofs.Printing.{RowsFit, commits_written, plans_written}
use Rattle.ssq_terms.proofs.Marks.{lines_there, mark_by_lines, unmarked}
use Rattle.ssq_terms.proofs.Starts.{AreParts, AreNamed, are_parts, are_named, named_count, parts_fit, found_numbers, firsts_are, all_begin, start_is, within_follows}

-- as many partitions keep state, as the course and the opening count them
pub same_keeping : (shape : Shape) (partitions : ℕ) → keeping_of shape partitions ≡ keeping_in (keeps_state shape) partitions
same_keeping Plain partitions = refl
same_keeping (Group grouping) partitions = refl
same_keeping (Dedup columns) partitions = refl
same_keeping (Join joining) partitions = refl

few_counted : (streams : List (List ℕ)) → All IsFew streams → All IsCount (counts_of streams)
few_counted [] few = All-nil IsCount
few_counted (own ∷ rest) few = All-cons IsCount (length own) (counts_of rest) (All-head IsFew own rest few) (few_counted rest (All-tail IsFew own rest few))

module _ (s : Setting) (bound : Bound) (partitions : Option ℕ) (lens : Lens) (is : IsSettingOf s bound partitions lens) where
  named : AreNamed (parts_in s) (found_from 0 lens.streams)
  named = subst (λ counts. AreNamed (parts_of counts s.lines) (found_from 0 lens.streams)) (sym is.parts) (are_named lens.streams s.lines is.counted)

  pub logs_count : length (parts_in s) ≡ length s.lines
  logs_count =
      sym (named_count (parts_in s) (found_from 0 lens.streams) named) ∙ sym (length-map (found_from 0 lens.streams) (λ (end : PartEnd). end.end)) ∙ ap length (found_numbers 0 lens.streams)
      ∙ sym is.counted

module _ (s : Setting) (bound : Bound) (partitions : Option ℕ) (lens : Lens) (is : IsSettingOf s bound partitions lens) (found : AreFound (found_lines lens) s.lines) where
  query : bound ≡ s.job.bound
  query = sym is.query

  pub fit : All IsFit (parts_in s)
  fit =
      let few : length lens.streams ≤ 2 ^ 32 = subst (λ (n : ℕ). n ≤ 2 ^ 32) (sym is.asked.each_stream) is.asked.few_streams in
      subst (λ counts. All IsFit (parts_of counts s.lines)) (sym is.parts) (parts_fit lens.streams s.lines is.asked.few_parts few)

  pub parts_are : AreParts (parts_in s) (found_from 0 lens.streams)
  parts_are = subst (λ counts. AreParts (parts_of counts s.lines) (found_from 0 lens.streams)) (sym is.parts) (are_parts lens.streams s.lines found)

  record_is : IsMetaRecord (meta_of s)
  record_is =
      let counted : All IsCount s.job.parts = subst (λ counts. All IsCount counts) (sym is.parts) (few_counted lens.streams is.asked.few_parts) in
      ((is.some_partitions, is.few_partitions, counted), subst (λ (b : Bound). IsUtf8 b.text) query is.runs.utf8, subst (λ (b : Bound). length b.text < 2 ^ 64) query is.runs.few)

  wanted : IsJob (asked s.job.bound partitions lens) (meta_of s)
  wanted = record {
    ours = record {
      ours = record { query = refl; streams = ap length is.parts };
      partitions = λ count asks. is.as_asked count asks;
    };
    parts = is.parts;
  }

  -- with the laws of rows, of jobs and of plans
  own_job : RowsFit → AreCausal → PlansAreWritable → IsWantedJob (asked s.job.bound partitions lens) (job_of s)
  own_job rows_fit causal writable = record {
    causal = causal s is.some_partitions;
    record_is = λ cuts. record_is;
    wanted = λ cuts. wanted;
    one_record = λ cuts other. refl;
    keeping = λ cuts. same_keeping s.job.bound.shape s.job.partitions;
    ends = λ cuts e. refl;
    start = λ cuts e next. start_is (parts_in s) (found_from 0 lens.streams) (cuts 0) parts_are (is_next_if s cuts e next).start;
    follow = λ cuts e next. within_follows (parts_in s) (cuts e) (cuts (e + 1)) (is_next_if s cuts e next).within;
    plans = λ cuts n e proper few less. plans_written rows_fit writable s cuts e (subst HasDelays query is.runs.delays) fit (proper e less) (omega (arith, few, less));
    commits = λ cuts n e proper few less. commits_written rows_fit s cuts e (subst (λ (b : Bound). length b.streams ≤ 2 ^ 32) query is.asked.few_streams) (omega (arith, few, less));
    lines = λ cuts e. lines_there s cuts (e + 1);
    first_mark = λ cuts. unmarked s cuts;
    next_mark = λ cuts e. mark_by_lines s cuts (e + 1);
  }

pub job_wanted : RowsFit → AreCausal → PlansAreWritable → JobIsWanted
job_wanted rows_fit causal writable s bound partitions lens is found =
    subst (λ (b : Bound). IsWantedJob (asked b partitions lens) (job_of s)) is.query (own_job s bound partitions lens is found rows_fit causal writable)

pub first_record : FirstRecordIsJobs
first_record s bound partitions lens is count cuts =
    λ i. (let meta : Meta = record { partitions = count i; parts = is.parts i; query = (is.query i).text } in meta)

pub parts_found : PartsAreFound
parts_found s bound partitions lens is =
    let begin = firsts_are (parts_in s) (found_from 0 lens.streams) (named s bound partitions lens is) in
    (logs_count s bound partitions lens is, begin, found_numbers 0 lens.streams, begin ∙ all_begin 0 lens.streams ∙ ap begins (sym is.parts))
