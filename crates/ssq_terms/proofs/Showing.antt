-- What the parts feed, and what the partitions show.
use Rattle.std.proofs.Common.{◌-◌, ◌==◌, ◌++◌, [], ◌∷◌, List, refl, ap, sym, ◌∙◌, map}
use Rattle.std.specs.List.{flat_map, enumerate_from}
use Rattle.std.proofs.lemmas.List.Elements.{filter-append}
use Rattle.std.proofs.lemmas.List.Sorted.{length_permutation}
use Rattle.ssq_value.specs.Key.{keys_of}
use Rattle.ssq_route.specs.Place.{place_of}
use Rattle.ssq_meaning.specs.FedRows.{FedRow}
use Rattle.ssq_meaning.specs.Meaning.{Line}
use Rattle.ssq_meaning.specs.Cut.{of_parts}
use Rattle.ssq_meaning.specs.Times.{greatest}
use Rattle.ssq_meaning.specs.Feeding.{fed_at, fault_at, time_at, first_of_all, fed_in}
use Rattle.ssq_meaning.specs.Epochs.{joined, fed_between, out}
use Rattle.ssq_course.specs.Setting.{parts_in, cuts_of}
use Rattle.ssq_course.specs.Laws.{PartitionsShowRows as ShowTogether}
use Rattle.ssq_course.proofs.Causal.{no_lines}
use Rattle.ssq_terms.specs.Rows.{bucket_in, PartsFeedPartitions, PartsWithoutLinesAreQuiet, PartitionsShowRows, PartitionsCountRows}

pub parts_feed : PartsFeedPartitions
unfolding of_parts
parts_feed query epoch [] froms tos partitions p = refl
parts_feed query epoch (part ∷ parts) [] tos partitions p = refl
parts_feed query epoch (part ∷ parts) (from ∷ froms) [] partitions p = refl
parts_feed query epoch (part ∷ parts) (from ∷ froms) (to ∷ tos) partitions p =
    ap (λ (rows : List FedRow). bucket_in query epoch partitions p part from to ++ rows) (parts_feed query epoch parts froms tos partitions p)
    ∙ sym (filter-append (λ (row : FedRow). place_of (keys_of row.key) partitions == p) (fed_in query epoch part from to) (fed_between query epoch parts froms tos))

pub are_quiet : PartsWithoutLinesAreQuiet
are_quiet query part from to le =
    let none = no_lines from to part.lines le in
    record {
      rows = λ epoch. ap (λ (lines : List Line). flat_map (λ line. fed_at query epoch part line.0 line.1) (enumerate_from from lines)) none;
      time = ap (λ (lines : List Line). greatest (map (λ line. time_at query part.stream line) lines)) none;
      fault = ap (λ (lines : List Line). first_of_all (map (λ line. fault_at query part line.0 line.1) (enumerate_from from lines))) none;
    }

-- with the law of partitions, of all queries
module _ (together : ShowTogether) where
  pub show_rows : PartitionsShowRows
  show_rows s cuts e shown some are = (together s cuts e shown some are).text

  pub count_rows : PartitionsCountRows
  count_rows s cuts e shown some are = sym (length_permutation (joined shown) (out s.job.bound (parts_in s) (cuts_of cuts) e) (together s cuts e shown some are).rows)
