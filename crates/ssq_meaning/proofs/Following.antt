-- The epochs of a partition follow one another.
use Rattle.std.proofs.Common.{◌≡◌, ◌+◌, ◌++◌, ℕ, List, false, ap, ◌∙◌, length, add-one}
use Rattle.std.specs.Prelude.{◌==◌, All}
use Rattle.std.proofs.lemmas.List.Elements.{All-filter, All-weaker, filter-append}
use Rattle.ssq_value.specs.Key.{keys_of}
use Rattle.ssq_route.specs.Place.{place_of}
use Rattle.ssq_shape.specs.declared.bound.Bound.{Bound}
use Rattle.ssq_shape.specs.declared.bound.Grouping.{Grouping}
use Rattle.ssq_shape.specs.declared.bound.Shape.TheVariants.{Group}
use Rattle.ssq_meaning.specs.FedRows.{FedRow}
use Rattle.ssq_meaning.specs.Cut.{Cuts}
use Rattle.ssq_meaning.specs.Epochs.{accepted, on_time, watermark, watermark_before, bucket}
use Rattle.ssq_meaning.specs.Group.{is_closed}
use Rattle.ssq_meaning.specs.GroupLaws.{Follows, IsGroupRow}
use Rattle.ssq_meaning.specs.Parts.{Part}
use Rattle.ssq_meaning.proofs.FedTimes.{accepted_grouped}
use Rattle.ssq_meaning.proofs.GroupEpochs.{follows_at}

module _ (query : Bound) (grouping : Grouping) (is : query.shape ≡ Group grouping) (parts : List Part) (cuts : Cuts) where
  pub follows_in : (partitions p e : ℕ) → Follows query grouping (bucket partitions p (on_time query parts cuts e)) (watermark_before query parts cuts e) (watermark query parts cuts e)
  follows_in partitions p e =
      let all = follows_at query grouping is parts cuts e in
      record {
        rises = all.rises;
        timely = All-filter (λ (row : FedRow). place_of (keys_of row.key) partitions == p) (λ (row : FedRow). is_closed query grouping (watermark query parts cuts e) row.key ≡ false) (on_time query parts cuts e) all.timely;
      }

  pub lengths_are : (e : ℕ) → All (λ (row : FedRow). length row.key ≡ length grouping.keys) (accepted query parts cuts e)
  lengths_are e =
      All-weaker (IsGroupRow query grouping) (λ (row : FedRow). length row.key ≡ length grouping.keys) (λ row own. own.key) (accepted query parts cuts e) (accepted_grouped query grouping is parts cuts e)

-- the rows of a partition, with those of an epoch more
pub more_accepted : (query : Bound) (parts : List Part) (cuts : Cuts) (partitions p e : ℕ)
    → bucket partitions p (accepted query parts cuts (e + 1)) ≡ bucket partitions p (accepted query parts cuts e) ++ bucket partitions p (on_time query parts cuts e)
unfolding accepted
more_accepted query parts cuts partitions p e =
    ap (λ n. bucket partitions p (accepted query parts cuts n)) (add-one e)
    ∙ filter-append (λ (row : FedRow). place_of (keys_of row.key) partitions == p) (accepted query parts cuts e) (on_time query parts cuts e)
