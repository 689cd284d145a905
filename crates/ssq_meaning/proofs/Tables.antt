-- The table of groups in Complete.
use Rattle.std.proofs.Common.{◌≡◌, ◌++◌, [], ℕ, zero, suc, ℤ, List, Option, None, ap, sym, ◌∙◌, subst, filter}
use Rattle.std.specs.Prelude.{filter_map}
use Rattle.std.specs.List.Sorted.{IsPermutation}
use Rattle.std.proofs.lemmas.List.Sorted.{IsPermutation-refl}
use Rattle.ssq_shape.specs.declared.bound.Bound.{Bound}
use Rattle.ssq_shape.specs.declared.bound.Grouping.{Grouping}
use Rattle.ssq_shape.specs.declared.bound.Mode.TheVariants as mode
use Rattle.ssq_shape.specs.declared.bound.Shape.TheVariants.{Group}
use Rattle.ssq_meaning.specs.FedRows.{FedRow}
use Rattle.ssq_meaning.specs.Cut.{Cuts}
use Rattle.ssq_meaning.specs.Epochs.{accepted, on_time, watermark, watermark_before, out}
use Rattle.ssq_meaning.specs.Group.{keys_in, has_key, is_closed, meant, row_of_key, is_due, is_meant}
use Rattle.ssq_meaning.specs.GroupLaws.{meaning_at}
use Rattle.ssq_meaning.specs.Operator.{group}
use Rattle.ssq_meaning.specs.Parts.{Part}
use Rattle.ssq_meaning.specs.Table.{next_table, table}
use Rattle.ssq_meaning.proofs.GroupEpochs.{out_is, none_meant}

module _ (query : Bound) (grouping : Grouping) where
  pub shown_whole : (old new : List FedRow) (before now : Option ℤ) → query.mode ≡ mode.Complete → (group query grouping).added old new before now ≡ meant query grouping (old ++ new) now
  shown_whole old new before now complete =
      ap (λ m. filter_map (row_of_key query grouping (old ++ new)) (filter (λ key. is_due m (is_closed query grouping before key) (is_closed query grouping now key) (has_key new key)) (keys_in (old ++ new)))) complete
      ∙ ap (λ m. filter_map (row_of_key query grouping (old ++ new)) (filter (λ key. is_meant m (is_closed query grouping now key)) (keys_in (old ++ new)))) (sym complete)

  module _ (is : query.shape ≡ Group grouping) (parts : List Part) (cuts : Cuts) where
    pub epochs_complete : query.mode ≡ mode.Complete → (n : ℕ) → IsPermutation (table query parts cuts n) (meaning_at query grouping parts cuts n)
    unfolding table accepted
    epochs_complete complete zero = subst (IsPermutation []) (sym (none_meant query grouping is parts cuts None)) (IsPermutation-refl [])
    epochs_complete complete (suc n) =
        let last : next_table query.shape query.mode query.outputs (table query parts cuts n) (out query parts cuts n) ≡ out query parts cuts n =
        (λ i. next_table (is i) (complete i) query.outputs (table query parts cuts n) (out query parts cuts n)) in
        let shows = last ∙ out_is query grouping is parts cuts n
        ∙ shown_whole (accepted query parts cuts n) (on_time query parts cuts n) (watermark_before query parts cuts n) (watermark query parts cuts n) complete in
        subst (λ l. IsPermutation l (meaning_at query grouping parts cuts (suc n))) (sym shows) (IsPermutation-refl (meaning_at query grouping parts cuts (suc n)))
