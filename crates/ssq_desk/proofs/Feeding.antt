-- What the map tasks of an epoch brought, put together.
use Rattle.std.proofs.Common.{◌≡◌, ◌<◌, ◌==◌, ℕ, ℤ, zero, suc, true, true≢false, List, [], ◌∷◌, map, length, get_or, Option, Some, None, refl, sym, ap, ◌∙◌, subst, arith}
use Rattle.std.specs.Prelude.{All, slice_get, IfSome, if◌then◌else◌}
use Rattle.std.proofs.lemmas.List.Elements.{All-append}
use mathlib.Core.Option.{some}
use lib.ListN.{get_elem?}
use Rattle.ssq_time.specs.Time.{IsLineTime}
use Rattle.ssq_shape.specs.declared.bound.Bound.{Bound}
use Rattle.ssq_meaning.specs.Parts.{Part}
use Rattle.ssq_meaning.specs.Cut.{Cut, of_parts}
use Rattle.ssq_meaning.specs.Feeding.{time_in}
use Rattle.ssq_meaning.specs.Epochs.{joined, bucket}
use Rattle.ssq_feed.specs.declared.task.FedRows.{FedRows}
use Rattle.ssq_meaning.specs.Fit.{IsFitRow}
use Rattle.ssq_board.specs.declared.front.Place.{Place}
use Rattle.ssq_board.specs.declared.front.Place.TheVariants as place
use Rattle.ssq_board.specs.Core.{is_fine}
use Rattle.ssq_terms.specs.Rows.{bucket_in}
use Rattle.ssq_terms.proofs.Showing.{are_quiet}
use Rattle.ssq_desk.specs.declared.desk.PartLog.{PartLog}
use Rattle.ssq_desk.specs.Handing.{HasBucket, HasLineTime, CanRaise, bucket_in_fed, time_of}
use Rattle.ssq_desk.specs.Contents.{IsMapped, IsBrought}

-- what a part that was read, or had no new lines, has for a partition whose task waits
pub bucket_is : {L : Type 0} (tells : Type 0) (query : Bound) (epoch : ℕ) (part : Part) (from to partitions p : ℕ) (reduces : List Place) (at : Place) (part_log : PartLog L) → tells → is_fine at ≡ true → get_elem? reduces p ≡ some place.Waits
    → IsMapped tells query epoch part from to partitions reduces at part_log → bucket_in_fed p part_log.fed ≡ bucket_in query epoch partitions p part from to
bucket_is tells query epoch part from to partitions p reduces place.Rests part_log t fine waits m =
    ap (bucket_in_fed p) (m.none refl) ∙ sym (ap (bucket partitions p) ((are_quiet query part from to (m.quiet refl)).rows epoch))
bucket_is tells query epoch part from to partitions p reduces (place.Back None) part_log t fine waits m = (let b = m.brought refl in ap (bucket_in_fed p) b.1 ∙ b.2.rows t p waits)
bucket_is tells query epoch part from to partitions p reduces (place.Back (Some f)) part_log t fine waits m = absurd (true≢false (sym fine))
bucket_is tells query epoch part from to partitions p reduces place.Waits part_log t fine waits m = absurd (true≢false (sym fine))
bucket_is tells query epoch part from to partitions p reduces place.Away part_log t fine waits m = absurd (true≢false (sym fine))

pub time_is : {L : Type 0} (tells : Type 0) (query : Bound) (epoch : ℕ) (part : Part) (from to partitions : ℕ) (reduces : List Place) (at : Place) (part_log : PartLog L) → tells → is_fine at ≡ true
    → IsMapped tells query epoch part from to partitions reduces at part_log → time_of part_log.fed ≡ time_in query part from to
time_is tells query epoch part from to partitions reduces place.Rests part_log t fine m = ap time_of (m.none refl) ∙ sym (are_quiet query part from to (m.quiet refl)).time
time_is tells query epoch part from to partitions reduces (place.Back None) part_log t fine m = (let b = m.brought refl in ap time_of b.1 ∙ b.2.time t)
time_is tells query epoch part from to partitions reduces (place.Back (Some f)) part_log t fine m = absurd (true≢false (sym fine))
time_is tells query epoch part from to partitions reduces place.Waits part_log t fine m = absurd (true≢false (sym fine))
time_is tells query epoch part from to partitions reduces place.Away part_log t fine m = absurd (true≢false (sym fine))

-- it has so many buckets, a time of a line, and rows that can be printed
pub record IsSafe {L : Type 0} (partitions : ℕ) (part_log : PartLog L) : Type 0 where
  pub buckets : (p : ℕ) → p < partitions → HasBucket p part_log
  pub years : HasLineTime part_log
  pub fit : (p : ℕ) → p < partitions → All IsFitRow (bucket_in_fed p part_log.fed)

none_fit : All IsFitRow []
none_fit = λ k d less. absurd (omega (arith, less))

safe_none : {L : Type 0} (partitions : ℕ) (part_log : PartLog L) → part_log.fed ≡ None → IsSafe partitions part_log
safe_none partitions part_log is = record {
  buckets = λ p less. subst (λ (o : Option FedRows). IfSome o (λ fed. p < length fed.buckets)) (sym is) tt;
  years = subst (λ (o : Option FedRows). IfSome (time_of o) IsLineTime) (sym is) tt;
  fit = λ p less. subst (λ (o : Option FedRows). All IsFitRow (bucket_in_fed p o)) (sym is) none_fit;
}

safe_some : {L : Type 0} (tells : Type 0) (query : Bound) (epoch : ℕ) (part : Part) (from to partitions : ℕ) (reduces : List Place) (part_log : PartLog L) (fed : FedRows) → part_log.fed ≡ Some fed → IsBrought tells query epoch part from to partitions reduces fed → IsSafe partitions part_log
safe_some tells query epoch part from to partitions reduces part_log fed is b = record {
  buckets = λ p less. subst (λ (o : Option FedRows). IfSome o (λ fed. p < length fed.buckets)) (sym is) (omega (arith, less, b.count));
  years = subst (λ (o : Option FedRows). IfSome (time_of o) IsLineTime) (sym is) b.years;
  fit = λ p less. subst (λ (o : Option FedRows). All IsFitRow (bucket_in_fed p o)) (sym is) (b.fit p [] (omega (arith, less, b.count)));
}

pub part_log_safe : {L : Type 0} (tells : Type 0) (query : Bound) (epoch : ℕ) (part : Part) (from to partitions : ℕ) (reduces : List Place) (at : Place) (part_log : PartLog L) → is_fine at ≡ true → IsMapped tells query epoch part from to partitions reduces at part_log → IsSafe partitions part_log
part_log_safe tells query epoch part from to partitions reduces place.Rests part_log fine m = safe_none partitions part_log (m.none refl)
part_log_safe tells query epoch part from to partitions reduces (place.Back None) part_log fine m = (let b = m.brought refl in safe_some tells query epoch part from to partitions reduces part_log b.0 b.1 b.2)
part_log_safe tells query epoch part from to partitions reduces (place.Back (Some f)) part_log fine m = absurd (true≢false (sym fine))
part_log_safe tells query epoch part from to partitions reduces place.Waits part_log fine m = absurd (true≢false (sym fine))
part_log_safe tells query epoch part from to partitions reduces place.Away part_log fine m = absurd (true≢false (sym fine))

-- What is said of each part is said of what the desk has of it: so it is of all, one after the other.
pub all_parts : {L A : Type 0} (say : Part → ℕ → ℕ → A) (of : PartLog L → A) (parts : List Part) (part_logs : List (PartLog L)) (froms tos : Cut) → length part_logs ≡ length parts → length froms ≡ length parts → length tos ≡ length parts
    → ((i : ℕ) (part : Part) (part_log : PartLog L) → slice_get parts i ≡ Some part → get_elem? part_logs i ≡ some part_log → of part_log ≡ say part (get_or froms i 0) (get_or tos i 0))
    → map of part_logs ≡ of_parts say parts froms tos
unfolding of_parts
all_parts say of [] [] froms tos a b c each = refl
all_parts say of [] (x ∷ part_logs) froms tos a b c each = absurd (omega (arith, a))
all_parts say of (part ∷ parts) [] froms tos a b c each = absurd (omega (arith, a))
all_parts say of (part ∷ parts) (x ∷ part_logs) [] tos a b c each = absurd (omega (arith, b))
all_parts say of (part ∷ parts) (x ∷ part_logs) (from ∷ froms) [] a b c each = absurd (omega (arith, c))
all_parts say of (part ∷ parts) (x ∷ part_logs) (from ∷ froms) (to ∷ tos) a b c each =
    (λ i. each 0 part x refl refl i ∷ all_parts say of parts part_logs froms tos (omega (arith, a)) (omega (arith, b)) (omega (arith, c)) (λ j q y there here. each (suc j) q y there here) i)

-- what was fed of a part has the greatest time that the part has
pub time_same : (stream own of : ℕ) (has time : Option ℤ) → of ≡ own → has ≡ time → (if own == stream then has else None) ≡ (if of == stream then time else None)
time_same stream own of has time same is = λ i. if sym same i == stream then is i else None

-- each of a list has what each at its place has
pub all_at : {A : Type 0} (P : A → Type 0) (l : List A) → ((i : ℕ) (a : A) → get_elem? l i ≡ some a → P a) → All P l
all_at P [] each k d less = absurd (omega (arith, less))
all_at P (x ∷ l) each zero d less = each 0 x refl
all_at P (x ∷ l) each (suc k) d less = all_at P l (λ i a here. each (suc i) a here) k d (omega (arith, less))

pub can_raise : {L : Type 0} (streams : ℕ) (part_logs : List (PartLog L)) → ((i : ℕ) (part_log : PartLog L) → get_elem? part_logs i ≡ some part_log → (part_log.stream < streams) × HasLineTime part_log) → CanRaise streams part_logs
can_raise streams [] each = tt
can_raise streams (x ∷ part_logs) each = (let f = each 0 x refl in (f.0, f.1, can_raise streams part_logs (λ i part_log here. each (suc i) part_log here)))

-- all of lists that are put one after the other
pub all_joined : {A B : Type 0} (P : B → Type 0) (of : A → List B) (l : List A) → ((i : ℕ) (a : A) → get_elem? l i ≡ some a → All P (of a)) → All P (joined (map of l))
all_joined P of [] each = λ k d less. absurd (omega (arith, less))
all_joined P of (x ∷ l) each = All-append P (of x) (joined (map of l)) (each 0 x refl) (all_joined P of l (λ i a here. each (suc i) a here))
