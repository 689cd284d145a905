-- What an opening finds is in order, whatever the files hold.
use Rattle.std.specs.Prelude.{◌≡◌, ◌⊎◌, ◌<◌, ◌≤◌, ◌+◌, ℕ, List, [], length, All, None, IsTrue}
use Rattle.std.specs.Option.{ForSome}
use Rattle.ssq_time.specs.Time.{IsStampTime}
use Rattle.ssq_plans.specs.declared.meta.Meta.{Meta}
use Rattle.ssq_plans.specs.declared.part.PartEnd.{PartEnd}
use Rattle.ssq_plans.specs.declared.plan.Plan.{Plan}
use Rattle.ssq_plans.specs.declared.seen.SeenBy.{SeenBy}
use Rattle.ssq_plans.specs.Records.{HasLineTime, IsMeta}
use Rattle.ssq_open.specs.declared.streams.Watermarked.{Watermarked}
use Rattle.ssq_open.specs.declared.kept.Epochs.{Epochs}
use Rattle.ssq_open.specs.declared.wanted.Opened.{Opened}
use Rattle.ssq_open.specs.Watermarks.{has_lines}
use Rattle.ssq_open.specs.Epochs.{cut_of, follows, starts, last_ends}
use Rattle.ssq_open.specs.Sought.{Sought, IsJob}
use Rattle.ssq_open.specs.Stateful.{keeping_in}
use Rattle.ssq_open.specs.Stores.{AreStores}
use Rattle.ssq_open.specs.Opening.{first_short}

-- Plans of the first epochs: their number has 32 bits; each has an end for each part, in order, and no end falls; watermarks can be printed.
pub record ArePlansInOrder (first : List PartEnd) (plans : List Plan) : Type 0 where
  pub few : length plans ≤ 4294967295
  pub follow : (e : ℕ) → e < length plans → IsTrue (follows (cut_of first plans e) (cut_of first plans (e + 1)))
  pub marks : All (λ plan. ForSome plan.watermark IsStampTime) plans

-- There are no greatest times, or one line for each watermarked stream, in order, and their times are times of lines.
pub record AreTimesInOrder (streams : List Watermarked) (seen : List SeenBy) : Type 0 where
  pub lines : (seen ≡ []) ⊎ IsTrue (has_lines streams seen)
  pub years : All HasLineTime seen

-- As many epochs are planned as are committed, or one more, and their plans and greatest times are in order.
pub record AreEpochsInOrder (streams : List Watermarked) (first : List PartEnd) (epochs : Epochs) : Type 0 where
  pub before : epochs.committed ≤ length epochs.plans
  pub near : length epochs.plans ≤ epochs.committed + 1
  pub plans : ArePlansInOrder first epochs.plans
  pub times : AreTimesInOrder streams epochs.seen

-- As many epochs are planned as are committed, or one more, and their number has 32 bits; each plan has an end for each part, in order, and
-- no end falls; watermarks can be printed; there are no greatest times, or one line for each watermarked stream, in order, and their times are
-- times of lines.
pub record HasNumbers (streams : List Watermarked) (first : List PartEnd) (found : Opened) : Type 0 where
  pub before : found.committed ≤ length found.plans
  pub near : length found.plans ≤ found.committed + 1
  pub few_plans : length found.plans ≤ 4294967295
  pub follow : (e : ℕ) → e < length found.plans → IsTrue (follows (cut_of first found.plans e) (cut_of first found.plans (e + 1)))
  pub marks : All (λ plan. ForSome plan.watermark IsStampTime) found.plans
  pub seen : (found.seen ≡ []) ⊎ IsTrue (has_lines streams found.seen)
  pub years : All HasLineTime found.seen

-- What a checkpoint holds beside the states is in order: its record can be written and is of the job that is wanted, its epochs are in order,
-- and of each part as many lines are found as are planned.
pub record IsCheckedInOrder (s : Sought) (meta : Meta) (epochs : Epochs) : Type 0 where
  pub range : IsMeta meta
  pub job : IsJob s meta
  pub order : AreEpochsInOrder s.streams (starts s.found) epochs
  pub long : first_short (last_ends (starts s.found) epochs.plans) s.found ≡ None

-- What is found is in order: its epochs are; its record can be written and is of the job that is wanted; of each part as many lines are found
-- as are planned; and the stores are those of the partitions that keep state, at the last committed epoch.
pub record IsInOrder (s : Sought) (found : Opened) : Type 0 where
  pub numbers : HasNumbers s.streams (starts s.found) found
  pub range : IsMeta found.meta
  pub job : IsJob s found.meta
  pub long : first_short (last_ends (starts s.found) found.plans) s.found ≡ None
  pub stores : AreStores (keeping_in s.keeps found.meta.partitions) found.committed found.stores
