-- The first files of a checkpoint.
use Rattle.std.proofs.Common.{◌≡◌, ◌∙◌, ◌≤◌, ℕ, List, Option, Some, None, refl, sym, ap, subst, inl, inr, arith}
use Rattle.std.specs.Prelude.{length, unwrap_or, All}
use Rattle.std.proofs.lemmas.List.Elements.{All-map}
use Rattle.std.specs.Option.{ForSome}
use Rattle.ssq_outside.specs.declared.name.Name.TheVariants as name
use Rattle.ssq_outside.specs.Files.{Files, IsEmpty, published}
use Rattle.ssq_outside.specs.History.{History, LeavesOnly}
use Rattle.ssq_plans.specs.declared.meta.Meta.{Meta}
use Rattle.ssq_plans.specs.Records.{IsMeta, IsCount, meta_text}
use Rattle.ssq_core.specs.Settled.{IsSettledAs, IsEither}
use Rattle.ssq_core.proofs.Settling.{either_gives, stays}
use Rattle.ssq_shape.specs.declared.bound.Bound.{Bound}
use Rattle.ssq_open.specs.declared.wanted.Lens.{Lens}
use Rattle.ssq_open.specs.Stateful.{keeps_state}
use Rattle.ssq_open.specs.Watermarks.{watermarked}
use Rattle.ssq_open.specs.Lens.{counts_of, found_from, IsFew, CanBeAsked, asked}
use Rattle.ssq_open.specs.Sought.{Sought}
use Rattle.ssq_open.specs.Opening.{CanBeSought, first_meta, no_files, only_meta}

-- the record is published where there is no file
pub only_meta-published : (files : Files) (m n : Meta) (bytes : List ℕ) → IsEmpty files → bytes ≡ meta_text n → n ≡ m → published name.Meta bytes files ≡ only_meta m
only_meta-published files m n bytes empty spelled same =
    let gone : files ≡ no_files = λ i q. empty q i in
    ap (published name.Meta bytes) gone ∙ ap (λ b. published name.Meta b no_files) (spelled ∙ ap meta_text same)

-- one of two, and the second is the record alone
pub either_same : (old new : History) (before after after' : Files) → LeavesOnly old new (IsEither before after) → after ≡ after' → LeavesOnly old new (IsEither before after')
either_same old new before after after' run same = either_gives (IsEither before after') old new before after after' run same (inl refl) (inr refl)

-- what was only read leaves the files as they were
pub read_leaves : (old new : History) (files after : Files) → new ≡ old → IsSettledAs old files → LeavesOnly old new (IsEither files after)
read_leaves old new files after same settled =
    let M : History → Type 0 = λ h. LeavesOnly old h (IsEither files after) in
    subst M (sym same) (stays old (IsEither files after) files settled (inl refl))

-- the record of a new checkpoint can be written
pub first_is : (s : Sought) → CanBeSought s.partitions s.parts → IsMeta (first_meta s)
first_is s can = let asked = by_asked s.partitions can.partitions_in in (asked.0, asked.1, can.parts_in)
  where
    by_asked : (o : Option ℕ) → ForSome o (λ count. (1 ≤ count) × (count ≤ 64)) → (1 ≤ unwrap_or o 1) × (unwrap_or o 1 ≤ 64)
    by_asked None within = (omega arith, omega arith)
    by_asked (Some n) within = within n refl

-- what the code asks for is what it was asked for
pub asked_is : (bound : Bound) (partitions : Option ℕ) (lens : Lens) (s : Sought) → s.query ≡ bound.text → s.streams ≡ watermarked bound.streams → s.keeps ≡ keeps_state bound.shape
    → s.partitions ≡ partitions → s.parts ≡ counts_of lens.streams → s.found ≡ found_from 0 lens.streams → s ≡ asked bound partitions lens
asked_is bound partitions lens s query streams keeps number parts found = λ i. record { query = query i; streams = streams i; keeps = keeps i; partitions = number i; parts = parts i; found = found i }

pub can_be_sought : (bound : Bound) (partitions : Option ℕ) (lens : Lens) → CanBeAsked bound partitions lens → CanBeSought partitions (counts_of lens.streams)
can_be_sought bound partitions lens can = record { partitions_in = can.partitions_in; parts_in = each lens.streams can.few_parts }
  where
    each : (xs : List (List ℕ)) → All IsFew xs → All IsCount (counts_of xs)
    each xs few = All-map IsCount length xs few
