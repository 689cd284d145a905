use Rattle.std.proofs.Common.{◌++◌, ◌∷◌, List, sym, ap, ◌∙◌, subst, arith}
use Rattle.std.specs.Prelude.{All}
use Rattle.std.proofs.lemmas.List.{append-nil, append_assoc, nil_from_length}
use Rattle.std.proofs.lemmas.List.Elements.{All-head, All-tail}
use Rattle.ssq_meaning.specs.FedRows.{FedRow}
use Rattle.ssq_task.specs.Lists.{joined_vecs}
use Rattle.ssq_desk.specs.declared.desk.PartLog.{PartLog}
use Rattle.ssq_desk.specs.Handing.{AreTaken, HasBucket, bucket_in_fed, buckets_in}
use Rattle.ssq_desk.proofs.hand.+take_buckets.Goals as goal

pub returns-in_default-clause-taken : goal.returns-in_default-clause-taken
returns-in_default-clause-taken g t c = subst (λ (l : List (PartLog g.row.L.Denot)). AreTaken c.args.partition l l) (sym (nil_from_length c.args.part_logs.now c.in_default.ensures.cases)) tt

pub returns-in_default-clause-rows : goal.returns-in_default-clause-rows
returns-in_default-clause-rows g t c =
    sym (append-nil (joined_vecs c.args.into.now.items))
    ∙ ap (λ (l : List (PartLog g.row.L.Denot)). joined_vecs c.args.into.now.items ++ buckets_in c.args.partition l) (sym (nil_from_length c.args.part_logs.now c.in_default.ensures.cases))

pub take_bucket-requires-clause-room : goal.take_bucket-requires-clause-room
take_bucket-requires-clause-room g t c = omega (arith, c.requires.room, c.in-Some.ensures.cases.1)

pub take_bucket-requires-clause-below : goal.take_bucket-requires-clause-below
take_bucket-requires-clause-below g t c =
    All-head (HasBucket c.args.partition) c.in-Some.part_log.now c.in-Some.rest.now (subst (λ (l : List (PartLog g.row.L.Denot)). All (HasBucket c.args.partition) l) c.in-Some.ensures.cases.0 c.requires.below)

pub take_buckets-requires : goal.take_buckets-requires
take_buckets-requires g t c κs within = (
  omega (arith, c.decreases, c.in-Some.ensures.cases.1),
  (
    within,
    (
      omega (arith, c.requires.room, c.in-Some.ensures.cases.1, c.take_bucket.ensures.len, c.take_bucket.ensures.capacity),
      All-tail (HasBucket c.args.partition) c.in-Some.part_log.now c.in-Some.rest.now (subst (λ (l : List (PartLog g.row.L.Denot)). All (HasBucket c.args.partition) l) c.in-Some.ensures.cases.0 c.requires.below),
    ),
  ),
)

pub returns-clause-rows : goal.returns-clause-rows
returns-clause-rows g t c =
    c.take_buckets.ensures.rows
    ∙ ap (λ (l : List FedRow). l ++ buckets_in c.args.partition c.in-Some.rest.now) c.take_bucket.ensures.rows
    ∙ append_assoc (joined_vecs c.args.into.now.items) (bucket_in_fed c.args.partition c.in-Some.part_log.now.fed) (buckets_in c.args.partition c.in-Some.rest.now)
    ∙ ap (λ (l : List (PartLog g.row.L.Denot)). joined_vecs c.args.into.now.items ++ buckets_in c.args.partition l) (sym c.in-Some.ensures.cases.0)

pub returns-clause-taken : goal.returns-clause-taken
returns-clause-taken g t c =
    subst (λ (l : List (PartLog g.row.L.Denot)). AreTaken c.args.partition l (c.take_bucket.new.part_log ∷ c.take_buckets.new.part_logs)) (sym c.in-Some.ensures.cases.0) (c.take_bucket.ensures.taken, c.take_buckets.ensures.taken)
