use Rattle.ssq_version.proofs.Once.{one_delta, one_snapshot}
use Rattle.ssq_version.proofs.law.files_are_apart.Goals as goal

pub returns : goal.returns
returns c = record {
  deltas = one_delta c.fields_are_apart.ensures.of_4_bytes c.fields_are_apart.ensures.of_8_bytes;
  snapshots = one_snapshot c.fields_are_apart.ensures.of_4_bytes c.fields_are_apart.ensures.of_8_bytes;
}
