use Rattle.std.proofs.Common.{sym, subst, ℤ, IsUtf8, w64}
use Rattle.std.proofs.lemmas.Int.{to_z-of_z}
use Rattle.ssq_time.specs.Time.{stamp_text}
use Rattle.ssq_run.proofs.KeyLemmas.{stamp_utf8}
use Rattle.ssq_run.proofs.key.stamp_text.Goals as goal

pub utf8_text-requires : goal.utf8_text-requires
utf8_text-requires c =
    let same = to_z-of_z w64 c.args.time c.ranges.time in
    subst IsUtf8 (sym c.in_ok-time_text.ensures) (subst (λ (t : ℤ). IsUtf8 (stamp_text t)) (sym same) (stamp_utf8 c.args.time c.requires))
