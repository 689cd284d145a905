use Rattle.std.proofs.Common.{ap, ◌∙◌}
use Rattle.std.specs.Prelude.{not}
use Rattle.std.specs.HashSet.{contains}
use Rattle.ssq_meaning.specs.Group.{is_same}
use Rattle.ssq_dedup.proofs.Taking.{put_in}
use Rattle.ssq_dedup.proofs.epoch.note_key.Goals as goal

pub returns-clause-keys : goal.returns-clause-keys
returns-clause-keys c =
    put_in c.of.result c.args.key.now (λ key. contains is_same c.args.keys.now key) (λ key. contains is_same c.insert.new.self key) c.in_ok-is_new.ensures.updates.0 c.of.ensures

pub returns-clause-is_new : goal.returns-clause-is_new
returns-clause-is_new c = c.in_ok-is_new.ensures.added ∙ ap (λ key. not (contains is_same c.args.keys.now key)) c.of.ensures
