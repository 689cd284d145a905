use Rattle.ssq_version.proofs.Values.{without_begins}
use Rattle.ssq_version.proofs.applied.make_room.Goals as goal

pub returns-in-Err-clause-err : goal.returns-in-Err-clause-err
returns-in-Err-clause-err c =
    c.take_back.ensures c.args.state.now (c.in-Err.ensures.without c.args.state.now (without_begins (λ key. key.now) c.new-added.result.items c.args.state.now c.new-added.ensures.items)) c.states_are_kept.ensures.kept.ascend
