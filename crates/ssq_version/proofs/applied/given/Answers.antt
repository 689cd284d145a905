use Rattle.std.proofs.Common.{◌≡◌, rules}
use Rattle.ssq_version.specs.State.{given_by}
use Rattle.ssq_version.proofs.Filling.{given_begins, given_more, given_ends}
use Rattle.ssq_version.proofs.applied.given.Goals as goal

pub loop-key-init : goal.loop-key-init
loop-key-init c =
    let same : c.into_iter-key-iterator.result ≡ c.args.change = search rules in
    (tt, tt, given_begins c.in_ok-given.given.items c.args.change c.into_iter-key-iterator.result (search rules) same)

pub loop-key-preserved : goal.loop-key-preserved
loop-key-preserved c = (
  tt,
  tt,
  given_more c.loop-key.given.items c.push_given.new.given.items (given_by c.args.change) c.loop-key.key-iterator c.next.new.self c.in-Some.key c.in-Some.value c.in_ok-push_given.ensures c.in-Some.ensures.steps c.loop-key.invariant.2,
)

pub returns : goal.returns
returns c = given_ends c.loop-key.given.items (given_by c.args.change) c.loop-key.key-iterator c.in-None.ensures.steps.0 c.loop-key.invariant.2
