use Rattle.std.proofs.Common.{◌++◌, ◌∙◌, Some, ap, ap₂}
use Rattle.ssq_version.specs.Text.{said_of, shown}
use Rattle.ssq_version.proofs.Laid.{listed_all, listed_more}
use Rattle.ssq_version.proofs.snapshot.entries_of.Goals as goal

pub loop-key-init : goal.loop-key-init
loop-key-init c = (tt, tt, ap₂ (λ entries state. shown entries ++ said_of state) c.new-entries.ensures.items (c.into_iter-key-iterator.ensures.into_iter_gives ∙ c.in_ok-kept.ensures))

pub loop-key-preserved : goal.loop-key-preserved
loop-key-preserved c = (
  tt,
  tt,
  listed_more c.loop-key.entries.items c.push.new.self.items (said_of c.args.map.now) _ c.in-Some.key.now c.in-Some.value.now c.loop-key.key-iterator c.next.new.self c.in-Some.ensures.steps c.in_ok-push.ensures.items
      c.as_slice.ensures (ap Some c.as_slice-in-loop-key.ensures) c.loop-key.invariant.2,
)

pub returns : goal.returns
returns c = listed_all c.loop-key.entries.items _ c.loop-key.key-iterator c.in-None.ensures.steps.0 c.loop-key.invariant.2
