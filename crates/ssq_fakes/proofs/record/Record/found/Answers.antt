use Rattle.std.proofs.Common.{◌≡◌, ◌∷◌, refl}
use Rattle.ssq_fakes.specs.Records.{events_of}
use Rattle.ssq_fakes.proofs.Walks.{mentioned_more, present_more}
use Rattle.ssq_fakes.proofs.record.Record.found.Goals as goal

pub loop-at-preserved : goal.loop-at-preserved
loop-at-preserved c =
    let event = c.in-Then.event in
    let older = events_of c.in-Then.older.value in
    let is : events_of c.loop-at.at.now ≡ event ∷ older = rw c.in-Then.is refl in
    record {
      met = λ q. rw c.deref-at.ensures (mentioned_more event older q _ _ _ (rw is at c.loop-at.invariant.met q) (c.in_ok-take.ensures.met q));
      present = λ q. rw c.deref-at.ensures (present_more event older q _ _ _ _ _ (rw is at c.loop-at.invariant.present q) (c.in_ok-take.ensures.met q) (c.in_ok-take.ensures.present q));
    }
