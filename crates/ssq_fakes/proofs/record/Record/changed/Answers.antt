use Rattle.std.proofs.Common.{◌≡◌, ◌∷◌, ◌∙◌, refl, sym}
use Rattle.ssq_fakes.specs.Records.{events_of}
use Rattle.ssq_fakes.proofs.Walks.{changed_more}
use Rattle.ssq_fakes.proofs.record.Record.changed.Goals as goal

pub loop-at-preserved : goal.loop-at-preserved
loop-at-preserved c =
    let event = c.in-Then.event in
    let older = events_of c.in-Then.older.value in
    let is : events_of c.loop-at.at.now ≡ event ∷ older = rw c.in-Then.is refl in
    λ q. rw c.deref-at.ensures (changed_more event older c.in-Some.name q _ _ _ (sym c.name.ensures ∙ c.in-Some.is) (rw is at c.loop-at.invariant q) (c.in_ok-add-in-Some.ensures.added q))
