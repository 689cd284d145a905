use Rattle.std.proofs.Common.{ℕ, List, length, ap, ◌∙◌, subst}
use Rattle.ssq_plans.specs.declared.seen.SeenBy.{SeenBy}
use Rattle.ssq_task.specs.Committing.{told}
use Rattle.ssq_desk.specs.First.{HasRooms}
use Rattle.ssq_desk.proofs.first.make_first.Goals as goal

pub begin_parts-requires-clause-times : goal.begin_parts-requires-clause-times
begin_parts-requires-clause-times g c = λ stream. c.in_ok-seen.ensures.times stream ∙ ap (λ (lines : List SeenBy). told lines stream) c.as_slice.ensures

pub returns : goal.returns
returns g c = record {
  begun = c.in_ok-begun.ensures;
  times = λ stream. c.in_ok-seen.ensures.times stream ∙ ap (λ (lines : List SeenBy). told lines stream) c.as_slice.ensures;
  streams = c.in_ok-seen.ensures.streams;
  room = c.in_ok-room.ensures;
  rooms = subst (λ (streams : ℕ). HasRooms c.args.logs streams (length c.args.opened.now.stores) c.in_ok-rooms.rooms) c.len.ensures
      (subst (λ (stores : ℕ). HasRooms c.args.logs c.len.result stores c.in_ok-rooms.rooms) c.len-2.ensures c.in_ok-rooms.ensures);
}
