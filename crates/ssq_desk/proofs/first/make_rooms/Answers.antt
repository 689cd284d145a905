use Rattle.ssq_desk.proofs.first.make_rooms.Goals as goal

pub returns : goal.returns
returns g c = record {
  no_part_logs = c.in_ok-part_logs.ensures.items;
  part_logs_room = c.in_ok-part_logs.ensures.capacity;
  no_told = c.in_ok-told.ensures.items;
  told_room = c.in_ok-told.ensures.capacity;
  no_lines = c.in_ok-lines.ensures.items;
  lines_room = c.in_ok-lines.ensures.capacity;
  no_logs = c.in_ok-logs.ensures.items;
  logs_room = c.in_ok-logs.ensures.capacity;
  no_held = c.in_ok-held.ensures.items;
  held_room = c.in_ok-held.ensures.capacity;
  no_stores = c.in_ok-stores.ensures.items;
  stores_room = c.in_ok-stores.ensures.capacity;
  no_closings = c.in_ok-closings.ensures.items;
  closings_room = c.in_ok-closings.ensures.capacity;
}
