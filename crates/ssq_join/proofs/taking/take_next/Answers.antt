use Rattle.ssq_join.proofs.Standing.{fresh_more, taken_more}
use Rattle.ssq_join.proofs.taking.take_next.Goals as goal

pub returns-clause-taken : goal.returns-clause-taken
returns-clause-taken c = λ held rows was_met kept own new taken fresh. (
  taken_more c.args.bound.now c.args.joining.now c.args.row.now own was_met held rows c.args.state.now c.args.taken.now.fresh.entries kept fresh c.args.taken.now.found c.take_row.new.found c.args.taken.now.met.keys c.take_row.new.met.keys taken c.in_ok-take_row.ensures.meets,
  fresh_more c.args.bound.now c.args.joining.now c.args.row.now own rows new c.args.taken.now.fresh.entries c.insert.new.self.entries c.in_ok-bytes.bytes c.in_ok-value.value c.in_ok-bytes.ensures.bytes c.in_ok-value.ensures.bytes fresh
      c.in_ok-insert.ensures.entries c.in_ok-insert.ensures.updates.0,
)
