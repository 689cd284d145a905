use Rattle.std.proofs.Common.{◌≡◌, ◌∙◌, [], None, Some, false, sym, is_some}
use Rattle.ssq_version.specs.State.{value_at}
use Rattle.ssq_version.proofs.Values.{without_more, others_stay, is_there, none_copied}
use Rattle.ssq_version.proofs.applied.make_room_for.Goals as goal

pub returns-clause-there : goal.returns-clause-there
returns-clause-there c = is_there c.add.result c.args.key.now [] c.args.state.now c.add.new.state c.add.ensures.ok

pub returns-clause-without : goal.returns-clause-without
returns-clause-without c start without =
    let none : is_some c.get.result ≡ false = sym c.is_some.ensures ∙ c.if-is_some.false in
    let absent : value_at c.args.state.now c.args.key.now ≡ None = sym c.get.ensures ∙ none_copied c.get.result none in
    without_more (λ key. key.now) c.args.added.now.items c.push.new.self.items c.args.key start c.args.state.now c.add.new.state c.in_ok-push.ensures.items absent
    (others_stay c.add.result c.args.key.now (Some []) c.args.state.now c.add.new.state c.add.ensures.ok c.add.ensures.err) without
