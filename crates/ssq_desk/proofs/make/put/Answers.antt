use Rattle.std.proofs.Common.{◌≡◌, ◌∙◌, List, sym, subst}
use Rattle.std.specs.Vec.{with_items}
use Rattle.std.proofs.lemmas.List.{with_items_is}
use Rattle.ssq_desk.specs.declared.desk.PartLog.{PartLog}
use Rattle.ssq_desk.specs.Room.{AreBegun}
use Rattle.ssq_desk.proofs.make.put.Goals as goal

pub returns-clause-begun : goal.returns-clause-begun
returns-clause-begun g c =
    let begun : AreBegun c.args.ends.now c.args.load.now.part_logs.items c.begin_at.new.part_logs = subst (λ (olds : List (PartLog g.row.L.Denot)). AreBegun c.args.ends.now olds c.begin_at.new.part_logs) c.deref_mut.ensures.value c.begin_at.ensures in
    let all : (with_items c.args.load.now.part_logs c.begin_at.new.part_logs).items ≡ c.begin_at.new.part_logs = with_items_is c.args.load.now.part_logs c.begin_at.new.part_logs (begun.0 ∙ sym c.args.load.now.part_logs.ok.0) in
    subst (λ (news : List (PartLog g.row.L.Denot)). AreBegun c.args.ends.now c.args.load.now.part_logs.items news) (sym all) begun
