use Rattle.ssq_check.proofs.Ends.{groups_first_of}
use Rattle.ssq_check.proofs.clause.check_groups.Goals as goal

pub returns : goal.returns
returns c =
    groups_first_of c.args.scope.now c.as_slice-items.result.now c.args.by.now.items c.windows_in.result
    c.in_ok-each.each c.in_ok-doubled.doubled c.standing-second.result c.beyond.result c.sooner.result c.sooner-2.result c.sooner-3.result
    c.as_slice-items.ensures c.windows_in.ensures c.sooner.ensures c.sooner-2.ensures c.sooner-3.ensures
    c.in_ok-each.ensures c.in_ok-doubled.ensures c.standing-second.ensures c.beyond.ensures
