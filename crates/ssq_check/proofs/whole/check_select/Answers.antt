use Rattle.ssq_check.proofs.Ends.{select_first}
use Rattle.ssq_check.proofs.whole.check_select.Goals as goal

pub returns : goal.returns
returns c =
    select_first c.args.query.now c.args.names.now c.add_keys.new.scope c.in_ok-rows.rows c.in_ok-own.own c.sooner.result
    c.requires c.in_ok-add_keys.ensures c.sooner.ensures c.in_ok-rows.ensures c.in_ok-own.ensures
