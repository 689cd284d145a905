use Rattle.ssq_check.proofs.Ends.{words_first}
use Rattle.ssq_check.proofs.whole.check_words.Goals as goal

pub returns : goal.returns
returns c =
    words_first c.args.select.now c.args.grouped c.is_some.result c.standing-distinct.result c.check_limit-limit.result c.check_stateful-stateful.result c.sooner.result c.sooner-2.result
    c.is_some.ensures c.sooner.ensures c.sooner-2.ensures c.standing-distinct.ensures c.check_limit-limit.ensures c.check_stateful-stateful.ensures
