use Rattle.ssq_check.proofs.Ends.{own_first}
use Rattle.ssq_check.proofs.whole.check_own.Goals as goal

pub returns : goal.returns
returns c =
    own_first c.args.scope.now c.args.query.now c.shown_aggregates-aggregates.result c.group_place-grouped.result c.in_ok-shown.shown c.check_words-words.result c.sooner.result
    c.shown_aggregates-aggregates.ensures c.group_place-grouped.ensures c.sooner.ensures c.in_ok-shown.ensures c.check_words-words.ensures
