use Rattle.ssq_version.proofs.Leading.{between_kept, between_leads, news_is_between, news_kept, news_few}
use Rattle.ssq_version.proofs.law.states_have_a_change.Goals as goal

pub returns-clause-kept : goal.returns-clause-kept
returns-clause-kept c = between_kept

pub returns-clause-leads : goal.returns-clause-leads
returns-clause-leads c = between_leads

pub returns-clause-news : goal.returns-clause-news
returns-clause-news c = news_is_between

pub returns-clause-news_kept : goal.returns-clause-news_kept
returns-clause-news_kept c = news_kept

pub returns-clause-news_few : goal.returns-clause-news_few
returns-clause-news_few c = news_few
