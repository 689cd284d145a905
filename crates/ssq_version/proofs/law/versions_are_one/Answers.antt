use Rattle.ssq_version.proofs.Collected.{same_entries}
use Rattle.ssq_version.proofs.WhatIsNew.{one_after, one_between, leads_between, news_are_between, news_ascend, news_all}
use Rattle.ssq_version.proofs.law.versions_are_one.Goals as goal

pub returns-clause-states : goal.returns-clause-states
returns-clause-states c = same_entries

pub returns-clause-changes : goal.returns-clause-changes
returns-clause-changes c = same_entries

pub returns-clause-after : goal.returns-clause-after
returns-clause-after c = one_after

pub returns-clause-between : goal.returns-clause-between
returns-clause-between c = one_between

pub returns-clause-leads : goal.returns-clause-leads
returns-clause-leads c = leads_between

pub returns-clause-news : goal.returns-clause-news
returns-clause-news c = news_are_between

pub returns-clause-ascend : goal.returns-clause-ascend
returns-clause-ascend c = news_ascend

pub returns-clause-all_new : goal.returns-clause-all_new
returns-clause-all_new c = news_all
