use Rattle.std.proofs.Common.{arith, refl}
use Rattle.ssq_version.specs.State.{news, between}
use Rattle.ssq_version.proofs.WhatIsNew.{news_are_between}
use Rattle.ssq_version.proofs.Leading.{between_kept, between_leads, news_kept, news_few}
use Rattle.ssq_store.proofs.law.sealed_files_are_true.Goals as goal

pub returns-clause-between : goal.returns-clause-between
returns-clause-between c partition version old new kept too few = record {
  change = between old new;
  kept = between_kept old new kept too;
  few = few;
  between = between_leads old new too.ascend;
  is = refl;
  state = too;
}

pub returns-clause-news : goal.returns-clause-news
returns-clause-news c partition version old new change state kept few after =
    let less = news_few old change in
    record {
      change = news old change;
      kept = news_kept old change kept;
      few = omega (arith, less, few);
      between = news_are_between old new change kept.ascend after;
      is = refl;
      state = state;
    }

pub returns-clause-whole : goal.returns-clause-whole
returns-clause-whole c partition version state kept few = record { kept = kept; few = few; is = refl }
