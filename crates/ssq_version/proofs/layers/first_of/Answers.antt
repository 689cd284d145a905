use Rattle.std.proofs.Common.{sym, ◌∙◌}
use Rattle.ssq_version.proofs.Laid.{both_of_two, new_of_one, new_of_two, old_of_one, old_of_two}
use Rattle.ssq_version.proofs.layers.first_of.Goals as goal

pub returns-in_default-clause-first : goal.returns-in_default-clause-first
returns-in_default-clause-first c = old_of_one c.args.older.now c.args.newer.now _ c.in_ok-old.old.now c.in_ok-old.ensures.cases.0 c.in_default.ensures.cases

pub returns-in_default-split_first-clause-first : goal.returns-in_default-split_first-clause-first
returns-in_default-split_first-clause-first c =
    new_of_one c.args.older.now c.args.newer.now _ c.in-Some.new.now c.in_default-split_first.ensures.cases c.in-Some.ensures.cases.0 c.requires

pub returns-in-Less-clause-first : goal.returns-in-Less-clause-first
returns-in-Less-clause-first c =
    old_of_two c.args.older.now c.args.newer.now _ _ c.in-Some-split_first.old.now c.in-Some.new.now c.in-Some-split_first.ensures.cases.0 c.in-Some.ensures.cases.0 c.requires (sym c.cmp.ensures ∙ c.in-Less.is)

pub returns-in-Equal-clause-first : goal.returns-in-Equal-clause-first
returns-in-Equal-clause-first c =
    both_of_two c.args.older.now c.args.newer.now _ _ c.in-Some-split_first.old.now c.in-Some.new.now c.in-Some-split_first.ensures.cases.0 c.in-Some.ensures.cases.0 c.requires (sym c.cmp.ensures ∙ c.in-Equal.is)

pub returns-in-Greater-clause-first : goal.returns-in-Greater-clause-first
returns-in-Greater-clause-first c =
    new_of_two c.args.older.now c.args.newer.now _ _ c.in-Some-split_first.old.now c.in-Some.new.now c.in-Some-split_first.ensures.cases.0 c.in-Some.ensures.cases.0 c.requires (sym c.cmp.ensures ∙ c.in-Greater.is)
