-- The state so far is what the files make of the versions so far.
use Rattle.ssq_version.specs.State.{IsChange, layered}
use Rattle.ssq_version.specs.Text.{shown}
use Rattle.ssq_store.specs.Loaded.{files_in, Makes}
use Rattle.ssq_store.proofs.listed.made_by.Given as goal

abbrev pub invariant-loop-version : goal.invariant-loop-version
invariant-loop-version l = record {
  makes : Makes (files_in l.files) l.partition l.version (layered (shown l.older.items) (shown l.newer.items));
  kept : IsChange (shown l.newer.items);
}
