-- The deltas before this version were read, and nothing was done to the disk.
use Rattle.std.proofs.Common.{◌≡◌, ◌<◌, ◌≤◌, ◌++◌, ◌-◌, [], ℕ, true}
use Rattle.std.specs.Prelude.{All, Some, is_some}
use Rattle.ssq_outside.specs.declared.name.Name.TheVariants as name
use Rattle.ssq_outside.specs.History.{files_now}
use Rattle.ssq_ledger.specs.Shown.{did}
use Rattle.ssq_desk.specs.Upkeep.{deltas_from, names_in}
use Rattle.ssq_desk.proofs.upkeep.with_deltas.Given as goal

abbrev pub invariant-loop-version : goal.invariant-loop-version
invariant-loop-version g l = record {
  low : l.from ≤ l.version;
  high : l.version ≤ l.versions;
  same_ledger : l.ledger ≡ did l.fn.ledger l.ledger.disk [];
  same_disk : g.D.Disk.tells → g.D.Disk.history l.ledger.disk ≡ g.D.Disk.history l.fn.ledger.disk;
  counts : g.D.Disk.faults l.fn.ledger.disk ≤ g.D.Disk.faults l.ledger.disk;
  names_are : names_in l.files.items ≡ names_in l.fn.files.items ++ deltas_from l.partition l.from (l.version - l.from);
  are_there : g.D.Disk.tells → (w : ℕ) → l.from ≤ w → w < l.version → is_some (files_now (g.D.Disk.history l.fn.ledger.disk) (name.Delta l.partition w)) ≡ true;
  are_found : g.D.Disk.tells → All (λ file. files_now (g.D.Disk.history l.fn.ledger.disk) file.0 ≡ Some file.1) l.fn.files.items → All (λ file. files_now (g.D.Disk.history l.fn.ledger.disk) file.0 ≡ Some file.1) l.files.items;
}
