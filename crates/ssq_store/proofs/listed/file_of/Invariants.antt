-- The name's first file is among those that are left.
use Rattle.std.proofs.Common.{◌≡◌, drop}
use Rattle.ssq_store.specs.Loaded.{content_in}
use Rattle.ssq_store.proofs.listed.file_of.Given as goal

abbrev pub invariant-loop-of : goal.invariant-loop-of
invariant-loop-of l = content_in l.files l.name ≡ content_in (drop l.of-index l.files) l.name
