use Rattle.std.proofs.Common.{ap}
use Rattle.std.specs.Prelude.{is_some}
use Rattle.ssq_outside.specs.History.{files_now}
use Rattle.ssq_desk.proofs.Readings.{found_more, names_more}
use Rattle.ssq_desk.proofs.upkeep.add_file.Goals as goal

pub returns-clause-names : goal.returns-clause-names
returns-clause-names g c = names_more c.args.files.now.items c.push_file.new.files.items c.args.name c.in_ok-bytes.bytes c.in_ok-push_file.ensures

pub returns-clause-there : goal.returns-clause-there
returns-clause-there g c t = ap is_some (c.in_ok-bytes.ensures.found t)

pub returns-clause-found : goal.returns-clause-found
returns-clause-found g c t =
    found_more (files_now (g.D.Disk.history c.args.ledger.now.disk)) c.args.files.now.items c.push_file.new.files.items c.args.name c.in_ok-bytes.bytes c.in_ok-push_file.ensures (c.in_ok-bytes.ensures.found t)
