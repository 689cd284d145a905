use Rattle.std.proofs.Common.{◌≡◌, [], ◌∷◌, false, true, sym, ap, ◌∙◌, subst}
use Rattle.ssq_outside.specs.declared.name.Name.TheVariants as name
use Rattle.ssq_upkeep.specs.Upkeep.{is_among}
use Rattle.ssq_board.specs.declared.front.Cause.{Cause}
use Rattle.ssq_board.specs.declared.front.Entry.TheVariants as entry
use Rattle.ssq_board.specs.Core.{is_of_epoch}
use Rattle.ssq_board.specs.Shelf.{Shelf}
use Rattle.ssq_ledger.specs.Shown.{Shown, cuts_of, did, shelf_of}
use Rattle.ssq_desk.specs.declared.round.Round.{Round}
use Rattle.ssq_desk.specs.Round.{Owns, setting_of}
use Rattle.ssq_desk.specs.Upkeep.{NeverDamaged, cause_of_snapshot}
use Rattle.ssq_desk.specs.Whole.{IsWhole, opening_in}
use Rattle.ssq_desk.proofs.Entries.{unmade_whole}
use Rattle.ssq_desk.proofs.Upkeeps.{shelf_still, snapshot_no_log, snapshot_outside, snapshot_stops}
use Rattle.ssq_desk.proofs.Wholes.{did_then, still_whole}
use Rattle.ssq_desk.proofs.desk.Desk.take_unmade.Goals as goal

pub report_unmade-requires-clause-claimed : goal.report_unmade-requires-clause-claimed
report_unmade-requires-clause-claimed g c =
    let q = name.Snapshot c.args.partition c.args.version in
    let mid = c.discard.new.self in
    ap (λ (x : Shown g.row.D.Denot (Round g.row.L.Denot)). is_among (shelf_of (opening_in g.L.Log.lines) x).claimed q) c.discard.ensures.did
    ∙ ap (λ (k : Shelf). is_among k.claimed q) (shelf_still g.L.Log.lines c.self.inside.ledger mid.disk)
    ∙ subst (λ (x : Shown g.row.D.Denot (Round g.row.L.Denot)). is_among (shelf_of (opening_in g.L.Log.lines) x).claimed q ≡ true) (sym c.self.view_is) c.requires.claimed

pub report_unmade-requires-clause-outside : goal.report_unmade-requires-clause-outside
report_unmade-requires-clause-outside g c =
    subst (λ (f : Cause). is_of_epoch f ≡ false) (sym c.cause_of_snapshot-cause.ensures) (snapshot_outside c.args.fault)

pub invariant_of-self : goal.invariant_of-self
invariant_of-self g c =
    let s = c.self.inside in
    let d = c.discard.new.self.disk in
    let mid : Shown g.row.D.Denot (Round g.row.L.Denot) = did s.ledger d [] in
    let whole = still_whole g.D.Disk.tells g.L.Log.tells g.D.Disk.history g.L.Log.lines g.L.Log.available g.L.Log.answers g.L.Log.faults g.D.Stage.Stage.written g.D.Stage.Stage.sealed s.ledger s.load c.self.invariant d in
    let never = subst (λ (x : Shown g.row.D.Denot (Round g.row.L.Denot)). NeverDamaged (Owns g.D.Disk.tells g.L.Log.tells g.D.Disk.history g.L.Log.lines x) c.args.fault) (sym c.self.view_is) c.requires.never in
    let last = unmade_whole g.D.Disk.tells g.L.Log.tells g.D.Disk.history g.L.Log.lines g.L.Log.available g.L.Log.answers g.L.Log.faults g.D.Stage.Stage.written g.D.Stage.Stage.sealed mid s.load whole d c.args.partition c.args.version (cause_of_snapshot c.args.fault) (snapshot_no_log c.args.fault)
    (snapshot_stops (g.D.Disk.tells × g.L.Log.tells) (Owns g.D.Disk.tells g.L.Log.tells g.D.Disk.history g.L.Log.lines s.ledger) (setting_of g.L.Log.lines s.ledger.opening) (cuts_of (opening_in g.L.Log.lines) mid) s.ledger.core.front.committed c.args.fault never) in
    subst (λ (x : Shown g.row.D.Denot (Round g.row.L.Denot)). IsWhole g.D.Disk.tells g.L.Log.tells g.D.Disk.history g.L.Log.lines g.L.Log.available g.L.Log.answers g.L.Log.faults g.D.Stage.Stage.written g.D.Stage.Stage.sealed x s.load)
    (sym (c.report_unmade.ensures ∙ ap (λ (x : Shown g.row.D.Denot (Round g.row.L.Denot)). did x x.disk (entry.Unmade c.args.partition c.args.version c.cause_of_snapshot-cause.result ∷ [])) c.discard.ensures.did
    ∙ ap (λ (f : Cause). did mid d (entry.Unmade c.args.partition c.args.version f ∷ [])) c.cause_of_snapshot-cause.ensures)) last

pub returns-clause-did : goal.returns-clause-did
returns-clause-did g c =
    let s = c.self.inside in
    let d = c.discard.new.self.disk in
    let es = entry.Unmade c.args.partition c.args.version (cause_of_snapshot c.args.fault) ∷ [] in
    let all = c.report_unmade.ensures
    ∙ ap (λ (f : Cause). did c.discard.new.self d (entry.Unmade c.args.partition c.args.version f ∷ [])) c.cause_of_snapshot-cause.ensures
    ∙ ap (λ (x : Shown g.row.D.Denot (Round g.row.L.Denot)). did x d es) c.discard.ensures.did ∙ did_then s.ledger d d [] es in
    all ∙ ap (λ x. did s.ledger x es) (sym (ap (λ (x : Shown g.row.D.Denot (Round g.row.L.Denot)). x.disk) all))
    ∙ ap (λ (x : Shown g.row.D.Denot (Round g.row.L.Denot)). did x c.report_unmade.new.self.disk es) c.self.view_is
