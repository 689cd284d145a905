use Rattle.std.proofs.Common.{◌≡◌, ◌≤◌, ◌∙◌, [], Option, length, sym, ap, subst, arith}
use Rattle.std.specs.Vec.{with_items}
use Rattle.std.proofs.lemmas.List.{with_items_is}
use Rattle.ssq_ledger.specs.Shown.{Shown, did}
use Rattle.ssq_desk.specs.declared.desk.Load.{Load}
use Rattle.ssq_desk.specs.declared.desk.OutWork.{OutWork}
use Rattle.ssq_desk.proofs.Upkeeps.{did_still}
use Rattle.ssq_desk.proofs.Wholes.{did_nothing}
use Rattle.ssq_desk.proofs.make.drop_files.Goals as goal
use Rattle.ssq_desk.proofs.make.drop_files.Goals.{in-Some, in_default}

pub returns-clause-did : goal.returns-clause-did
returns-clause-did g c =
    let old = c.args.ledger.now in
    let mid = c.match-replace.ledger in
    let first : mid ≡ did old mid.disk [] = elim c.match-replace.branch [
      | in-Some w ↦ subst (λ (x : Shown g.row.D.Denot g.row.O.Denot). x ≡ did old x.disk []) (sym w.ledger-is) w.discard_stages.ensures.did
      | in_default w ↦ subst (λ (x : Shown g.row.D.Denot g.row.O.Denot). x ≡ did old x.disk []) (sym w.ledger-is) (did_nothing old)
    ] in
    did_still old mid c.discard_deltas.new.ledger first c.discard_deltas.ensures.did

pub returns-clause-same : goal.returns-clause-same
returns-clause-same g c = λ tells.
    let history : Shown g.row.D.Denot g.row.O.Denot → _ = λ x. g.D.Disk.history x.disk in
    let first : history c.match-replace.ledger ≡ history c.args.ledger.now = elim c.match-replace.branch [
      | in-Some w ↦ ap history w.ledger-is ∙ w.discard_stages.ensures.same tells
      | in_default w ↦ ap history w.ledger-is
    ] in
    c.discard_deltas.ensures.same tells ∙ first

pub returns-clause-counted : goal.returns-clause-counted
returns-clause-counted g c =
    let first : g.D.Disk.faults c.args.ledger.now.disk ≤ g.D.Disk.faults c.match-replace.ledger.disk = elim c.match-replace.branch [
      | in-Some w ↦ rw w.ledger-is w.discard_stages.ensures.counted
      | in_default w ↦ rw w.ledger-is (omega arith)
    ] in
    let later = c.discard_deltas.ensures.counted in
    omega (arith, first, later)

pub returns-clause-count : goal.returns-clause-count
returns-clause-count g c =
    let old = c.args.load.now.shares in
    let same = c.discard_deltas.ensures.count ∙ ap length c.deref_mut.ensures.value in
    ap length (with_items_is old c.discard_deltas.new.shares (same ∙ sym old.ok.0)) ∙ same

pub returns-clause-kept : goal.returns-clause-kept
returns-clause-kept g c =
    let old = c.args.load.now in
    let shares = with_items old.shares c.discard_deltas.new.shares in
    let loaded : Option (OutWork g.row.D-Stage.Denot g.row.D-Stage-Sealed.Denot) → Load g.row.L.Denot g.row.D-Stage.Denot g.row.D-Stage-Sealed.Denot = λ out.
    record { view = old.view; plans = old.plans; part_logs = old.part_logs; shares = shares; held = old.held; out = out; seen = old.seen; pending = old.pending; told = old.told; kept = old.kept } in
    ap loaded {x = c.replace.new.dest} c.replace.ensures.after
