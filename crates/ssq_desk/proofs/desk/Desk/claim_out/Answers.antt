use Rattle.std.proofs.Common.{List, ◌≡◌, ◌++◌, ℕ, true≢false, is_some, map, length, refl, sym, ap, ◌∙◌, subst, arith}
use Rattle.std.specs.Prelude.{All}
use Rattle.std.specs.Vec.{with_items}
use Rattle.std.proofs.lemmas.List.{with_items_is}
use Rattle.std.proofs.lemmas.Option.{same_Some}
use Rattle.ssq_time.specs.Time.{IsStampTime}
use Rattle.ssq_value.specs.Kind.{IfTime}
use Rattle.ssq_meaning.specs.Times.{later}
use Rattle.ssq_meaning.specs.Epochs.{joined}
use Rattle.ssq_meaning.specs.Meaning.{Values}
use Rattle.ssq_water.specs.Water.{seen_at}
use Rattle.ssq_outside.specs.declared.gate.Kind.TheVariants as kind
use Rattle.ssq_board.specs.declared.front.Cause.TheVariants as cause
use Rattle.ssq_board.specs.declared.front.Entry.TheVariants as entry
use Rattle.ssq_core.specs.Course.{Cuts}
use Rattle.ssq_board.specs.Core.{May, after}
use Rattle.ssq_task.specs.declared.out.OutTask.{OutTask}
use Rattle.ssq_ledger.specs.Shown.{Shown, cuts_of}
use Rattle.ssq_terms.specs.Rows.{AreShown}
use Rattle.ssq_desk.specs.declared.desk.Load.{Load}
use Rattle.ssq_desk.specs.declared.desk.OutWork.{OutWork}
use Rattle.ssq_desk.specs.declared.desk.Share.{Share}
use Rattle.ssq_desk.specs.declared.desk.PartLog.{PartLog}
use Rattle.ssq_desk.specs.declared.round.Round.{Round}
use Rattle.ssq_desk.specs.Round.{setting_of, Owns}
use Rattle.ssq_desk.specs.Contents.{IsOutWork}
use Rattle.ssq_desk.specs.Handing.{CanRaise, time_in_part_logs}
use Rattle.ssq_desk.specs.Handed.{IsOutOf}
use Rattle.ssq_desk.specs.Tasks.{IsOutTask, out_id}
use Rattle.ssq_desk.specs.Whole.{IsWhole, HoldsIn, opening_in}
use Rattle.ssq_desk.proofs.Handing.{out_here, out_claimed, moved_whole, runs_without, after_claim, may_report}
use Rattle.ssq_desk.proofs.desk.Desk.claim_out.Goals as goal

pub raise_all-requires : goal.raise_all-requires
raise_all-requires g c =
    let s = c.self.inside in
    let m = subst (λ (x : Shown g.row.D.Denot (Round g.row.L.Denot)). May x.scope x.core (entry.Claim c.args.id)) (sym c.self.view_is) c.requires.may in
    let h = out_here _ _ _ _ _ _ _ _ _ _ _ c.self.invariant c.is_legal.ensures.legal c.is_in_order.ensures c.args.id c.requires.out.0 c.requires.out.1 m in
    let same = same_Some h.work c.in-Some.work (sym h.here ∙ sym c.replace.ensures.value ∙ c.in-Some.is) in
    subst (λ (w : OutWork g.row.D-Stage.Denot g.row.D-Stage-Sealed.Denot). CanRaise (length w.seen) c.as_slice.result.now) same
    (subst (λ (l : List (PartLog g.row.L.Denot)). CanRaise (length h.work.seen) l) (sym c.as_slice.ensures.value) h.raise)

pub invariant_of-self : goal.invariant_of-self
invariant_of-self g c =
    let s = c.self.inside in
    let more = c.take_rows.new.shares in
    let count = c.take_rows.ensures.count ∙ ap length c.deref_mut.ensures.value in
    let items : (with_items s.load.shares more).items ≡ more = with_items_is s.load.shares more (count ∙ sym s.load.shares.ok.0) in
    let n : Load g.row.L.Denot g.row.D-Stage.Denot g.row.D-Stage-Sealed.Denot = record { view = s.load.view; plans = s.load.plans; part_logs = s.load.part_logs; shares = with_items s.load.shares more; held = s.load.held; out = c.replace.new.dest; seen = s.load.seen; pending = s.load.pending; told = s.load.told; kept = s.load.kept } in
    let held = out_claimed _ _ _ _ _ _ _ _ _ _ _ c.self.invariant c.is_legal.ensures.legal c.is_in_order.ensures c.args.id more c.replace.new.dest c.requires.out.0 c.requires.out.1 (subst (λ (x : Shown g.row.D.Denot (Round g.row.L.Denot)). May x.scope x.core (entry.Claim c.args.id)) (sym c.self.view_is) c.requires.may) (c.take_rows.ensures.keys ∙ ap (map (λ (x : Share g.row.D-Stage.Denot). x.key)) c.deref_mut.ensures.value) in
    subst (λ (x : Shown g.row.D.Denot (Round g.row.L.Denot)). IsWhole g.D.Disk.tells g.L.Log.tells g.D.Disk.history g.L.Log.lines g.L.Log.available g.L.Log.answers g.L.Log.faults g.D.Stage.Stage.written g.D.Stage.Stage.sealed x n) (sym c.claim.ensures)
    (moved_whole _ _ _ _ _ _ _ _ _ s.ledger s.load c.self.invariant s.ledger.disk (entry.Claim c.args.id) n (λ cuts m. refl) refl refl refl refl c.self.invariant.told c.self.invariant.told_room
    (λ e. absurd (runs_without s.ledger.core.front.stop cause.LogFault (subst (λ (x : Shown g.row.D.Denot (Round g.row.L.Denot)). May x.scope x.core (entry.Claim c.args.id)) (sym c.self.view_is) c.requires.may).0 e))
    (subst (λ (l : List (Share g.row.D-Stage.Denot)). HoldsIn g.D.Disk.tells g.L.Log.tells g.D.Disk.history g.L.Log.lines g.L.Log.available g.L.Log.answers g.L.Log.faults g.D.Stage.Stage.written g.D.Stage.Stage.sealed s.ledger (cuts_of (opening_in g.L.Log.lines) s.ledger)
    (after s.ledger.scope s.ledger.core (entry.Claim c.args.id)) s.load.part_logs.items l s.load.held.items c.replace.new.dest s.load.seen s.load.pending) (sym items) held))

pub returns-clause-task : goal.returns-clause-task
returns-clause-task g c =
    let s = c.self.inside in
    let m = subst (λ (x : Shown g.row.D.Denot (Round g.row.L.Denot)). May x.scope x.core (entry.Claim c.args.id)) (sym c.self.view_is) c.requires.may in
    let h = out_here _ _ _ _ _ _ _ _ _ _ _ c.self.invariant c.is_legal.ensures.legal c.is_in_order.ensures c.args.id c.requires.out.0 c.requires.out.1 m in
    let same = same_Some h.work c.in-Some.work (sym h.here ∙ sym c.replace.ensures.value ∙ c.in-Some.is) in
    let is = subst (λ (w : OutWork g.row.D-Stage.Denot g.row.D-Stage-Sealed.Denot). IsOutWork (Owns g.D.Disk.tells g.L.Log.tells g.D.Disk.history g.L.Log.lines s.ledger) g.D.Stage.Stage.written (setting_of g.L.Log.lines s.ledger.opening) (cuts_of (opening_in g.L.Log.lines) s.ledger) s.ledger.core.front.committed w) same h.is in
    let rows : map (λ v. v.items) c.take_rows.new.into.items ≡ map (λ (x : Share g.row.D-Stage.Denot). x.rows.items) s.load.shares.items = c.take_rows.ensures.rows ∙ (λ i. map (λ v. v.items) (is.none i) ++ map (λ (x : Share g.row.D-Stage.Denot). x.rows.items) (c.deref_mut.ensures.value i)) in
    let handed : OutTask g.row.D-Stage.Denot g.row.D-Stage-Sealed.Denot = (record { view = s.load.view; epoch = c.args.id.epoch; seen = c.raise_all.new.seen; rows = c.take_rows.new.into; stages = c.in-Some.work.stages }) in
    subst (λ (x : Shown g.row.D.Denot (Round g.row.L.Denot)). IsOutOf g.D.Disk.tells g.L.Log.tells g.D.Disk.history g.L.Log.lines g.D.Stage.Stage.written x handed) (sym c.claim.ensures)
    (after_claim g.L.Log.lines s.ledger s.ledger.disk c.args.id (λ (cuts : Cuts). IsOutTask (Owns g.D.Disk.tells g.L.Log.tells g.D.Disk.history g.L.Log.lines s.ledger) g.D.Stage.Stage.written (setting_of g.L.Log.lines s.ledger.opening) cuts s.ledger.core.front.committed handed)
    (record {
      view = c.self.invariant.view;
      epoch = m.2;
      times = record {
        streams = c.raise_all.ensures.streams ∙ is.times.streams;
        are = λ y stream. c.raise_all.ensures.times stream ∙ (λ i. later (seen_at ((sym same i).seen) stream) (time_in_part_logs stream (c.as_slice.ensures.value i))) ∙ h.times y stream;
      };
      printable = subst (λ (l : List (List Values)). All (All (IfTime IsStampTime)) (joined l)) (sym rows) h.printable;
      rows = λ y. subst (λ (l : List (List Values)). AreShown (setting_of g.L.Log.lines s.ledger.opening) (cuts_of (opening_in g.L.Log.lines) s.ledger) s.ledger.core.front.committed l) (sym rows) (h.rows y);
      rows_empty = is.rows_empty;
      commit_empty = is.commit_empty;
    }))

pub returns-clause-back : goal.returns-clause-back
returns-clause-back g c fault =
    let s = c.self.inside in
    let m = subst (λ (x : Shown g.row.D.Denot (Round g.row.L.Denot)). May x.scope x.core (entry.Claim c.args.id)) (sym c.self.view_is) c.requires.may in
    subst (λ (x : Shown g.row.D.Denot (Round g.row.L.Denot)). May x.scope x.core (entry.Report (out_id c.args.id.epoch) fault)) (sym c.claim.ensures) (subst (λ (n : ℕ). May s.ledger.scope (after s.ledger.scope s.ledger.core (entry.Claim c.args.id)) (entry.Report (record { epoch = c.args.id.epoch; kind = kind.Out; number = n }) fault)) c.requires.out.1 (may_report s.ledger.scope s.ledger.core c.args.id kind.Out fault c.requires.out.0 m))

-- its work is there
pub unreachable-requires : goal.unreachable-requires
unreachable-requires g c =
    let m = subst (λ (x : Shown g.row.D.Denot (Round g.row.L.Denot)). May x.scope x.core (entry.Claim c.args.id)) (sym c.self.view_is) c.requires.may in
    let h = out_here _ _ _ _ _ _ _ _ _ _ _ c.self.invariant c.is_legal.ensures.legal c.is_in_order.ensures c.args.id c.requires.out.0 c.requires.out.1 m in
    true≢false (ap is_some (sym h.here ∙ sym c.replace.ensures.value ∙ c.in_default.is))

pub take_rows-requires : goal.take_rows-requires
take_rows-requires g c =
    let s = c.self.inside in
    let m = subst (λ (x : Shown g.row.D.Denot (Round g.row.L.Denot)). May x.scope x.core (entry.Claim c.args.id)) (sym c.self.view_is) c.requires.may in
    let h = out_here _ _ _ _ _ _ _ _ _ _ _ c.self.invariant c.is_legal.ensures.legal c.is_in_order.ensures c.args.id c.requires.out.0 c.requires.out.1 m in
    let same = same_Some h.work c.in-Some.work (sym h.here ∙ sym c.replace.ensures.value ∙ c.in-Some.is) in
    let is = subst (λ (w : OutWork g.row.D-Stage.Denot g.row.D-Stage-Sealed.Denot). IsOutWork (Owns g.D.Disk.tells g.L.Log.tells g.D.Disk.history g.L.Log.lines s.ledger) g.D.Stage.Stage.written (setting_of g.L.Log.lines s.ledger.opening) (cuts_of (opening_in g.L.Log.lines) s.ledger) s.ledger.core.front.committed w) same h.is in
    let none = ap length is.none in
    let count = ap length c.deref_mut.ensures.value in
    let all = c.self.invariant.holds.partitions in
    let room = is.room in
    omega (arith, none, count, all, room)
