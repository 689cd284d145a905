use Rattle.std.proofs.Common.{◌≡◌, ◌∙◌, [], ◌∷◌, Bool, true, false, true≢false, Option, Some, None, is_some, Result, Ok, Err, OnOk, IfErr, if◌then◌else◌, refl, sym, ap, subst}
use Rattle.ssq_outside.specs.Faults.{Rises}
use Rattle.ssq_board.specs.declared.front.Cause.{Cause}
use Rattle.ssq_board.specs.declared.front.Front.{Front}
use Rattle.ssq_board.specs.declared.front.Entry.TheVariants as entry
use Rattle.ssq_board.specs.Core.{May, is_stopped}
use Rattle.ssq_ledger.specs.Shown.{Shown, HasRisen, IsInOrder, answer, did}
use Rattle.ssq_desk.specs.declared.round.Round.{Round}
use Rattle.ssq_desk.specs.Published.{IsOut, brings}
use Rattle.ssq_desk.specs.Tasks.{out_id}
use Rattle.ssq_desk.proofs.Publishing.{rows_kept, commit_kept}
use Rattle.ssq_desk.proofs.Wholes.{did_then}
use Rattle.ssq_desk.proofs.desk.Desk.take_files.Goals as goal

pub publish_rows-requires-clause-rows : goal.publish_rows-requires-clause-rows
publish_rows-requires-clause-rows g c =
    rows_kept g.D.Disk.tells g.L.Log.tells g.D.Disk.history g.L.Log.lines g.D.Stage.Stage.sealed c.args.self.now c.report_out-2.new.self c.args.self.now.disk c.args.epoch None c.report_out-2.ensures.did c.args.rows c.requires.rows

pub publish_rows-requires-clause-commit : goal.publish_rows-requires-clause-commit
publish_rows-requires-clause-commit g c =
    commit_kept g.D.Disk.tells g.L.Log.tells g.D.Disk.history g.L.Log.lines g.D.Stage.Stage.sealed c.args.self.now c.report_out-2.new.self c.args.self.now.disk c.args.epoch None c.report_out-2.ensures.did c.args.pending c.requires.commit

-- whether it is stopped, as the code has it
stop_by : {D L : Type 0} (s x : Shown D (Round L)) (front : Front) (b : Bool) → s ≡ x → front ≡ s.core.front → b ≡ is_some front.stop → is_some x.core.front.stop ≡ b
stop_by {D} {L} s x front b same is told = sym (told ∙ ap (λ (f : Front). is_some f.stop) is ∙ ap (λ (y : Shown D (Round L)). is_some y.core.front.stop) same)

runs : (stop : Option Cause) → is_some stop ≡ false → stop ≡ None
runs None is = refl
runs (Some f) is = absurd (true≢false is)

brings_none : (stop : Option Cause) → is_some stop ≡ true → brings stop None ≡ false
brings_none None is = absurd (true≢false (sym is))
brings_none (Some f) is = refl

not_due : (stop more : Option Cause) → is_some stop ≡ true → (if is_stopped stop then None else more) ≡ None
not_due None more is = absurd (true≢false (sym is))
not_due (Some f) more is = refl

on_ok : {A B : Type 0} (result : Result (Unit {0}) Cause) → (A → B) → OnOk result A → OnOk result B
on_ok (Ok x) so is = so is
on_ok (Err f) so is = tt

if_err : {P Q : Cause → Type 0} (result : Result (Unit {0}) Cause) → ((f : Cause) → P f → Q f) → IfErr result P → IfErr result Q
if_err (Ok x) so is = tt
if_err (Err f) so is = so f is

pub report_out-requires-clause-may : goal.report_out-requires-clause-may
report_out-requires-clause-may g c = c.requires.may

pub report_out-requires-2-clause-may : goal.report_out-requires-2-clause-may
report_out-requires-2-clause-may g c = c.requires.may

pub publish_rows-requires-clause-may : goal.publish_rows-requires-clause-may
publish_rows-requires-clause-may g c =
    let x = c.args.self.now in
    let order = subst (λ (s : Shown g.row.D.Denot (Round g.row.L.Denot)). IsInOrder s.scope s.core) c.self.view_is c.is_in_order.ensures in
    subst (λ (s : Shown g.row.D.Denot (Round g.row.L.Denot)). May s.scope s.core (entry.OutFile s.core.front.committed)) (sym c.report_out-2.ensures.did)
    (order.brings c.args.epoch (runs x.core.front.stop (stop_by _ _ _ _ c.self.view_is c.front.ensures c.is_some.ensures ∙ c.if-is_some.false)) c.requires.may)

pub returns-then-is_some-clause-out : goal.returns-then-is_some-clause-out
returns-then-is_some-clause-out g c =
    let x = c.args.self.now in
    let now = c.report_out.new.self in
    let es = entry.Report (out_id c.args.epoch) None ∷ [] in
    let here = c.report_out.ensures.did ∙ ap (λ d. did x d es) (sym (ap (λ (s : Shown g.row.D.Denot (Round g.row.L.Denot)). s.disk) c.report_out.ensures.did)) in
    subst (λ (b : Bool). IsOut b x now (out_id c.args.epoch) None c.report_out.result (Rises (g.D.Disk.faults x.disk) (g.D.Disk.faults now.disk))) (sym (brings_none x.core.front.stop (stop_by _ _ _ _ c.self.view_is c.front.ensures c.is_some.ensures ∙ c.if-is_some.true)))
    (here, c.report_out.ensures.answer)

pub returns-then-is_some-clause-cause : goal.returns-then-is_some-clause-cause
returns-then-is_some-clause-cause g c =
    let x = c.args.self.now in
    subst (λ (r : Result (Unit {0}) Cause). IfErr r (λ f. HasRisen f (g.D.Disk.faults x.disk) (g.D.Disk.faults c.report_out.new.self.disk)))
    (sym (c.report_out.ensures.answer ∙ ap answer (not_due x.core.front.stop _ (stop_by _ _ _ _ c.self.view_is c.front.ensures c.is_some.ensures ∙ c.if-is_some.true)))) tt

pub returns-clause-out : goal.returns-clause-out
returns-clause-out g c =
    let x = c.args.self.now in
    let now = c.publish_rows.new.self in
    let result = c.publish_rows.result in
    let told = entry.Report (out_id c.args.epoch) None ∷ [] in
    let back = c.report_out-2.ensures.did in
    subst (λ (stop : Option Cause). IsOut (brings stop None) x now (out_id c.args.epoch) None result (Rises (g.D.Disk.faults x.disk) (g.D.Disk.faults now.disk))) (sym (runs x.core.front.stop (stop_by _ _ _ _ c.self.view_is c.front.ensures c.is_some.ensures ∙ c.if-is_some.false))) (
      on_ok result (λ done. done ∙ ap (λ (s : Shown g.row.D.Denot (Round g.row.L.Denot)). did s now.disk (entry.OutFile s.core.front.committed ∷ [])) back ∙ did_then x x.disk now.disk told (entry.OutFile x.core.front.committed ∷ [])) c.publish_rows.ensures.done,
      if_err result
          (λ f stopped. (
            stopped.0,
            stopped.1 ∙ ap (λ (s : Shown g.row.D.Denot (Round g.row.L.Denot)). did s now.disk (entry.Stop f ∷ [])) back ∙ did_then x x.disk now.disk told (entry.Stop f ∷ []),
            subst (λ (s : Shown g.row.D.Denot (Round g.row.L.Denot)). Rises (g.D.Disk.faults s.disk) (g.D.Disk.faults now.disk)) back stopped.2,
          ))
          c.publish_rows.ensures.stopped,
    )

pub returns-clause-cause : goal.returns-clause-cause
returns-clause-cause g c =
    let x = c.args.self.now in
    let now = c.publish_rows.new.self in
    if_err c.publish_rows.result
    (λ f stopped. subst (λ (h : Cause). HasRisen h (g.D.Disk.faults x.disk) (g.D.Disk.faults now.disk)) (sym stopped.0)
    (subst (λ (s : Shown g.row.D.Denot (Round g.row.L.Denot)). Rises (g.D.Disk.faults s.disk) (g.D.Disk.faults now.disk)) c.report_out-2.ensures.did stopped.2))
    c.publish_rows.ensures.stopped
