use Rattle.std.proofs.Common.{◌∙◌, [], Option, Some, refl, ap, sym, subst}
use Rattle.ssq_outside.specs.Files.{IsEmpty}
use Rattle.ssq_outside.specs.History.{History, files_now}
use Rattle.ssq_fakes.specs.Disks.{disk_history}
use Rattle.ssq_run.specs.declared.stop.Stop.{Stop}
use Rattle.ssq_run.specs.Generated.{GenEnd, in_memory}
use Rattle.ssq_run.specs.Stopping.{stop_in}
use Rattle.ssq_run.proofs.Generating.{can_show, gen_bad, gen_told}
use Rattle.ssq_run.proofs.Making.{AfterRun, gen_run, nothing_there}
use Rattle.ssq_run.proofs.generate.generate.Given.{Over}
use Rattle.ssq_run.proofs.generate.generate.Goals as goal
use Rattle.ssq_run.proofs.generate.generate.Goals.{After-named-disk}

-- how its run ended
run_so : (g : Over) (c : goal.After-named-disk g) → AfterRun c.args.bound.now c.args.number c.args.lines (files_now (disk_history c.named-disk.result.disk)) (stop_in c.named-disk.result.end)
run_so g c =
    let E : History → Type 0 = λ h. IsEmpty (files_now h) in
    let A : History → Type 0 = λ h. AfterRun c.args.bound.now c.args.number c.args.lines (files_now h) (stop_in c.named-disk.result.end) in
    subst A (ap disk_history (sym c.named-disk.ensures.disk))
    (gen_run _ _ _ _ _ _ _ _ _ c.args.bound.now _ _ _ _ _ _ _ _ _ _ _ (stop_in c.named-disk.result.end) c.run_query-ran.ensures.end c.named-disk.ensures.told tt (tt, tt) (λ log. refl) c.runs_go_on.ensures.goes_on c.runs_go_on.ensures.no_limit
    c.args.number c.args.lines c.in_ok-inputs.ensures.held c.requires.lines.1 c.requires.can.few_streams (subst E (sym c.new.ensures.history) nothing_there))

pub returns-in-Err-clause-stop : goal.returns-in-Err-clause-stop
returns-in-Err-clause-stop g c =
    let A : Option Stop → Type 0 = AfterRun c.args.bound.now c.args.number c.args.lines (files_now (disk_history c.named-disk.result.disk)) in
    let G : Stop → Type 0 = λ why. GenEnd c.args.bound.now c.args.number c.args.lines [] (Some why) in
    subst G (sym c.in_memory-in-Err.ensures) (subst A (ap stop_in c.in-Err.is) (run_so g (goal.at.returns-in-Err-clause-stop g c).After-named-disk))

pub returns-in-Ok-counted-clause-told : goal.returns-in-Ok-counted-clause-told
returns-in-Ok-counted-clause-told g c =
    let A : Option Stop → Type 0 = AfterRun c.args.bound.now c.args.number c.args.lines (files_now (disk_history c.named-disk.result.disk)) in
    let told = c.in-Ok-counted.ensures.told in
    gen_told c.args.bound.now c.args.number c.args.lines (files_now (disk_history c.named-disk.result.disk)) told.0 _
    (subst A (ap stop_in c.in-Ok.is) (run_so g (goal.at.returns-in-Ok-counted-clause-told g c).After-named-disk)) told.1 told.2

pub returns-in-Err-counted-clause-stop : goal.returns-in-Err-counted-clause-stop
returns-in-Err-counted-clause-stop g c =
    let A : Option Stop → Type 0 = AfterRun c.args.bound.now c.args.number c.args.lines (files_now (disk_history c.named-disk.result.disk)) in
    let G : Stop → Type 0 = λ why. GenEnd c.args.bound.now c.args.number c.args.lines [] (Some why) in
    subst G (sym (c.in_memory.ensures ∙ ap in_memory c.from.ensures))
    (gen_bad c.args.bound.now c.args.number c.args.lines (files_now (disk_history c.named-disk.result.disk)) c.in-Err-counted.fault (subst A (ap stop_in c.in-Ok.is) (run_so g (goal.at.returns-in-Err-counted-clause-stop g c).After-named-disk))
    c.checkpoints_hold_tables.ensures (can_show c.args.bound.now c.requires.known c.queries_are_typed.ensures c.queries_read_their_streams.ensures) c.in-Err-counted.ensures.bad)
