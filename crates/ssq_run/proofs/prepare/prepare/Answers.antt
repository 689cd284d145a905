use Rattle.std.proofs.Common.{map, string_bytes, subst, sym}
use Rattle.ssq_words.specs.Asking.{asked_of}
use Rattle.ssq_run.specs.declared.stop.Stop.{Stop}
use Rattle.ssq_run.specs.Prepared.{IsUnready}
use Rattle.ssq_run.proofs.Passing.{asked_unready, unread_unready}
use Rattle.ssq_run.proofs.prepare.prepare.Goals as goal

pub returns-in-Err-read_query-clause-unready : goal.returns-in-Err-read_query-clause-unready
returns-in-Err-read_query-clause-unready g c = λ told.
    unread_unready (g.I.Inputs.held c.args.inputs.now) (map string_bytes c.args.words.now) (asked_of c.in-Ok.command) c.in-Err-read_query.stop c.in-Ok.ensures.taken (c.in-Err-read_query.ensures.unread told)

pub returns-in-Err-clause-unready : goal.returns-in-Err-clause-unready
returns-in-Err-clause-unready g c = λ told.
    let U : Stop → Type 0 = IsUnready (g.I.Inputs.held c.args.inputs.now) (map string_bytes c.args.words.now) in
    subst U (sym c.from.ensures) (asked_unready (g.I.Inputs.held c.args.inputs.now) (map string_bytes c.args.words.now) c.in-Err.error c.in-Err.ensures.refused)
