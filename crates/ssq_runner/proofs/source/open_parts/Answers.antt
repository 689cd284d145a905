use Rattle.std.proofs.Common.{◌++◌, ◌∙◌, ℕ, List, [], map, sym, ap, subst, arith}
use Rattle.ssq_logs.specs.Opened.{parts_of, AreLogsOf}
use Rattle.ssq_runner.proofs.Sourcing.{each_log, err_any, logs_before, none_answered}
use Rattle.ssq_logs.specs.Went.{returned_with}
use Rattle.ssq_runner.specs.Sources.{CameUnasked}
use Rattle.ssq_runner.proofs.source.open_parts.Goals as goal

pub returns-in-Ok-clause-logs : goal.returns-in-Ok-clause-logs
returns-in-Ok-clause-logs g c =
    let opened = c.in-Ok.ensures.opened in
    let all = opened.behind ∙ ap (λ (l : List g.row.I-Log.Denot). l ++ opened.more) c.in_ok-logs.ensures.empty in
    logs_before g.I.Inputs.tells g.I.Log.Log.lines g.I.Log.Log.available g.I.Log.Log.answers g.I.Log.Log.faults (g.I.Inputs.held c.args.inputs.now) (g.I.Inputs.held c.count_parts.new.inputs) (g.I.Inputs.available c.args.inputs.now) (g.I.Inputs.available c.count_parts.new.inputs)
    (parts_of c.args.streams.now c.in_ok-counts.counts) c.open_logs.new.logs.items c.count_parts.ensures.inputs.same c.count_parts.ensures.inputs.grown
    (subst (AreLogsOf g.I.Inputs.tells g.I.Log.Log.lines g.I.Log.Log.available g.I.Log.Log.answers g.I.Log.Log.faults (g.I.Inputs.held c.count_parts.new.inputs) (g.I.Inputs.available c.count_parts.new.inputs) (parts_of c.args.streams.now c.in_ok-counts.counts)) (sym all)
    (subst (λ (counts : List ℕ). AreLogsOf g.I.Inputs.tells g.I.Log.Log.lines g.I.Log.Log.available g.I.Log.Log.answers g.I.Log.Log.faults (g.I.Inputs.held c.count_parts.new.inputs) (g.I.Inputs.available c.count_parts.new.inputs) (parts_of c.args.streams.now counts) opened.more) c.as_slice-2.ensures opened.are))

pub returns-in-Ok-clause-log_each : goal.returns-in-Ok-clause-log_each
returns-in-Ok-clause-log_each g c =
    let opened = c.in-Ok.ensures.opened in
    let all = opened.behind ∙ ap (λ (l : List g.row.I-Log.Denot). l ++ opened.more) c.in_ok-logs.ensures.empty in
    each_log g.I.Inputs.tells g.I.Log.Log.lines g.I.Log.Log.available g.I.Log.Log.answers g.I.Log.Log.faults (g.I.Inputs.held c.count_parts.new.inputs) (g.I.Inputs.available c.count_parts.new.inputs) c.args.streams.now c.in_ok-counts.counts c.open_logs.new.logs.items
    c.in_ok-counts.ensures.each
    (subst (AreLogsOf g.I.Inputs.tells g.I.Log.Log.lines g.I.Log.Log.available g.I.Log.Log.answers g.I.Log.Log.faults (g.I.Inputs.held c.count_parts.new.inputs) (g.I.Inputs.available c.count_parts.new.inputs) (parts_of c.args.streams.now c.in_ok-counts.counts)) (sym all)
    (subst (λ (counts : List ℕ). AreLogsOf g.I.Inputs.tells g.I.Log.Log.lines g.I.Log.Log.available g.I.Log.Log.answers g.I.Log.Log.faults (g.I.Inputs.held c.count_parts.new.inputs) (g.I.Inputs.available c.count_parts.new.inputs) (parts_of c.args.streams.now counts) opened.more) c.as_slice-2.ensures opened.are))

pub returns-in_err-counts-clause-unasked : goal.returns-in_err-counts-clause-unasked
returns-in_err-counts-clause-unasked g c = λ told.
    let came : CameUnasked (g.I.Inputs.returned c.args.inputs.now) (g.I.Inputs.returned c.count_parts.new.inputs) = ([], c.count_parts.ensures.inputs.given told) in err_any _ came

pub returns-in_err-logs-clause-unasked : goal.returns-in_err-logs-clause-unasked
returns-in_err-logs-clause-unasked g c = λ told.
    let came : CameUnasked (g.I.Inputs.returned c.args.inputs.now) (g.I.Inputs.returned c.count_parts.new.inputs) = ([], c.count_parts.ensures.inputs.given told) in err_any _ came

pub returns-in-Err-clause-unasked : goal.returns-in-Err-clause-unasked
returns-in-Err-clause-unasked g c = λ told.
    let up_to = c.in-Err.ensures.stopped in
    let opened = up_to.opened in
    let before = g.I.Inputs.returned c.open_logs.new.inputs in (
      up_to.first,
      c.give_back.ensures.inputs.given told
          ∙ ap (λ (l : List g.row.I-Log.Denot). returned_with (map g.I.Log.Log.answers l) before) (opened.behind ∙ ap (λ (l : List g.row.I-Log.Denot). l ++ opened.more) c.in_ok-logs.ensures.empty)
          ∙ ap (λ (l : List (List ℕ)). returned_with l before) (none_answered g.I.Inputs.tells g.I.Log.Log.lines g.I.Log.Log.available g.I.Log.Log.answers g.I.Log.Log.faults _ _ up_to.first opened.more told opened.are)
          ∙ ap (returned_with (map (λ _. []) up_to.first)) (c.open_logs.ensures.inputs.given told ∙ c.count_parts.ensures.inputs.given told),
    )

pub returns-in-Err-clause-grown : goal.returns-in-Err-clause-grown
returns-in-Err-clause-grown g c = λ told stream part.
    (let a = c.count_parts.ensures.inputs.grown told stream part in let b = c.open_logs.ensures.inputs.grown told stream part in let d = c.give_back.ensures.inputs.grown told stream part in omega (arith, a, b, d))

pub returns-in-Ok-clause-grown : goal.returns-in-Ok-clause-grown
returns-in-Ok-clause-grown g c = λ told stream part. (let a = c.count_parts.ensures.inputs.grown told stream part in let b = c.open_logs.ensures.inputs.grown told stream part in omega (arith, a, b))
