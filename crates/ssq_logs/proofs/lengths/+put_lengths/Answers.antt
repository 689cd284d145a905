use Rattle.std.proofs.Common.{rules, ℕ, ap, length, arith}
use Rattle.std.proofs.lemmas.Result.{err_from_is_err_and}
use Rattle.ssq_logs.specs.declared.fault.LengthFault.TheVariants.{Full, LogFault, NoMemory}
use Rattle.ssq_logs.specs.Asked.{IsAnswered}
use Rattle.ssq_logs.proofs.Asking.{asked_none, answered, asked_next, stopped_here, stopped_later}
use Rattle.ssq_logs.proofs.lengths.+put_lengths.Given.{Over}
use Rattle.ssq_logs.proofs.lengths.+put_lengths.Goals as goal
use Rattle.ssq_logs.proofs.lengths.+put_lengths.Goals.{After-put}

-- the first log was asked, and its answer was put
asked_log : (g : Over) (t : ℕ) (c : After-put g t) → IsAnswered g.L.Log.tells g.L.Log.lines g.L.Log.available g.L.Log.answers g.L.Log.faults c.in-Some.log.now c.lines.new.self c.in-Ok.lines
asked_log g t c =
    answered g.L.Log.tells g.L.Log.lines g.L.Log.available g.L.Log.answers g.L.Log.faults c.in-Some.log.now c.lines.new.self c.in-Ok.lines c.lines.ensures.same c.lines.ensures.grown c.in-Ok.ensures.found c.in-Ok.ensures.told c.lines.ensures.counted

pub returns-in_default-clause-asked : goal.returns-in_default-clause-asked
returns-in_default-clause-asked g t c = asked_none g.L.Log.tells g.L.Log.lines g.L.Log.available g.L.Log.answers g.L.Log.faults c.args.found.now.items c.args.logs.now (search rules)

pub returns-in_default-lines-clause-stopped : goal.returns-in_default-lines-clause-stopped
returns-in_default-lines-clause-stopped g t c =
    stopped_here g.L.Log.tells g.L.Log.lines g.L.Log.available g.L.Log.answers g.L.Log.faults (length c.args.found.now.items) c.in-Some.log.now c.lines.new.self c.args.logs.now c.in-Some.rest.now LogFault c.in-Some.ensures.cases.0
    (record { same = c.lines.ensures.same; grown = c.lines.ensures.grown; untold = c.in_default-lines.ensures.untold; counted = c.lines.ensures.counted; cause = c.in_default-lines.ensures.cause })

pub returns-then-lines-gt-MOST_LINES-clause-stopped : goal.returns-then-lines-gt-MOST_LINES-clause-stopped
returns-then-lines-gt-MOST_LINES-clause-stopped g t c =
    stopped_here g.L.Log.tells g.L.Log.lines g.L.Log.available g.L.Log.answers g.L.Log.faults (length c.args.found.now.items) c.in-Some.log.now c.lines.new.self c.args.logs.now c.in-Some.rest.now (Full (length c.as_slice.result.now) c.in-Ok.lines) c.in-Some.ensures.cases.0 (
      ap length c.as_slice.ensures.value,
      c.if-lines-gt-MOST_LINES.true,
      answered g.L.Log.tells g.L.Log.lines g.L.Log.available g.L.Log.answers g.L.Log.faults c.in-Some.log.now c.lines.new.self c.in-Ok.lines c.lines.ensures.same c.lines.ensures.grown c.in-Ok.ensures.found c.in-Ok.ensures.told c.lines.ensures.counted,
    )

pub returns-in_err-put-clause-stopped : goal.returns-in_err-put-clause-stopped
returns-in_err-put-clause-stopped g t c =
    let p = err_from_is_err_and c.from_residual.result c.from_residual.ensures.1 in rw (p.1, p.2)
    (stopped_here g.L.Log.tells g.L.Log.lines g.L.Log.available g.L.Log.answers g.L.Log.faults (length c.args.found.now.items) c.in-Some.log.now c.lines.new.self c.args.logs.now c.in-Some.rest.now NoMemory c.in-Some.ensures.cases.0
    (c.in-Ok.lines, asked_log g t (goal.at.returns-in_err-put-clause-stopped g t c).After-put))

pub returns-clause-asked : goal.returns-clause-asked
returns-clause-asked g t c =
    asked_next g.L.Log.tells g.L.Log.lines g.L.Log.available g.L.Log.answers g.L.Log.faults c.put_lengths.result c.args.found.now.items c.put.new.found.items c.put_lengths.new.found.items c.in-Some.log.now c.lines.new.self c.args.logs.now c.in-Some.rest.now c.put_lengths.new.logs c.in-Ok.lines c.in-Some.ensures.cases.0 c.in_ok-put.ensures
    (asked_log g t (goal.at.returns-clause-asked g t c).After-put) (let z = c.if-lines-gt-MOST_LINES.false in omega arith) c.put_lengths.ensures.asked

pub returns-clause-stopped : goal.returns-clause-stopped
returns-clause-stopped g t c =
    stopped_later g.L.Log.tells g.L.Log.lines g.L.Log.available g.L.Log.answers g.L.Log.faults c.put_lengths.result c.args.found.now.items c.put.new.found.items c.in-Some.log.now c.lines.new.self c.args.logs.now c.in-Some.rest.now c.put_lengths.new.logs c.in-Ok.lines c.in-Some.ensures.cases.0 c.in_ok-put.ensures
    (asked_log g t (goal.at.returns-clause-stopped g t c).After-put) (let z = c.if-lines-gt-MOST_LINES.false in omega arith) c.put_lengths.ensures.stopped
