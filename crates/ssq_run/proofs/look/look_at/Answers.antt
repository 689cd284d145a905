use Rattle.std.proofs.Common.{refl, ap, subst}
use Rattle.ssq_words.specs.Asking.{asks_show, asks_status, asks_gen}
use Rattle.ssq_run.specs.declared.prepare.Look.{Look}
use Rattle.ssq_run.specs.Prepared.{IsLook}
use Rattle.ssq_run.specs.Program.{has_shown, has_looked, has_generated}
use Rattle.ssq_run.proofs.Passing.{told_as, explained_end}
use Rattle.ssq_run.proofs.look.look_at.Goals as goal

pub returns-in-Table-clause-told : goal.returns-in-Table-clause-told
returns-in-Table-clause-told g c = λ tells returned what is.
    let I : Look → Type 0 = λ look. IsLook look what in
    let own = subst I c.in-Table.is is in
    let end = c.shown.ensures.shown tells in
    told_as c.args.bound.now g.O.Output.tells _ _ what (asks_show own.0) own.1 (has_shown own.0 (c.shown.ensures.same tells) refl c.shown.ensures.text end.0 end.1 end.2)

pub returns-in-Query-clause-told : goal.returns-in-Query-clause-told
returns-in-Query-clause-told g c = λ tells returned what is.
    let I : Look → Type 0 = λ look. IsLook look what in
    let own = subst I c.in-Query.is is in
    told_as c.args.bound.now g.O.Output.tells _ _ what _ own.1
    (explained_end c.args.bound.now g.O.Output.tells _ own.0 c.explained.result.end (record { still = ap g.D.Disk.history c.explained.ensures.same; none_back = refl; unwritten = refl }) c.explained.ensures.told c.explained.ensures.starved)

pub returns-in-Checkpoint-clause-told : goal.returns-in-Checkpoint-clause-told
returns-in-Checkpoint-clause-told g c = λ tells returned what is.
    let I : Look → Type 0 = λ look. IsLook look what in
    let own = subst I c.in-Checkpoint.is is in
    told_as c.args.bound.now g.O.Output.tells _ _ what (asks_status own.0) own.1 (has_looked own.0 (record { still = c.looked.ensures.same tells; none_back = refl; unwritten = refl }) (c.looked.ensures.looked tells))

pub returns-in-Generated-clause-told : goal.returns-in-Generated-clause-told
returns-in-Generated-clause-told g c = λ tells returned what is.
    let I : Look → Type 0 = λ look. IsLook look what in
    told_as c.args.bound.now g.O.Output.tells _ _ what (asks_gen c.in-Generated.number c.in-Generated.lines) (subst I c.in-Generated.is is)
    (has_generated c.in-Generated.number c.in-Generated.lines (record { still = ap g.D.Disk.history c.generated.ensures.same; none_back = refl; unwritten = refl }) c.generated.ensures.ended)
