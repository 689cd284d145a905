use Rattle.std.proofs.Common.{◌≡◌, false, Option, sym, subst, ◌∙◌}
use Rattle.std.specs.Prelude.{IsSomeAnd}
use Rattle.ssq_meaning.specs.Join.{is_left}
use Rattle.ssq_keys.proofs.ReadLemmas.{some_and_has}
use Rattle.ssq_step.specs.declared.rows.KeptRow.{KeptRow}
use Rattle.ssq_join.specs.Overs.{IsRead}
use Rattle.ssq_join.proofs.Alone.{is_read, kept_as}
use Rattle.ssq_join.proofs.over.take_alone.Goals as goal
use Rattle.ssq_time.proofs.Steps.{some_same}

pub returns-in_default-read-clause-told : goal.returns-in_default-read-clause-told
returns-in_default-read-clause-told c = λ row all kept key value tells.
    let each = c.in_ok-read.ensures.each (is_left row.stream) row.values false (kept_as c.args.bound.now c.args.joining.now row false kept c.args.key.now c.args.value.now key value) in
    absurd (subst (λ (o : Option KeptRow). IsSomeAnd o (IsRead row)) c.in_default-read.is (is_read row false c.in_ok-read.read each))

pub returns-clause-told : goal.returns-clause-told
returns-clause-told c = λ row all kept key value tells.
    let each = c.in_ok-read.ensures.each (is_left row.stream) row.values false (kept_as c.args.bound.now c.args.joining.now row false kept c.args.key.now c.args.value.now key value) in
    let read = some_and_has (IsRead row) c.in_ok-read.read c.in-Some-read.row c.in-Some-read.is (is_read row false c.in_ok-read.read each) in
    let own : c.in-Some.own ≡ row.key = some_same c.in-Some.own row.key (sym c.in-Some.is ∙ c.in_ok-own.ensures c.args.bound.now row kept key) in
    c.show_alone.ensures.told row all read (c.as_slice.ensures ∙ own) tells
