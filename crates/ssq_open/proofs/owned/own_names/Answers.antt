use Rattle.std.proofs.Common.{subst}
use Rattle.std.proofs.lemmas.Result.{err_from_is_err_and}
use Rattle.ssq_outside.specs.Files.{Files, IsEmpty, AreNames}
use Rattle.ssq_outside.specs.History.{History, files_now}
use Rattle.ssq_store.proofs.Making.{if_some as of_some}
use Rattle.ssq_open.specs.Looking.{query_of, MetaRefuses}
use Rattle.ssq_open.specs.Spelled.{IsTheMeta}
use Rattle.ssq_open.proofs.Finding.{of_none}
use Rattle.ssq_open.proofs.Standings.{record_outside}
use Rattle.ssq_open.proofs.owned.own_names.Goals as goal

pub returns-in_err-kept_query-in-Some-clause-denied : goal.returns-in_err-kept_query-in-Some-clause-denied
returns-in_err-kept_query-in-Some-clause-denied g c = λ tells.
    let p = err_from_is_err_and c.from_residual-in_err-kept_query-in-Some.result c.from_residual-in_err-kept_query-in-Some.ensures.1 in
    let files : Files = files_now (g.D.Disk.history c.args.disk.now) in
    let R : History → Type 0 = λ h. MetaRefuses (query_of c.args.bound.now).text (query_of c.args.bound.now).streams (files_now h) c.in_err-kept_query-in-Some.field-0.0 in
    let some = of_some (λ _. IsEmpty files → ⊥) c.in_ok-names.field-0 c.in-Some.names c.in-Some.is (c.in_ok-names.ensures.some tells) in
    rw (p.1, p.2) (record { why = subst R (c.names_in.ensures.same tells) (rw c.len.ensures at (c.in_err-kept_query-in-Some.ensures.refused tells)); outside = λ empty. absurd (some empty) })

pub returns-in_err-kept_query-in-Some-clause-outside : goal.returns-in_err-kept_query-in-Some-clause-outside
returns-in_err-kept_query-in-Some-clause-outside g c = λ tells s job sought w ours.
    record_outside (query_of c.args.bound.now) s job (files_now (g.D.Disk.history c.args.disk.now)) sought w ours c.from_residual-in_err-kept_query-in-Some.result (returns-in_err-kept_query-in-Some-clause-denied g c tells)

pub returns-in_ok-kept_query-in-Some-clause-found : goal.returns-in_ok-kept_query-in-Some-clause-found
returns-in_ok-kept_query-in-Some-clause-found g c = λ tells.
    let files : Files = files_now (g.D.Disk.history c.args.disk.now) in
    let M : History → Type 0 = λ h. IsTheMeta (files_now h) c.in_ok-kept_query-in-Some.field-0 in (
      of_some (AreNames files) c.in_ok-names.field-0 c.in-Some.names c.in-Some.is (c.in_ok-names.ensures.names tells),
      record {
        meta = c.in_ok-kept_query-in-Some.field-0;
        is = subst M (c.names_in.ensures.same tells) (c.in_ok-kept_query-in-Some.ensures.kept tells);
        ours = rw c.len.ensures at c.in_ok-kept_query-in-Some.ensures.ours;
      },
    )

pub returns-in-None-clause-none : goal.returns-in-None-clause-none
returns-in-None-clause-none g c = λ tells. of_none (IsEmpty (files_now (g.D.Disk.history c.args.disk.now))) c.in_ok-names.field-0 c.in-None.is (c.in_ok-names.ensures.none tells)
