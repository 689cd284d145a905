use Rattle.std.proofs.Common.{subst, sym}
use Rattle.std.proofs.lemmas.Result.{err_from_is_err_and}
use Rattle.ssq_outside.specs.Files.{Files, IsEmpty, AreNames}
use Rattle.ssq_outside.specs.History.{History, files_now}
use Rattle.ssq_store.proofs.Making.{if_some as of_some}
use Rattle.ssq_open.specs.Looking.{query_of, Denies, Holds}
use Rattle.ssq_open.proofs.Finding.{of_none}
use Rattle.ssq_open.proofs.Standings.{look_outside}
use Rattle.ssq_open.proofs.looking.look.Goals as goal

pub returns-in_err-held-in-Some-clause-denied : goal.returns-in_err-held-in-Some-clause-denied
returns-in_err-held-in-Some-clause-denied g c = λ tells.
    let p = err_from_is_err_and c.from_residual-in_err-held-in-Some.result c.from_residual-in_err-held-in-Some.ensures.1 in
    let files : Files = files_now (g.D.Disk.history c.args.disk.now) in
    let A : History → Type 0 = λ h. AreNames (files_now h) c.in-Some.names in
    let R : History → Type 0 = λ h. Denies (query_of c.args.bound.now) (files_now h) c.in_err-held-in-Some.field-0.0 in
    let same = c.names_in.ensures.same tells in
    let are = of_some (AreNames files) c.in_ok-names.field-0 c.in-Some.names c.in-Some.is (c.in_ok-names.ensures.names tells) in
    let some = of_some (λ _. IsEmpty files → ⊥) c.in_ok-names.field-0 c.in-Some.names c.in-Some.is (c.in_ok-names.ensures.some tells) in
    rw (p.1, p.2) (record { why = subst R same (c.in_err-held-in-Some.ensures.denied tells (subst A (sym same) are)); outside = λ empty. absurd (some empty) })

pub returns-in_err-held-in-Some-clause-outside : goal.returns-in_err-held-in-Some-clause-outside
returns-in_err-held-in-Some-clause-outside g c = λ tells s job sought w ours.
    look_outside (query_of c.args.bound.now) s job (files_now (g.D.Disk.history c.args.disk.now)) sought w ours c.from_residual-in_err-held-in-Some.result (returns-in_err-held-in-Some-clause-denied g c tells)

pub returns-in-Some-clause-found : goal.returns-in-Some-clause-found
returns-in-Some-clause-found g c = λ tells.
    let files : Files = files_now (g.D.Disk.history c.args.disk.now) in
    let A : History → Type 0 = λ h. AreNames (files_now h) c.in-Some.names in
    let H : History → Type 0 = λ h. Holds (query_of c.args.bound.now) (files_now h) c.in_ok-held-in-Some.field-0 in
    let same = c.names_in.ensures.same tells in
    let are = of_some (AreNames files) c.in_ok-names.field-0 c.in-Some.names c.in-Some.is (c.in_ok-names.ensures.names tells) in
    subst H same (c.in_ok-held-in-Some.ensures.holds tells (subst A (sym same) are))

pub returns-clause-none : goal.returns-clause-none
returns-clause-none g c = λ tells. of_none (IsEmpty (files_now (g.D.Disk.history c.args.disk.now))) c.in_ok-names.field-0 c.in-None.is (c.in_ok-names.ensures.none tells)
