use Rattle.std.proofs.Common.{◌≡◌, ◌+◌, ◌-◌, ◌++◌, [], ◌∷◌, ℕ, List, sym, ap, ◌∙◌, subst, arith}
use Rattle.std.specs.Prelude.{All, IfOk, None, Some}
use Rattle.std.proofs.lemmas.List.Elements.{All-nil}
use Rattle.std.proofs.lemmas.Result.{IfOk-weaker, err_from_is_err_and}
use Rattle.ssq_outside.specs.declared.name.Name.{Name}
use Rattle.ssq_outside.specs.declared.name.Name.TheVariants as name
use Rattle.ssq_outside.specs.History.{History, files_now}
use Rattle.ssq_upkeep.specs.Upkeep.{is_among}
use Rattle.ssq_desk.specs.Upkeep.{IsNotFound, deltas_from, first_missing, names_in}
use Rattle.ssq_desk.proofs.Entries.{fails_so}
use Rattle.ssq_desk.proofs.Missing.{missing_here, missing_next}
use Rattle.ssq_desk.proofs.Readings.{first_among, next_among}
use Rattle.ssq_desk.proofs.Upkeeps.{did_still, if_fails_later}
use Rattle.ssq_desk.proofs.upkeep.read_behind.Goals as goal

pub returns-in_err-add_file-clause-cause : goal.returns-in_err-add_file-clause-cause
returns-in_err-add_file-clause-cause g c =
    let rest = deltas_from c.args.partition (c.args.below + 1) (c.args.versions - (c.args.below + 1)) in
    let at = name.Snapshot c.args.partition c.args.below in
    let files = files_now (g.D.Disk.history c.args.ledger.now.disk) in
    let before = g.D.Disk.faults c.args.ledger.now.disk in
    let now = g.D.Disk.faults c.add_file.new.ledger.disk in
    let p = err_from_is_err_and c.from_residual.result c.from_residual.ensures.1 in
    rw (p.1, p.2) (fails_so (λ q. (q ≡ at) × (g.D.Disk.tells → files q ≡ None)) (IsNotFound g.D.Disk.tells files (at ∷ rest)) before now c.in_err-add_file.field-0.0
    (λ q bad. (ap (is_among (at ∷ rest)) bad.0 ∙ first_among at rest, (λ t. missing_here files at rest (subst (λ (n : Name). files n ≡ None) bad.0 (bad.1 t)) ∙ ap Some (sym bad.0)))) c.in_err-add_file.ensures.cause)

pub returns-clause-did : goal.returns-clause-did
returns-clause-did g c = did_still c.args.ledger.now c.add_file.new.ledger c.with_deltas.new.ledger c.add_file.ensures.did c.with_deltas.ensures.did

pub returns-clause-same : goal.returns-clause-same
returns-clause-same g c = λ t. c.with_deltas.ensures.same t ∙ c.add_file.ensures.same t

pub returns-clause-names : goal.returns-clause-names
returns-clause-names g c =
    let rest = deltas_from c.args.partition (c.args.below + 1) (c.args.versions - (c.args.below + 1)) in
    let at = name.Snapshot c.args.partition c.args.below in
    let begins : names_in c.add_file.new.files.items ≡ at ∷ [] = c.in_ok-add_file.ensures.names ∙ ap (λ (l : List (Name × List ℕ)). names_in l ++ at ∷ []) c.new-files.ensures.items in
    IfOk-weaker c.with_deltas.result (λ read. names_in read.items ≡ names_in c.add_file.new.files.items ++ rest) (λ read. names_in read.items ≡ at ∷ rest) (λ read is. is ∙ ap (λ (l : List Name). l ++ rest) begins) c.with_deltas.ensures.names

pub returns-clause-found : goal.returns-clause-found
returns-clause-found g c t =
    let P : History → Name × List ℕ → Type 0 = λ h file. files_now h file.0 ≡ Some file.1 in
    let old = g.D.Disk.history c.args.ledger.now.disk in
    let none : All (P old) c.new-files.result.items = subst (All (P old)) (sym c.new-files.ensures.items) (All-nil (P old)) in
    let first = c.in_ok-add_file.ensures.found t none in
    subst (λ (h : History). IfOk c.with_deltas.result (λ read. All (P h) read.items)) (c.add_file.ensures.same t)
    (c.with_deltas.ensures.found t (subst (λ (h : History). All (P h) c.add_file.new.files.items) (sym (c.add_file.ensures.same t)) first))

pub returns-clause-cause : goal.returns-clause-cause
returns-clause-cause g c =
    let rest = deltas_from c.args.partition (c.args.below + 1) (c.args.versions - (c.args.below + 1)) in
    let at = name.Snapshot c.args.partition c.args.below in
    let old = g.D.Disk.history c.args.ledger.now.disk in
    if_fails_later (IsNotFound g.D.Disk.tells (files_now (g.D.Disk.history c.add_file.new.ledger.disk)) rest) (IsNotFound g.D.Disk.tells (files_now old) (at ∷ rest))
    (g.D.Disk.faults c.args.ledger.now.disk) (g.D.Disk.faults c.add_file.new.ledger.disk) (g.D.Disk.faults c.with_deltas.new.ledger.disk) c.with_deltas.result c.add_file.ensures.counted
    (λ q bad. (next_among at q rest bad.0, (λ t. missing_next (files_now old) at rest (c.in_ok-add_file.ensures.there t) ∙ ap (λ (h : History). first_missing (files_now h) rest) (sym (c.add_file.ensures.same t)) ∙ bad.1 t))) c.with_deltas.ensures.cause

pub returns-clause-counted : goal.returns-clause-counted
returns-clause-counted g c = (let first = c.add_file.ensures.counted in let later = c.with_deltas.ensures.counted in omega (arith, first, later))
