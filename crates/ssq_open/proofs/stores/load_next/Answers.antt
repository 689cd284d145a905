use Rattle.std.proofs.Common.{◌∙◌, ap}
use Rattle.std.proofs.lemmas.Result.{err_from_is_err_and}
use Rattle.ssq_outside.specs.Files.{Files}
use Rattle.ssq_outside.specs.History.{files_now}
use Rattle.ssq_store.specs.Loaded.{count_to}
use Rattle.ssq_open.specs.Stores.{IsStoreOf}
use Rattle.ssq_open.proofs.Storing.{stores_next, loaded_next, next_refused}
use Rattle.ssq_open.proofs.stores.load_next.Goals as goal

pub returns-in_err-store-clause-refused : goal.returns-in_err-store-clause-refused
returns-in_err-store-clause-refused g c = λ tells are.
    let p = err_from_is_err_and c.from_residual.result c.from_residual.ensures.1 in
    let files : Files = files_now (g.D.Disk.history c.args.disk.now) in
    rw (p.1, p.2) (next_refused files c.args.partition c.args.committed c.args.stores.now c.in_err-store.field-0.0 are (rw c.last_version.ensures at (c.in_err-store.ensures.damaged tells)))

pub returns-clause-numbers : goal.returns-clause-numbers
returns-clause-numbers g c = λ are.
    let told = c.in_ok-store.ensures.told in
    let is : IsStoreOf c.args.partition c.args.committed c.in_ok-store.store = record { partition = told.0; version = ap count_to told.1 ∙ c.last_version.ensures } in
    rw c.in_ok-push.ensures.ok (stores_next c.args.partition c.args.committed c.args.stores.now c.in_ok-store.store are is)

pub returns-clause-loaded : goal.returns-clause-loaded
returns-clause-loaded g c = λ tells are.
    let files : Files = files_now (g.D.Disk.history c.args.disk.now) in
    let told = c.in_ok-store.ensures.told in
    let is : IsStoreOf c.args.partition c.args.committed c.in_ok-store.store = record { partition = told.0; version = ap count_to told.1 ∙ c.last_version.ensures } in
    rw c.in_ok-push.ensures.ok
    (loaded_next files c.args.partition c.args.committed c.args.stores.now c.in_ok-store.store are is (rw c.last_version.ensures at (c.in_ok-store.ensures.made tells)))
