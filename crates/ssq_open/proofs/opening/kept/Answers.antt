use Rattle.std.proofs.Common.{ℕ, List, subst, sym}
use Rattle.std.proofs.lemmas.Result.{err_from_is_err_and}
use Rattle.ssq_outside.specs.declared.name.Name.{Name}
use Rattle.ssq_outside.specs.Files.{Files, AreNames}
use Rattle.ssq_outside.specs.History.{History, files_now}
use Rattle.ssq_open.specs.Sought.{Sought, sought}
use Rattle.ssq_open.specs.declared.wanted.Opened.{Opened}
use Rattle.ssq_open.specs.Stores.{AreStores, AreLoaded, StoresRefuse}
use Rattle.ssq_open.proofs.InOrder.{kept_in_order}
use Rattle.ssq_open.proofs.Opens.{states_refused}
use Rattle.ssq_open.proofs.opening.kept.Goals as goal

pub returns-in_err-stores-clause-refused : goal.returns-in_err-stores-clause-refused
returns-in_err-stores-clause-refused g c = λ tells are.
    let p = err_from_is_err_and c.from_residual-in_err-stores.result c.from_residual-in_err-stores.ensures.1 in
    let s : Sought = sought c.args.wanted.now in
    let files : Files = files_now (g.D.Disk.history c.args.disk.now) in
    let epochs = c.in_ok-meta.field-0.epochs in
    let A : List Name → Type 0 = λ names. AreNames files names in
    let R : History → Type 0 = λ h. StoresRefuse (files_now h) c.keeping_in-keeping.result epochs.committed c.in_err-stores.field-0.0 in
    let K : ℕ → Type 0 = λ keeping. StoresRefuse files keeping epochs.committed c.in_err-stores.field-0.0 in
    let finds = c.in_ok-meta.ensures.finds tells (subst A (sym c.as_slice.ensures) are) in
    rw (p.1, p.2) (states_refused s files c.in_ok-meta.field-0.meta epochs.plans epochs.committed epochs.seen c.in_err-stores.field-0.0 finds
    (subst K c.keeping_in-keeping.ensures (subst R (c.check.ensures.same tells) (c.in_err-stores.ensures.refused tells))))

pub returns-clause-passes : goal.returns-clause-passes
returns-clause-passes g c = λ tells are.
    let files : Files = files_now (g.D.Disk.history c.args.disk.now) in
    let epochs = c.in_ok-meta.field-0.epochs in
    let A : List Name → Type 0 = λ names. AreNames files names in
    let L : History → Type 0 = λ h. AreLoaded (files_now h) c.keeping_in-keeping.result epochs.committed c.in_ok-stores.stores in
    let K : ℕ → Type 0 = λ keeping. AreLoaded files keeping epochs.committed c.in_ok-stores.stores in
    record {
      found = c.in_ok-meta.ensures.finds tells (subst A (sym c.as_slice.ensures) are);
      loaded = subst K c.keeping_in-keeping.ensures (subst L (c.check.ensures.same tells) (c.in_ok-stores.ensures.loaded tells));
      listed = (c.args.names, are, c.files_of_state.ensures);
    }

pub returns-clause-in_order : goal.returns-clause-in_order
returns-clause-in_order g c =
    let s : Sought = sought c.args.wanted.now in
    let epochs = c.in_ok-meta.field-0.epochs in
    let found : Opened = record { meta = c.in_ok-meta.field-0.meta; plans = epochs.plans; committed = epochs.committed; seen = epochs.seen; stores = c.in_ok-stores.stores; names = c.files_of_state.result } in
    let K : ℕ → Type 0 = λ keeping. AreStores keeping epochs.committed c.in_ok-stores.stores in
    kept_in_order s found c.in_ok-meta.ensures.in_order (subst K c.keeping_in-keeping.ensures c.in_ok-stores.ensures.numbers)
