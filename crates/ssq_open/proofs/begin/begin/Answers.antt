use Rattle.std.proofs.Common.{◌∙◌, ℕ, refl, ap, subst, sym}
use Rattle.std.proofs.lemmas.Result.{err_from_is_err_and}
use Rattle.ssq_outside.specs.History.{History, LeavesOnly, files_now}
use Rattle.ssq_plans.specs.declared.meta.Meta.{Meta}
use Rattle.ssq_plans.specs.Records.{IsMeta}
use Rattle.ssq_core.specs.Settled.{IsSettledAs, IsEither}
use Rattle.ssq_open.specs.declared.wanted.Opened.{Opened}
use Rattle.ssq_open.specs.Opening.{first_meta, only_meta}
use Rattle.ssq_open.specs.Sought.{Sought, sought}
use Rattle.ssq_open.specs.Stateful.{keeping_in}
use Rattle.ssq_open.specs.Stores.{AreStores, AreLoaded}
use Rattle.ssq_open.proofs.Beginning.{first_is, either_same, read_leaves}
use Rattle.ssq_open.proofs.InOrder.{first_in_order}
use Rattle.ssq_open.proofs.Storing.{new_loaded, new_refused}
use Rattle.ssq_open.proofs.begin.begin.Goals as goal

pub settle_meta-requires : goal.settle_meta-requires
settle_meta-requires g c = subst IsMeta (sym c.in_ok-meta.ensures) (first_is (sought c.args.wanted.now) c.requires)

pub returns-in_err-meta-clause-any_moment : goal.returns-in_err-meta-clause-any_moment
returns-in_err-meta-clause-any_moment g c = λ tells files empty settled. read_leaves _ _ files _ refl settled

pub returns-in_err-stores-clause-outside : goal.returns-in_err-stores-clause-outside
returns-in_err-stores-clause-outside g c = λ tells.
    let p = err_from_is_err_and c.from_residual-in_err-stores.result c.from_residual-in_err-stores.ensures.1 in
    rw (p.1, p.2) (new_refused (files_now (g.D.Disk.history c.args.disk.now)) c.keeping_in-keeping.result c.in_err-stores.field-0.0 (c.in_err-stores.ensures.refused tells))

pub returns-in_err-stores-clause-any_moment : goal.returns-in_err-stores-clause-any_moment
returns-in_err-stores-clause-any_moment g c = λ tells files empty settled. read_leaves _ _ files _ (c.load_stores.ensures.same tells) settled

pub returns-in_err-settle_meta-clause-outside : goal.returns-in_err-settle_meta-clause-outside
returns-in_err-settle_meta-clause-outside g c = λ tells.
    let p = err_from_is_err_and c.from_residual-in_err-settle_meta.result c.from_residual-in_err-settle_meta.ensures.1 in
    rw (p.1, p.2) (c.in_err-settle_meta.ensures.outside tells)

pub returns-in_err-settle_meta-clause-any_moment : goal.returns-in_err-settle_meta-clause-any_moment
returns-in_err-settle_meta-clause-any_moment g c = λ tells files empty settled.
    let S : History → Type 0 = λ h. IsSettledAs h files in
    let L : History → Type 0 = λ h. LeavesOnly h (g.D.Disk.history c.settle_meta.new.disk) (IsEither files (only_meta (first_meta (sought c.args.wanted.now)))) in
    let same = c.load_stores.ensures.same tells in
    subst L same (either_same _ _ _ _ _ (c.settle_meta.ensures.any_moment tells files empty (subst S (sym same) settled)) (ap only_meta c.in_ok-meta.ensures))

pub returns-clause-first : goal.returns-clause-first
returns-clause-first g c = λ tells.
    let K : ℕ → Type 0 = λ keeping. AreLoaded (files_now (g.D.Disk.history c.args.disk.now)) keeping 0 c.in_ok-stores.stores in
    let keeping = c.keeping_in-keeping.ensures ∙ ap (λ (m : Meta). keeping_in c.args.wanted.now.keeps m.partitions) c.in_ok-meta.ensures in
    record {
      meta = c.in_ok-meta.ensures;
      plans = c.new.ensures;
      committed = refl;
      seen = c.new-2.ensures;
      names = c.new-3.ensures;
      stores = new_loaded (files_now (g.D.Disk.history c.args.disk.now)) _ c.in_ok-stores.stores (subst K keeping (c.in_ok-stores.ensures.loaded tells));
    }

pub returns-clause-in_order : goal.returns-clause-in_order
returns-clause-in_order g c =
    let s : Sought = sought c.args.wanted.now in
    let found : Opened = record { meta = c.in_ok-meta.meta; plans = c.new.result; committed = 0; seen = c.new-2.result; stores = c.in_ok-stores.stores; names = c.new-3.result } in
    let K : ℕ → Type 0 = λ keeping. AreStores keeping 0 c.in_ok-stores.stores in
    first_in_order s found c.requires c.in_ok-meta.ensures c.new.ensures refl c.new-2.ensures (subst K c.keeping_in-keeping.ensures c.in_ok-stores.ensures.numbers)

pub returns-clause-settled : goal.returns-clause-settled
returns-clause-settled g c = λ tells files empty settled.
    let P : Meta → Type 0 = λ meta. IsSettledAs (g.D.Disk.history c.settle_meta.new.disk) (only_meta meta) in
    let S : History → Type 0 = λ h. IsSettledAs h files in
    subst P c.in_ok-meta.ensures (c.in_ok-settle_meta.ensures.settled tells files empty (subst S (sym (c.load_stores.ensures.same tells)) settled))

pub returns-clause-any_moment : goal.returns-clause-any_moment
returns-clause-any_moment g c = λ tells files empty settled.
    let S : History → Type 0 = λ h. IsSettledAs h files in
    let L : History → Type 0 = λ h. LeavesOnly h (g.D.Disk.history c.settle_meta.new.disk) (IsEither files (only_meta (first_meta (sought c.args.wanted.now)))) in
    let same = c.load_stores.ensures.same tells in
    subst L same (either_same _ _ _ _ _ (c.settle_meta.ensures.any_moment tells files empty (subst S (sym same) settled)) (ap only_meta c.in_ok-meta.ensures))
