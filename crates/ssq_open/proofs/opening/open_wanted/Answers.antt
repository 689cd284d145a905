use Rattle.std.proofs.Common.{◌≡◌, ◌∙◌, refl, subst, sym, ap}
use Rattle.ssq_outside.specs.Files.{Files, IsEmpty, AreNames, files_of}
use Rattle.ssq_outside.specs.History.{LeavesOnly, had_now, files_now}
use Rattle.ssq_store.proofs.Making.{if_some as of_some}
use Rattle.ssq_core.specs.Settled.{IsSettledAs}
use Rattle.ssq_open.specs.Sought.{sought}
use Rattle.ssq_open.specs.Opening.{IsBegun, IsImageOpening, SyncedSince, unsynced, synced}
use Rattle.ssq_open.proofs.Opens.{settled_since, files_since, sync_leaves, begin_leaves, same_leaves, open_begun, refused_begun, open_kept, refused_kept, on_ok, on_err, sync_images, synced_still, synced_begun}
use Rattle.ssq_open.proofs.Finding.{of_none}
use Rattle.ssq_open.proofs.opening.open_wanted.Given.{Over}
use Rattle.ssq_open.proofs.opening.open_wanted.Goals as goal
use Rattle.ssq_open.proofs.opening.open_wanted.Goals.{After-begin, After-kept, After-names_in}

-- the names were synced, and a crash in that left what it might have left before
leaves : (g : Over) → (c : After-names_in g) → g.D.Disk.tells → LeavesOnly (g.D.Disk.history c.args.disk.now) (g.D.Disk.history c.names_in.new.disk) (IsImageOpening (sought c.args.wanted.now) (had_now (g.D.Disk.history c.args.disk.now)))
leaves g c tells = sync_leaves (sought c.args.wanted.now) (g.D.Disk.history c.args.disk.now) (g.D.Disk.history c.sync_names.new.self) (g.D.Disk.history c.names_in.new.disk) (c.sync_names.ensures.steps tells) (c.names_in.ensures.same tells)

settled : (g : Over) → (c : After-names_in g) → g.D.Disk.tells → IsSettledAs (g.D.Disk.history c.names_in.new.disk) (files_now (g.D.Disk.history c.args.disk.now))
settled g c tells = settled_since (g.D.Disk.history c.args.disk.now) (g.D.Disk.history c.sync_names.new.self) (g.D.Disk.history c.names_in.new.disk) (c.in_ok-sync_names.ensures.ok tells) (c.names_in.ensures.same tells)

-- the files are those that were there
since : (g : Over) → (c : After-names_in g) → g.D.Disk.tells → files_now (g.D.Disk.history c.names_in.new.disk) ≡ files_now (g.D.Disk.history c.args.disk.now)
since g c tells = files_since (g.D.Disk.history c.args.disk.now) (g.D.Disk.history c.sync_names.new.self) (g.D.Disk.history c.names_in.new.disk) (c.in_ok-sync_names.ensures.ok tells) (c.names_in.ensures.same tells)

-- where it is kept, these are their names, and there are some
here : (g : Over) → (c : After-kept g) → g.D.Disk.tells → AreNames (files_now (g.D.Disk.history c.names_in.new.disk)) c.in-Some.names
here g c tells =
    let P : Files → Type 0 = λ files. AreNames files c.in-Some.names in
    subst P (ap files_now (sym (c.names_in.ensures.same tells))) (of_some (AreNames (files_now (g.D.Disk.history c.sync_names.new.self))) c.in_ok-names.field-0 c.in-Some.names c.in-Some.is (c.in_ok-names.ensures.names tells))

some : (g : Over) → (c : After-kept g) → g.D.Disk.tells → IsEmpty (files_now (g.D.Disk.history c.args.disk.now)) → ⊥
some g c tells =
    let P : Files → Type 0 = λ files. IsEmpty files → ⊥ in
    subst P (ap files_of (c.in_ok-sync_names.ensures.ok tells)) (of_some (λ _. IsEmpty (files_now (g.D.Disk.history c.sync_names.new.self)) → ⊥) c.in_ok-names.field-0 c.in-Some.names c.in-Some.is (c.in_ok-names.ensures.some tells))

-- where it is begun, no file is there
empty : (g : Over) → (c : After-begin g) → g.D.Disk.tells → IsEmpty (files_now (g.D.Disk.history c.args.disk.now))
empty g c tells = subst IsEmpty (ap files_of (c.in_ok-sync_names.ensures.ok tells)) (of_none (IsEmpty (files_now (g.D.Disk.history c.sync_names.new.self))) c.in_ok-names.field-0 c.in-None.is (c.in_ok-names.ensures.none tells))

begun : (g : Over) → (c : After-begin g) → g.D.Disk.tells → IsSettledAs (g.D.Disk.history c.names_in.new.disk) (files_now (g.D.Disk.history c.args.disk.now)) → IsEmpty (files_now (g.D.Disk.history c.args.disk.now))
    → SyncedSince (g.D.Disk.history c.args.disk.now) (g.D.Disk.history c.begin.new.disk) (IsBegun (sought c.args.wanted.now) (files_now (g.D.Disk.history c.args.disk.now)))
begun g c tells are none = synced_begun (sought c.args.wanted.now) (g.D.Disk.history c.args.disk.now) (g.D.Disk.history c.sync_names.new.self) (g.D.Disk.history c.names_in.new.disk) (g.D.Disk.history c.begin.new.disk) (c.sync_names.ensures.steps tells) (c.names_in.ensures.same tells) are none (c.begin.ensures.any_moment tells (files_now (g.D.Disk.history c.args.disk.now)) none are)

-- where it is kept, nothing changes
still : (g : Over) → (c : After-kept g) → g.D.Disk.tells → IsSettledAs (g.D.Disk.history c.names_in.new.disk) (files_now (g.D.Disk.history c.args.disk.now))
    → SyncedSince (g.D.Disk.history c.args.disk.now) (g.D.Disk.history c.kept.new.disk) (IsBegun (sought c.args.wanted.now) (files_now (g.D.Disk.history c.args.disk.now)))
still g c tells are = synced_still (sought c.args.wanted.now) (g.D.Disk.history c.args.disk.now) (g.D.Disk.history c.sync_names.new.self) (g.D.Disk.history c.names_in.new.disk) (g.D.Disk.history c.kept.new.disk) (c.sync_names.ensures.steps tells) (c.names_in.ensures.same tells) are (c.kept.ensures.same tells)

pub returns-in_err-sync_names-clause-any_moment : goal.returns-in_err-sync_names-clause-any_moment
returns-in_err-sync_names-clause-any_moment g c = λ tells. sync_leaves (sought c.args.wanted.now) (g.D.Disk.history c.args.disk.now) (g.D.Disk.history c.sync_names.new.self) (g.D.Disk.history c.sync_names.new.self) (c.sync_names.ensures.steps tells) refl

pub returns-in_err-names-clause-any_moment : goal.returns-in_err-names-clause-any_moment
returns-in_err-names-clause-any_moment g c = λ tells. leaves g (goal.at.returns-in_err-names-clause-any_moment g c).After-names_in tells

pub returns-in-None-clause-opened : goal.returns-in-None-clause-opened
returns-in-None-clause-opened g c = λ tells.
    let at = goal.at.returns-in-None-clause-opened g c in
    let none = empty g at.After-begin tells in
    open_begun (sought c.args.wanted.now) (files_now (g.D.Disk.history c.args.disk.now)) (g.D.Disk.history c.begin.new.disk) c.begin.result none (c.begin.ensures.first tells) (c.begin.ensures.settled tells (files_now (g.D.Disk.history c.args.disk.now)) none (settled g at.After-names_in tells))

pub returns-in-None-clause-refused : goal.returns-in-None-clause-refused
returns-in-None-clause-refused g c = λ tells.
    let at = goal.at.returns-in-None-clause-refused g c in
    let none = empty g at.After-begin tells in
    refused_begun (sought c.args.wanted.now) (files_now (g.D.Disk.history c.args.disk.now)) (g.D.Disk.history c.names_in.new.disk) (g.D.Disk.history c.begin.new.disk) c.begin.result none (c.begin.ensures.outside tells) (c.begin.ensures.any_moment tells (files_now (g.D.Disk.history c.args.disk.now)) none (settled g at.After-names_in tells))

pub returns-in-None-clause-any_moment : goal.returns-in-None-clause-any_moment
returns-in-None-clause-any_moment g c = λ tells.
    let at = goal.at.returns-in-None-clause-any_moment g c in
    let none = empty g at.After-begin tells in
    begin_leaves (sought c.args.wanted.now) (g.D.Disk.history c.args.disk.now) (g.D.Disk.history c.names_in.new.disk) (g.D.Disk.history c.begin.new.disk) (leaves g at.After-names_in tells) none (c.begin.ensures.any_moment tells (files_now (g.D.Disk.history c.args.disk.now)) none (settled g at.After-names_in tells))

pub returns-in-Some-clause-opened : goal.returns-in-Some-clause-opened
returns-in-Some-clause-opened g c = λ tells.
    let at = goal.at.returns-in-Some-clause-opened g c in
    open_kept (sought c.args.wanted.now) (files_now (g.D.Disk.history c.args.disk.now)) (files_now (g.D.Disk.history c.names_in.new.disk)) (g.D.Disk.history c.names_in.new.disk) (g.D.Disk.history c.kept.new.disk) c.kept.result (since g at.After-names_in tells) (settled g at.After-names_in tells) (c.kept.ensures.same tells)
    (c.kept.ensures.passes tells (here g at.After-kept tells))

pub returns-in-Some-clause-refused : goal.returns-in-Some-clause-refused
returns-in-Some-clause-refused g c = λ tells.
    let at = goal.at.returns-in-Some-clause-refused g c in
    let same = since g at.After-names_in tells in
    refused_kept (sought c.args.wanted.now) (files_now (g.D.Disk.history c.args.disk.now)) (files_now (g.D.Disk.history c.names_in.new.disk)) (files_now (g.D.Disk.history c.kept.new.disk)) c.kept.result same (ap files_now (c.kept.ensures.same tells) ∙ same) (some g at.After-kept tells) (c.kept.ensures.refused tells (here g at.After-kept tells))

pub returns-in-Some-clause-any_moment : goal.returns-in-Some-clause-any_moment
returns-in-Some-clause-any_moment g c = λ tells. same_leaves (IsImageOpening (sought c.args.wanted.now) (had_now (g.D.Disk.history c.args.disk.now))) (g.D.Disk.history c.args.disk.now) (g.D.Disk.history c.names_in.new.disk) (g.D.Disk.history c.kept.new.disk) (leaves g (goal.at.returns-in-Some-clause-any_moment g c).After-names_in tells) (c.kept.ensures.same tells)

pub returns-in_err-sync_names-clause-unfinished : goal.returns-in_err-sync_names-clause-unfinished
returns-in_err-sync_names-clause-unfinished g c = λ tells. on_err c.from_residual.result (unsynced (sync_images (g.D.Disk.history c.args.disk.now) (g.D.Disk.history c.sync_names.new.self) (g.D.Disk.history c.sync_names.new.self) (c.sync_names.ensures.steps tells) refl))

pub returns-in_err-names-clause-unfinished : goal.returns-in_err-names-clause-unfinished
returns-in_err-names-clause-unfinished g c = λ tells.
    on_err c.from_residual-in_err-names.result (synced (synced_still (sought c.args.wanted.now) (g.D.Disk.history c.args.disk.now) (g.D.Disk.history c.sync_names.new.self) (g.D.Disk.history c.names_in.new.disk) (g.D.Disk.history c.names_in.new.disk) (c.sync_names.ensures.steps tells) (c.names_in.ensures.same tells) (settled g (goal.at.returns-in_err-names-clause-unfinished g c).After-names_in tells) refl))

pub returns-in-None-clause-synced : goal.returns-in-None-clause-synced
returns-in-None-clause-synced g c = λ tells.
    let at = goal.at.returns-in-None-clause-synced g c in
    on_ok c.begin.result (begun g at.After-begin tells (settled g at.After-names_in tells) (empty g at.After-begin tells))

pub returns-in-None-clause-unfinished : goal.returns-in-None-clause-unfinished
returns-in-None-clause-unfinished g c = λ tells.
    let at = goal.at.returns-in-None-clause-unfinished g c in
    on_err c.begin.result (synced (begun g at.After-begin tells (settled g at.After-names_in tells) (empty g at.After-begin tells)))

pub returns-in-Some-clause-synced : goal.returns-in-Some-clause-synced
returns-in-Some-clause-synced g c = λ tells.
    let at = goal.at.returns-in-Some-clause-synced g c in
    on_ok c.kept.result (still g at.After-kept tells (settled g at.After-names_in tells))

pub returns-in-Some-clause-unfinished : goal.returns-in-Some-clause-unfinished
returns-in-Some-clause-unfinished g c = λ tells.
    let at = goal.at.returns-in-Some-clause-unfinished g c in
    on_err c.kept.result (synced (still g at.After-kept tells (settled g at.After-names_in tells)))
