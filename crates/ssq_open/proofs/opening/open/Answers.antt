use Rattle.std.proofs.Common.{◌≡◌, ◌≤◌, ◌∙◌, ℕ, List, None, refl, subst, sym}
use Rattle.std.specs.Prelude.{IfOk, IfErr, OnOk, OnErr}
use Rattle.std.specs.Option.{ForSome}
use Rattle.std.proofs.lemmas.Result.{IfOk-weaker, err_from_is_err_and}
use Rattle.ssq_outside.specs.History.{had_now, files_now, LeavesOnly}
use Rattle.ssq_open.specs.Lens.{asked}
use Rattle.ssq_open.specs.Sought.{Sought}
use Rattle.ssq_open.specs.declared.wanted.Opened.{Opened}
use Rattle.ssq_open.specs.Epochs.{starts, last_ends}
use Rattle.ssq_open.specs.Numbers.{HasNumbers, IsInOrder}
use Rattle.ssq_open.specs.Opening.{CanBeSought, first_short, IsOpen, IsRefused, IsImageOpening, SyncedSince, IsBegun, IsOpening}
use Rattle.ssq_open.proofs.Beginning.{asked_is, can_be_sought}
use Rattle.ssq_open.proofs.Opens.{not_begun, nothing_new, nothing_opened}
use Rattle.ssq_open.specs.Jobs.{HoldStates}
use Rattle.ssq_open.specs.Stateful.{keeping_of}
use Rattle.ssq_open.specs.Stores.{AreStores}
use Rattle.ssq_open.proofs.Stated.{laws}
use Rattle.ssq_open.proofs.Standings.{ok_desk, err_outside, images_stand, states_held}
use Rattle.ssq_open.proofs.opening.open.Goals as goal

pub open_wanted-requires : goal.open_wanted-requires
open_wanted-requires g c =
    let P : List ℕ → Type 0 = λ counts. CanBeSought c.args.partitions counts in
    subst P (sym (c.as_slice-2.ensures ∙ c.in_ok-asked.ensures.parts)) (can_be_sought c.args.bound.now c.args.partitions c.args.lens.now c.requires)

pub returns-clause-opened : goal.returns-clause-opened
returns-clause-opened g c = λ tells.
    let P : Sought → Type 0 = λ s. IfOk c.open_wanted.result (IsOpen s (files_now (g.D.Disk.history c.args.disk.now)) (g.D.Disk.history c.open_wanted.new.disk)) in
    subst P (asked_is c.args.bound.now c.args.partitions c.args.lens.now _ refl (c.as_slice.ensures ∙ c.in_ok-asked.ensures.streams) c.keeps_state.ensures refl (c.as_slice-2.ensures ∙ c.in_ok-asked.ensures.parts) (c.as_slice-3.ensures ∙ c.in_ok-asked.ensures.found)) (c.open_wanted.ensures.opened tells)

pub returns-clause-refused : goal.returns-clause-refused
returns-clause-refused g c = λ tells.
    let P : Sought → Type 0 = λ s. IfErr c.open_wanted.result (IsRefused s (files_now (g.D.Disk.history c.args.disk.now)) (files_now (g.D.Disk.history c.open_wanted.new.disk))) in
    subst P (asked_is c.args.bound.now c.args.partitions c.args.lens.now _ refl (c.as_slice.ensures ∙ c.in_ok-asked.ensures.streams) c.keeps_state.ensures refl (c.as_slice-2.ensures ∙ c.in_ok-asked.ensures.parts) (c.as_slice-3.ensures ∙ c.in_ok-asked.ensures.found)) (c.open_wanted.ensures.refused tells)

pub returns-clause-any_moment : goal.returns-clause-any_moment
returns-clause-any_moment g c = λ tells.
    let P : Sought → Type 0 = λ s. LeavesOnly (g.D.Disk.history c.args.disk.now) (g.D.Disk.history c.open_wanted.new.disk) (IsImageOpening s (had_now (g.D.Disk.history c.args.disk.now))) in
    subst P (asked_is c.args.bound.now c.args.partitions c.args.lens.now _ refl (c.as_slice.ensures ∙ c.in_ok-asked.ensures.streams) c.keeps_state.ensures refl (c.as_slice-2.ensures ∙ c.in_ok-asked.ensures.parts) (c.as_slice-3.ensures ∙ c.in_ok-asked.ensures.found)) (c.open_wanted.ensures.any_moment tells)

pub returns-clause-synced : goal.returns-clause-synced
returns-clause-synced g c = λ tells.
    let P : Sought → Type 0 = λ s. OnOk c.open_wanted.result (SyncedSince (g.D.Disk.history c.args.disk.now) (g.D.Disk.history c.open_wanted.new.disk) (IsBegun s (files_now (g.D.Disk.history c.args.disk.now)))) in
    subst P (asked_is c.args.bound.now c.args.partitions c.args.lens.now _ refl (c.as_slice.ensures ∙ c.in_ok-asked.ensures.streams) c.keeps_state.ensures refl (c.as_slice-2.ensures ∙ c.in_ok-asked.ensures.parts) (c.as_slice-3.ensures ∙ c.in_ok-asked.ensures.found)) (c.open_wanted.ensures.synced tells)

pub returns-clause-unfinished : goal.returns-clause-unfinished
returns-clause-unfinished g c = λ tells.
    let P : Sought → Type 0 = λ s. OnErr c.open_wanted.result (IsOpening s (g.D.Disk.history c.args.disk.now) (g.D.Disk.history c.open_wanted.new.disk)) in
    subst P (asked_is c.args.bound.now c.args.partitions c.args.lens.now _ refl (c.as_slice.ensures ∙ c.in_ok-asked.ensures.streams) c.keeps_state.ensures refl (c.as_slice-2.ensures ∙ c.in_ok-asked.ensures.parts) (c.as_slice-3.ensures ∙ c.in_ok-asked.ensures.found)) (c.open_wanted.ensures.unfinished tells)

pub returns-in_err-asked-clause-refused : goal.returns-in_err-asked-clause-refused
returns-in_err-asked-clause-refused g c = λ tells.
    let p = err_from_is_err_and c.from_residual.result c.from_residual.ensures.1 in
    rw (p.1, p.2) (not_begun (asked c.args.bound.now c.args.partitions c.args.lens.now) _)

pub returns-in_err-asked-clause-any_moment : goal.returns-in_err-asked-clause-any_moment
returns-in_err-asked-clause-any_moment g c = λ tells. nothing_new (asked c.args.bound.now c.args.partitions c.args.lens.now) (g.D.Disk.history c.args.disk.now)

pub returns-in_err-asked-clause-unfinished : goal.returns-in_err-asked-clause-unfinished
returns-in_err-asked-clause-unfinished g c = λ tells. nothing_opened (asked c.args.bound.now c.args.partitions c.args.lens.now) (g.D.Disk.history c.args.disk.now) c.from_residual.result

pub returns-clause-desk : goal.returns-clause-desk
returns-clause-desk g c = λ tells job w first ours.
    let P : Sought → Type 0 = λ s. IfOk c.open_wanted.result (IsOpen s (files_now (g.D.Disk.history c.args.disk.now)) (g.D.Disk.history c.open_wanted.new.disk)) in
    ok_desk (asked c.args.bound.now c.args.partitions c.args.lens.now) job (files_now (g.D.Disk.history c.args.disk.now)) (g.D.Disk.history c.open_wanted.new.disk) c.open_wanted.result (subst P (asked_is c.args.bound.now c.args.partitions c.args.lens.now _ refl (c.as_slice.ensures ∙ c.in_ok-asked.ensures.streams) c.keeps_state.ensures refl (c.as_slice-2.ensures ∙ c.in_ok-asked.ensures.parts) (c.as_slice-3.ensures ∙ c.in_ok-asked.ensures.found)) (c.open_wanted.ensures.opened tells)) w first ours

pub returns-clause-outside : goal.returns-clause-outside
returns-clause-outside g c = λ tells job states w of ours.
    let P : Sought → Type 0 = λ s. IfErr c.open_wanted.result (IsRefused s (files_now (g.D.Disk.history c.args.disk.now)) (files_now (g.D.Disk.history c.open_wanted.new.disk))) in
    err_outside (laws c.loading_is_exact.ensures.one c.loading_is_exact.ensures.sound c.loading_is_exact.ensures.made c.sealed_files_are_true.ensures.between) (asked c.args.bound.now c.args.partitions c.args.lens.now) job states (files_now (g.D.Disk.history c.args.disk.now)) (files_now (g.D.Disk.history c.open_wanted.new.disk)) c.open_wanted.result (subst P (asked_is c.args.bound.now c.args.partitions c.args.lens.now _ refl (c.as_slice.ensures ∙ c.in_ok-asked.ensures.streams) c.keeps_state.ensures refl (c.as_slice-2.ensures ∙ c.in_ok-asked.ensures.parts) (c.as_slice-3.ensures ∙ c.in_ok-asked.ensures.found)) (c.open_wanted.ensures.refused tells)) w of ours

pub returns-clause-images : goal.returns-clause-images
returns-clause-images g c = λ tells job w first standing.
    let P : Sought → Type 0 = λ s. LeavesOnly (g.D.Disk.history c.args.disk.now) (g.D.Disk.history c.open_wanted.new.disk) (IsImageOpening s (had_now (g.D.Disk.history c.args.disk.now))) in
    images_stand (asked c.args.bound.now c.args.partitions c.args.lens.now) job (g.D.Disk.history c.args.disk.now) (g.D.Disk.history c.open_wanted.new.disk) w first standing (subst P (asked_is c.args.bound.now c.args.partitions c.args.lens.now _ refl (c.as_slice.ensures ∙ c.in_ok-asked.ensures.streams) c.keeps_state.ensures refl (c.as_slice-2.ensures ∙ c.in_ok-asked.ensures.parts) (c.as_slice-3.ensures ∙ c.in_ok-asked.ensures.found)) (c.open_wanted.ensures.any_moment tells))

pub returns-in_err-asked-clause-images : goal.returns-in_err-asked-clause-images
returns-in_err-asked-clause-images g c = λ tells job w first standing.
    images_stand (asked c.args.bound.now c.args.partitions c.args.lens.now) job (g.D.Disk.history c.args.disk.now) (g.D.Disk.history c.args.disk.now) w first standing (nothing_new (asked c.args.bound.now c.args.partitions c.args.lens.now) (g.D.Disk.history c.args.disk.now))

pub returns-in_err-asked-clause-outside : goal.returns-in_err-asked-clause-outside
returns-in_err-asked-clause-outside g c = λ tells job states w of ours.
    let p = err_from_is_err_and c.from_residual.result c.from_residual.ensures.1 in
    rw (p.1, p.2) tt

pub returns-clause-numbers : goal.returns-clause-numbers
returns-clause-numbers g c =
    let s : Sought = asked c.args.bound.now c.args.partitions c.args.lens.now in
    let P : Sought → Type 0 = λ s. IfOk c.open_wanted.result (IsInOrder s) in
    IfOk-weaker c.open_wanted.result (IsInOrder s) (HasNumbers s.streams (starts s.found)) (λ found order. order.numbers) (subst P (asked_is c.args.bound.now c.args.partitions c.args.lens.now _ refl (c.as_slice.ensures ∙ c.in_ok-asked.ensures.streams) c.keeps_state.ensures refl (c.as_slice-2.ensures ∙ c.in_ok-asked.ensures.parts) (c.as_slice-3.ensures ∙ c.in_ok-asked.ensures.found)) c.open_wanted.ensures.in_order)

pub returns-clause-job : goal.returns-clause-job
returns-clause-job g c =
    let s : Sought = asked c.args.bound.now c.args.partitions c.args.lens.now in
    let P : Sought → Type 0 = λ s. IfOk c.open_wanted.result (IsInOrder s) in
    let J : Opened → Type 0 = λ found. (found.meta.parts ≡ s.parts) × (found.meta.query ≡ s.query) × (1 ≤ found.meta.partitions) × (found.meta.partitions ≤ 64) × ForSome s.partitions (λ count. found.meta.partitions ≡ count) in
    IfOk-weaker c.open_wanted.result (IsInOrder s) J (λ found order. (order.job.parts, order.job.ours.ours.query, order.range.0, order.range.1, order.job.ours.partitions)) (subst P (asked_is c.args.bound.now c.args.partitions c.args.lens.now _ refl (c.as_slice.ensures ∙ c.in_ok-asked.ensures.streams) c.keeps_state.ensures refl (c.as_slice-2.ensures ∙ c.in_ok-asked.ensures.parts) (c.as_slice-3.ensures ∙ c.in_ok-asked.ensures.found)) c.open_wanted.ensures.in_order)

pub returns-clause-long : goal.returns-clause-long
returns-clause-long g c =
    let s : Sought = asked c.args.bound.now c.args.partitions c.args.lens.now in
    let P : Sought → Type 0 = λ s. IfOk c.open_wanted.result (IsInOrder s) in
    let L : Opened → Type 0 = λ found. first_short (last_ends (starts s.found) found.plans) s.found ≡ None in
    IfOk-weaker c.open_wanted.result (IsInOrder s) L (λ found order. order.long) (subst P (asked_is c.args.bound.now c.args.partitions c.args.lens.now _ refl (c.as_slice.ensures ∙ c.in_ok-asked.ensures.streams) c.keeps_state.ensures refl (c.as_slice-2.ensures ∙ c.in_ok-asked.ensures.parts) (c.as_slice-3.ensures ∙ c.in_ok-asked.ensures.found)) c.open_wanted.ensures.in_order)

pub returns-clause-states : goal.returns-clause-states
returns-clause-states g c = λ tells job states w of ours.
    let s : Sought = asked c.args.bound.now c.args.partitions c.args.lens.now in
    let P : Sought → Type 0 = λ s. IfOk c.open_wanted.result (IsOpen s (files_now (g.D.Disk.history c.args.disk.now)) (g.D.Disk.history c.open_wanted.new.disk)) in
    let law = laws c.loading_is_exact.ensures.one c.loading_is_exact.ensures.sound c.loading_is_exact.ensures.made c.sealed_files_are_true.ensures.between in
    let same = asked_is c.args.bound.now c.args.partitions c.args.lens.now _ refl (c.as_slice.ensures ∙ c.in_ok-asked.ensures.streams) c.keeps_state.ensures refl (c.as_slice-2.ensures ∙ c.in_ok-asked.ensures.parts) (c.as_slice-3.ensures ∙ c.in_ok-asked.ensures.found) in
    IfOk-weaker c.open_wanted.result (IsOpen s (files_now (g.D.Disk.history c.args.disk.now)) (g.D.Disk.history c.open_wanted.new.disk)) (HoldStates s states)
    (λ found is. states_held law s job states (files_now (g.D.Disk.history c.args.disk.now)) (g.D.Disk.history c.open_wanted.new.disk) found w of ours is) (subst P same (c.open_wanted.ensures.opened tells))

pub returns-clause-stores : goal.returns-clause-stores
returns-clause-stores g c =
    let s : Sought = asked c.args.bound.now c.args.partitions c.args.lens.now in
    let P : Sought → Type 0 = λ s. IfOk c.open_wanted.result (IsInOrder s) in
    let S : Opened → Type 0 = λ found. AreStores (keeping_of c.args.bound.now.shape found.meta.partitions) found.committed found.stores in
    let same = asked_is c.args.bound.now c.args.partitions c.args.lens.now _ refl (c.as_slice.ensures ∙ c.in_ok-asked.ensures.streams) c.keeps_state.ensures refl (c.as_slice-2.ensures ∙ c.in_ok-asked.ensures.parts) (c.as_slice-3.ensures ∙ c.in_ok-asked.ensures.found) in
    IfOk-weaker c.open_wanted.result (IsInOrder s) S (λ found order. order.stores) (subst P same c.open_wanted.ensures.in_order)
