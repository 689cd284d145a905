use Rattle.std.proofs.Common.{◌≡◌, ◌∙◌, ◌-◌, ap, sym, arith, refl, take, get_or, subst}
use Rattle.std.specs.Prelude.{min, slice_index, option_map}
use Rattle.std.proofs.lemmas.List.{take_all}
use Rattle.ssq_outside.specs.declared.name.Name.{Name}
use Rattle.ssq_outside.specs.declared.name.Name.TheVariants.{Meta}
use Rattle.ssq_outside.specs.Files.{Content, Files}
use Rattle.ssq_outside.specs.History.{History, files_now}
use Rattle.ssq_fakes.specs.Records.{events_of, had_after, content_in, is_mentioned}
use Rattle.ssq_fakes.specs.Names.{Lists}
use Rattle.ssq_fakes.specs.Crashes.{picked, content_at, index_of, filled}
use Rattle.ssq_fakes.proofs.Histories.{files_now-is}
use Rattle.ssq_fakes.proofs.Crashes.{Holds, holds_more, crashed}
use Rattle.ssq_fakes.proofs.disk.MemDisk.crash_at.Goals as goal

pub loop-name-init : goal.loop-name-init
loop-name-init c =
    let disk = c.new-disk.result in
    record {
      files = λ q. sym (files_now-is (events_of disk.record) disk.clock q) ∙ ap (λ (h : History). files_now h q) c.new-disk.ensures.history;
      clock = ap (λ (h : History). h.moment) c.new-disk.ensures.history;
      count = c.new-disk.ensures.count;
      plan = c.new-disk.ensures.plan;
      calls = c.new-disk.ensures.calls.0;
      stages = c.new-disk.ensures.calls.1;
      sure = c.new-disk.ensures.sure;
    }

pub loop-name-preserved : goal.loop-name-preserved
loop-name-preserved c =
    let names = c.deref-name-items.result.now in
    let name = get_or names c.loop-name.name-index Meta in
    let had = had_after (events_of c.before-past.result.now) in
    let files : Files = picked had c.in_ok-changed.changed.items c.args.image.now in
    let at : c.index_of.result ≡ index_of c.in_ok-changed.changed.items name = rw c.deref.ensures.value at c.index_of.ensures in
    let content : option_map (λ bytes. bytes.now) c.after_changes.result.0 ≡ files name =
    c.after_changes.ensures.content ∙ ap (content_at (had name)) (c.number_at.ensures ∙ ap (slice_index c.args.image.now) at) in
    let M : Content → Type 0 = λ begun. (q : Name) → content_in (events_of c.fill.new.self.record) q ≡ filled name begun (content_in (events_of c.loop-name.disk.record)) q in
    record {
      files = holds_more files names c.loop-name.name-index name Meta (events_of c.loop-name.disk.record) (events_of c.fill.new.self.record) c.loop-name-test.true refl
          c.loop-name.invariant.files (subst M content c.in_ok-fill.ensures.content);
      clock = c.in_ok-fill.ensures.clock ∙ c.loop-name.invariant.clock;
      count = c.in_ok-fill.ensures.count ∙ c.loop-name.invariant.count;
      plan = rw c.in_ok-fill.ensures.calls.0 c.loop-name.invariant.plan;
      calls = rw c.in_ok-fill.ensures.calls.0 c.loop-name.invariant.calls;
      stages = c.in_ok-fill.ensures.calls.1 ∙ c.loop-name.invariant.stages;
      sure = c.in_ok-fill.ensures.sure c.loop-name.invariant.sure;
    }

pub returns-clause-crashed : goal.returns-clause-crashed
returns-clause-crashed c =
    let disk = c.loop-name.disk in
    let names = c.deref-name-items.result.now in
    let past = events_of c.before-past.result.now in
    let moment : c.args.self.now.clock - min c.args.moment c.args.self.now.clock ≡ c.args.self.now.clock - c.args.moment = omega arith in
    let whole : take c.loop-name.name-index names ≡ names = take_all c.loop-name.name-index names c.loop-name-test.false in
    let holds : Holds (events_of disk.record) names (picked (had_after past) c.in_ok-changed.changed.items c.args.image.now) = rw whole at c.loop-name.invariant.files in
    crashed past (events_of disk.record) (events_of c.settle.new.self.record) _ c.in_ok-changed.changed.items names c.args.image.now c.settle.new.self.clock
    (rw (moment, c.before-past.ensures, c.saturating_sub.ensures) refl)
    c.in_ok-changed.ensures
    (subst (Lists (is_mentioned past)) (sym c.deref-name-items.ensures.value) c.in_ok-names.ensures)
    holds
    c.in_ok-settle.ensures.record
    (c.in_ok-settle.ensures.clock ∙ c.loop-name.invariant.clock)

pub returns-clause-count : goal.returns-clause-count
returns-clause-count c = c.in_ok-settle.ensures.count ∙ c.loop-name.invariant.count

pub returns-clause-plan : goal.returns-clause-plan
returns-clause-plan c = rw c.in_ok-settle.ensures.calls.0 c.loop-name.invariant.plan

pub returns-clause-calls : goal.returns-clause-calls
returns-clause-calls c = (rw c.in_ok-settle.ensures.calls.0 c.loop-name.invariant.calls, c.in_ok-settle.ensures.calls.1 ∙ c.loop-name.invariant.stages)

pub returns-clause-sure : goal.returns-clause-sure
returns-clause-sure c = c.in_ok-settle.ensures.sure c.loop-name.invariant.sure
