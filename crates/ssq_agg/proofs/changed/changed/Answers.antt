use Rattle.std.proofs.Common.{All, subst, ◌∙◌}
use Rattle.std.proofs.lemmas.List.Elements.{All-head}
use Rattle.std.proofs.lemmas.Result.{IfOk-weaker}
use Rattle.ssq_agg.specs.Readable.{IsFitGroup}
use Rattle.ssq_agg.proofs.Fitting.{entries_fit}
use Rattle.ssq_agg.proofs.Saying.{entries_keys, put_all, put_begins, put_more, says_all}
use Rattle.ssq_agg.proofs.changed.changed.Goals as goal

pub loop-key-init : goal.loop-key-init
loop-key-init c =
    put_begins c.args.closed.now c.args.touched.now.entries c.into_iter-key-iterator.result c.in_ok-entries.entries.items c.in_ok-entries.ensures.said
    (c.into_iter-key-iterator.ensures.into_iter_gives ∙ c.iter-key-items.ensures.rest) c.in_ok-entries.ensures.short (entries_fit c.args.touched.now c.requires.touched c.iter-key-items.ensures.found)

pub put_group-requires : goal.put_group-requires
put_group-requires c = All-head (λ entry. IsFitGroup entry.0 entry.1) (c.in-Some.key.now, c.in-Some.totals.now) c.next.new.self (subst (All (λ entry. IsFitGroup entry.0 entry.1)) c.in-Some.ensures.steps c.loop-key.invariant.fit)

pub loop-key-preserved : goal.loop-key-preserved
loop-key-preserved c =
    put_more c.args.closed.now c.args.touched.now.entries c.loop-key.key-iterator c.next.new.self (c.in-Some.key.now, c.in-Some.totals.now) c.loop-key.entries.items c.put_group.new.entries.items
    c.in-Some.ensures.steps c.in_ok-put_group.ensures.said (c.in_ok-put_group.ensures.short c.loop-key.invariant.short) c.loop-key.invariant

pub of_entries-requires : goal.of_entries-requires
of_entries-requires c = c.loop-key.invariant.short

pub returns : goal.returns
returns c = λ many closed touched.
    let all = put_all c.args.closed.now c.args.touched.now.entries c.loop-key.key-iterator c.loop-key.entries.items c.in-None.ensures.steps.0 c.loop-key.invariant in
    IfOk-weaker c.of_entries.result _ _ (λ change said.
    says_all many c.keys_are_apart.ensures.whatever_follows c.args.touched.now c.args.closed.now closed
    (record { keys = entries_keys many c.args.touched.now touched c.iter-key-items.ensures.found; distinct = c.iter-key-items.ensures.unique }) c.loop-key.entries.items change said all)
    c.of_entries.ensures
