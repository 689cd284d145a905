use Rattle.std.proofs.Common.{option_copied, refl}
use Rattle.ssq_version.specs.declared.entry.Entry.{Entry}
use Rattle.ssq_version.proofs.Listing.{left_pushed, left_ends}
use Rattle.ssq_version.proofs.entries.entries_in.Goals as goal

pub loop-entry-preserved : goal.loop-entry-preserved
loop-entry-preserved c entries spelled is =
    left_pushed c.args.form (λ (e : Entry). (e.key.now, option_copied e.value)) entries c.loop-entry.made.items c.push.new.self.items c.loop-entry.rest.now c.in-Some.entry c.in-Some.entry.key.now (option_copied c.in-Some.entry.value)
    c.in-Some.behind.now c.in_ok-push.ensures.items c.in-Some.ensures.shorter refl (λ k v r one here. c.in-Some.ensures.each k v r one here) (c.loop-entry.invariant entries spelled is)

pub returns : goal.returns
returns c entries spelled is =
    left_ends c.args.form (λ (e : Entry). (e.key.now, option_copied e.value)) entries c.loop-entry.made.items c.loop-entry.rest.now (λ k v r one here. c.in_default.ensures.each k v r one here) (c.loop-entry.invariant entries spelled is)
