use Rattle.std.proofs.Common.{inl, refl, sym}
use Rattle.ssq_open.proofs.Others.{sink_absent, sink_passed, sinks_right, unread_some, unread_none}
use Rattle.ssq_open.proofs.unread.first_unexpected.Goals as goal

pub returns-then-written-committed-clause-some : goal.returns-then-written-committed-clause-some
returns-then-written-committed-clause-some c = λ files are.
    inl (_, refl, sink_absent files _ _ _ _ are c.written-written.ensures.there (c.written-written.ensures.absent are.in_order) c.if-written-committed.true)

pub returns-in-Some-clause-some : goal.returns-in-Some-clause-some
returns-in-Some-clause-some c = λ files are.
    inl (sink_passed files _ _ _ _ _ are c.written-written.ensures.there c.if-written-committed.false c.requires.below c.requires.ahead (sym c.in-Some.ensures))

pub returns-in-None-clause-none : goal.returns-in-None-clause-none
returns-in-None-clause-none c = λ files are.
    unread_none files _ _ _ _ c.stray_file.result are (sinks_right files _ _ _ _ are c.written-written.ensures.there c.if-written-committed.false c.requires.below c.requires.ahead (sym c.in-None.ensures)) c.stray_file.ensures

pub returns-in-None-clause-some : goal.returns-in-None-clause-some
returns-in-None-clause-some c = λ files are.
    unread_some files _ _ _ _ c.stray_file.result are (sinks_right files _ _ _ _ are c.written-written.ensures.there c.if-written-committed.false c.requires.below c.requires.ahead (sym c.in-None.ensures)) c.stray_file.ensures
