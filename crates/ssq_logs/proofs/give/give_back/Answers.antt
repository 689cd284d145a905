use Rattle.std.proofs.Common.{◌≤◌, ◌+◌, ◌-◌, ◌^◌, map, min, ap, sym, ◌∙◌, subst}
use Rattle.std.proofs.lemmas.Iterator.Consumers.{YieldsList-end}
use Rattle.std.proofs.lemmas.Iterator.Adapters.{YieldsList-from_vec}
use Rattle.ssq_outside.specs.Faults.{Rises}
use Rattle.ssq_logs.proofs.Going.{went_back, all_back, faults_more, all_added, faults_kept, faults_rise}
use Rattle.ssq_logs.proofs.give.give_back.Goals as goal

pub loop-log-preserved : goal.loop-log-preserved
loop-log-preserved g c = record {
  went = went_back g.I.Inputs.tells g.I.Inputs.held g.I.Inputs.returned g.I.Inputs.available g.I.Log.Log.answers c.args.inputs.now c.loop-log.inputs c.give_back.new.self c.loop-log.yielded c.in-Some.log c.loop-log.invariant.went
      (record { same = c.give_back.ensures.same; given = c.give_back.ensures.returned; grown = c.give_back.ensures.grown });
  added = c.give_back.ensures.added ∙ ap (λ n. min (n + g.I.Log.Log.faults c.in-Some.log) (2 ^ 64 - 1)) c.loop-log.invariant.added ∙ faults_more g.I.Log.Log.faults c.loop-log.yielded c.in-Some.log (g.I.Inputs.faults c.args.inputs.now);
}

pub returns-clause-inputs : goal.returns-clause-inputs
returns-clause-inputs g c =
    let end = YieldsList-end (YieldsList-from_vec c.args.logs.items c.into_iter-log-iterator.ensures.into_iter_gives.0 (cc)) c.loop-log.yielded c.loop-log.log-iterator c.loop-log.yielded_by c.next.result c.next.new.self c.in-None.is c.next.ensures.steps in
    all_back g.I.Inputs.tells g.I.Inputs.held g.I.Inputs.returned g.I.Inputs.available g.I.Log.Log.answers c.args.inputs.now c.loop-log.inputs c.loop-log.yielded c.args.logs.items end.0 c.loop-log.invariant.went

pub returns-clause-added : goal.returns-clause-added
returns-clause-added g c =
    let end = YieldsList-end (YieldsList-from_vec c.args.logs.items c.into_iter-log-iterator.ensures.into_iter_gives.0 (cc)) c.loop-log.yielded c.loop-log.log-iterator c.loop-log.yielded_by c.next.result c.next.new.self c.in-None.is c.next.ensures.steps in
    all_added g.I.Log.Log.faults c.loop-log.yielded c.args.logs.items (g.I.Inputs.faults c.args.inputs.now) (g.I.Inputs.faults c.loop-log.inputs) end.0 c.loop-log.invariant.added

pub returns-clause-counted : goal.returns-clause-counted
returns-clause-counted g c =
    subst (λ n. min (g.I.Inputs.faults c.args.inputs.now) (2 ^ 64 - 1) ≤ n) (sym (returns-clause-added g c)) (faults_kept (map g.I.Log.Log.faults c.args.logs.items) (g.I.Inputs.faults c.args.inputs.now))

pub returns-clause-risen : goal.returns-clause-risen
returns-clause-risen g c = λ some.
    subst (Rises (g.I.Inputs.faults c.args.inputs.now)) (sym (returns-clause-added g c)) (faults_rise g.I.Log.Log.faults c.args.logs.items (g.I.Inputs.faults c.args.inputs.now) some)
