use Rattle.std.proofs.Common.{◌++◌, ◌∙◌, List, sym, ap, arith}
use Rattle.std.proofs.lemmas.List.{append-nil, nil_from_length}
use Rattle.ssq_store.specs.declared.store.Store.{Store}
use Rattle.ssq_desk.specs.First.{held_of}
use Rattle.ssq_desk.proofs.first.with_closings.Goals as goal

pub returns : goal.returns
returns c =
    let held = c.loop-store.held.items in
    let rest = c.loop-store.store-iterator.rest in
    sym (append-nil held) ∙ ap (λ (l : List Store). held ++ held_of l c.loop-store.closings.rest.items) (sym (nil_from_length rest.items (omega (arith, c.in-None.ensures.steps.0, rest.ok.0)))) ∙ c.loop-store.invariant.so_far
