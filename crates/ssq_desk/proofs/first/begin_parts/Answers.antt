use Rattle.std.proofs.Common.{◌≡◌, ◌&&◌, length, nat_lt, ap, ◌∙◌}
use Rattle.std.specs.Prelude.{not}
use Rattle.ssq_open.specs.Looking.{begins}
use Rattle.ssq_open.specs.Epochs.{cut_of}
use Rattle.ssq_desk.specs.Round.{is_due, is_due_on, mark_of, start_at}
use Rattle.ssq_desk.proofs.Placing.{copied}
use Rattle.ssq_desk.proofs.first.begin_parts.Goals as goal

pub returns : goal.returns
returns c =
    let found = c.args.opened.now in
    let plans = c.as_slice-plans.ensures in
    let parts = c.in_ok-parts.ensures ∙ ap begins c.as_slice.ensures in
    let from : c.ends_at-from.result.now ≡ (start_at (begins found.meta.parts) c.args.bound.now found).from = c.ends_at-from.ensures ∙ (λ i. cut_of (parts i) (plans i) found.committed) in
    let to : c.ends_at.result.now ≡ (start_at (begins found.meta.parts) c.args.bound.now found).to = c.ends_at.ensures ∙ (λ i. cut_of (parts i) (plans i) (length (plans i))) in
    let from_is = c.into_vec.ensures ∙ copied _ _ c.in_ok-from.ensures.cases ∙ from in
    let due_is : c.is_due_on-due.result ≡ is_due_on c.args.bound.now found = c.is_due_on-due.ensures ∙ (λ i. not (nat_lt found.committed (length (plans i))) && is_due c.args.bound.now (λ stream. c.requires.times stream i) (mark_of (plans i) found.committed)) in
    let to_is = c.into_vec-2.ensures ∙ copied _ _ c.in_ok-to.ensures.cases ∙ to in record {
      parts = c.into_vec-3.ensures ∙ parts;
      ends = c.into_vec-4.ensures ∙ copied _ _ c.in_ok-ends.ensures.cases ∙ from;
      start = (λ i. record { committed = found.committed; is_planned = nat_lt found.committed (length (plans i)); from = from_is i; to = to_is i; due = due_is i });
    }
