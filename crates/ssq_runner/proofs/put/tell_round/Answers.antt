use Rattle.std.proofs.Common.{◌∙◌, ◌++◌, ℕ, List, refl, ap}
use Rattle.std.proofs.lemmas.Result.{err_from_is_err_and}
use Rattle.ssq_runner.specs.Told.{told_text}
use Rattle.ssq_runner.specs.Putting.{stopped, starved}
use Rattle.ssq_runner.proofs.PutLemmas.{put_untold}
use Rattle.ssq_runner.proofs.put.tell_round.Goals as goal

pub returns-in_err-push_all-clause-untold : goal.returns-in_err-push_all-clause-untold
returns-in_err-push_all-clause-untold g c =
    let p = err_from_is_err_and c.from_residual.result c.from_residual.ensures.1 in
    let e = c.in_err-push_all.ensures.err in
    rw (p.1, p.2) (starved refl e.0 e.1 e.2 (λ o. refl) (e.3 ∙ ap (λ (l : List ℕ). l ++ told_text e.0) c.requires.empty))

pub returns-in_err-put_text-in-Ok-clause-untold : goal.returns-in_err-put_text-in-Ok-clause-untold
returns-in_err-put_text-in-Ok-clause-untold g c =
    let p = err_from_is_err_and c.from_residual-in_err-put_text-in-Ok.result c.from_residual-in_err-put_text-in-Ok.ensures.1 in
    rw (p.1, p.2) (put_untold g.O.Output.tells _ _ _ _ c.push_all.new.text.items _ c.args.told.now _ _ c.in-Ok.next c.in-Ok.is c.in_err-put_text-in-Ok.ensures.only (c.in_ok-push_all.ensures.ok ∙ ap (λ (l : List ℕ). l ++ told_text c.args.told.now) c.requires.empty)
    c.in_err-put_text-in-Ok.ensures.failed c.in_err-put_text-in-Ok.ensures.starved)

pub returns-in-Err-clause-untold : goal.returns-in-Err-clause-untold
returns-in-Err-clause-untold g c = stopped c.in-Err.stopped c.in-Err.is c.from.ensures (λ o. refl) (c.in_ok-push_all.ensures.ok ∙ ap (λ (l : List ℕ). l ++ told_text c.args.told.now) c.requires.empty)
