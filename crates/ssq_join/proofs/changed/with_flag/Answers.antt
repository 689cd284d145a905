use Rattle.std.proofs.Common.{◌<◌, ◌-◌, ◌++◌, ◌∷◌, [], List, ℕ, ap, arith, length, take, ◌∙◌}
use Rattle.ssq_join.proofs.Saying.{flagged_cut, flagged_none}
use Rattle.ssq_join.proofs.changed.with_flag.Goals as goal

pub returns : goal.returns
returns c =
    let some : 0 < length c.args.bytes = omega (arith, c.in-Some.ensures.0, c.len.ensures) in
    c.in_ok-extend.ensures.ok ∙ ap (λ (l : List ℕ). l ++ 1 ∷ []) (c.truncate.ensures ∙ ap (λ n. take n c.args.bytes) (c.in-Some.ensures.1 ∙ ap (λ n. n - 1) c.len.ensures)) ∙ flagged_cut c.args.bytes some

pub returns-in_default : goal.returns-in_default
returns-in_default c = flagged_none c.args.bytes (omega (arith, c.in_default.ensures, c.len.ensures))
