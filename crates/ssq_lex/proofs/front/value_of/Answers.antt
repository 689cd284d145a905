use Rattle.std.proofs.Common.{◌∙◌, ap, Ok}
use Rattle.ssq_lex.proofs.Boundaries.{parsed, value_ok, kept_value, value_err}
use Rattle.ssq_lex.proofs.front.value_of.Goals as goal

pub returns-in-Ok : goal.returns-in-Ok
returns-in-Ok c =
    let found = rw c.in-Ok.is at (parsed c.args.digits.now c.parse.result c.parse.ensures.value.0 c.requires.some c.requires.digits) in
    ap Ok (kept_value c.args.digits.now _ found) ∙ value_ok c.args.digits.now _ found

pub returns-in-Err : goal.returns-in-Err
returns-in-Err c = value_err c.args.digits.now c.requires.some (rw c.in-Err.is at (parsed c.args.digits.now c.parse.result c.parse.ensures.value.0 c.requires.some c.requires.digits))
