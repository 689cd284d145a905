use Rattle.std.proofs.Common.{◌≡◌, ◌≤◌, List, ℕ, subst, length, arith}
use Rattle.std.specs.Str.{IsUtf8}
use Rattle.ssq_shape.specs.Evaluation.{longest}
use Rattle.ssq_expr.proofs.Texts.{text_kept}
use Rattle.ssq_expr.proofs.operands.fitting_text.Goals as goal

pub returns-then-as_bytes-le-LONGEST : goal.returns-then-as_bytes-le-LONGEST
returns-then-as_bytes-le-LONGEST c =
    let bytes : c.as_bytes.result.now ≡ c.args.text.now = c.as_bytes.ensures.bytes in
    let short : length c.args.text.now ≤ longest = subst (λ (t : List ℕ). length t ≤ longest) bytes (omega (arith, c.if-as_bytes-le-LONGEST.true)) in
    rw c.requires (text_kept c.args.text.now short (subst IsUtf8 bytes c.as_bytes.ensures.utf8))
