use Rattle.std.proofs.Common.{◌≡◌, ◌∙◌, sym, ap, true, get_or}
use Rattle.std.specs.List.{prefix_len}
use Rattle.std.proofs.lemmas.Str.{IsCharBoundary-after_ascii}
use Rattle.ssq_lex.specs.Cut.{is_blank, is_in_line}
use Rattle.ssq_lex.proofs.Boundaries.{line_boundary, blank_is_ascii}
use Rattle.ssq_lex.proofs.front.front_of.Goals as goal

pub cut-requires-clause-boundary : goal.cut-requires-clause-boundary
cut-requires-clause-boundary c =
    let passes : is_blank (get_or c.args.text.now 0 0) ≡ true = ap (λ bs. is_blank (get_or bs 0 0)) (sym c.as_bytes-bytes.ensures.value) ∙ sym c.if-is_blank.ensures in
    IsCharBoundary-after_ascii c.args.text.now 0 c.utf8.text c.requires (blank_is_ascii _ passes)

pub cut-requires-then-byte-eq45-clause-boundary : goal.cut-requires-then-byte-eq45-clause-boundary
cut-requires-then-byte-eq45-clause-boundary c =
    let is_len : c.line_len.result ≡ prefix_len is_in_line c.args.text.now = cc in line_boundary c.args.text.now _ is_len
