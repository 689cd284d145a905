use Rattle.std.proofs.Common.{◌≡◌, get_or}
use Rattle.ssq_lex.proofs.Boundaries.{symbol_boundary}
use Rattle.ssq_lex.proofs.front.symbol.Goals as goal

pub cut-requires-clause-boundary : goal.cut-requires-clause-boundary
cut-requires-clause-boundary c =
    let first_is : c.byte.result ≡ get_or c.args.text.now 0 0 = cc in
    let second_is : c.byte-2.result ≡ get_or c.args.text.now 1 0 = cc in
    symbol_boundary c.args.text.now _ _ _ c.utf8.text first_is second_is c.in-Some.ensures.within
