use Rattle.std.proofs.Common.{arith}
use Rattle.std.proofs.lemmas.Str.Pattern.{strip_prefix_char}
use Rattle.ssq_lex.proofs.Quotes.{undoubled-single}
use Rattle.ssq_lex.proofs.quoting.behind_quote.Goals as goal

pub returns-in-None-clause-value : goal.returns-in-None-clause-value
returns-in-None-clause-value c =
    let found = strip_prefix_char 39 c.args.rest.now c.strip_prefix.result c.strip_prefix.ensures.cases (omega arith) in
    undoubled-single c.args.rest.now (rw c.in-None.is at found)
