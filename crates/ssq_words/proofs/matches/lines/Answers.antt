use Rattle.std.proofs.Common.{ℕ, arith, codes}
use Rattle.std.specs.Str.Parse.{ParsesUnsigned, ExplainsUnsignedError, HasUnsignedDigitsIfOk}
use Rattle.clap.specs.Walk.{rows_of}
use Rattle.clap.specs.Words.{found_of}
use Rattle.ssq_words.proofs.ReadLemmas.{number_read, number_there}
use Rattle.ssq_words.proofs.matches.lines.Goals as goal

pub returns-clause-given : goal.returns-clause-given
returns-clause-given c =
    let rows = rows_of (found_of c.args.matches.now) in
    let read = number_read (λ bs r. ParsesUnsigned 32 10 bs r × ExplainsUnsignedError 10 bs r × HasUnsignedDigitsIfOk bs r) 32 1 10000000 (omega arith) (λ u x g. g.0)
    (found_of c.args.matches.now) (codes "lines") c.get_one.result c.requires.number c.get_one.ensures.none c.get_one.ensures.value in
    (number_there 1 10000000 (codes "lines") rows c.get_one.result _ 1 c.requires read c.unwrap_or.ensures).0

pub returns-clause-in_range : goal.returns-clause-in_range
returns-clause-in_range c =
    let rows = rows_of (found_of c.args.matches.now) in
    let read = number_read (λ bs r. ParsesUnsigned 32 10 bs r × ExplainsUnsignedError 10 bs r × HasUnsignedDigitsIfOk bs r) 32 1 10000000 (omega arith) (λ u x g. g.0)
    (found_of c.args.matches.now) (codes "lines") c.get_one.result c.requires.number c.get_one.ensures.none c.get_one.ensures.value in
    let is = number_there 1 10000000 (codes "lines") rows c.get_one.result _ 1 c.requires read c.unwrap_or.ensures in
    (is.1, is.2)
