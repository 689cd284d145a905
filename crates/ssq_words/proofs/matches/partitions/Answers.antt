use Rattle.std.proofs.Common.{◌≤◌, ℕ, Option, arith, codes, subst, sym}
use Rattle.std.specs.Option.{ForSome}
use Rattle.std.specs.Str.Parse.{ParsesUnsigned, ExplainsUnsignedError, HasUnsignedDigitsIfOk}
use Rattle.clap.specs.Walk.{rows_of}
use Rattle.clap.specs.Words.{found_of}
use Rattle.ssq_words.proofs.ReadLemmas.{number_read, number_bounded}
use Rattle.ssq_words.proofs.matches.partitions.Goals as goal

pub returns-clause-given : goal.returns-clause-given
returns-clause-given c = number_read (λ bs r. ParsesUnsigned 32 10 bs r × ExplainsUnsignedError 10 bs r × HasUnsignedDigitsIfOk bs r) 32 1 64 (omega arith) (λ u x g. g.0)
    (found_of c.args.matches.now) (codes "partitions") c.get_one.result c.requires c.get_one.ensures.none c.get_one.ensures.value

pub returns-clause-in_range : goal.returns-clause-in_range
returns-clause-in_range c =
    let P : Option ℕ → Type 0 = λ o. ForSome o (λ count. (1 ≤ count) × (count ≤ 64)) in
    subst P (sym (returns-clause-given c)) (number_bounded 1 64 (codes "partitions") (rows_of (found_of c.args.matches.now)) c.requires)
