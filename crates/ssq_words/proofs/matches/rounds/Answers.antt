use Rattle.std.proofs.Common.{◌∙◌, ◌≤◌, ℕ, ap, arith, codes, subst, sym}
use Rattle.std.specs.Prelude.{unwrap_or}
use Rattle.std.specs.Str.Parse.{ParsesUnsigned, ExplainsUnsignedError, HasUnsignedDigitsIfOk}
use Rattle.clap.specs.Walk.{rows_of}
use Rattle.clap.specs.Words.{found_of}
use Rattle.ssq_words.specs.Asking.{number_given}
use Rattle.ssq_words.proofs.ReadLemmas.{number_read, number_bounded, bounded_or_one}
use Rattle.ssq_words.proofs.matches.rounds.Goals as goal

pub returns-clause-given : goal.returns-clause-given
returns-clause-given c = c.unwrap_or.ensures ∙ ap (λ o. unwrap_or o 1) (number_read (λ bs r. ParsesUnsigned 32 10 bs r × ExplainsUnsignedError 10 bs r × HasUnsignedDigitsIfOk bs r) 32 1 1000000
    (omega arith) (λ u x g. g.0) (found_of c.args.matches.now) (codes "rounds") c.get_one.result c.requires c.get_one.ensures.none c.get_one.ensures.value)

pub returns-clause-in_range : goal.returns-clause-in_range
returns-clause-in_range c =
    let P : ℕ → Type 0 = λ n. (1 ≤ n) × (n ≤ 1000000) in
    let rows = rows_of (found_of c.args.matches.now) in
    subst P (sym (returns-clause-given c)) (bounded_or_one (number_given (codes "rounds") rows) 1000000 (omega arith) (number_bounded 1 1000000 (codes "rounds") rows c.requires))
