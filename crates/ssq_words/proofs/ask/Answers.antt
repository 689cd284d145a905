use Rattle.std.proofs.Common.{◌≡◌, ◌∙◌, ap, sym, subst, map, string_bytes, inl, inr}
use Rattle.std.specs.Prelude.{option_and_then}
use Rattle.clap.specs.Words.{App, IsAmong, kind_of, app_of, fault_of, is_simple, is_simple_and_free, subcommand_of, subcommand_rows_of}
use Rattle.ssq_words.specs.Program.{program}
use Rattle.ssq_words.specs.Asking.{subcommand_asked}
use Rattle.ssq_words.specs.Reading.{IsWhole}
use Rattle.ssq_words.proofs.TakenLemmas.{asked_faulty, asked_free, cause, free_asks, program_is_free, program_is_simple, taken_whole}
use Rattle.ssq_words.proofs.ask.Goals as goal

pub command_of-requires : goal.command_of-requires
command_of-requires c =
    let is : app_of c.in_ok-program.field-0 ≡ program = c.in_ok-program.ensures in
    let words = map string_bytes c.args.words.now in
    let free = c.in-Ok.ensures.kinds (ap is_simple_and_free is ∙ program_is_free) in
    let whole = taken_whole words (ap (λ (a : App). fault_of a words) (sym is) ∙ free) in
    let same : subcommand_rows_of c.in-Ok.matches ≡ subcommand_of program words =
    (c.in-Ok.ensures.matches (ap is_simple is ∙ program_is_simple)).1 ∙ ap (λ (a : App). subcommand_of a words) is in
    subst IsWhole (sym same) whole

pub returns-in-Ok-clause-taken : goal.returns-in-Ok-clause-taken
returns-in-Ok-clause-taken c =
    let is : app_of c.in_ok-program.field-0 ≡ program = c.in_ok-program.ensures in
    let words = map string_bytes c.args.words.now in
    let free = c.in-Ok.ensures.kinds (ap is_simple_and_free is ∙ program_is_free) in
    let same : subcommand_rows_of c.in-Ok.matches ≡ subcommand_of program words =
    (c.in-Ok.ensures.matches (ap is_simple is ∙ program_is_simple)).1 ∙ ap (λ (a : App). subcommand_of a words) is in
    asked_free words (ap (λ (a : App). fault_of a words) (sym is) ∙ free) ∙ ap (option_and_then (λ p. subcommand_asked p.0 p.1)) (sym same) ∙ c.command_of.ensures.asked

pub returns-in-Err-clause-refused : goal.returns-in-Err-clause-refused
returns-in-Err-clause-refused c =
    let is : app_of c.in_ok-program.field-0 ≡ program = c.in_ok-program.ensures in
    let words = map string_bytes c.args.words.now in
    let kind = c.in-Err.ensures.kinds (ap is_simple_and_free is ∙ program_is_free) in
    cause words c.of.result (λ usage. elim kind [
      | inl memory ↦ absurd (c.of.ensures usage memory)
      | inr among ↦ asked_faulty words _ (subst (λ (a : App). IsAmong (kind_of c.in-Err.error) (fault_of a words)) is among)
    ])

pub returns-in-Ok-clause-in_range : goal.returns-in-Ok-clause-in_range
returns-in-Ok-clause-in_range c = c.command_of.ensures.in_range

pub returns-in_err-program-clause-whole : goal.returns-in_err-program-clause-whole
returns-in_err-program-clause-whole c = free_asks (map string_bytes c.args.words.now)

pub returns-in-Ok-clause-whole : goal.returns-in-Ok-clause-whole
returns-in-Ok-clause-whole c = free_asks (map string_bytes c.args.words.now)

pub returns-in-Err-clause-whole : goal.returns-in-Err-clause-whole
returns-in-Err-clause-whole c = free_asks (map string_bytes c.args.words.now)
