use Rattle.std.proofs.Common.{refl}
use Rattle.clap.proofs.OnLiterals.{clap_on_literals}
use Rattle.ssq_words.specs.Asking.{asked, explain_asked, gen_asked, run_asked, show_asked, status_asked, subcommand_asked}
use Rattle.ssq_words.specs.Program.{explain_app, gen_app, program, run_app, show_app, status_app, tables_app, top_app}
use Rattle.ssq_words.proofs.lines.lines_are_read.Goals as goal

pub returns-clause-run : goal.returns-clause-run
unfolding clap_on_literals asked subcommand_asked run_asked show_asked explain_asked status_asked gen_asked program run_app show_app explain_app status_app gen_app tables_app top_app
returns-clause-run c = refl

pub returns-clause-max_lines : goal.returns-clause-max_lines
unfolding clap_on_literals asked subcommand_asked run_asked show_asked explain_asked status_asked gen_asked program run_app show_app explain_app status_app gen_app tables_app top_app
returns-clause-max_lines c = refl

pub returns-clause-rounds : goal.returns-clause-rounds
unfolding clap_on_literals asked subcommand_asked run_asked show_asked explain_asked status_asked gen_asked program run_app show_app explain_app status_app gen_app tables_app top_app
returns-clause-rounds c = refl

pub returns-clause-status : goal.returns-clause-status
unfolding clap_on_literals asked subcommand_asked run_asked show_asked explain_asked status_asked gen_asked program run_app show_app explain_app status_app gen_app tables_app top_app
returns-clause-status c = refl

pub returns-clause-walk : goal.returns-clause-walk
unfolding clap_on_literals asked subcommand_asked run_asked show_asked explain_asked status_asked gen_asked program run_app show_app explain_app status_app gen_app tables_app top_app
returns-clause-walk c = refl

pub returns-clause-no_lines : goal.returns-clause-no_lines
unfolding clap_on_literals asked subcommand_asked run_asked show_asked explain_asked status_asked gen_asked program run_app show_app explain_app status_app gen_app tables_app top_app
returns-clause-no_lines c = refl

pub returns-clause-nothing : goal.returns-clause-nothing
unfolding clap_on_literals asked subcommand_asked run_asked show_asked explain_asked status_asked gen_asked program run_app show_app explain_app status_app gen_app tables_app top_app
returns-clause-nothing c = refl

pub returns-clause-no_query : goal.returns-clause-no_query
unfolding clap_on_literals asked subcommand_asked run_asked show_asked explain_asked status_asked gen_asked program run_app show_app explain_app status_app gen_app tables_app top_app
returns-clause-no_query c = refl

pub returns-clause-two_queries : goal.returns-clause-two_queries
unfolding clap_on_literals asked subcommand_asked run_asked show_asked explain_asked status_asked gen_asked program run_app show_app explain_app status_app gen_app tables_app top_app
returns-clause-two_queries c = refl

pub returns-clause-partitions : goal.returns-clause-partitions
unfolding clap_on_literals asked subcommand_asked run_asked show_asked explain_asked status_asked gen_asked program run_app show_app explain_app status_app gen_app tables_app top_app
returns-clause-partitions c = refl

pub returns-clause-explain : goal.returns-clause-explain
unfolding clap_on_literals asked subcommand_asked run_asked show_asked explain_asked status_asked gen_asked program run_app show_app explain_app status_app gen_app tables_app top_app
returns-clause-explain c = refl

pub returns-clause-no_partitions : goal.returns-clause-no_partitions
unfolding clap_on_literals asked subcommand_asked run_asked show_asked explain_asked status_asked gen_asked program run_app show_app explain_app status_app gen_app tables_app top_app
returns-clause-no_partitions c = refl

pub returns-clause-partitions_past : goal.returns-clause-partitions_past
unfolding clap_on_literals asked subcommand_asked run_asked show_asked explain_asked status_asked gen_asked program run_app show_app explain_app status_app gen_app tables_app top_app
returns-clause-partitions_past c = refl

pub returns-clause-explain_nothing : goal.returns-clause-explain_nothing
unfolding clap_on_literals asked subcommand_asked run_asked show_asked explain_asked status_asked gen_asked program run_app show_app explain_app status_app gen_app tables_app top_app
returns-clause-explain_nothing c = refl

pub returns-clause-show : goal.returns-clause-show
unfolding clap_on_literals asked subcommand_asked run_asked show_asked explain_asked status_asked gen_asked program run_app show_app explain_app status_app gen_app tables_app top_app
returns-clause-show c = refl

pub returns-clause-generated : goal.returns-clause-generated
unfolding clap_on_literals asked subcommand_asked run_asked show_asked explain_asked status_asked gen_asked program run_app show_app explain_app status_app gen_app tables_app top_app
returns-clause-generated c = refl

pub returns-clause-number_past : goal.returns-clause-number_past
unfolding clap_on_literals asked subcommand_asked run_asked show_asked explain_asked status_asked gen_asked program run_app show_app explain_app status_app gen_app tables_app top_app
returns-clause-number_past c = refl

pub returns-clause-none_generated : goal.returns-clause-none_generated
unfolding clap_on_literals asked subcommand_asked run_asked show_asked explain_asked status_asked gen_asked program run_app show_app explain_app status_app gen_app tables_app top_app
returns-clause-none_generated c = refl

pub returns-clause-no_count : goal.returns-clause-no_count
unfolding clap_on_literals asked subcommand_asked run_asked show_asked explain_asked status_asked gen_asked program run_app show_app explain_app status_app gen_app tables_app top_app
returns-clause-no_count c = refl
