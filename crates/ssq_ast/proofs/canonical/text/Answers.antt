use Rattle.std.proofs.Common.{ap, refl, ◌∙◌}
use Rattle.std.specs.List.{flat_map}
use Rattle.ssq_lex.specs.Printing.{WholeAs, Adds, blank, with_words}
use Rattle.ssq_ast.specs.Canonical.{plain_query, canonical}
use Rattle.ssq_ast.specs.Statement.{WrittenQuery, declared_words, front_words, back_words, select_words, query_words}
use Rattle.ssq_ast.proofs.Printed.{behind}
use Rattle.ssq_ast.proofs.canonical.text.Goals as goal

pub returns : goal.returns
unfolding canonical
returns c =
    let query : WrittenQuery = plain_query c.args.query.now in
    let begun : WholeAs c.new-printer.result blank = rw c.new-printer.ensures (record { is = λ _. refl }) in
    let streams : Adds c.new-printer.result (flat_map declared_words query.streams) c.print_streams.new.printer = rw c.as_slice.ensures at c.print_streams.ensures in
    let printed : WholeAs c.print_back.new.printer (with_words blank (query_words query)) =
    behind blank (flat_map declared_words query.streams) (select_words query.select)
    (behind _ (front_words query.select) (back_words query.select)
    (c.print_back.ensures _ (c.print_front.ensures _ (streams blank begun)))) in
    c.from_string.ensures ∙ c.in_ok-into_string.ensures.1 ∙ ap (λ p. p.text) (printed.is c.in_ok-into_string.ensures.0)
