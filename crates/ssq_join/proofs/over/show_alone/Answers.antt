use Rattle.std.proofs.Common.{◌≡◌, ◌∷◌, sym, subst, ◌∙◌}
use Rattle.std.proofs.lemmas.Result.{on_ok_weaker}
use Rattle.std.specs.Prelude.{All}
use Rattle.ssq_meaning.specs.Fit.{IsFit}
use Rattle.ssq_meaning.specs.Join.{Considered, alone_of, joined_alone}
use Rattle.ssq_shape.specs.Plain.{shown}
use Rattle.ssq_join.specs.Telling.{Tells}
use Rattle.ssq_join.proofs.Alone.{alone_fits}
use Rattle.ssq_join.proofs.over.show_alone.Goals as goal

pub show_row-requires-clause-fit : goal.show_row-requires-clause-fit
show_row-requires-clause-fit c =
    subst (All IsFit) (sym (c.as_slice.ensures.value ∙ c.in_ok-values.ensures)) (alone_fits c.args.bound.now c.args.row.left c.args.row.values c.requires.fit)

pub returns-clause-told : goal.returns-clause-told
returns-clause-told c fed all read own tells =
    let query = c.args.bound.now in
    let values = c.as_slice.ensures.value ∙ c.in_ok-values.ensures ∙ (λ i. joined_alone query (read.left i) (read.values i)) in
    let is : record { key = c.args.own.now; row = shown query c.as_slice.result.now } ≡ alone_of query fed = (λ i. record { key = own i; row = shown query (values i) }) in
    on_ok_weaker c.show_row.result (λ told. subst (λ (one : Considered). Tells c.show_row.new.found (one ∷ all)) is told) (c.show_row.ensures.told all tells)
