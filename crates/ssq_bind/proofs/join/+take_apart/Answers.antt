use Rattle.std.proofs.Common.{◌≡◌, ◌∙◌, sym, refl, [], ◌∷◌, ◌++◌}
use Rattle.ssq_bind.specs.Joins.{parts_of, parts_with}
use Rattle.ssq_check.proofs.Opened.{binary_opened}
use Rattle.ssq_bind.proofs.Joined.{ok_then, same_and, parts_both}
use Rattle.ssq_bind.proofs.join.+take_apart.Goals as goal

pub returns-in_ok-take_apart-in-Binary : goal.returns-in_ok-take_apart-in-Binary
unfolding parts_of
returns-in_ok-take_apart-in-Binary t c =
    let context = c.args.context.now in
    let old = c.args.parts.now in
    let a = c.get.result.now in
    let b = c.get-then-eq.result.now in
    rw (
      binary_opened c.args.value.now c.in-Binary.left_at c.in-Binary.left a c.in-Binary.op c.in-Binary.at c.in-Binary.right_at c.in-Binary.right b c.in-Binary.is c.get.ensures c.get-then-eq.ensures,
      sym (same_and c.in-Binary.op) ∙ sym c.eq.ensures ∙ c.if-eq.true,
    )
    (ok_then c.take_apart-then-eq.result c.take_apart-then-eq.new.parts (parts_with context c.take_apart.new.parts (parts_of b)) (parts_with context old (parts_of a ++ parts_of b))
    ((λ i. parts_with context (c.in_ok-take_apart-in-Binary.ensures i) (parts_of b)) ∙ parts_both context old (parts_of a) (parts_of b))
    c.take_apart-then-eq.ensures)

pub returns-else-eq : goal.returns-else-eq
unfolding parts_of
returns-else-eq t c =
    let own : parts_of c.args.value.now ≡ c.args.value.now ∷ [] =
    rw (
      binary_opened c.args.value.now c.in-Binary.left_at c.in-Binary.left c.in-Binary.left c.in-Binary.op c.in-Binary.at c.in-Binary.right_at c.in-Binary.right c.in-Binary.right c.in-Binary.is refl refl,
      sym (same_and c.in-Binary.op) ∙ sym c.eq.ensures ∙ c.if-eq.false,
    )
    refl in
    rw own c.put.ensures
