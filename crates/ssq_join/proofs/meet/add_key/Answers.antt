use Rattle.std.proofs.Common.{List, ℕ, ap, sym, ◌∙◌}
use Rattle.std.specs.BTreeSet.{insert_key}
use Rattle.ssq_version.specs.State.{by_bytes}
use Rattle.ssq_join.specs.Telling.{among}
use Rattle.ssq_join.proofs.Knowing.{among_inserted, among_known}
use Rattle.ssq_join.proofs.meet.add_key.Goals as goal

pub returns-in_ok-insert : goal.returns-in_ok-insert
returns-in_ok-insert c = λ bytes.
    ap (λ (keys : List (List ℕ)). among keys bytes) (c.in_ok-insert.ensures.keys ∙ ap (insert_key by_bytes c.args.met.now.keys) c.in_ok-clone.ensures.cases)
    ∙ among_inserted c.args.met.now.keys c.args.key.now bytes

pub returns-else-not-contains : goal.returns-else-not-contains
returns-else-not-contains c = λ bytes. among_known c.args.met.now.keys c.args.key.now bytes (sym c.contains.ensures ∙ c.if-not-contains.false)
