use Rattle.std.proofs.Common.{rules, sym}
use Rattle.std.proofs.lemmas.Fn.{always_returns_same}
use Rattle.ssq_version.specs.State.{by_bytes}
use Rattle.ssq_version.proofs.Found.{absent, found}
use Rattle.ssq_version.proofs.layers.find.Goals as goal

pub returns-in-Ok : goal.returns-in-Ok
returns-in-Ok c =
    found c.args.entries.now c.in-Ok.at c.args.key.now _ c.requires c.in-Ok.ensures.bound
    (c.in-Ok.ensures.position (λ entry. by_bytes entry.key.now c.args.key.now) (always_returns_same _ _ _ (λ a r f' h. (search rules, search rules))) _)

pub returns-in-Err : goal.returns-in-Err
returns-in-Err c =
    sym (absent c.args.entries.now c.in-Err.field-0 c.args.key.now c.requires (c.in-Err.ensures.position (λ entry. by_bytes entry.key.now c.args.key.now) (always_returns_same _ _ _ (λ a r f' h. (search rules, search rules)))))
