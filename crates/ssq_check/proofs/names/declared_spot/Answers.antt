use Rattle.std.proofs.Common.{◌≡◌, ◌<◌, rules, length, get_or}
use Rattle.ssq_check.specs.declared.scope.Side.TheVariants as side
use Rattle.ssq_check.proofs.Behind.{one_found, none_found}
use Rattle.ssq_check.proofs.Declared.{is_named, declared_found, declared_missing}
use Rattle.ssq_check.proofs.names.declared_spot.Goals as goal

pub returns-then-eq : goal.returns-then-eq
returns-then-eq c =
    let decls = c.args.decls.now in
    let name = c.args.name.now in
    let at = c.loop-at.at in
    let decl = c.index-decls-at.result in
    let inside : at < length decls = search rules in
    let is : decl ≡ get_or decls at decl = search rules in
    declared_found side.Left decls name at decl (one_found (is_named name) decls at c.loop-at.invariant decl inside is (search rules)) inside is

pub returns : goal.returns
returns c =
    declared_missing side.Left c.args.decls.now c.args.name.now
    (none_found (is_named c.args.name.now) c.args.decls.now c.loop-at.at c.loop-at.invariant (search rules))
