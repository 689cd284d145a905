use Rattle.std.proofs.Common.{◌∙◌, arith, ap, subst, sym, refl, take, [], List}
use Rattle.std.specs.List.{flat_map}
use Rattle.std.proofs.lemmas.List.{take_all as take_whole}
use Rattle.ssq_ast.specs.declared.expr.Ident.{Ident}
use Rattle.ssq_check.specs.Fault.{FirstOf}
use Rattle.ssq_check.specs.Lists.{Doubled}
use Rattle.ssq_check.specs.Clauses.{ident_name, ident_place, group_columns}
use Rattle.ssq_check.proofs.Lists.{AreNoted, take_one, flat_one, flat_none, noted_none, noted_more}
use Rattle.ssq_check.proofs.list.Names.take_columns.Goals as goal
use Rattle.ssq_check.proofs.list.Names.take_columns.Goals.{in-Column+in_ok-take-in-Column, in-Window}

pub loop-item-init : goal.loop-item-init
loop-item-init c = noted_none ident_name ident_place c.args.self.now.double c.args.self.now.seen.keys c.requires.seen c.requires.double

pub loop-item-preserved : goal.loop-item-preserved
loop-item-preserved c =
    let front = take c.loop-item.item-index c.args.items.now in
    let columns = flat_map group_columns front in
    let more = ap (flat_map group_columns) (take_one c.args.items.now c.loop-item.item-index c.item-item.result c.loop-item-test.true c.item-item.is) in
    elim c.match-item.branch [
      | in-Column+in_ok-take-in-Column w ↦
          rw (w.self-is)
          (noted_more ident_name ident_place columns _ w.in-Column.ident w.as_str.result.now w.in-Column.ident.at c.loop-item.self.double _ c.loop-item.self.seen.keys _
          (more ∙ flat_one group_columns front c.item-item.result w.in-Column.ident (ap group_columns w.in-Column.is)) w.as_str.ensures refl w.in_ok-take-in-Column.ensures.double w.in_ok-take-in-Column.ensures.seen
          c.loop-item.invariant)
      | in-Window w ↦
          rw (w.self-is)
          (subst (λ (xs : List Ident). AreNoted ident_name ident_place xs c.loop-item.self.double c.loop-item.self.seen.keys) (sym (more ∙ flat_none group_columns front c.item-item.result (ap group_columns w.in-Window.is))) c.loop-item.invariant)
    ]

pub returns : goal.returns
returns c =
    subst (λ xs. FirstOf (Doubled ident_name ident_place [] (flat_map group_columns xs)) c.loop-item.self.double) (take_whole c.loop-item.item-index c.args.items.now (omega (arith, c.loop-item-test.false))) c.loop-item.invariant.first
