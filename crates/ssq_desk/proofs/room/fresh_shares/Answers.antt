use Rattle.std.proofs.Common.{rules, List, sym, subst}
use Rattle.std.specs.Prelude.{All}
use Rattle.std.proofs.lemmas.List.Elements.{All-push}
use Rattle.ssq_desk.specs.declared.desk.Share.{Share}
use Rattle.ssq_desk.specs.Room.{IsFresh}
use Rattle.ssq_desk.proofs.room.fresh_shares.Goals as goal

pub loop-preserved : goal.loop-preserved
loop-preserved g c = record {
  count = search rules;
  fresh = subst (λ (l : List (Share g.row.S.Denot)). All (IsFresh c.args.parts) l) (sym c.in_ok-push.ensures.items)
      (All-push (IsFresh c.args.parts) c.loop.shares.items c.in_ok-fresh_share.field-0 c.loop.invariant.fresh c.in_ok-fresh_share.ensures);
}
