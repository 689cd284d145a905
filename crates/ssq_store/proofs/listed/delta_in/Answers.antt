use Rattle.std.proofs.Common.{◌∙◌, Some, refl, sym, ap, subst}
use Rattle.ssq_outside.specs.Files.{Content}
use Rattle.ssq_version.specs.State.{layered}
use Rattle.ssq_version.specs.Text.{shown}
use Rattle.ssq_store.specs.Loaded.{IsDelta, IsNoDelta}
use Rattle.ssq_store.proofs.Making.{if_none}
use Rattle.ssq_store.proofs.listed.delta_in.Goals as goal

pub returns-in-None-clause-damaged : goal.returns-in-None-clause-damaged
returns-in-None-clause-damaged c = (
  refl,
  (λ new is.
      let at = sym c.in-Some.ensures ∙ ap Some (sym c.as_slice.ensures) in
      if_none c.in_ok-change.field-0 (IsNoDelta (Some c.as_slice.result.now) c.args.partition c.args.version (layered (shown c.args.older.now) (shown c.args.newer.now))) c.in-None.is c.in_ok-change.ensures.none new
      (subst (λ (content : Content). IsDelta content c.args.partition c.args.version (layered (shown c.args.older.now) (shown c.args.newer.now)) new) at is)),
)
