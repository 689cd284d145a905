use Rattle.std.proofs.Common.{◌∙◌, Some, option_map, refl, sym, ap, subst}
use Rattle.ssq_outside.specs.Files.{Content}
use Rattle.ssq_store.specs.Loaded.{IsDelta, IsNoDelta}
use Rattle.ssq_store.proofs.Making.{if_none}
use Rattle.ssq_store.proofs.load.delta_of.Goals as goal

pub returns-clause-damaged : goal.returns-clause-damaged
returns-clause-damaged g c tells = (
  refl,
  (λ new is.
      let at = sym (c.in_ok-text.ensures.found tells) ∙ ap (option_map (λ bytes. bytes.items)) c.in-Some.is ∙ ap Some (sym c.as_slice.ensures.value) in
      if_none c.in_ok-change.field-0 (IsNoDelta (Some c.as_slice.result.now) c.args.partition c.args.version c.args.state.now) c.in-None.is c.in_ok-change.ensures.none new (subst (λ (content : Content). IsDelta content c.args.partition c.args.version c.args.state.now new) at is)),
)
