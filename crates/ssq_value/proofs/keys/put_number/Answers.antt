use Rattle.std.proofs.Common.{List, ℕ, [], ◌∷◌, ◌∙◌, ap, subst, sym}
use Rattle.std.specs.Int.{w64, to_be_bytes}
use Rattle.std.proofs.lemmas.Int.{to_z-of_z}
use Rattle.std.proofs.lemmas.List.{append-nil}
use Rattle.ssq_value.specs.Grown.{Grows}
use Rattle.ssq_value.specs.Key.{raised}
use Rattle.ssq_value.proofs.Growing.{extended, failed}
use Rattle.ssq_value.proofs.keys.put_number.Goals as goal

pub returns-in_err-push : goal.returns-in_err-push
returns-in_err-push c = failed c.args.out.now.items c.args.out.now.items c.push.new.self.items [] _ c.from_residual.result c.from_residual.ensures.0 (sym (append-nil c.args.out.now.items)) c.in_err-push.ensures.items

pub returns : goal.returns
returns c =
    let spelled = c.to_be_bytes.ensures ∙ ap (to_be_bytes w64) (c.without_sign.ensures ∙ ap raised (to_z-of_z w64 c.args.number c.ranges.number)) in
    subst (λ (bytes : List ℕ). Grows c.args.out.now.items c.extend_from_slice.new.self.items c.extend_from_slice.result (c.args.kind ∷ bytes)) spelled
    (extended c.args.out.now.items c.push.new.self.items c.extend_from_slice.new.self.items (c.args.kind ∷ []) c.to_be_bytes.result c.extend_from_slice.result c.in_ok-push.ensures.items c.extend_from_slice.ensures.items)
