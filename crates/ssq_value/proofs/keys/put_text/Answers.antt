use Rattle.std.proofs.Common.{List, ℕ, [], ◌∷◌, ◌++◌, ◌∙◌, ap, ap₂, append_assoc, subst, sym}
use Rattle.std.proofs.lemmas.List.{append-nil}
use Rattle.ssq_value.specs.Grown.{Grows}
use Rattle.ssq_value.proofs.Growing.{extended, failed}
use Rattle.ssq_value.proofs.keys.put_text.Goals as goal

pub returns-in_err-push : goal.returns-in_err-push
returns-in_err-push c = failed c.args.out.now.items c.args.out.now.items c.push.new.self.items [] _ c.from_residual.result c.from_residual.ensures.0 (sym (append-nil c.args.out.now.items)) c.in_err-push.ensures.items

pub returns-in_err-extend_from_slice : goal.returns-in_err-extend_from_slice
returns-in_err-extend_from_slice c =
    failed c.args.out.now.items c.push.new.self.items c.extend_from_slice.new.self.items (4 ∷ []) _ c.from_residual-in_err-extend_from_slice.result c.from_residual-in_err-extend_from_slice.ensures.0
    c.in_ok-push.ensures.items c.in_err-extend_from_slice.ensures.items

pub returns : goal.returns
returns c =
    let grown = c.in_ok-extend_from_slice.ensures.items ∙ ap (λ (bytes : List ℕ). bytes ++ c.to_be_bytes.result) c.in_ok-push.ensures.items ∙ append_assoc c.args.out.now.items (4 ∷ []) c.to_be_bytes.result in
    let spelled = ap₂ (λ (size bytes : List ℕ). 4 ∷ (size ++ bytes)) c.to_be_bytes.ensures c.as_bytes.ensures.value in
    subst (λ (bytes : List ℕ). Grows c.args.out.now.items c.extend_from_slice-2.new.self.items c.extend_from_slice-2.result bytes) spelled
    (extended c.args.out.now.items c.extend_from_slice.new.self.items c.extend_from_slice-2.new.self.items (4 ∷ c.to_be_bytes.result) c.as_bytes.result.now c.extend_from_slice-2.result grown c.extend_from_slice-2.ensures.items)
