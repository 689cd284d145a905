use Rattle.std.proofs.Common.{ℕ, List, ◌∙◌, ap, refl}
use Rattle.ssq_fakes.proofs.Parts.{held_by-push, plans-push}
use Rattle.ssq_fakes.specs.declared.inputs.Part.{Part}
use Rattle.ssq_fakes.specs.Inputs.{inputs_held, text_in, plan_at, parts_of}
use Rattle.ssq_fakes.proofs.inputs.MemInputs.with_part.Goals as goal

pub returns-clause-held : goal.returns-clause-held
returns-clause-held c =
    rw (c.in_ok-push.ensures.items, ← c.in_ok-stream.ensures.ok)
    (held_by-push (text_in c.args.self.texts.items) c.args.self.parts.items (record { stream = c.in_ok-stream.stream; log = c.args.log }))

pub returns-clause-parts : goal.returns-clause-parts
returns-clause-parts c =
    let plans : List Part → List ℕ → ℕ → List ℕ = λ parts q. plan_at (parts_of parts q) in
    ap plans c.in_ok-push.ensures.items
    ∙ rw (← c.in_ok-stream.ensures.ok)
    (plans-push (inputs_held c.args.self) c.args.self.parts.items (record { stream = c.in_ok-stream.stream; log = c.args.log }) refl)
