use Rattle.std.proofs.Common.{◌≡◌, drop}
use Rattle.ssq_fakes.specs.Inputs.{text_in}
use Rattle.ssq_fakes.proofs.inputs.MemInputs.find_text.Given as goal

abbrev pub invariant-loop-text : goal.invariant-loop-text
invariant-loop-text l = text_in l.self.texts.items l.name ≡ text_in (drop l.text-index l.self.texts.items) l.name
