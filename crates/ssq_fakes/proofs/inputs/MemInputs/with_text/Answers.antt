use Rattle.std.proofs.Common.{refl}
use Rattle.ssq_fakes.proofs.inputs.MemInputs.with_text.Goals as goal

pub returns-clause-held : goal.returns-clause-held
returns-clause-held c = rw (c.in_ok-insert.ensures.items, ← c.in_ok-from_str.ensures.ok, ← c.in_ok-to_vec.ensures.items_if_clones_equal (λ x y is. is)) refl
