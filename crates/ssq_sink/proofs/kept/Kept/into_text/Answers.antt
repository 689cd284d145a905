use Rattle.std.proofs.Common.{◌∙◌, inl, inr, subst}
use Rattle.std.proofs.lemmas.Result.{IfOk-weaker}
use Rattle.ssq_sink.specs.Passing.{IsKept}
use Rattle.ssq_sink.specs.Table.{joined}
use Rattle.ssq_sink.specs.declared.reading.Reading.TheVariants as how
use Rattle.ssq_sink.proofs.Passes.{is_table_text}
use Rattle.ssq_sink.proofs.kept.Kept.into_text.Goals as goal

pub utf8_text-requires : goal.utf8_text-requires
utf8_text-requires c = elim c.in-Each.is [
  | inl is ↦ (subst (λ kept. IsKept c.args.bound.now c.requires.0 kept) is c.requires.1).2
  | inr is ↦ (subst (λ kept. IsKept c.args.bound.now c.requires.0 kept) is c.requires.1).2
]

pub returns-in-Each : goal.returns-in-Each
returns-in-Each c = elim c.in-Each.is [
  | inl is ↦ rw is (λ epochs so. is_table_text how.Each c.args.bound.now epochs c.utf8_text.result so.0 (c.utf8_text.ensures ∙ so.1))
  | inr is ↦ rw is (λ epochs so. is_table_text how.Last c.args.bound.now epochs c.utf8_text.result so.0 (c.utf8_text.ensures ∙ so.1))
]

pub into_text-requires : goal.into_text-requires
into_text-requires c = (joined c.requires.0, (subst (λ kept. IsKept c.args.bound.now c.requires.0 kept) c.in-Latest.is c.requires.1).1)

pub returns-in-Latest : goal.returns-in-Latest
returns-in-Latest c = rw c.in-Latest.is (λ epochs so. IfOk-weaker c.into_text.result _ _ (λ text is. is_table_text how.Latest c.args.bound.now epochs text so.0 is) (c.into_text.ensures (joined epochs) so.1))
