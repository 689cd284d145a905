use Rattle.std.proofs.Common.{subst, sym, ◌∙◌, IsUtf8}
use Rattle.std.specs.List.{All}
use Rattle.std.proofs.lemmas.List.Sorted.{All-permutation}
use Rattle.std.proofs.lemmas.Str.{IsUtf8-nil}
use Rattle.ssq_time.specs.Time.{IsStampTime}
use Rattle.ssq_value.specs.Kind.{IfTime}
use Rattle.ssq_sink.proofs.Rows.{lines-ordered_text}
use Rattle.ssq_sink.proofs.epoch.rows_text.Goals as goal

pub put_lines-requires : goal.put_lines-requires
put_lines-requires c =
    let printed : All (All (IfTime IsStampTime)) c.as_slice.result.now = rw c.as_slice.ensures.value (All-permutation (All (IfTime IsStampTime)) _ _ c.sort-rows.ensures.permutation c.requires) in
    printed

pub utf8_text-requires : goal.utf8_text-requires
utf8_text-requires c = c.in_ok-put_lines.ensures.utf8 (subst IsUtf8 (sym c.new-text.ensures.items) IsUtf8-nil)

pub returns : goal.returns
returns c names made =
    c.utf8_text.ensures
    ∙ lines-ordered_text names _ _ _ _ _ _ made (c.as_slice.ensures.value ∙ c.sort-rows.ensures.sorted) c.new-text.ensures.items c.in_ok-put_lines.ensures.text
