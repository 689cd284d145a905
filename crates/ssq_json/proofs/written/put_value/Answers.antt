-- Each kind of value is written by a call of its own.
use Rattle.std.proofs.Common.{◌≡◌, true, false, codes, refl, sym, ◌∙◌}
use Rattle.json.proofs.Printed.Utf8.{IsUtf8-are_ascii}
use Rattle.ssq_json.specs.RowText.{value_text}
use Rattle.ssq_json.proofs.Utf8.{at_ok}
use Rattle.ssq_json.proofs.Writing.{word_grown}
use Rattle.ssq_json.proofs.written.put_value.Goals as goal

pub returns-in-Null-clause-text : goal.returns-in-Null-clause-text
unfolding value_text
returns-in-Null-clause-text c =
    rw c.in-Null.is (word_grown c.extend_from_slice.result c.args.out.now.items c.extend_from_slice.new.self.items (codes "null") c.extend_from_slice.ensures.items)

pub returns-in-Null-clause-utf8 : goal.returns-in-Null-clause-utf8
unfolding value_text
returns-in-Null-clause-utf8 c =
    rw c.in-Null.is (at_ok c.extend_from_slice.result (codes "null") (IsUtf8-are_ascii (codes "null") refl))

pub returns-in-Truth-true-clause-text : goal.returns-in-Truth-true-clause-text
unfolding value_text
returns-in-Truth-true-clause-text c =
    let on : c.in-Truth-true.field-0 ≡ true = sym c.in-Truth-true.field-0-is ∙ c.in-Truth-true.field-0-test in
    rw (c.in-Truth-true.is, on) (word_grown c.extend_from_slice-in-Truth-true.result c.args.out.now.items c.extend_from_slice-in-Truth-true.new.self.items (codes "true") c.extend_from_slice-in-Truth-true.ensures.items)

pub returns-in-Truth-true-clause-utf8 : goal.returns-in-Truth-true-clause-utf8
unfolding value_text
returns-in-Truth-true-clause-utf8 c =
    let on : c.in-Truth-true.field-0 ≡ true = sym c.in-Truth-true.field-0-is ∙ c.in-Truth-true.field-0-test in
    rw (c.in-Truth-true.is, on) (at_ok c.extend_from_slice-in-Truth-true.result (codes "true") (IsUtf8-are_ascii (codes "true") refl))

pub returns-in-Truth-false-clause-text : goal.returns-in-Truth-false-clause-text
unfolding value_text
returns-in-Truth-false-clause-text c =
    let on : c.in-Truth-false.field-0 ≡ false = sym c.in-Truth-false.field-0-is ∙ c.in-Truth-false.field-0-test in
    rw (c.in-Truth-false.is, on) (word_grown c.extend_from_slice-in-Truth-false.result c.args.out.now.items c.extend_from_slice-in-Truth-false.new.self.items (codes "false") c.extend_from_slice-in-Truth-false.ensures.items)

pub returns-in-Truth-false-clause-utf8 : goal.returns-in-Truth-false-clause-utf8
unfolding value_text
returns-in-Truth-false-clause-utf8 c =
    let on : c.in-Truth-false.field-0 ≡ false = sym c.in-Truth-false.field-0-is ∙ c.in-Truth-false.field-0-test in
    rw (c.in-Truth-false.is, on) (at_ok c.extend_from_slice-in-Truth-false.result (codes "false") (IsUtf8-are_ascii (codes "false") refl))

pub returns-in-Text-clause-text : goal.returns-in-Text-clause-text
unfolding value_text
returns-in-Text-clause-text c = rw (c.in-Text.is, ← c.as_str.ensures) c.put_text.ensures.text

pub returns-in-Text-clause-utf8 : goal.returns-in-Text-clause-utf8
unfolding value_text
returns-in-Text-clause-utf8 c = rw (c.in-Text.is, ← c.as_str.ensures) c.put_text.ensures.utf8
