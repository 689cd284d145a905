-- Texts of strings are UTF-8.
use Rattle.std.proofs.Common.{◌≡◌, ◌+◌, ◌≤◌, ◌++◌, List, ℕ, Ok, refl, length}
use Rattle.std.specs.Str.{IsUtf8}
use Rattle.std.proofs.lemmas.Bool.{le-leb}
use Rattle.std.proofs.lemmas.Str.{IsUtf8-append, is_utf8-from_IsUtf8}
use Rattle.ssq_value.specs.declared.value.Value.TheVariants.{Text}
use Rattle.ssq_shape.specs.Evaluation.{longest, constant, joined}
use Rattle.std.specs.Prelude.{Some}

pub text_kept : (text : List ℕ) → length text ≤ longest → IsUtf8 text → constant (Text text) ≡ Ok (Text text)
text_kept text short utf8 = rw (le-leb (length text) longest short, is_utf8-from_IsUtf8 text utf8) refl

pub texts_joined : (a b text : List ℕ) → length a + length b ≤ longest → IsUtf8 a → IsUtf8 b → text ≡ a ++ b → joined (Some a) (Some b) ≡ Ok (Text text)
texts_joined a b text short first second is =
    rw (le-leb (length a + length b) longest short, is_utf8-from_IsUtf8 (a ++ b) (IsUtf8-append a b first second), is) refl
