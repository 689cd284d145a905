use denote.Shadow.{shadow}
use denote.Text.{Utf8}
use Rattle.std.proofs.Common.{◌≡◌, ◌++◌, ◌∷◌, length, string_bytes}
use Rattle.ssq_lex.specs.Lexeme.{doubled}
use Rattle.ssq_lex.proofs.quoting.push_quoted.Given as goal

abbrev pub invariant-loop-before : goal.invariant-loop-before
invariant-loop-before l = (string_bytes l.out ++ doubled l.rest ≡ string_bytes l.fn.out ++ 39 ∷ doubled l.text) × shadow (Utf8 l.rest)

abbrev pub decreases-loop-before : goal.decreases-loop-before
decreases-loop-before l = length l.rest
