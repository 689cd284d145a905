-- What a file is, by what its reader found.
use Rattle.std.proofs.Common.{◌≡◌, ℕ, ◌≤◌, false, ap, sym, ◌∙◌, arith, List, length, map, None, Result, Ok, Err, IsUtf8}
use Rattle.std.specs.Prelude.{nat_lt, if◌then◌else◌}
use Rattle.std.specs.Str.{is_utf8}
use Rattle.std.specs.Str.Lossy.{utf8_valid_len}
use Rattle.std.proofs.lemmas.Bool.{false_from_ne_true}
use Rattle.std.proofs.lemmas.Bool.Decides.{nat_tests}
use Rattle.std.proofs.lemmas.Str.{IsUtf8-from_is_utf8, is_utf8-from_IsUtf8}
use Rattle.ssq_ast.specs.declared.query.Query.{Query}
use Rattle.ssq_lex.specs.declared.lexer.Lexical.{Lexical}
use Rattle.ssq_lex.specs.Answer.{cut_by}
use Rattle.ssq_lex.specs.Cut.{Cut, cut_of}
use Rattle.ssq_lex.specs.Lexeme.{lexed}
use Rattle.ssq_parse.specs.declared.fault.ParseCause.TheVariants as cause
use Rattle.ssq_parse.specs.declared.fault.ParseFault.{ParseFault}
use Rattle.ssq_parse.specs.declared.fault.ParseFault.TheVariants.{Refused, NoMemory}
use Rattle.ssq_parse.specs.File.{Fault, Answers, Finds, IsQuery, judged, judged_cut, query_of}
use Rattle.ssq_parse.specs.Queries.{query_at}
use Rattle.ssq_parse.specs.Reading.{Ahead}
use Rattle.ssq_parse.proofs.LaidQueries.{query_reads}

abbrev too_long : Result Query Fault
too_long = Err (record { at = 65536; cause = cause.TooLong })

abbrev not_utf8 : List ℕ → Result Query Fault
not_utf8 file = Err (record { at = utf8_valid_len file; cause = cause.NotUtf8 })

short : (file : List ℕ) → length file ≤ 65536 → query_of file ≡ (if is_utf8 file then judged_cut (length file) (cut_of file) else not_utf8 file)
unfolding query_of
short file within =
    let is : nat_lt 65536 (length file) ≡ false = grind (arith, nat_tests) in
    ap (λ b. if b then too_long else (if is_utf8 file then judged_cut (length file) (cut_of file) else not_utf8 file)) is

pub no_text : (file : List ℕ) → length file ≤ 65536 → ¬ (IsUtf8 file) → query_of file ≡ not_utf8 file
no_text file within other =
    short file within
    ∙ ap (λ b. if b then judged_cut (length file) (cut_of file) else not_utf8 file) (false_from_ne_true (is_utf8 file) (λ is. other (IsUtf8-from_is_utf8 file is)))

pub text_query : (file : List ℕ) → length file ≤ 65536 → IsUtf8 file → query_of file ≡ judged_cut (length file) (cut_of file)
text_query file within utf8 =
    short file within ∙ ap (λ b. if b then judged_cut (length file) (cut_of file) else not_utf8 file) (is_utf8-from_IsUtf8 file utf8)

pub text_answers : (file text : List ℕ) (result : Result Query ParseFault) → length file ≤ 65536 → IsUtf8 file → text ≡ file
    → Answers (judged_cut (length text) (cut_of text)) result → Answers (query_of file) result
text_answers file text result within utf8 same answer =
    rw (text_query file within utf8 ∙ ap (λ t. judged_cut (length t) (cut_of t)) (sym same)) answer

pub cut_answers : (len : ℕ) (text : List ℕ) (found : Lexical) (tokens : Ahead) (result : Result Query ParseFault)
    → cut_by found ≡ cut_of text → tokens ≡ map lexed found.tokens.items
    → Answers (judged len found.fault (query_at tokens)) result → Answers (judged_cut len (cut_of text)) result
cut_answers len text found tokens result is same answer =
    rw (ap (judged_cut len) (sym is) ∙ ap (λ t. judged len found.fault (query_at t)) (sym same)) answer

-- ---- each query that is written is found

judged_whole : (len : ℕ) (found : Cut) (query : Query) → found.fault ≡ None → query_at found.tokens ≡ Ok query → judged_cut len found ≡ Ok query
judged_whole len found query whole is = ap (λ fault. judged len fault (query_at found.tokens)) whole ∙ ap (judged len None) is

pub written_is : (file : List ℕ) (query : Query) → IsQuery file query → query_of file ≡ Ok query
written_is file query q = text_query file q.short q.text ∙ judged_whole (length file) (cut_of file) query q.whole (query_reads (cut_of file).tokens query q.written)

finds : (found : Result Query Fault) (result : Result Query ParseFault) (query : Query) → Answers found result → found ≡ Ok query → Finds query result
finds found (Ok other) query answer is = cc
finds found (Err (Refused at cause)) query answer is = absurd (cc)
finds found (Err NoMemory) query answer is = tt

pub each_found : (file : List ℕ) (result : Result Query ParseFault) → Answers (query_of file) result → (query : Query) → IsQuery file query → Finds query result
each_found file result answer query q = finds (query_of file) result query answer (written_is file query q)
