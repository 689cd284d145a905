-- What stands at the place of a fault is what its cause says: where the characters or the tokens end, what they end at; a token that is missing, and a text
-- that is no span or no time, stands after words that begin a query, and is the first that no query has there; what is too deep is so.
use Rattle.std.proofs.Common.{◌≡◌, ◌<◌, ◌≤◌, ℕ, Bool, true, false, ap, ◌∙◌, sym, subst, arith, List, [], ◌∷◌, ◌++◌, length, drop, refl, Option, Some, None, Result, Ok, Err}
use Rattle.std.specs.Prelude.{IfErr, nat_lt, if◌then◌else◌}
use Rattle.std.specs.Str.{is_utf8}
use Rattle.std.specs.Str.Lossy.{utf8_valid_len}
use Rattle.std.proofs.lemmas.Bool.Decides.{nat_tests}
use Rattle.ssq_ast.specs.declared.query.Query.{Query}
use Rattle.std.proofs.lemmas.List.{map-append}
use Rattle.ssq_ast.specs.Expression.{Words, IsRegular}
use Rattle.ssq_ast.specs.Statement.{IsWritten, query_tree, query_words, IsRegularQuery}
use Rattle.ssq_lex.specs.declared.fault.LexCause.{LexCause}
use Rattle.ssq_lex.specs.declared.fault.LexCause.TheVariants as lex
use Rattle.ssq_lex.specs.declared.fault.Refusal.{Refusal as LexRefusal}
use Rattle.ssq_lex.specs.Cut.{cut_of}
use Rattle.ssq_parse.specs.declared.fault.ParseCause.{ParseCause}
use Rattle.ssq_parse.specs.declared.fault.ParseCause.TheVariants as cause
use Rattle.ssq_parse.specs.declared.fault.ParseFault.{ParseFault}
use Rattle.ssq_parse.specs.declared.fault.ParseFault.TheVariants.{Refused, NoMemory}
use Rattle.ssq_parse.specs.Begun.{BeginsQuery, or_end}
use Rattle.ssq_parse.specs.Faults.{next_word, IsFirst, FaultAt, StandsAt}
use Rattle.ssq_parse.specs.File.{Fault, as_cause, ended, placed, judged, judged_cut, query_of, Answers}
use Rattle.ssq_parse.specs.Queries.{query_at}
use Rattle.ssq_parse.specs.Reading.{Ahead, Made, Refusal}
use Rattle.ssq_parse.specs.Written.{says, starts}
use Rattle.ssq_parse.proofs.Begun.{Begun}
use Rattle.ssq_parse.proofs.BegunQueries.{IfMade, ReadsAll, query_begun, all_begin, is_begun, text_begins}
use Rattle.ssq_parse.specs.Deep.{DeepBy}
use Rattle.ssq_parse.proofs.DeepLemmas.{IfDeep}
use Rattle.ssq_parse.proofs.DeepQueries.{IsDeep, query_deep}
use Rattle.ssq_parse.proofs.Lexical.{IsBad, bad_here, broken}
use Rattle.ssq_parse.proofs.Laid.{Where, laid}
use Rattle.ssq_parse.proofs.Laid as laying
use Rattle.ssq_parse.proofs.Local.{IfMissing, next}
use Rattle.ssq_parse.proofs.LocalQueries.{Stands, IfStands, query_stands}

abbrev IfFirst : List ℕ → Result Query Fault → Type 0
IfFirst file (Ok query) = Unit {0}
IfFirst file (Err fault) = FaultAt file fault.cause fault.at

-- tokens of these words, of which the next is the same token
record Alike (rest : Ahead) (words : Words) : Type 0 where
  others : Ahead
  same : next rest ≡ next others
  said : says others ≡ words

says_laid : (ws : Words) (p : Where) → says (laid ws p) ≡ ws
says_laid [] p = refl
says_laid (w ∷ ws) p = ap (λ vs. w ∷ vs) (says_laid ws (laying.next p))

alike : (rest : Ahead) (words : Words) → next_word (says rest) ≡ next_word words → Alike rest words
alike [] [] is = record { others = []; same = refl; said = refl }
alike [] (w ∷ ws) is = absurd (cc)
alike (t ∷ ts) [] is = absurd (cc)
alike (t ∷ ts) (w ∷ ws) is =
    let word : t.said ≡ w = cc in
    let p : Where = record { starts = []; ends = [] } in
    record { others = t ∷ laid ws p; same = refl; said = ap (λ v. v ∷ says (laid ws p)) word ∙ ap (λ vs. w ∷ vs) (says_laid ws p) }

none_written : (tokens : Ahead) (refusal : Refusal) (s : Stands tokens refusal) (words : Words) (a : Alike s.rest words) (query : Query) (w : Ahead)
    → says w ≡ says s.taken ++ words → IsWritten w query → ⊥
none_written tokens refusal s words a query w same q =
    let all : Ahead = s.taken ++ a.others in
    s.none a.others a.same (query_tree q.written (starts all)) (record {
      written = q.written;
      regular = q.regular;
      said = map-append (λ token. token.said) s.taken a.others ∙ ap (λ ws. says s.taken ++ ws) a.said ∙ sym same ∙ q.said;
      meant = refl;
    })

abbrev first_of_file : (file : List ℕ) (refusal : Refusal) → Stands (cut_of file).tokens refusal → IsFirst file (or_end (length file) refusal.at)
first_of_file file refusal s = record {
  taken = s.taken;
  rest = s.rest;
  whole = s.whole;
  here = ap (or_end (length file)) s.here;
  none = λ others words is next_is query q. none_written (cut_of file).tokens refusal s words (alike s.rest words next_is) query others is q;
}

lexical_by : (file : List ℕ) (at : ℕ) (c : LexCause) → (cut_of file).fault ≡ Some (record { at = at; cause = c }) → BeginsQuery (says (cut_of file).tokens) → IsBad c (drop at file)
    → FaultAt file (as_cause c) at
lexical_by file at lex.BadChar ends begun bad = record { cause = lex.BadChar; ends = ends; begun = begun; is = bad }
lexical_by file at lex.BadNumber ends begun bad = record { cause = lex.BadNumber; ends = ends; begun = begun; is = bad }
lexical_by file at lex.Unclosed ends begun bad = record { cause = lex.Unclosed; ends = ends; begun = begun; is = bad }

lexical : (file : List ℕ) (refusal : LexRefusal) → (cut_of file).fault ≡ Some refusal → BeginsQuery (says (cut_of file).tokens) → FaultAt file (as_cause refusal.cause) refusal.at
lexical file refusal ends begun = lexical_by file refusal.at refusal.cause ends begun (bad_here file refusal ends)

at_end : {P : Type 0} (c : ParseCause) → IfMissing c None P → P
at_end cause.Expected p = p
at_end cause.BadText p = p
at_end cause.TooDeep p = p
at_end other p = absurd p

ended_first : (file : List ℕ) (fault : Option LexRefusal) → (cut_of file).fault ≡ fault → (c : ParseCause) → Stands (cut_of file).tokens (record { at = None; cause = c })
    → Begun query_words (IsRegularQuery IsRegular) (cut_of file).tokens (record { at = None; cause = c }) → BeginsQuery (says (cut_of file).tokens) → IfFirst file (Err (ended (length file) fault))
ended_first file None ends c s b all = record { begun = is_begun file (record { at = None; cause = c }) b; first = first_of_file file (record { at = None; cause = c }) s }
ended_first file (Some refusal) ends c s b all = lexical file refusal ends all

placed_first : (file : List ℕ) (fault : Option LexRefusal) → (cut_of file).fault ≡ fault → (c : ParseCause) (at : Option ℕ) → IfMissing c at (Stands (cut_of file).tokens (record { at = at; cause = c }))
    → IfMissing c at (Begun query_words (IsRegularQuery IsRegular) (cut_of file).tokens (record { at = at; cause = c })) → IfDeep c at (DeepBy 0 (cut_of file).tokens)
    → (at ≡ None → BeginsQuery (says (cut_of file).tokens)) → IfFirst file (Err (placed (ended (length file) fault) at c))
placed_first file fault ends cause.Expected (Some at) s b d all = record { begun = is_begun file (record { at = Some at; cause = cause.Expected }) b; first = first_of_file file (record { at = Some at; cause = cause.Expected }) s }
placed_first file fault ends cause.BadText (Some at) s b d all =
    let refusal : Refusal = record { at = Some at; cause = cause.BadText } in
    record { begun = is_begun file refusal b; first = first_of_file file refusal s; takes = text_begins file refusal b b.text; bad = s.bad }
placed_first file fault ends cause.TooDeep (Some at) s b d all = d
placed_first file fault ends c None s b d all = ended_first file fault ends c (at_end c s) (at_end c b) (all refl)
placed_first file fault ends c (Some at) s b d all = absurd s

judged_first : (file : List ℕ) (fault : Option LexRefusal) → (cut_of file).fault ≡ fault → (made : Made Query) → IfStands (cut_of file).tokens made
    → IfMade (cut_of file).tokens made → IsDeep (cut_of file).tokens made → (ReadsAll made → BeginsQuery (says (cut_of file).tokens)) → IfFirst file (judged (length file) fault made)
judged_first file fault ends (Err refusal) s b d all = placed_first file fault ends refusal.cause refusal.at s b d all
judged_first file None ends (Ok query) s b d all = tt
judged_first file (Some refusal) ends (Ok query) s b d all = lexical file refusal ends (all tt)

file_by : (file : List ℕ) (long utf8 : Bool) → nat_lt 65536 (length file) ≡ long → is_utf8 file ≡ utf8
    → IfFirst file (if long then Err (record { at = 65536; cause = cause.TooLong })
    else (if utf8 then judged_cut (length file) (cut_of file) else Err (record { at = utf8_valid_len file; cause = cause.NotUtf8 })))
file_by file true utf8 is_long is_text = let long : 65536 < length file = grind (arith, nat_tests) in (long, refl)
file_by file false false is_long is_text = let short : length file ≤ 65536 = grind (arith, nat_tests) in (short, broken file is_text)
file_by file false true is_long is_text =
    judged_first file (cut_of file).fault refl (query_at (cut_of file).tokens) (query_stands (cut_of file).tokens) (query_begun (cut_of file).tokens) (query_deep (cut_of file).tokens) (all_begin (cut_of file).tokens)

file_first : (file : List ℕ) → IfFirst file (query_of file)
unfolding query_of
file_first file = file_by file (nat_lt 65536 (length file)) (is_utf8 file) refl refl

answered : (file : List ℕ) (found : Result Query Fault) (result : Result Query ParseFault) → IfFirst file found → Answers found result → IfErr result (StandsAt file)
answered file found (Ok query) holds same = tt
answered file found (Err (Refused at why)) holds same = let P : Result Query Fault → Type 0 = IfFirst file in subst P same holds
answered file found (Err NoMemory) holds same = tt

pub fault_first : (file : List ℕ) (result : Result Query ParseFault) → Answers (query_of file) result → IfErr result (StandsAt file)
fault_first file result answer = answered file (query_of file) result (file_first file) answer
