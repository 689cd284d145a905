-- The canonical text of a query is read as that query.
use Rattle.std.proofs.Common.{◌≡◌, ℕ, refl, sym, subst, List, Option, Some, None, Result, Ok, Err}
use Rattle.std.specs.Prelude.{IfOk}
use Rattle.ssq_ast.specs.declared.query.Query.{Query}
use Rattle.ssq_ast.specs.Again.{IsReadAgain, IsSayableAgain}
use Rattle.ssq_ast.specs.Canonical.{canonical, plain_query}
use Rattle.ssq_ast.specs.Statement.{IsWritten, query_words}
use Rattle.ssq_lex.specs.Cut.{whole, cut_of, tokens_of}
use Rattle.ssq_lex.specs.declared.fault.Refusal.{Refusal}
use Rattle.ssq_lex.specs.Sayable.{PrintedIsRead, PrintedIsText, TokensAreSayable}
use Rattle.ssq_parse.specs.declared.fault.ParseFault.{ParseFault}
use Rattle.ssq_parse.specs.Again.{HasFile, TextIsParsed}
use Rattle.ssq_parse.specs.File.{IsQuery, query_of, Answers}
use Rattle.ssq_parse.specs.Reading.{Ahead}
use Rattle.ssq_parse.proofs.Files.{written_is}
use Rattle.ssq_parse.proofs.Selects.{parsed}

whole_is : (tokens : Ahead) (fault : Option Refusal) (found : Ahead) → whole tokens fault ≡ Ok found → (fault ≡ None) × (tokens ≡ found)
whole_is tokens None found is = (refl, cc)
whole_is tokens (Some fault) found is = absurd (cc)

cut_is : (text : List ℕ) (found : Ahead) → tokens_of text ≡ Ok found → ((cut_of text).fault ≡ None) × ((cut_of text).tokens ≡ found)
unfolding tokens_of
cut_is text found is = whole_is (cut_of text).tokens (cut_of text).fault found is

pub text_read : PrintedIsRead → PrintedIsText → TokensAreSayable → IsReadAgain → IsSayableAgain → TextIsParsed
unfolding canonical
text_read printed_read printed_text said again sayable file query is short =
    let q : IsQuery file query = parsed file (Ok query) is in
    let can = sayable (cut_of file).tokens query q.written (said file q.text) in
    let read = printed_read (query_words (plain_query query)) can in
    let cut = cut_is (canonical query) read.found read.all in
    let same = again (cut_of file).tokens query q.written read.found read.said in
    record {
      same = same.0;
      read = written_is (canonical query) same.0 (record {
        short = short;
        text = printed_text (query_words (plain_query query)) can;
        whole = cut.0;
        written = subst (λ tokens. IsWritten tokens same.0) (sym cut.1) same.1;
      });
      equal = same.2;
    }

-- the text of a query that the call answers
pub read_again : (file : List ℕ) (result : Result Query ParseFault) → Answers (query_of file) result → TextIsParsed → IfOk result HasFile
read_again file (Ok query) answer law = law file query answer
read_again file (Err fault) answer law = tt
