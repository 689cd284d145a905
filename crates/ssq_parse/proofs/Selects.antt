-- Queries are read as they are written.
use Rattle.std.proofs.Common.{◌≡◌, ℕ, zero, suc, ◌≤◌, Bool, true, false, sym, ap, subst, ◌∙◌, arith, List, [], ◌∷◌, ◌++◌, map, drop, length, refl, Option, Some, None, Result, Ok, Err, append_assoc, append-nil}
use Rattle.std.specs.Prelude.{if◌then◌else◌, nat_lt, is_some, IfOk}
use Rattle.std.specs.List.{flat_map}
use Rattle.std.specs.Str.{is_utf8, IsUtf8}
use Rattle.std.specs.Str.Lossy.{utf8_valid_len}
use Rattle.std.proofs.lemmas.Bool.Decides.{nat_tests}
use Rattle.std.proofs.lemmas.Str.{IsUtf8-from_is_utf8}
use Rattle.ssq_ast.specs.declared.expr.ColumnRef.{ColumnRef}
use Rattle.ssq_ast.specs.declared.expr.Expr.{Expr}
use Rattle.ssq_ast.specs.declared.expr.Expr.TheVariants as e
use Rattle.ssq_ast.specs.declared.query.Item.{Item}
use Rattle.ssq_ast.specs.declared.query.Item.TheVariants as item
use Rattle.ssq_ast.specs.declared.query.Query.{Query}
use Rattle.ssq_ast.specs.declared.query.Select.{Select}
use Rattle.ssq_ast.specs.declared.query.Stream.{Stream}
use Rattle.ssq_ast.specs.Expression.{Words, Written, words, tree, first, ident, of_number, of_text, of_truth, of_moment, of_span, of_column, of_rows, of_function, bracketed, prefixed, null_tested, infixed, between}
use Rattle.ssq_ast.specs.Statement.{WrittenStream, bare_item, named_item, WrittenSelect, WrittenQuery, Each, IsRegularStream, IsRegularItem, IsRegularSelect, IsRegularQuery, IsWritten, separated, each_tree, declared_words, declared_tree, distinct_words, distinct_tree, item_words, item_of, item_tree, join_words, condition_words, deduplicate_words, group_words, order_words, select_words, select_tree, query_words, query_tree, IsFit}
use Rattle.ssq_lex.specs.declared.fault.Refusal.{Refusal as LexRefusal}
use Rattle.ssq_lex.specs.declared.keyword.Keyword.TheVariants as key
use Rattle.ssq_lex.specs.declared.symbol.Symbol.TheVariants as mark
use Rattle.ssq_lex.specs.Cut.{cut_of}
use Rattle.ssq_lex.specs.Lexeme.{keyword, Lexed}
use Rattle.ssq_parse.specs.declared.fault.ParseCause.TheVariants as cause
use Rattle.ssq_parse.specs.declared.fault.ParseFault.{ParseFault}
use Rattle.ssq_parse.specs.declared.fault.ParseFault.TheVariants.{Refused, NoMemory}
use Rattle.ssq_parse.specs.declared.tree.Tree.{Tree}
use Rattle.ssq_parse.specs.Expressions.{whole_at}
use Rattle.ssq_parse.specs.File.{Fault, Answers, judged, judged_cut, query_of, IsQuery}
use Rattle.ssq_parse.specs.Queries.{list_at, stream_at, streams_then, streams_from, streams_at, bare_at, item_by, item_at, join_at, condition_at, deduplicate_at, group_at, order_at, limit_at, mode_at, select_at, alone, whole_query, query_from, query_at}
use Rattle.ssq_parse.specs.Reading.{Ahead, Made, Read, place, behind, seen, sees, is_keyword, is_name, symbol_at, name_at}
use Rattle.ssq_parse.specs.Written.{starts, Took, IfRead, Spelled}
use Rattle.ssq_parse.proofs.Clauses.{clause, thus, sure, hence, keyword_sure, name_sure, onward, name_there, Listed, listed, Conditioned, condition_sound, Ordered, order_sound, Limited, limit_sound, Moded, mode_sound, Streamed, stream_sound, Joined, join_sound, Deduplicated, deduplicate_sound, GroupedBy, group_sound}
use Rattle.ssq_parse.proofs.Parts.{Part, keep}
use Rattle.ssq_parse.proofs.Primary.{name_sound}
use Rattle.ssq_parse.proofs.Whole.{whole_sound}
use Rattle.ssq_parse.proofs.Operands.{symbol_sound}
use Rattle.ssq_parse.proofs.Words.{took_none, took_one, took_more, is_keyword-found}

-- ---- declarations, one after the other

record Streams (found : List Stream) (tokens : Ahead) (read : List Stream × Ahead) : Type 0 where
  pub written : List WrittenStream
  pub list : List Stream
  pub took : Took tokens read.1 (flat_map declared_words written)
  pub each : Each IsRegularStream written
  pub meant : each_tree declared_words declared_tree 0 written (starts tokens) ≡ list
  pub whole : read.0 ≡ found ++ list

no_stream : (found : List Stream) (tokens : Ahead) → Streams found tokens (found, tokens)
no_stream found tokens = record { written = []; list = []; took = took_none tokens; each = tt; meant = refl; whole = sym (append-nil found) }

one_stream : (found : List Stream) (tokens : Ahead) (next : Stream × Ahead) → Streamed tokens next
    → (read : List Stream × Ahead) → Streams (found ++ next.0 ∷ []) next.1 read → Streams found tokens read
one_stream found tokens next p read f = record {
  written = p.written ∷ f.written;
  list = next.0 ∷ f.list;
  took = took_more p.took f.took;
  each = (p.is_good, f.each);
  meant =
      ap (λ from. declared_tree p.written (starts tokens) ∷ each_tree declared_words declared_tree 0 f.written from) p.took.left
      ∙ (λ i. p.meant i ∷ f.meant i);
  whole = f.whole ∙ append_assoc found (next.0 ∷ []) f.list;
}

streams_from_sound : (turns : ℕ) (found : List Stream) (tokens : Ahead) → IfRead (streams_from turns found tokens) (Streams found tokens)
unfolding streams_from
streams_from_sound zero found tokens = no_stream found tokens
streams_from_sound (suc turns) found tokens = clause (Streams found) key.Create (streams_then (streams_from turns) found)
    (λ tokens. no_stream found tokens)
    (λ t ts word. thus (Streams found (t ∷ ts)) (stream_at t.start ts) (λ next. streams_from turns (found ++ next.0 ∷ []) next.1) (stream_sound t ts word)
    (λ next p. keep {Q = Streams found (t ∷ ts)} (streams_from turns (found ++ next.0 ∷ []) next.1)
    (streams_from_sound turns (found ++ next.0 ∷ []) next.1) (λ read f. one_stream found (t ∷ ts) next p read f))) tokens

streams_sound : (tokens : Ahead) → IfRead (streams_at tokens) (Streams [] tokens)
unfolding streams_at
streams_sound tokens = streams_from_sound (length tokens) [] tokens

-- ---- items

abbrev pub Itemed : Ahead → Item × Ahead → Type 0
Itemed = Part item_words item_tree (IsRegularItem IsFit)

abbrev is_column : Expr → Bool
is_column (e.Column column) = true
is_column other = false

abbrev column_of : ColumnRef → Expr → ColumnRef
column_of default (e.Column column) = column
column_of default other = default

-- whether the first of the words is a name
abbrev opening : Words → Bool
opening [] = false
opening (w ∷ ws) = is_name w

plain_name : (at : ℕ) (b : Bool) → is_some (if b then Some at else None) ≡ true → b ≡ true
plain_name at true is = refl
plain_name at false is = absurd (cc)

-- what is a column by its tree and begins with a name is written as a column
bare_column : (w : Written) (tokens rest : Ahead) (column : ColumnRef) (at : ℕ) → Took tokens rest (words w) → tree w (starts tokens) ≡ e.Column column
    → first (starts tokens) ≡ at → sees is_name tokens ≡ true → Itemed tokens (item.Column column at column.column.at, rest)
bare_column (of_column c) tokens rest column at took same begins is = record {
  written = bare_item c;
  took = took;
  is_good = tt;
  meant = λ i. item.Column (column_of column (same i)) (begins i) (column_of column (same i)).column.at;
}
bare_column (bracketed inner) [] rest column at took same begins is = absurd (cc)
bare_column (bracketed inner) (t ∷ ts) rest column at took same begins is =
    let bad : false ≡ true = sym (ap opening took.said) ∙ plain_name t.start (is_name t.said) is in
    absurd (cc)
bare_column (of_number n) tokens rest column at took same begins is = let bad : false ≡ true = ap is_column same in absurd (cc)
bare_column (of_text text) tokens rest column at took same begins is = let bad : false ≡ true = ap is_column same in absurd (cc)
bare_column (of_truth truth) tokens rest column at took same begins is = let bad : false ≡ true = ap is_column same in absurd (cc)
bare_column (of_moment moment) tokens rest column at took same begins is = let bad : false ≡ true = ap is_column same in absurd (cc)
bare_column (of_span span) tokens rest column at took same begins is = let bad : false ≡ true = ap is_column same in absurd (cc)
bare_column of_rows tokens rest column at took same begins is = let bad : false ≡ true = ap is_column same in absurd (cc)
bare_column (of_function f argument) tokens rest column at took same begins is = let bad : false ≡ true = ap is_column same in absurd (cc)
bare_column (prefixed o operand) tokens rest column at took same begins is = let bad : false ≡ true = ap is_column same in absurd (cc)
bare_column (null_tested operand test) tokens rest column at took same begins is = let bad : false ≡ true = ap is_column same in absurd (cc)
bare_column (infixed o left right) tokens rest column at took same begins is = let bad : false ≡ true = ap is_column same in absurd (cc)
bare_column (between operand low high) tokens rest column at took same begins is = let bad : false ≡ true = ap is_column same in absurd (cc)

bare_by_sound : (flag : Bool) (start : Ahead) → sees is_name start ≡ flag → (w : Written) (value : Expr) (at : ℕ) → tree w (starts start) ≡ value → first (starts start) ≡ at → (us : Ahead)
    → IfRead (bare_at flag value at us) (λ found. Took start us (words w) → Itemed start found)
bare_by_sound true start is w (e.Column column) at same begins us = λ took. bare_column w start us column at took same begins is
bare_by_sound true start is w other at same begins us = tt
bare_by_sound false start is w other at same begins us = tt

abbrev Behind : Ahead → Written → Ahead → Item × Ahead → Type 0
Behind start w us found = Took start us (words w) → Itemed start found

item_on : (start : Ahead) (value : Tree) (rest : Ahead) (s : Spelled 0 64 start value rest) → (us : Ahead)
    → IfRead (item_by (sees is_name start) value (seen (is_keyword key.As) us) us) (Behind start s.written us)
item_on start value rest s us = clause (Behind start s.written) key.As (item_by (sees is_name start) value)
    (λ us. bare_by_sound (sees is_name start) start refl s.written value.value value.at s.meant s.at us)
    (λ t ts word. thus (Behind start s.written (t ∷ ts)) (name_at ts) (λ label. Ok (item_of value.value value.at label.0, label.1)) (name_sound ts) (λ label n took.
    let here : drop 1 (drop (length (words s.written)) (starts start)) ≡ starts ts = ap (drop 1) took.left in
    let label_is : ident label.0.text (drop 1 (drop (length (words s.written)) (starts start))) ≡ label.0 = name_there ts label _ here n in
    record {
      written = named_item s.written label.0.text;
      took = took_more took (took_more (took_one t ts (keyword key.As) word) n.0);
      is_good = record { regular = s.regular; brackets = s.opened; heights = s.tall };
      meant = λ i. item_of (s.meant i) (s.at i) (label_is i);
    })) us

pub item_sound : (tokens : Ahead) → IfRead (item_at tokens) (Itemed tokens)
unfolding item_at
item_sound tokens = thus (Itemed tokens) (whole_at tokens) (λ value. item_by (sees is_name tokens) value.0 (seen (is_keyword key.As) value.1) value.1) (whole_sound tokens)
    (λ value s. keep {Q = Itemed tokens} (item_by (sees is_name tokens) value.0 (seen (is_keyword key.As) value.1) value.1)
    (item_on tokens value.0 value.1 s value.1) (λ found more. more s.took))

-- ---- the select

-- what a part means at some places
abbrev meaning : {W A : Type 0} {wrote : W → Words} {made : W → List ℕ → A} {good : W → Type 0} {tokens : Ahead} {found : A × Ahead}
    → Part wrote made good tokens found → List ℕ → A
meaning {made = made} p places = made p.written places

record Distinct (us : Ahead) (word : Option ℕ) (rest : Ahead) : Type 0 where
  pub stands : Bool
  pub took : Took us rest (distinct_words stands)
  pub meant : distinct_tree stands (starts us) ≡ word

distinct_by : (t : Lexed) (ts : Ahead) (b : Bool) → (b ≡ true → t.said ≡ keyword key.Distinct)
    → Distinct (t ∷ ts) (if b then Some t.start else None) (behind (if b then Some t.start else None) (t ∷ ts))
distinct_by t ts true is = record { stands = true; took = took_one t ts (keyword key.Distinct) (is refl); meant = refl }
distinct_by t ts false is = record { stands = false; took = took_none (t ∷ ts); meant = refl }

distinct_of : (us : Ahead) → Distinct us (seen (is_keyword key.Distinct) us) (behind (seen (is_keyword key.Distinct) us) us)
distinct_of [] = record { stands = false; took = took_none []; meant = refl }
distinct_of (t ∷ ts) = distinct_by t ts (is_keyword key.Distinct t.said) (is_keyword-found key.Distinct t.said)

abbrev Selected : Ahead → Select × Ahead → Type 0
Selected = Part select_words select_tree (IsRegularSelect IsFit)

select_sound : (tokens : Ahead) → IfRead (select_at tokens) (Selected tokens)
unfolding select_at
select_sound tokens =
    hence (keyword_sure key.Select tokens) (Selected tokens) _ (λ word w.
    let d : Distinct word.1 (seen (is_keyword key.Distinct) word.1) (behind (seen (is_keyword key.Distinct) word.1) word.1) = distinct_of word.1 in
    let us : Ahead = behind (seen (is_keyword key.Distinct) word.1) word.1 in
    hence (sure (list_at item_at us) (Listed item_words item_tree (IsRegularItem IsFit) us) (listed item_words item_tree (IsRegularItem IsFit) item_at item_sound us)) (Selected tokens) _ (λ items its.
    hence (keyword_sure key.From items.1) (Selected tokens) _ (λ from f.
    hence (name_sure from.1) (Selected tokens) _ (λ stream n.
    hence (sure (join_at stream.1) (Joined stream.1) (join_sound stream.1)) (Selected tokens) _ (λ joined j.
    hence (sure (condition_at key.Where joined.1) (Conditioned key.Where joined.1) (condition_sound key.Where joined.1)) (Selected tokens) _ (λ filter fi.
    hence (sure (deduplicate_at filter.1) (Deduplicated filter.1) (deduplicate_sound filter.1)) (Selected tokens) _ (λ deduplicated de.
    hence (sure (group_at deduplicated.1) (GroupedBy deduplicated.1) (group_sound deduplicated.1)) (Selected tokens) _ (λ grouped g.
    hence (sure (condition_at key.Having grouped.1) (Conditioned key.Having grouped.1) (condition_sound key.Having grouped.1)) (Selected tokens) _ (λ having h.
    hence (sure (order_at having.1) (Ordered having.1) (order_sound having.1)) (Selected tokens) _ (λ ordered o.
    hence (sure (limit_at ordered.1) (Limited ordered.1) (limit_sound ordered.1)) (Selected tokens) _ (λ limited l.
    hence (sure (mode_at limited.1) (Moded limited.1) (mode_sound limited.1)) (Selected tokens) _ (λ shown m.
    thus (Selected tokens) (symbol_at mark.Semicolon shown.1) _ (symbol_sound mark.Semicolon shown.1) (λ ended e.
    let made : WrittenSelect = record {
      distinct = d.stands;
      items = its.written;
      from = stream.0.text;
      join = j.written;
      filter = fi.written;
      deduplicate = de.written;
      group = g.written;
      having = h.written;
      order = o.written;
      limit = l.written;
      mode = shown.0;
    } in
    let from_items : List ℕ = drop (length (distinct_words d.stands)) (drop 1 (starts tokens)) in
    let from_from : List ℕ = drop (length (separated (map item_words its.written))) from_items in
    let from_join : List ℕ = drop 2 from_from in
    let from_filter : List ℕ = drop (length (join_words j.written)) from_join in
    let from_deduplicate : List ℕ = drop (length (condition_words key.Where fi.written)) from_filter in
    let from_group : List ℕ = drop (length (deduplicate_words de.written)) from_deduplicate in
    let from_having : List ℕ = drop (length (group_words g.written)) from_group in
    let from_order : List ℕ = drop (length (condition_words key.Having h.written)) from_having in
    let from_limit : List ℕ = drop (length (order_words o.written)) from_order in
    let to_items : from_items ≡ starts us = onward w.left d.took in
    let to_from : from_from ≡ starts items.1 = onward to_items its.took in
    let to_stream : drop 1 from_from ≡ starts from.1 = onward to_from f in
    let to_join : from_join ≡ starts stream.1 = onward to_from (took_more f n.0) in
    let to_filter : from_filter ≡ starts joined.1 = onward to_join j.took in
    let to_deduplicate : from_deduplicate ≡ starts filter.1 = onward to_filter fi.took in
    let to_group : from_group ≡ starts deduplicated.1 = onward to_deduplicate de.took in
    let to_having : from_having ≡ starts grouped.1 = onward to_group g.took in
    let to_order : from_order ≡ starts having.1 = onward to_having h.took in
    let to_limit : from_limit ≡ starts ordered.1 = onward to_order o.took in
    let distinct_is : (select_tree made (starts tokens)).distinct ≡ seen (is_keyword key.Distinct) word.1 = ap (distinct_tree d.stands) w.left ∙ d.meant in
    let items_are : (select_tree made (starts tokens)).items ≡ items.0 = ap (each_tree item_words item_tree 1 its.written) to_items ∙ its.meant in
    let from_is : (select_tree made (starts tokens)).from ≡ stream.0 = name_there from.1 stream (drop 1 from_from) to_stream n in
    let join_is : (select_tree made (starts tokens)).join ≡ joined.0 = ap (meaning j) to_join ∙ j.meant in
    let filter_is : (select_tree made (starts tokens)).filter ≡ filter.0 = ap (meaning fi) to_filter ∙ fi.meant in
    let deduplicate_is : (select_tree made (starts tokens)).deduplicate ≡ deduplicated.0 = ap (meaning de) to_deduplicate ∙ de.meant in
    let group_is : (select_tree made (starts tokens)).group ≡ grouped.0 = ap (meaning g) to_group ∙ g.meant in
    let having_is : (select_tree made (starts tokens)).having ≡ having.0 = ap (meaning h) to_having ∙ h.meant in
    let order_is : (select_tree made (starts tokens)).order ≡ ordered.0 = ap (meaning o) to_order ∙ o.meant in
    let limit_is : (select_tree made (starts tokens)).limit ≡ limited.0 = ap (meaning l) to_limit ∙ l.meant in
    record {
      written = made;
      took =
          took_more
          (took_more (took_more (took_more (took_more w d.took) its.took) (took_more f (took_more n.0 j.took))) fi.took)
          (took_more (took_more (took_more (took_more (took_more de.took g.took) h.took) o.took) l.took) (took_more m e));
      is_good = record {
        some_items = its.is_good.0;
        items = its.is_good.1;
        on = j.is_good;
        filter = fi.is_good;
        deduplicate = de.is_good;
        some_group = g.is_good.0;
        group = g.is_good.1;
        having = h.is_good;
      };
      meant = λ i. record {
        distinct = distinct_is i;
        items = items_are i;
        from = from_is i;
        join = join_is i;
        filter = filter_is i;
        deduplicate = deduplicate_is i;
        group = group_is i;
        having = having_is i;
        order = order_is i;
        limit = limit_is i;
        mode = shown.0;
      };
    })))))))))))))

-- ---- queries

record Whole (tokens : Ahead) (found : Query × Ahead) : Type 0 where
  pub written : WrittenQuery
  pub regular : IsRegularQuery IsFit written
  pub took : Took tokens found.1 (query_words written)
  pub meant : query_tree written (starts tokens) ≡ found.0

alone_holds : (tokens : Ahead) (query : Query) (rest : Ahead) → Whole tokens (query, rest) → IfRead (alone query (place rest) rest) (IsWritten tokens)
alone_holds tokens query [] w = record { written = w.written; regular = w.regular; said = w.took.said ∙ append-nil (query_words w.written); meant = w.meant }
alone_holds tokens query (t ∷ ts) w = tt

whole_holds : (tokens : Ahead) (read : Read Query) → IfRead read (Whole tokens) → IfRead (whole_query read) (IsWritten tokens)
whole_holds tokens (Ok found) w = alone_holds tokens found.0 found.1 w
whole_holds tokens (Err refusal) none = tt

pub query_sound : (tokens : Ahead) → IfRead (query_at tokens) (IsWritten tokens)
unfolding query_at
query_sound tokens = whole_holds tokens (query_from tokens)
    (hence (sure (streams_at tokens) (Streams [] tokens) (streams_sound tokens)) (Whole tokens) _ (λ streams s.
    thus (Whole tokens) (select_at streams.1) (λ select. Ok (record { streams = streams.0; select = select.0 }, select.1)) (select_sound streams.1) (λ select p.
    let streams_are : each_tree declared_words declared_tree 0 s.written (starts tokens) ≡ streams.0 = s.meant ∙ sym s.whole in
    let select_is : select_tree p.written (drop (length (flat_map declared_words s.written)) (starts tokens)) ≡ select.0 = ap (select_tree p.written) s.took.left ∙ p.meant in
    record {
      written = record { streams = s.written; select = p.written };
      regular = record { streams = s.each; select = p.is_good };
      took = took_more s.took p.took;
      meant = λ i. record { streams = streams_are i; select = select_is i };
    })))

-- ---- files

-- what holds of a query that was found
abbrev IfQuery : {E : Type 0} → Result Query E → (Query → Type 0) → Type 0
IfQuery (Ok query) P = P query
IfQuery (Err stop) P = Unit {0}

judged_holds : (file : List ℕ) → length file ≤ 65536 → IsUtf8 file → (fault : Option LexRefusal) → (cut_of file).fault ≡ fault
    → (read : Made Query) → IfRead read (IsWritten (cut_of file).tokens) → IfQuery (judged (length file) fault read) (IsQuery file)
judged_holds file short text None none (Ok query) w = record { short = short; text = text; whole = none; written = w }
judged_holds file short text (Some fault) some (Ok query) w = tt
judged_holds file short text fault is (Err refusal) w = tt

file_by : (file : List ℕ) (long utf8 : Bool) → nat_lt 65536 (length file) ≡ long → is_utf8 file ≡ utf8
    → IfQuery (if long then Err (record { at = 65536; cause = cause.TooLong })
    else (if utf8 then judged_cut (length file) (cut_of file) else Err (record { at = utf8_valid_len file; cause = cause.NotUtf8 }))) (IsQuery file)
file_by file true utf8 long text = tt
file_by file false false long text = tt
file_by file false true long text =
    let short : length file ≤ 65536 = grind (arith, nat_tests) in
    judged_holds file short (IsUtf8-from_is_utf8 file text) (cut_of file).fault refl (query_at (cut_of file).tokens) (query_sound (cut_of file).tokens)

file_sound : (file : List ℕ) → IfQuery (query_of file) (IsQuery file)
unfolding query_of
file_sound file = file_by file (nat_lt 65536 (length file)) (is_utf8 file) refl refl

answered : (file : List ℕ) (found : Result Query Fault) (result : Result Query ParseFault) → IfQuery found (IsQuery file) → Answers found result → IfOk result (IsQuery file)
answered file found (Ok query) holds same = let P : Result Query Fault → Type 0 = λ f. IfQuery f (IsQuery file) in subst P same holds
answered file found (Err (Refused at why)) holds same = tt
answered file found (Err NoMemory) holds same = tt

pub parsed : (file : List ℕ) (result : Result Query ParseFault) → Answers (query_of file) result → IfOk result (IsQuery file)
parsed file result answer = answered file (query_of file) result (file_sound file) answer
