-- The definitions at worked queries.
use Rattle.std.proofs.Common.{◌≡◌, ℕ, pos, refl, false, List, [], ◌∷◌, length, map, Some, None}
use Rattle.std.specs.Prelude.{codes}
use Rattle.ssq_lex.specs.Cut.{Tokens, tokens_of, cut_of, front, word_at, symbol_at, text_at, number_at}
use Rattle.ssq_lex.specs.Lexeme.{Lexeme}
use Rattle.ssq_lex.specs.Spelling.{keyword_of, keyword_spelling}
use Rattle.std.specs.Prelude.{Ok, Err}
use Rattle.ssq_value.specs.declared.column.ColType.TheVariants as kind
use Rattle.ssq_ast.specs.declared.expr.BinaryOp.TheVariants as op
use Rattle.ssq_ast.specs.declared.expr.Expr.TheVariants as expr
use Rattle.ssq_ast.specs.declared.expr.BinaryOp.{BinaryOp}
use Rattle.ssq_ast.specs.declared.expr.ColumnRef.{ColumnRef}
use Rattle.ssq_ast.specs.declared.expr.Expr.{Expr}
use Rattle.ssq_ast.specs.declared.expr.Ident.{Ident}
use Rattle.ssq_ast.specs.declared.query.Item.TheVariants as item
use Rattle.ssq_ast.specs.declared.query.Mode.TheVariants as mode
use Rattle.ssq_ast.specs.Expression.{WrittenColumn, of_number, of_column, infixed, only}
use Rattle.ssq_ast.specs.Statement.{WrittenQuery, bare_item, named_item, query_words, query_tree}

abbrev column : List ℕ → WrittenColumn
column text = record { stream = None; column = text }

-- SELECT id, v + 1 AS w FROM s WHERE v > 10
abbrev written : WrittenQuery
written = record {
  streams = record {
    name = codes "s";
    columns = record { name = codes "id"; kind = kind.Bigint } ∷ record { name = codes "v"; kind = kind.Bigint } ∷ [];
    source = codes "s";
    watermark = None;
  } ∷ [];
  select = record {
    distinct = false;
    items = bare_item (column (codes "id")) ∷ named_item (infixed op.Add (of_column (column (codes "v"))) (of_number (pos 1))) (codes "w") ∷ [];
    from = codes "s";
    join = None;
    filter = Some (infixed op.Greater (of_column (column (codes "v"))) (of_number (pos 10)));
    deduplicate = None;
    group = None;
    having = None;
    order = [];
    limit = None;
    mode = mode.Append;
  };
}

abbrev starts : Tokens → List ℕ
starts (Ok tokens) = map (λ token. token.start) tokens
starts (Err refusal) = []

abbrev said : Tokens → List Lexeme
said (Ok tokens) = map (λ token. token.said) tokens
said (Err refusal) = []

text : List ℕ
text = codes "CREATE STREAM s (id BIGINT, v BIGINT) FROM 's'; SELECT id, v + 1 AS w FROM s WHERE v > 10 OUTPUT APPEND;"

its_length : length text ≡ 104
unfolding text
its_length = refl

-- its tokens are this query's words
its_words : said (tokens_of text) ≡ query_words written
unfolding text tokens_of cut_of front word_at symbol_at text_at number_at keyword_of keyword_spelling
its_words = refl

abbrev named : List ℕ → ℕ → Ident
named text at = record { text = text; at = at }

abbrev column_at : List ℕ → ℕ → ColumnRef
column_at text at = record { stream = None; column = named text at }

abbrev binary : ℕ → Expr → BinaryOp → ℕ → ℕ → Expr → Expr
binary left_at left o at right_at right = expr.Binary' left_at tt (only left) o at right_at tt (only right)

-- and it is this query by their places
its_tree : query_tree written (starts (tokens_of text)) ≡ record {
  streams = record {
    at = 0;
    name = named (codes "s") 14;
    columns = record { name = named (codes "id") 17; kind = kind.Bigint } ∷ record { name = named (codes "v") 28; kind = kind.Bigint } ∷ [];
    source = codes "s";
    watermark = None;
  } ∷ [];
  select = record {
    distinct = None;
    items = item.Column (column_at (codes "id") 55) 55 55
        ∷ item.Named (binary 59 (expr.Column (column_at (codes "v") 59)) op.Add 61 63 (expr.Number (pos 1) 63)) 59 (named (codes "w") 68) ∷ [];
    from = named (codes "s") 75;
    join = None;
    filter = Some (record {
      at = 77;
      value = binary 83 (expr.Column (column_at (codes "v") 83)) op.Greater 85 87 (expr.Number (pos 10) 87);
    });
    deduplicate = None;
    group = None;
    having = None;
    order = [];
    limit = None;
    mode = mode.Append;
  };
}
unfolding text tokens_of cut_of front word_at symbol_at text_at number_at keyword_of keyword_spelling
its_tree = refl
