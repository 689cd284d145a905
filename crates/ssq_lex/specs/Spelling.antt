-- How keywords and symbols are written.
use Rattle.std.specs.Prelude.{◌≡◌, ℕ, List, Option, Some, None, true, codes, find, if◌then◌else◌, ◌&&◌, ◌==◌}
use Rattle.std.specs.Str.{str_eq_ignore_ascii_case}
use Rattle.ssq_lex.specs.declared.keyword.Keyword.{Keyword}
use Rattle.ssq_lex.specs.declared.keyword.Keyword.TheVariants as key
use Rattle.ssq_lex.specs.declared.keyword.TheConstants.{KEYWORDS}
use Rattle.ssq_lex.specs.declared.symbol.Symbol.{Symbol}
use Rattle.ssq_lex.specs.declared.symbol.Symbol.TheVariants as mark

-- a keyword in capitals
unfoldable pub keyword_spelling : Keyword → List ℕ
keyword_spelling key.Create = codes "CREATE"
keyword_spelling key.Stream = codes "STREAM"
keyword_spelling key.From = codes "FROM"
keyword_spelling key.Watermark = codes "WATERMARK"
keyword_spelling key.For = codes "FOR"
keyword_spelling key.Delay = codes "DELAY"
keyword_spelling key.Select = codes "SELECT"
keyword_spelling key.Distinct = codes "DISTINCT"
keyword_spelling key.As = codes "AS"
keyword_spelling key.Where = codes "WHERE"
keyword_spelling key.Deduplicate = codes "DEDUPLICATE"
keyword_spelling key.Group = codes "GROUP"
keyword_spelling key.By = codes "BY"
keyword_spelling key.Having = codes "HAVING"
keyword_spelling key.Order = codes "ORDER"
keyword_spelling key.Asc = codes "ASC"
keyword_spelling key.Desc = codes "DESC"
keyword_spelling key.Limit = codes "LIMIT"
keyword_spelling key.Output = codes "OUTPUT"
keyword_spelling key.Append = codes "APPEND"
keyword_spelling key.Update = codes "UPDATE"
keyword_spelling key.Complete = codes "COMPLETE"
keyword_spelling key.Inner = codes "INNER"
keyword_spelling key.Left = codes "LEFT"
keyword_spelling key.Right = codes "RIGHT"
keyword_spelling key.Outer = codes "OUTER"
keyword_spelling key.Join = codes "JOIN"
keyword_spelling key.On = codes "ON"
keyword_spelling key.And = codes "AND"
keyword_spelling key.Or = codes "OR"
keyword_spelling key.Not = codes "NOT"
keyword_spelling key.Is = codes "IS"
keyword_spelling key.Null = codes "NULL"
keyword_spelling key.Between = codes "BETWEEN"
keyword_spelling key.Interval = codes "INTERVAL"
keyword_spelling key.Timestamp = codes "TIMESTAMP"
keyword_spelling key.Bigint = codes "BIGINT"
keyword_spelling key.String = codes "STRING"
keyword_spelling key.Boolean = codes "BOOLEAN"
keyword_spelling key.True = codes "TRUE"
keyword_spelling key.False = codes "FALSE"
keyword_spelling key.Div = codes "DIV"
keyword_spelling key.Window = codes "WINDOW"
keyword_spelling key.Count = codes "COUNT"
keyword_spelling key.Sum = codes "SUM"
keyword_spelling key.Min = codes "MIN"
keyword_spelling key.Max = codes "MAX"

-- the keyword that a word is, whatever the case of its letters
unfoldable pub keyword_of : List ℕ → Option Keyword
keyword_of word = find (λ k. str_eq_ignore_ascii_case word (keyword_spelling k)) KEYWORDS

-- A word that is a keyword's spelling but for the case of its letters is read as that keyword: no keyword hides another.
abbrev pub EachIsRead : Type 0
EachIsRead = (k : Keyword) (word : List ℕ) → str_eq_ignore_ascii_case word (keyword_spelling k) ≡ true → keyword_of word ≡ Some k

-- a symbol as it is printed; `!=` is another way to write `<>`
unfoldable pub symbol_spelling : Symbol → List ℕ
symbol_spelling mark.LeftParen = codes "("
symbol_spelling mark.RightParen = codes ")"
symbol_spelling mark.Comma = codes ","
symbol_spelling mark.Semicolon = codes ";"
symbol_spelling mark.Dot = codes "."
symbol_spelling mark.Plus = codes "+"
symbol_spelling mark.Minus = codes "-"
symbol_spelling mark.Star = codes "*"
symbol_spelling mark.Percent = codes "%"
symbol_spelling mark.Concat = codes "||"
symbol_spelling mark.Equal = codes "="
symbol_spelling mark.NotEqual = codes "<>"
symbol_spelling mark.Less = codes "<"
symbol_spelling mark.AtMost = codes "<="
symbol_spelling mark.Greater = codes ">"
symbol_spelling mark.AtLeast = codes ">="

-- the symbols of one character
abbrev pub short_symbol : ℕ → Option Symbol
short_symbol b =
    (if b == 40 then Some mark.LeftParen else
    (if b == 41 then Some mark.RightParen else
    (if b == 44 then Some mark.Comma else
    (if b == 59 then Some mark.Semicolon else
    (if b == 46 then Some mark.Dot else
    (if b == 43 then Some mark.Plus else
    (if b == 45 then Some mark.Minus else
    (if b == 42 then Some mark.Star else
    (if b == 37 then Some mark.Percent else
    (if b == 61 then Some mark.Equal else
    (if b == 60 then Some mark.Less else
    (if b == 62 then Some mark.Greater else
    None))))))))))))

-- the symbols of two characters
abbrev pub long_symbol : ℕ → ℕ → Option Symbol
long_symbol b c =
    if b == 124 && c == 124 then Some mark.Concat
    else (if b == 60 && c == 62 then Some mark.NotEqual
    else (if b == 33 && c == 61 then Some mark.NotEqual
    else (if b == 60 && c == 61 then Some mark.AtMost
    else (if b == 62 && c == 61 then Some mark.AtLeast
    else None))))
