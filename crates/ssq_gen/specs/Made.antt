-- Generated input: a query over a stream of two parts, and the lines of these.
use Rattle.std.specs.Prelude.{ℕ, zero, suc, ◌+◌, ◌*◌, ◌%◌, ◌==◌, ℤ, pos, ◌+ℤ◌, ◌-ℤ◌, List, [], ◌∷◌, map, filter, codes, decimal, slice_get, if◌then◌else◌}
use Rattle.std.specs.List.{range_with_len}
use Rattle.std.specs.Option.{option_map_or}
use Rattle.std.specs.Str.{bytes_eq}
use Rattle.ssq_value.specs.declared.value.Value.{Value}
use Rattle.ssq_value.specs.declared.value.Value.TheVariants.{Int, Text, Time}
use Rattle.ssq_json.specs.RowText.{row_text}
use Rattle.ssq_outside.specs.Logs.{Held, Line}

-- the number after x
abbrev pub next_number : ℕ → ℕ
next_number x = (75 * x + 74) % 65537

-- the number of line i, where line 0 has this one
unfoldable pub number_at : ℕ → ℕ → ℕ
number_at number zero = number
number_at number (suc i) = next_number (number_at number i)

-- 2024-01-01T00:00:00Z
abbrev pub first_time : ℤ
first_time = pos 1_704_067_200_000_000

-- the time of a line: 10 seconds after the line before it, less up to 19 seconds
abbrev pub time_of_line : (x i : ℕ) → ℤ
time_of_line x i = first_time +ℤ pos (10_000_000 * i) -ℤ pos (1_000_000 * (x % 20))

-- the row of line i, whose number is x: its time, one of eight keys, and a value below 1000
abbrev pub row_with : (x i : ℕ) → List Value
row_with x i = Time (time_of_line x i) ∷ Text (107 ∷ decimal (x % 8)) ∷ Int (pos (x % 1000)) ∷ []

abbrev pub column_names : List (List ℕ)
column_names = codes "ts" ∷ codes "k" ∷ codes "v" ∷ []

-- the text of that row
abbrev pub line_with : (x i : ℕ) → Line
line_with x i = row_text column_names (row_with x i)

-- line i
abbrev pub line_at : (number i : ℕ) → Line
line_at number i = line_with (number_at number i) i

-- of the first n lines those of a part, in their order: line i is of part i mod 2
unfoldable pub part_lines : (number n part : ℕ) → List Line
part_lines number n part = map (line_at number) (filter (λ i. i % 2 == part) (range_with_len 0 n))

-- the lines of both parts
abbrev pub parts_made : (number n : ℕ) → List (List Line)
parts_made number n = part_lines number n 0 ∷ part_lines number n 1 ∷ []

-- the stream's source
abbrev pub source : List ℕ
source = codes "g"

-- the name of the query's file
abbrev pub query_name : List ℕ
query_name = codes "gen.sql"

-- the query: by minutes and keys, how many lines and the sum of their values, in Append
abbrev pub query_text : List ℕ
query_text = codes "CREATE STREAM g (ts TIMESTAMP, k STRING, v BIGINT) FROM 'g' WATERMARK FOR ts DELAY '20 seconds'; SELECT window_start, k, COUNT(*) AS n, SUM(v) AS t FROM g GROUP BY WINDOW(ts, '1 minute'), k OUTPUT APPEND;"

-- what generated inputs hold: the query's file, two parts of its stream, and nothing else
abbrev pub made_held : (number n : ℕ) → Held
made_held number n = record {
  text = λ name. if bytes_eq query_name name then query_text else [];
  parts = λ stream. if bytes_eq source stream then 2 else 0;
  lines = λ stream part. if bytes_eq source stream then option_map_or (λ own. own) (slice_get (parts_made number n) part) [] else [];
}
