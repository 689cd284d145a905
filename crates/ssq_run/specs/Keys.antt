-- How a key is told.
use Rattle.std.specs.Prelude.{ℕ, ℤ, List, [], ◌∷◌, ◌++◌, map, if◌then◌else◌}
use Rattle.std.specs.Fmt.{signed_decimal}
use Rattle.json.specs.Print.{print}
use Rattle.json.specs.Token.{Token, begin_array, end_array, string, number, boolean, null}
use Rattle.ssq_time.specs.Time.{is_stamp_time, stamp_text}
use Rattle.ssq_value.specs.declared.value.Value.{Value}
use Rattle.ssq_value.specs.declared.value.Value.TheVariants.{Null, Int, Text, Time, Truth}

-- A time is told as its text. One outside of the years 0001 to 9999 has none, and comes from no line: it is told as its number.
abbrev pub time_token : ℤ → Token
time_token time = if is_stamp_time time then string (stamp_text time) else number (signed_decimal time)

-- a value, as in the rows of a sink file
abbrev pub value_token : Value → Token
value_token Null = null
value_token (Int own) = number (signed_decimal own)
value_token (Text text) = string text
value_token (Time time) = time_token time
value_token (Truth truth) = boolean truth

abbrev pub key_tokens : List Value → List Token
key_tokens key = begin_array ∷ (map value_token key ++ end_array ∷ [])

-- The values of a key as a JSON array, without blanks, in the order of GROUP BY: `["2024-01-01T12:00:00Z",null]`. A window is told by
-- its start.
abbrev pub key_text : List Value → List ℕ
key_text key = print (key_tokens key)
