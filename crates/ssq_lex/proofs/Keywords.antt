-- How keywords are spelt.
use Rattle.std.proofs.Common.{◌≡◌, ◌∙◌, ap, ℕ, List, true, find, length, get_or, refl, Some}
use Rattle.std.specs.Cmp.Lexicographic.{bytes_decides}
use Rattle.std.specs.List.{prefix_len}
use Rattle.std.specs.Str.{bytes_eq, str_eq_ignore_ascii_case, str_to_ascii_lowercase}
use Rattle.ssq_lex.specs.declared.keyword.Keyword.{Keyword}
use Rattle.ssq_lex.specs.declared.keyword.Keyword.TheVariants as key
use Rattle.ssq_lex.specs.declared.keyword.TheConstants.{KEYWORDS}
use Rattle.ssq_lex.specs.Cut.{begins_name, is_in_name}
use Rattle.ssq_lex.specs.Spelling.{keyword_spelling, keyword_of, EachIsRead}

-- a keyword's spelling is a word, and is read as that keyword
pub record IsSpelt (k : Keyword) : Type 0 where
  pub read : keyword_of (keyword_spelling k) ≡ Some k
  pub begins : begins_name (get_or (keyword_spelling k) 0 0) ≡ true
  pub goes_on : prefix_len is_in_name (keyword_spelling k) ≡ length (keyword_spelling k)

pub spelt : (k : Keyword) → IsSpelt k
unfolding keyword_spelling keyword_of
spelt key.Create = record { read = refl; begins = refl; goes_on = refl }
spelt key.Stream = record { read = refl; begins = refl; goes_on = refl }
spelt key.From = record { read = refl; begins = refl; goes_on = refl }
spelt key.Watermark = record { read = refl; begins = refl; goes_on = refl }
spelt key.For = record { read = refl; begins = refl; goes_on = refl }
spelt key.Delay = record { read = refl; begins = refl; goes_on = refl }
spelt key.Select = record { read = refl; begins = refl; goes_on = refl }
spelt key.Distinct = record { read = refl; begins = refl; goes_on = refl }
spelt key.As = record { read = refl; begins = refl; goes_on = refl }
spelt key.Where = record { read = refl; begins = refl; goes_on = refl }
spelt key.Deduplicate = record { read = refl; begins = refl; goes_on = refl }
spelt key.Group = record { read = refl; begins = refl; goes_on = refl }
spelt key.By = record { read = refl; begins = refl; goes_on = refl }
spelt key.Having = record { read = refl; begins = refl; goes_on = refl }
spelt key.Order = record { read = refl; begins = refl; goes_on = refl }
spelt key.Asc = record { read = refl; begins = refl; goes_on = refl }
spelt key.Desc = record { read = refl; begins = refl; goes_on = refl }
spelt key.Limit = record { read = refl; begins = refl; goes_on = refl }
spelt key.Output = record { read = refl; begins = refl; goes_on = refl }
spelt key.Append = record { read = refl; begins = refl; goes_on = refl }
spelt key.Update = record { read = refl; begins = refl; goes_on = refl }
spelt key.Complete = record { read = refl; begins = refl; goes_on = refl }
spelt key.Inner = record { read = refl; begins = refl; goes_on = refl }
spelt key.Left = record { read = refl; begins = refl; goes_on = refl }
spelt key.Right = record { read = refl; begins = refl; goes_on = refl }
spelt key.Outer = record { read = refl; begins = refl; goes_on = refl }
spelt key.Join = record { read = refl; begins = refl; goes_on = refl }
spelt key.On = record { read = refl; begins = refl; goes_on = refl }
spelt key.And = record { read = refl; begins = refl; goes_on = refl }
spelt key.Or = record { read = refl; begins = refl; goes_on = refl }
spelt key.Not = record { read = refl; begins = refl; goes_on = refl }
spelt key.Is = record { read = refl; begins = refl; goes_on = refl }
spelt key.Null = record { read = refl; begins = refl; goes_on = refl }
spelt key.Between = record { read = refl; begins = refl; goes_on = refl }
spelt key.Interval = record { read = refl; begins = refl; goes_on = refl }
spelt key.Timestamp = record { read = refl; begins = refl; goes_on = refl }
spelt key.Bigint = record { read = refl; begins = refl; goes_on = refl }
spelt key.String = record { read = refl; begins = refl; goes_on = refl }
spelt key.Boolean = record { read = refl; begins = refl; goes_on = refl }
spelt key.True = record { read = refl; begins = refl; goes_on = refl }
spelt key.False = record { read = refl; begins = refl; goes_on = refl }
spelt key.Div = record { read = refl; begins = refl; goes_on = refl }
spelt key.Window = record { read = refl; begins = refl; goes_on = refl }
spelt key.Count = record { read = refl; begins = refl; goes_on = refl }
spelt key.Sum = record { read = refl; begins = refl; goes_on = refl }
spelt key.Min = record { read = refl; begins = refl; goes_on = refl }
spelt key.Max = record { read = refl; begins = refl; goes_on = refl }

-- words that differ in the case of letters alone are one keyword, or none
alike : (a b : List ℕ) → str_eq_ignore_ascii_case a b ≡ true → keyword_of a ≡ keyword_of b
unfolding keyword_of
alike a b same =
    ap (λ (low : List ℕ). find (λ k. bytes_eq low (str_to_ascii_lowercase (keyword_spelling k))) KEYWORDS)
    ((bytes_decides (str_to_ascii_lowercase a) (str_to_ascii_lowercase b)).0 same)

pub each_is_read : EachIsRead
each_is_read k word same = alike word (keyword_spelling k) same ∙ (spelt k).read
