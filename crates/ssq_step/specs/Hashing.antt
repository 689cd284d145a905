-- What a key feeds to a hash.
use Rattle.std.specs.Prelude.{◌≡◌, true}
use Rattle.std.proofs.Common.{ap}
use Rattle.std.specs.Cmp.{Equal-is}
use Rattle.std.specs.Hash as fed
use Rattle.std.specs.Hash.{HashWrites}
use Rattle.std.specs.List.{flat_map}
use Rattle.ssq_value.specs.declared.value.Value.{Value}
use Rattle.ssq_value.specs.declared.value.Value.TheVariants.{Null, Int, Text, Time, Truth}
use Rattle.ssq_value.specs.Order.{values_cmp}
use Rattle.ssq_value.specs.OrderLaws.{values_cmp_exact}
use Rattle.ssq_meaning.specs.Group.{is_same}
use Rattle.ssq_meaning.specs.Meaning.{Values}

-- of a value what it holds, and of NULL what no truth value feeds
abbrev pub value_writes : Value → HashWrites
value_writes Null = fed.u8 2
value_writes (Truth truth) = fed.bool truth
value_writes (Int number) = fed.i64 number
value_writes (Time time) = fed.i64 time
value_writes (Text text) = fed.str text

-- the values one after the other
abbrev pub key_writes : Values → HashWrites
key_writes key = flat_map value_writes key

-- keys that are the same feed the same
pub same_writes : (left right : Values) → is_same left right ≡ true → key_writes left ≡ key_writes right
same_writes left right same = ap key_writes (values_cmp_exact left right ((Equal-is (values_cmp left right)).0 same))
