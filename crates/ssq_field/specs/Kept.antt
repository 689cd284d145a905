-- Bytes that stand in the value itself, or in memory of their own.
use Rattle.std.specs.Prelude.{ℕ, List}
use Rattle.ssq_field.specs.declared.bytes.Kept.{Kept}
use Rattle.ssq_field.specs.declared.bytes.Kept.TheVariants.{Few, Many}

abbrev pub bytes_in : Kept → List ℕ
bytes_in (Few few) = few
bytes_in (Many many) = many.items
