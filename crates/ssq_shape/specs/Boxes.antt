-- Expressions in boxes, which definitions see as the expressions themselves.
use Rattle.std.specs.Prelude.{◌≡◌, ℤ}
use Rattle.std.proofs.Common.{refl}
use Rattle.ssq_shape.specs.declared.typed.Arithmetic.{Arithmetic}
use Rattle.ssq_shape.specs.declared.typed.Comparison.{Comparison}
use Rattle.ssq_shape.specs.declared.typed.Typed.{Typed, Row_of-Typed, more_of-Typed, end_of-Typed}
use Rattle.ssq_shape.specs.declared.typed.Typed.TheVariants as typed
use Rattle.ssq_shape.specs.declared.typed.Typed.TheViews as view

-- an expression in a box
pattern abbrev pub only : Typed → Row_of-Typed 1
only x = more_of-Typed x end_of-Typed

-- what the code makes or opens is the constructor that definitions match on

pub negated_is : (x : Typed) → view.Negated x ≡ typed.Negated' tt (only x)
unfolding Rattle.ssq_shape.specs.declared.typed.Typed.TheBlock.shape-the_row-Typed-0 Rattle.ssq_shape.specs.declared.typed.Typed.TheBlock.hidden-the_row-Typed-0 denote.Hole.Carrier.hidden
negated_is x = refl

pub not_is : (x : Typed) → view.Not x ≡ typed.Not' tt (only x)
unfolding Rattle.ssq_shape.specs.declared.typed.Typed.TheBlock.shape-the_row-Typed-0 Rattle.ssq_shape.specs.declared.typed.Typed.TheBlock.hidden-the_row-Typed-0 denote.Hole.Carrier.hidden
not_is x = refl

pub is_null_is : (x : Typed) → view.IsNull x ≡ typed.IsNull' tt (only x)
unfolding Rattle.ssq_shape.specs.declared.typed.Typed.TheBlock.shape-the_row-Typed-0 Rattle.ssq_shape.specs.declared.typed.Typed.TheBlock.hidden-the_row-Typed-0 denote.Hole.Carrier.hidden
is_null_is x = refl

pub arithmetic_is : (op : Arithmetic) (a b : Typed) → view.Arithmetic op a b ≡ typed.Arithmetic' op tt (only a) tt (only b)
unfolding Rattle.ssq_shape.specs.declared.typed.Typed.TheBlock.shape-the_row-Typed-0 Rattle.ssq_shape.specs.declared.typed.Typed.TheBlock.hidden-the_row-Typed-0 denote.Hole.Carrier.hidden
arithmetic_is op a b = refl

pub shifted_is : (x : Typed) (by : ℤ) → view.Shifted x by ≡ typed.Shifted' tt (only x) by
unfolding Rattle.ssq_shape.specs.declared.typed.Typed.TheBlock.shape-the_row-Typed-0 Rattle.ssq_shape.specs.declared.typed.Typed.TheBlock.hidden-the_row-Typed-0 denote.Hole.Carrier.hidden
shifted_is x by = refl

pub joined_is : (a b : Typed) → view.Joined a b ≡ typed.Joined' tt (only a) tt (only b)
unfolding Rattle.ssq_shape.specs.declared.typed.Typed.TheBlock.shape-the_row-Typed-0 Rattle.ssq_shape.specs.declared.typed.Typed.TheBlock.hidden-the_row-Typed-0 denote.Hole.Carrier.hidden
joined_is a b = refl

pub compared_is : (comparison : Comparison) (a b : Typed) → view.Compared comparison a b ≡ typed.Compared' comparison tt (only a) tt (only b)
unfolding Rattle.ssq_shape.specs.declared.typed.Typed.TheBlock.shape-the_row-Typed-0 Rattle.ssq_shape.specs.declared.typed.Typed.TheBlock.hidden-the_row-Typed-0 denote.Hole.Carrier.hidden
compared_is comparison a b = refl

pub between_is : (a b c : Typed) → view.Between a b c ≡ typed.Between' tt (only a) tt (only b) tt (only c)
unfolding Rattle.ssq_shape.specs.declared.typed.Typed.TheBlock.shape-the_row-Typed-0 Rattle.ssq_shape.specs.declared.typed.Typed.TheBlock.hidden-the_row-Typed-0 denote.Hole.Carrier.hidden
between_is a b c = refl

pub and_is : (a b : Typed) → view.And a b ≡ typed.And' tt (only a) tt (only b)
unfolding Rattle.ssq_shape.specs.declared.typed.Typed.TheBlock.shape-the_row-Typed-0 Rattle.ssq_shape.specs.declared.typed.Typed.TheBlock.hidden-the_row-Typed-0 denote.Hole.Carrier.hidden
and_is a b = refl

pub or_is : (a b : Typed) → view.Or a b ≡ typed.Or' tt (only a) tt (only b)
unfolding Rattle.ssq_shape.specs.declared.typed.Typed.TheBlock.shape-the_row-Typed-0 Rattle.ssq_shape.specs.declared.typed.Typed.TheBlock.hidden-the_row-Typed-0 denote.Hole.Carrier.hidden
or_is a b = refl

pub ruleset boxes = (negated_is, not_is, is_null_is, arithmetic_is, shifted_is, joined_is, compared_is, between_is, and_is, or_is)
