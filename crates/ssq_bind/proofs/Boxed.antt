-- Typed expressions that the code puts into boxes.
use Rattle.std.proofs.Common.{◌≡◌, ℤ}
use Rattle.ssq_shape.specs.declared.typed.Typed.{Typed}
use Rattle.ssq_shape.specs.declared.typed.Typed.TheViews as view
use Rattle.ssq_shape.specs.Boxes.{shifted_is}
use Rattle.ssq_bind.specs.Value.{shifted_value}

pub shifted_made : (time : Typed) (by by' : ℤ) → by' ≡ by → view.Shifted time by' ≡ shifted_value time by
shifted_made time by by' same = rw same (shifted_is time by)
