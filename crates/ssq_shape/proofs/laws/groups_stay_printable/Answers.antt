use Rattle.std.proofs.Common.{◌≡◌, true}
use Rattle.std.specs.Prelude.{IfSome}
use Rattle.std.proofs.lemmas.List.Elements.{recursion_from_All}
use Rattle.ssq_time.specs.Time.{is_stamp_time}
use Rattle.ssq_value.specs.Kind.{IfTime}
use Rattle.ssq_shape.specs.Laws.{value_timed}
use Rattle.ssq_shape.proofs.laws.groups_stay_printable.Goals as goal

pub returns : goal.returns
returns c = λ aggregates row x found all. value_timed (λ t. is_stamp_time t ≡ true) (λ t fits. fits) aggregates (recursion_from_All (λ aggregate. IfSome aggregate (IfTime (λ t. is_stamp_time t ≡ true))) aggregates found) row all x
