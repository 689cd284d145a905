use Rattle.std.proofs.Common.{◌≡◌, true, []}
use Rattle.ssq_time.specs.Time.{is_stamp_time}
use Rattle.ssq_shape.specs.Laws.{value_timed}
use Rattle.ssq_shape.proofs.laws.times_stay_printable.Goals as goal

pub returns : goal.returns
returns c = λ row x all. value_timed (λ t. is_stamp_time t ≡ true) (λ t fits. fits) [] tt row all x
