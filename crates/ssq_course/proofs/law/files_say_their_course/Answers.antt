use Rattle.ssq_course.proofs.Told.{say_same}
use Rattle.ssq_course.proofs.law.files_say_their_course.Goals as goal

pub returns : goal.returns
returns c = say_same
