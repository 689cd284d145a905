use Rattle.ssq_fakes.proofs.Crashes.{each_image_picked}
use Rattle.ssq_fakes.proofs.disk.each_image_is_picked.Goals as goal

pub returns : goal.returns
returns c = each_image_picked
