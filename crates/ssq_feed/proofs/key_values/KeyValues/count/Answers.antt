use Rattle.std.proofs.Common.{sym}
use Rattle.ssq_feed.proofs.Windowing.{count_is}
use Rattle.ssq_feed.proofs.key_values.KeyValues.count.Goals as goal

pub returns-in-Starts : goal.returns-in-Starts
returns-in-Starts c = rw c.in-Starts.is (sym (count_is c.in-Starts.starts))
