use Rattle.std.proofs.Common.{◌-◌}
use Rattle.ssq_logs.proofs.open.+open_parts.Given as goal

-- the parts that are left
abbrev pub decreases-open_parts : goal.decreases-open_parts
decreases-open_parts g l = l.end - l.part
