use Rattle.ssq_json.proofs.Utf8.{time_utf8}
use Rattle.ssq_json.proofs.written.put_quoted_time.Goals as goal

pub returns-clause-utf8 : goal.returns-clause-utf8
returns-clause-utf8 c = time_utf8 c.args.time c.requires
