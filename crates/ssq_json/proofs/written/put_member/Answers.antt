use Rattle.ssq_json.proofs.Utf8.{headed}
use Rattle.ssq_json.proofs.written.put_member.Goals as goal

pub returns-clause-utf8 : goal.returns-clause-utf8
returns-clause-utf8 c = headed _ _ _ _ c.as_bytes.ensures.bytes c.as_bytes.ensures.utf8 c.put_value.ensures.utf8
