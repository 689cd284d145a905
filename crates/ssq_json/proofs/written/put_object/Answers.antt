use Rattle.ssq_json.proofs.Utf8.{appended, left_brace, right_brace}
use Rattle.ssq_json.proofs.written.put_object.Goals as goal

pub returns-clause-utf8 : goal.returns-clause-utf8
returns-clause-utf8 c before =
    appended _ _ _ c.in_ok-push-2.ensures.items right_brace (c.in_ok-put_members.ensures.utf8 (appended _ _ _ c.in_ok-push.ensures.items left_brace before))
