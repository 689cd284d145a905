use Rattle.ssq_board.proofs.Leasts.{cause_counts}
use Rattle.ssq_board.proofs.Falls.{plan_falls, work_falls, version_falls, sync_falls, commit_falls}
use Rattle.ssq_board.proofs.Resting.{first_rests, never_idle, plan_turn, work_turn, sync_turn, commit_turn, version_turn}
use Rattle.ssq_board.proofs.Needs.{need_falls, need_sync, need_plan}
use Rattle.ssq_board.proofs.Readies.{plan_may, full_is, waits_for, commit_may, sync_due, over_is}
use Rattle.ssq_board.proofs.Sounds.{step_sound, first_sound}
use Rattle.ssq_board.proofs.law.entry.Goals as goal

pub returns-clause-kept : goal.returns-clause-kept
returns-clause-kept g c = step_sound

pub returns-clause-begins : goal.returns-clause-begins
returns-clause-begins g c = first_sound

pub returns-clause-next : goal.returns-clause-next
returns-clause-next g c = λ r c. record {
  plan = plan_may r c;
  full = full_is r c;
  task = waits_for r c;
  commit = λ e due. commit_may r c due e;
  sync = sync_due r c;
  over = over_is r c;
}

pub returns-clause-room : goal.returns-clause-room
returns-clause-room g c = λ r k sound. record {
  falls = λ e may h. need_falls r k e sound may h;
  sync = need_sync r k;
  bound = need_plan r k sound;
}

pub returns-clause-falls : goal.returns-clause-falls
returns-clause-falls g c = λ r k n sound. record {
  plan = λ cap e may comes. plan_falls r k n e sound cap may comes;
  work = work_falls r k n;
  version = version_falls r k n;
  sync = λ clock is comes. (let d = sync_due r k is in sync_falls r k n clock d.0 d.1 comes);
  commit = λ e due may comes. commit_falls r k n e due sound may comes;
}

pub returns-clause-rests : goal.returns-clause-rests
returns-clause-rests g c = (
  first_rests,
  λ r k n sound rest. record {
    never_idle = never_idle r k sound rest;
    plan = plan_turn r k n;
    work = work_turn r k n sound rest;
    version = version_turn r k n rest;
    sync = λ clock is comes. sync_turn r k n clock (sync_due r k is).0 rest comes;
    commit = λ e due comes. commit_turn r k n e due sound rest comes;
  },
)

pub returns-clause-stops : goal.returns-clause-stops
returns-clause-stops g c = cause_counts
