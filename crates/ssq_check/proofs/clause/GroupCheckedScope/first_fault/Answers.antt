use Rattle.ssq_check.proofs.clause.GroupCheckedScope.first_fault.Goals as goal

pub returns-in-Window : goal.returns-in-Window
returns-in-Window c = rw c.in-Window.is c.window_fault.ensures
