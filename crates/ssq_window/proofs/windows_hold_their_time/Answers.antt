use Rattle.ssq_window.proofs.Windows.{windows_cover, all_windows, few_windows}
use Rattle.ssq_window.proofs.windows_hold_their_time.Goals as goal

pub returns-clause-windows : goal.returns-clause-windows
returns-clause-windows c = all_windows

pub returns-clause-some : goal.returns-clause-some
returns-clause-some c = λ t size slide size_is slide_is least. (windows_cover t size slide size_is slide_is least).some

pub returns-clause-few : goal.returns-clause-few
returns-clause-few c = few_windows
