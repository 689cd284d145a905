-- The greatest times at the end of an epoch.
use Rattle.std.proofs.Common.{◌+◌, ℤ, Option, ap, sym, ◌∙◌, add-one}
use Rattle.ssq_meaning.specs.Times.{later}
use Rattle.ssq_meaning.specs.Epochs.{seen, time_between}
use Rattle.ssq_terms.specs.Rows.{LinesRaiseTimes}

pub raise_times : LinesRaiseTimes
unfolding seen
raise_times query parts cuts e stream known is =
    ap (λ (t : Option ℤ). later t (time_between query parts (cuts e) (cuts (e + 1)) stream)) is
    ∙ sym (ap (seen query parts cuts stream) (add-one e))
