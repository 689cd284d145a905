use Rattle.std.proofs.Common.{subst, []}
use Rattle.std.proofs.lemmas.List.Elements.{All-nil, All-cons}
use Rattle.ssq_value.specs.declared.value.Value.TheVariants.{Null}
use Rattle.ssq_meaning.specs.Fit.{IsFit}
use Rattle.ssq_meaning.specs.Windows.{HasWindow}
use Rattle.ssq_feed.proofs.Windowing.{starts_fit, line_time_handed, window_handed}
use Rattle.ssq_feed.proofs.key_values.KeyValues.of.Goals as goal

pub starts_of-requires-clause-time : goal.starts_of-requires-clause-time
starts_of-requires-clause-time c = line_time_handed c.in-Some-time_at.time (c.in-Some-time_at.ensures.years c.requires.read.years)

pub starts_of-requires-clause-window : goal.starts_of-requires-clause-window
starts_of-requires-clause-window c = window_handed c.in-Window.size c.in-Window.slide (subst HasWindow c.in-Window.is c.requires.window)

pub returns-in-Some-time_at-clause-fit : goal.returns-in-Some-time_at-clause-fit
returns-in-Some-time_at-clause-fit c = starts_fit c.starts_of.result

pub time_at-requires : goal.time_at-requires
time_at-requires c = tt

pub returns-in-None-clause-fit : goal.returns-in-None-clause-fit
returns-in-None-clause-fit c = All-cons IsFit Null [] tt (All-nil IsFit)

pub returns-in-None-time_at-clause-fit : goal.returns-in-None-time_at-clause-fit
returns-in-None-time_at-clause-fit c = All-nil IsFit
