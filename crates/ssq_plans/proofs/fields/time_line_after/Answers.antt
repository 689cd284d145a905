-- The time stands after the front exactly where it stands in what follows the front.
use Rattle.std.proofs.Common.{◌≡◌, codes, Some, None, ◌++◌, sym, ap, subst, ◌∙◌, rules, w64, SFits}
use Rattle.std.proofs.lemmas.Int.{to_z-of_z}
use Rattle.std.proofs.lemmas.List.{append_cancel_left}
use Rattle.ssq_time.specs.Time.{IsStampTime}
use Rattle.ssq_plans.specs.Records.{time_or_none}
use Rattle.ssq_plans.proofs.Apart.{times, no_time}
use Rattle.ssq_plans.proofs.Texts.{same_rest}
use Rattle.ssq_plans.proofs.fields.time_line_after.Goals as goal

pub returns-in-Some-clause-each : goal.returns-in-Some-clause-each
returns-in-Some-clause-each c time rest fits is =
    let behind = same_rest c.args.front.now _ _ (time_or_none time ++ (codes "\n" ++ rest)) c.in_ok-text.ensures is in
    let both = times None time (codes "\n" ++ c.in-Some.rest.now) (codes "\n" ++ rest) (λ t none. absurd cc) fits (sym c.in-Some.ensures ∙ behind) in
    (both.0, append_cancel_left (codes "\n") _ _ both.1)

pub returns-in_err-time-clause-each : goal.returns-in_err-time-clause-each
returns-in_err-time-clause-each c time rest fits is =
    let behind = same_rest c.args.front.now _ _ (time_or_none time ++ (codes "\n" ++ rest)) c.in_ok-text.ensures is in
    absurd (no_time time _ rest fits behind c.in_default.ensures (λ t of here. c.in_err-time.ensures.each t (codes "\n" ++ rest) of here))

pub returns-in_err-text-2-clause-each : goal.returns-in_err-text-2-clause-each
returns-in_err-text-2-clause-each c time rest fits is =
    let behind = same_rest c.args.front.now _ _ (time_or_none time ++ (codes "\n" ++ rest)) c.in_ok-text.ensures is in
    absurd (no_time time _ rest fits behind c.in_default.ensures (λ t of here. c.in_err-text-2.ensures rest (c.in_ok-time.ensures.each t (codes "\n" ++ rest) of here).1))

pub returns-clause-each : goal.returns-clause-each
returns-clause-each c time rest fits is =
    let behind = same_rest c.args.front.now _ _ (time_or_none time ++ (codes "\n" ++ rest)) c.in_ok-text.ensures is in
    let text = c.in_ok-time.text.now in
    let both = times (Some c.in_ok-time.time) time text (codes "\n" ++ rest) (λ t here. let at : c.in_ok-time.time ≡ t = cc in subst IsStampTime at c.in_ok-time.ensures.in_range) fits (sym c.in_ok-time.ensures.found ∙ behind) in
    let fits_64 : SFits w64 c.in_ok-time.time = search rules in
    (ap Some (to_z-of_z w64 c.in_ok-time.time fits_64) ∙ both.0, same_rest (codes "\n") text _ rest c.in_ok-text-2.ensures both.1)
