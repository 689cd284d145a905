use Rattle.std.proofs.Common.{◌≡◌, ◌∙◌, Some, option_map, ap, sym}
use Rattle.ssq_outside.specs.Files.{Files}
use Rattle.ssq_outside.specs.History.{files_now}
use Rattle.ssq_open.proofs.Reading.{the_found, none_found}
use Rattle.ssq_open.proofs.read.record_in.Goals as goal

pub returns-in_ok-parse-in-Some-clause-found : goal.returns-in_ok-parse-in-Some-clause-found
returns-in_ok-parse-in-Some-clause-found g c = λ tells.
    let files : Files = files_now (g.D.Disk.history c.args.disk.now) in
    let there : files c.args.name ≡ Some c.as_slice.result.now = sym (c.in_ok-text.ensures.found tells) ∙ ap (option_map (λ bytes. bytes.items)) c.in-Some.is ∙ ap Some (sym c.as_slice.ensures.value) in
    the_found g.R.Record.is_canonical g.R.Record.text_of (files c.args.name) c.as_slice.result.now c.in_ok-parse-in-Some.field-0 there c.in_ok-parse-in-Some.ensures.found c.in_ok-parse-in-Some.ensures.in_range c.in_ok-parse-in-Some.ensures.each

pub returns-in_ok-parse-in-Some-clause-none : goal.returns-in_ok-parse-in-Some-clause-none
returns-in_ok-parse-in-Some-clause-none g c = λ tells.
    let files : Files = files_now (g.D.Disk.history c.args.disk.now) in
    let there : files c.args.name ≡ Some c.as_slice.result.now = sym (c.in_ok-text.ensures.found tells) ∙ ap (option_map (λ bytes. bytes.items)) c.in-Some.is ∙ ap Some (sym c.as_slice.ensures.value) in
    none_found g.R.Record.is_canonical g.R.Record.text_of (files c.args.name) c.as_slice.result.now c.in_ok-parse-in-Some.field-0 there c.in_ok-parse-in-Some.ensures.each
