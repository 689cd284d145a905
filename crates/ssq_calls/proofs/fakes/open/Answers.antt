use Rattle.std.proofs.Common.{◌≡◌, ap, arith}
use Rattle.std.specs.Prelude.{min}
use Rattle.ssq_outside.specs.Logs.{Held}
use Rattle.ssq_fakes.specs.Inputs.{inputs_held}
use Rattle.ssq_calls.proofs.fakes.open.Goals as goal

pub log-requires : goal.log-requires
log-requires c =
    let old = c.args.inputs.now in
    let new = c.parts.new.self in
    let held : inputs_held new ≡ inputs_held old = c.parts.ensures.same in
    let same : (inputs_held new).parts c.args.stream.now ≡ (inputs_held old).parts c.args.stream.now = ap (λ (held : Held). held.parts c.args.stream.now) held in
    let found : c.in_ok-parts.field-0 ≡ min ((inputs_held old).parts c.args.stream.now) 65 = c.in_ok-parts.ensures.found in
    let below = c.if-branch.true in
    omega arith
