use Rattle.std.proofs.Common.{◌≡◌, arith}
use Rattle.ssq_version.specs.State.{said_of}
use Rattle.ssq_version.specs.Text.{shown, snapshot_text}
use Rattle.ssq_version.proofs.Spelled.{state_is_entries}
use Rattle.ssq_store.proofs.Layers.{found_state, if_absent, is_read, is_there}
use Rattle.ssq_store.proofs.listed.state_in.Goals as goal

pub returns-clause-found : goal.returns-clause-found
returns-clause-found c = found_state c.args.text.now c.args.partition c.args.version c.in_ok-read.read c.of_version.result c.of_version.ensures.found c.in_ok-read.ensures.found

pub returns-clause-none : goal.returns-clause-none
returns-clause-none c = if_absent c.of_version.result _ (λ none state is.
    let text : c.args.text.now ≡ snapshot_text c.args.partition c.args.version state = let same = is.is in cc in
    let read = is_read c.in_ok-read.read c.of_version.result c.args.partition c.args.version (λ entries. shown entries.items ≡ said_of state)
    (c.in_ok-read.ensures.each c.args.partition c.args.version (said_of state) (omega arith) (omega arith) (state_is_entries state is.kept is.few) text) c.of_version.ensures.each in
    is_there c.of_version.result (λ entries. shown entries.items ≡ said_of state) none read)
