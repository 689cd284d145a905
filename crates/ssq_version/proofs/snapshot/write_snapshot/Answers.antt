use Rattle.std.proofs.Common.{◌≡◌, List, ◌∙◌, ap, subst, sym}
use Rattle.std.proofs.lemmas.Result.{IfOk-weaker}
use Rattle.ssq_version.specs.declared.entry.Entry.{Entry}
use Rattle.ssq_version.specs.State.{Change, IsChange, given_by, said_of}
use Rattle.ssq_version.specs.Text.{shown, snapshot_text}
use Rattle.ssq_version.proofs.Laid.{layered_said}
use Rattle.ssq_version.proofs.Leading.{said_kept}
use Rattle.ssq_version.proofs.snapshot.write_snapshot.Goals as goal

pub write_given-requires : goal.write_given-requires
write_given-requires c =
    let same : shown c.as_slice.result.now ≡ said_of c.args.map.now = ap (λ (entries : List Entry). shown entries) c.as_slice.ensures.value ∙ c.in_ok-entries.ensures in
    subst IsChange (sym same) (said_kept c.args.map.now c.states_are_kept.ensures.kept)

pub returns : goal.returns
returns c =
    let same : shown c.as_slice.result.now ≡ said_of c.args.map.now = ap (λ (entries : List Entry). shown entries) c.as_slice.ensures.value ∙ c.in_ok-entries.ensures in
    IfOk-weaker c.write_given.result (λ text. text ≡ snapshot_text c.args.partition c.args.version (given_by (shown c.as_slice.result.now))) (λ text. text ≡ snapshot_text c.args.partition c.args.version c.args.map.now)
    (λ text is. is ∙ ap (λ (said : Change). snapshot_text c.args.partition c.args.version (given_by said)) same ∙ ap (snapshot_text c.args.partition c.args.version) (layered_said c.args.map.now))
    c.write_given.ensures
