use Rattle.std.proofs.Common.{◌≡◌, ◌∷◌, ◌||◌, ℕ, All, Bool, true, false, List, if◌then◌else◌, ap, subst, sym, ◌∙◌}
use Rattle.std.specs.BTreeMap.{is_at}
use Rattle.std.proofs.lemmas.Result.{on_ok_weaker}
use Rattle.ssq_keys.proofs.ReadLemmas.{none_has, some_and_has, some_has}
use Rattle.ssq_version.specs.State.{by_bytes}
use Rattle.ssq_meaning.specs.FedRows.{FedRow}
use Rattle.ssq_meaning.specs.Fit.{IsFit}
use Rattle.ssq_meaning.specs.Join.{Considered, is_left, row_key}
use Rattle.ssq_step.specs.declared.rows.KeptRow.{KeptRow}
use Rattle.ssq_step.specs.Rows.{IsKeptRow}
use Rattle.ssq_join.specs.Judging.{is_met, judged_row}
use Rattle.ssq_join.specs.Meeting.{are_near, joined}
use Rattle.ssq_join.specs.Telling.{Tells, among}
use Rattle.ssq_join.proofs.Partners.{event_is_time, is_kept_row, joined_fit, none_judged, none_met, one_met}
use Rattle.ssq_join.proofs.meet.meet_row.Goals as goal

-- the row that is read is the one that is kept
abbrev IsThat : FedRow → Bool → KeptRow → Type 0
IsThat other was read = (read.left ≡ is_left other.stream) × (read.values ≡ other.values) × (read.met ≡ was)

pub judge-requires-clause-fit : goal.judge-requires-clause-fit
judge-requires-clause-fit c =
    let other = c.in-Some.other in
    let kept = some_has (λ row. IsKeptRow c.args.bound.now row.left row.values row.met c.args.key.now c.args.value.now) c.in_ok-read.read other c.in-Some.is c.in_ok-read.ensures.found in
    subst (All IsFit) (sym (c.as_slice.ensures.value ∙ c.in_ok-row.ensures)) (joined_fit other.left c.values.result.now other.values (subst (All IsFit) (sym c.values.ensures) c.requires.row.values) kept.fit)

pub returns-in_default-clause-meets : goal.returns-in_default-clause-meets
returns-in_default-clause-meets c = λ other was pairs is meets.
    absurd (none_has (IsThat other was) c.in_ok-read.read c.in_default.not-Some
    (c.in_ok-read.ensures.each (is_left other.stream) other.values was (is_kept_row c.args.bound.now c.args.joining.now c.args.comer.row.now other was c.args.key.now c.args.value.now is)))

pub returns-then-not-are_near-clause-meets : goal.returns-then-not-are_near-clause-meets
returns-then-not-are_near-clause-meets c = λ other was pairs is meets.
    let query = c.args.bound.now in
    let joining = c.args.joining.now in
    let row = c.args.comer.row.now in
    let key = c.args.key.now in
    let value = c.args.value.now in
    let time = c.event_time-time.ensures.each (is_left other.stream) other.values was (is_kept_row query joining row other was key value is) ∙ event_is_time query joining row other was key value is in
    let far : are_near joining row other.time ≡ false = ap (are_near joining row) (sym time) ∙ sym c.are_near.ensures ∙ c.if-not-are_near.true in
    none_met query joining row other was key value is pairs c.args.found.now c.args.met.now.keys (none_judged query joining row other was key value is far) meets

pub returns-clause-meets : goal.returns-clause-meets
returns-clause-meets c = λ other was pairs is meets.
    let query = c.args.bound.now in
    let joining = c.args.joining.now in
    let row = c.args.comer.row.now in
    let left = c.in-Some.other.left in
    let partner = c.in_ok-is_partner.is_partner in
    let before = c.args.met.now.keys in
    let after = c.know.new.met.keys in
    let same = some_and_has (IsThat other was) c.in_ok-read.read c.in-Some.other c.in-Some.is
    (c.in_ok-read.ensures.each (is_left other.stream) other.values was (is_kept_row query joining row other was c.args.key.now c.args.value.now is)) in
    let time = c.event_time-time.ensures.each (is_left other.stream) other.values was (is_kept_row query joining row other was c.args.key.now c.args.value.now is) ∙ event_is_time query joining row other was c.args.key.now c.args.value.now is in
    let near : are_near joining row other.time ≡ true = ap (are_near joining row) (sym time) ∙ sym c.are_near.ensures ∙ c.if-not-are_near.false in
    let values : c.as_slice.result.now ≡ joined left row.values other.values = c.as_slice.ensures.value ∙ c.in_ok-row.ensures ∙ (λ i. joined left (c.values.ensures i) (same.1 i)) in
    on_ok_weaker c.know.result
    (λ known.
    let knows : (bytes : List ℕ) → among after bytes ≡ (if partner then (is_at (by_bytes bytes) (row_key row) || (is_at (by_bytes bytes) c.args.key.now || among before bytes)) else among before bytes) =
    subst (λ (own : List ℕ). (bytes : List ℕ) → among after bytes ≡ (if partner then (is_at (by_bytes bytes) own || (is_at (by_bytes bytes) c.args.key.now || among before bytes)) else among before bytes)) c.requires.bytes known in
    one_met query joining row other was c.args.key.now c.args.value.now is left same.0 near partner (c.in_ok-is_partner.ensures.met ∙ ap (is_met joining) values) pairs c.args.found.now c.judge.new.found before after
    (λ all tells. subst (λ (one : Considered). Tells c.judge.new.found (one ∷ all)) (λ i. record { key = c.key.ensures i; row = judged_row query joining (values i) }) (c.in_ok-is_partner.ensures.told all tells))
    knows meets)
    c.know.ensures
