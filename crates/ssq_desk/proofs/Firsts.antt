-- What a desk holds where a round begins.
use Rattle.std.proofs.Common.{◌≡◌, ◌<◌, ◌≤◌, ◌+◌, ℕ, ℤ, Bool, true, false, true≢false, List, length, get_or, nat_lt, Option, Some, None, inl, inr, refl, sym, ap, ◌∙◌, subst, arith, le-ltb}
use Rattle.std.specs.Prelude.{All, slice_get, is_some, IsSomeAnd}
use Rattle.ssq_board.specs.declared.front.Place.{Place}
use mathlib.Core.Option.{some}
use lib.ListN.{get_elem?}
use Rattle.ssq_meaning.specs.Meaning.{Line}
use Rattle.ssq_meaning.specs.Parts.{Part}
use Rattle.ssq_core.specs.Course.{Cuts, Ends}
use Rattle.ssq_course.specs.Setting.{Setting, parts_in, cut_of}
use Rattle.ssq_board.specs.declared.front.Cause.{Cause}
use Rattle.ssq_board.specs.declared.front.Place.TheVariants as place
use Rattle.ssq_board.specs.Core.{Scope}
use Rattle.ssq_board.specs.Shown.{Start, first, first_by, first_place, planned_by}
use Rattle.ssq_board.proofs.Lists.{at_length, dealt_at, replicate_at}
use Rattle.ssq_desk.specs.declared.desk.PartLog.{PartLog}
use Rattle.ssq_desk.specs.declared.desk.Share.{Share}
use Rattle.ssq_desk.specs.declared.desk.OutWork.{OutWork}
use Rattle.ssq_desk.specs.declared.desk.Pending.{Pending}
use Rattle.ssq_task.specs.declared.partition.Held.{Held}
use Rattle.ssq_desk.specs.Contents.{IsPartLogOf, IsKeyOf, IsHeldOf, IsHeldAt, AreSeen, IsOutWork, IsEpoch, Holds, keeping_in}
use Rattle.ssq_desk.specs.Making.{AreReady}
use Rattle.ssq_desk.proofs.Planned.{at_get, quiet_of, waits_not_back, rests_not_back, waits_not_rests}
use Rattle.ssq_desk.proofs.Beginnings.{slice_below}

-- What is made for the first state: for each part its log, which begins where the committed epochs end.
pub record IsFirstMade {L : Type 0} (reads : Type 0) (lines : L → List Line) (available : L → ℕ) (went : L → L → Type 0) (opened : List L) (s : Setting) (r : Scope) (from : Ends) (part_logs : List (PartLog L)) : Type 0 where
  pub parts : length part_logs ≡ length (parts_in s)
  pub logs : (i : ℕ) (part : Part) (part_log : PartLog L) → slice_get (parts_in s) i ≡ Some part → get_elem? part_logs i ≡ some part_log → IsPartLogOf reads lines available went opened i part (get_or r.available i 0) place.Rests part_log
  pub begins : (i : ℕ) (part_log : PartLog L) → get_elem? part_logs i ≡ some part_log → part_log.from ≡ get_or (cut_of from) i 0
  pub nothing : (i : ℕ) (part_log : PartLog L) → get_elem? part_logs i ≡ some part_log → part_log.fed ≡ None

module _ {L S F : Type 0} (reads owned : Type 0) (lines : L → List Line) (available : L → ℕ) (went : L → L → Type 0) (logs : List L) (written : S → List ℕ) (sealed : F → List ℕ) (s : Setting) (cuts : Cuts) (r : Scope) (start : Start)
    (part_logs : List (PartLog L)) (shares : List (Share S)) (held : List (Option Held)) (made : IsFirstMade reads lines available went logs s r start.from part_logs) (count : length shares ≡ s.job.partitions) (no_keys : All (λ (x : Share S). x.key ≡ None) shares)
    (keeping : length held ≡ keeping_in s) (kept : (p : ℕ) (own : Option Held) → get_elem? held p ≡ some own → IsSomeAnd own (IsHeldOf owned s cuts start.committed p)) where
  -- the tasks of an epoch that was opened as planned
  dealt_epoch : (work : OutWork S F) → AreReady owned written s.job.partitions (length (parts_in s)) (keeping_in s) shares → start.is_planned ≡ true → length start.from ≡ length (parts_in s) → cuts start.committed ≡ start.from → cuts (start.committed + 1) ≡ start.to
      → IsOutWork owned written s cuts start.committed work → IsEpoch reads owned written s cuts (first_by true r start) part_logs shares (Some work)
  dealt_epoch work ready planned each from to out = record {
    froms = ap length from ∙ each;
    mapped = λ i part at part_log there here mine. (
        let below : i < length start.from = omega (arith, slice_below (parts_in s) i part there, each) in record {
          begins = made.begins i part_log mine ∙ ap (λ (ends : Ends). get_or (cut_of ends) i 0) (sym from);
          none = λ rests. made.nothing i part_log mine;
          quiet = λ rests. elim (dealt_at start.from start.to i at here) [
            | inl w ↦ absurd (waits_not_rests at w.0 rests)
            | inr q ↦ subst (λ (tos : Ends). get_or (cut_of tos) i 0 ≤ get_or (cut_of (cuts start.committed)) i 0) (sym to)
                (subst (λ (froms : Ends). get_or (cut_of start.to) i 0 ≤ get_or (cut_of froms) i 0) (sym from) (quiet_of start.from start.to i below q.1))
          ];
          brought = λ back. elim (dealt_at start.from start.to i at here) [ inl w ↦ absurd (waits_not_back at None w.0 back) | inr q ↦ absurd (rests_not_back at None q.0 back) ];
          fault = λ f back. elim (dealt_at start.from start.to i at here) [ inl w ↦ absurd (waits_not_back at (Some f) w.0 back) | inr q ↦ absurd (rests_not_back at (Some f) q.0 back) ];
        }
        );
    shared = λ out_waits p at share here mine. (
        let waits : at ≡ place.Waits = replicate_at r.partitions p place.Waits at here in
        let own = ready.each p share mine in record {
          there = λ rests. waits_not_rests at waits rests;
          empty = λ w. (own.none, own.room);
          stage = λ w. own.stage;
          shown = λ back. absurd (waits_not_back at None waits back);
          printable = λ back. absurd (waits_not_back at None waits back);
        }
        );
    last = inl refl;
    outs = λ waits. (work, refl, out);
  }

  -- with nothing planned that is not committed, or with the tasks of the epoch that is
  first_holds : (b : Bool) (out : Option (OutWork S F)) (times : List (Option ℤ)) (pending : Option (Pending F)) → AreSeen owned s cuts start.committed times
      → (b ≡ true → IsEpoch reads owned written s cuts (first_by b r start) part_logs shares out) → Holds reads owned lines available went logs written sealed s cuts r.available (first_by b r start) part_logs shares held out times pending
  first_holds b out times pending seen epoch = record {
    parts = made.parts;
    partitions = count;
    keeping = keeping;
    logs = λ i part at part_log there here mine. (let is = made.logs i part part_log there mine in record { stream = is.stream; number = is.number; log = λ back. is.log (λ away. away) });
    reduced = λ p f here. absurd (no_fault b f (replicate_at r.partitions p (first_place b) (place.Back (Some f)) here));
    dealt = λ opened p here. no_rest b (planned_if start.committed b opened) (replicate_at r.partitions p (first_place b) place.Rests here);
    keys = λ opened p at share here mine. subst (λ (at : Place). IsKeyOf owned s cuts start.committed p at share.key) (sym (replicate_at r.partitions p (first_place b) at here)) (first_key b p share (subst (λ (x : Share S). x.key ≡ None) (at_get shares p share share mine) (no_keys p share (at_length shares p share mine))));
    still = λ stopped. absurd (true≢false (sym (ap is_some stopped)));
    kept = λ running p at own here mine. subst (λ (at : Place). IsHeldAt owned s cuts (nat_lt start.committed (planned_by b start.committed)) start.committed p at own) (sym (replicate_at r.partitions p (first_place b) at here)) (first_kept b p own (kept p own mine));
    seen_so_far = λ running. seen;
    epoch = λ running opened. epoch (planned_if start.committed b opened);
    commit = λ running opened is. absurd (true≢false (sym is));
    stop = λ f stopped. absurd (true≢false (sym (ap is_some stopped)));
  }
    where
      no_fault : (b : Bool) (f : Cause) → place.Back (Some f) ≡ first_place b → ⊥
      no_fault true f e = cc
      no_fault false f e = cc

      no_rest : (b : Bool) → b ≡ true → place.Rests ≡ first_place b → ⊥
      no_rest true is e = cc
      no_rest false is e = true≢false (sym is)

      first_key : (b : Bool) (p : ℕ) (share : Share S) → share.key ≡ None → IsKeyOf owned s cuts start.committed p (first_place b) share.key
      first_key true p share none = none
      first_key false p share none = none

      first_kept : (b : Bool) (p : ℕ) (own : Option Held) → IsSomeAnd own (IsHeldOf owned s cuts start.committed p) → IsHeldAt owned s cuts (nat_lt start.committed (planned_by b start.committed)) start.committed p (first_place b) own
      first_kept true p own is = λ back. is
      first_kept false p own is = λ back. is

      planned_if : (n : ℕ) (b : Bool) → nat_lt n (planned_by b n) ≡ true → b ≡ true
      planned_if n true opened = refl
      planned_if n false opened = absurd (true≢false (sym opened ∙ le-ltb n n (omega arith)))

  -- what a desk holds where its round begins on what was opened
  pub opened_holds : (out : Option (OutWork S F)) (times : List (Option ℤ)) (pending : Option (Pending F)) → AreSeen owned s cuts start.committed times
      → (start.is_planned ≡ true → (length start.from ≡ length (parts_in s)) × (cuts start.committed ≡ start.from) × (cuts (start.committed + 1) ≡ start.to) × ((work : OutWork S F) × (out ≡ Some work) × IsOutWork owned written s cuts start.committed work × AreReady owned written s.job.partitions (length (parts_in s)) (keeping_in s) shares))
      → Holds reads owned lines available went logs written sealed s cuts r.available (first r start) part_logs shares held out times pending
  opened_holds out times pending seen opened =
      first_holds start.is_planned out times pending seen (λ planned. by_planned planned (opened planned))
    where
      by_planned : start.is_planned ≡ true → (length start.from ≡ length (parts_in s)) × (cuts start.committed ≡ start.from) × (cuts (start.committed + 1) ≡ start.to) × ((work : OutWork S F) × (out ≡ Some work) × IsOutWork owned written s cuts start.committed work × AreReady owned written s.job.partitions (length (parts_in s)) (keeping_in s) shares)
          → IsEpoch reads owned written s cuts (first_by start.is_planned r start) part_logs shares out
      by_planned planned are =
          subst (λ (b : Bool). IsEpoch reads owned written s cuts (first_by b r start) part_logs shares out) (sym planned)
          (subst (λ (o : Option (OutWork S F)). IsEpoch reads owned written s cuts (first_by true r start) part_logs shares o) (sym are.3.1) (dealt_epoch are.3.0 are.3.3 planned are.0 are.1 are.2 are.3.2))
