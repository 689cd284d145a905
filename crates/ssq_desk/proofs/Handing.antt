-- What a desk holds where a task is claimed.
use Rattle.std.proofs.Common.{◌≡◌, ◌<◌, ◌≤◌, ◌+◌, ◌&&◌, [], ◌∷◌, ℕ, ℤ, zero, suc, Bool, true, false, true≢false, List, map, length, get_or, set, Option, Some, None, inl, inr, refl, sym, ap, ◌∙◌, subst, arith}
use Rattle.std.specs.Prelude.{All, slice_get, vec_capacity, is_some, IsSomeAnd}
use Rattle.ssq_time.specs.Time.{IsStampTime}
use Rattle.ssq_value.specs.Kind.{IfTime}
use Rattle.ssq_meaning.specs.Parts.{parts_from, parts_of}
use Rattle.ssq_meaning.specs.FedRows.{FedRow}
use Rattle.ssq_meaning.specs.Epochs.{joined, seen, time_of_stream}
use Rattle.ssq_terms.specs.Rows.{IsShownOf, AreShown}
use Rattle.ssq_terms.proofs.Raising.{raise_times}
use Rattle.ssq_desk.specs.declared.desk.OutWork.{OutWork}
use Rattle.ssq_task.specs.declared.partition.Held.{Held}
use Rattle.ssq_desk.specs.Contents.{IsShare, IsOutWork, IsHeldOf}
use Rattle.ssq_desk.specs.Tasks.{IsStateFor}
use Rattle.ssq_desk.proofs.Keeping.{state_for}
use Rattle.ssq_desk.specs.Handing.{CanRaise, state_with, time_in_part_logs, time_of, time_of_part_log}
use Rattle.ssq_desk.proofs.Feeding.{can_raise, time_is, time_same}
use Rattle.ssq_desk.proofs.Planned.{at_get}
use Rattle.std.specs.List.{list_all}
use Rattle.std.proofs.lemmas.List.{get_or-map, length-map}
use Rattle.std.proofs.lemmas.Option.{same_Some}
use mathlib.Core.Option.{some, some-injective, some-ne-none}
use lib.ListN.{get_elem?}
use Rattle.ssq_outside.specs.History.{History}
use Rattle.ssq_outside.specs.declared.gate.TaskId.{TaskId}
use Rattle.ssq_outside.specs.declared.gate.Kind.{Kind}
use Rattle.ssq_outside.specs.declared.gate.Kind.TheVariants as kind
use Rattle.ssq_meaning.specs.Meaning.{Line}
use Rattle.ssq_meaning.specs.Parts.{Part}
use Rattle.ssq_plans.specs.declared.part.PartEnd.{PartEnd}
use Rattle.ssq_core.specs.Course.{Cuts, Ends}
use Rattle.ssq_course.specs.Setting.{Setting, parts_in, cut_of, cuts_of as offsets}
use Rattle.ssq_meaning.specs.Epochs.{bucket, fed}
use Rattle.ssq_terms.specs.Rows.{bucket_in}
use Rattle.ssq_terms.proofs.Showing.{parts_feed}
use Rattle.ssq_desk.specs.declared.desk.Share.{Share}
use Rattle.ssq_desk.specs.Handing.{IsTaken, AreTaken, bucket_in_fed, buckets_in}
use Rattle.ssq_meaning.specs.Times.{delays, greatest, later, watermark_by}
use Rattle.ssq_water.specs.Water.{seen_at}
use Rattle.ssq_course.specs.Setting.{watermark_at}
use Rattle.ssq_meaning.specs.Fit.{IsFitRow}
use Rattle.ssq_desk.proofs.Feeding.{IsSafe, part_log_safe, bucket_is, all_parts, all_joined}
use Rattle.ssq_board.specs.declared.front.Cause.{Cause}
use Rattle.ssq_board.specs.declared.front.Cause.TheVariants as cause
use Rattle.ssq_board.specs.declared.front.Entry.{Entry}
use Rattle.ssq_board.specs.declared.front.Entry.TheVariants as entry
use Rattle.ssq_board.specs.declared.front.Place.{Place}
use Rattle.ssq_board.specs.declared.front.Place.TheVariants as place
use Rattle.ssq_board.specs.Shown.{first}
use Rattle.ssq_board.specs.Core.{Scope, Core, May, after, after_all, cuts_by, is_open, is_fine, may_start, tasks_of, moved, with_tasks}
use Rattle.ssq_board.proofs.Lists.{at_length, there_at, all_fine, put_here}
use Rattle.ssq_board.proofs.Sounds.{open_less}
use Rattle.ssq_ledger.specs.Shown.{Shown, IsLegal, IsInOrder, cuts_of, did}
use Rattle.ssq_desk.specs.declared.desk.Load.{Load}
use Rattle.ssq_desk.specs.declared.desk.PartLog.{PartLog}
use Rattle.ssq_desk.specs.declared.round.Round.{Round}
use Rattle.ssq_desk.specs.Round.{setting_of, Owns}
use Rattle.ssq_feed.specs.Causes.{LogWent}
use Rattle.ssq_desk.specs.Contents.{IsPartLogOf, IsLogOf, IsMapped}
use Rattle.ssq_meaning.specs.declared.fed_row.View.{View}
use Rattle.ssq_meaning.proofs.Coding.{first_true as and_left}
use Rattle.ssq_sink.proofs.Passes.{get_some as part_there}
use Rattle.ssq_desk.specs.Tasks.{IsViewOf}
use Rattle.ssq_desk.specs.Handed.{IsMapOf}
use Rattle.ssq_desk.specs.Closing.{AreTold, HasFaulty}
use Rattle.ssq_desk.specs.Whole.{IsWhole, IsKept, HoldsIn, ArePlans, opening_in}
use Rattle.ssq_desk.proofs.Holding.{key_of, with_map, with_reduce, with_out, holds_map, holds_claimed, holds_out}
use Rattle.ssq_desk.proofs.Ends.{AreWithin}
use Rattle.ssq_desk.proofs.Wholes.{cuts_then}
use Rattle.ssq_desk.proofs.Betweens.{ends_are, ends_within, each_end}

-- a desk that runs has no cause
pub runs_without : (o : Option Cause) (f : Cause) → o ≡ None → o ≡ Some f → ⊥
runs_without o f runs stopped = true≢false (sym (sym (ap is_some runs) ∙ ap is_some stopped))

waits_not_away : place.Waits ≡ place.Away → ⊥
waits_not_away e = cc

pub and_right : (a b : Bool) → (a && b) ≡ true → b ≡ true
and_right true b e = e
and_right false b e = absurd (true≢false (sym e))

-- a task of this kind that was handed out may be reported
pub may_report : (r : Scope) (c : Core) (t : TaskId) (k : Kind) (f : Option Cause) → t.kind ≡ k → May r c (entry.Claim t) → May r (after r c (entry.Claim t)) (entry.Report (record { epoch = t.epoch; kind = k; number = t.number }) f)
may_report r c t k f is may = (may.1, may.2, subst (λ (k : Kind). get_elem? (tasks_of k (after r c (entry.Claim t))) t.number ≡ some place.Away) is (away t.kind t.number may.4))
  where
    away : (k : Kind) (n : ℕ) → get_elem? (tasks_of k c) n ≡ some place.Waits → get_elem? (tasks_of k (with_tasks k c (set (tasks_of k c) n place.Away))) n ≡ some place.Away
    away kind.Map n waits = put_here c.maps n place.Waits place.Away waits
    away kind.Reduce n waits = put_here c.reduces n place.Waits place.Away waits
    away kind.Out n waits = put_here c.outs n place.Waits place.Away waits
    away kind.Upkeep n waits = absurd (some-ne-none place.Waits (sym waits))

-- handing it out moves no cut
pub after_claim : {D L : Type 0} (lines : L → List Line) (shown : Shown D (Round L)) (disk : D) (t : TaskId) (P : Cuts → Type 0) → P (cuts_of (opening_in lines) shown) → P (cuts_of (opening_in lines) (did shown disk (entry.Claim t ∷ [])))
after_claim lines shown disk t P is = subst P (sym (cuts_then (opening_in lines shown.opening) shown.scope shown.history (entry.Claim t))) is

-- a task of a kind that is moved
pub map_moved : (c : Core) (t : TaskId) (p : Place) → t.kind ≡ kind.Map → moved c t p ≡ with_map c c.front.stop t.number p
map_moved c t p e = ap (λ k. with_tasks k c (set (tasks_of k c) t.number p)) e

pub reduce_moved : (c : Core) (t : TaskId) (p : Place) → t.kind ≡ kind.Reduce → moved c t p ≡ with_reduce c c.front.stop t.number p
reduce_moved c t p e = ap (λ k. with_tasks k c (set (tasks_of k c) t.number p)) e

pub out_moved : (c : Core) (t : TaskId) (p : Place) → t.kind ≡ kind.Out → t.number ≡ 0 → moved c t p ≡ with_out c c.front.stop p
out_moved c t p e zero_is = ap (λ k. with_tasks k c (set (tasks_of k c) t.number p)) e ∙ ap (λ n. with_tasks kind.Out c (set c.outs n p)) zero_is

one_or_later : {L : Type 0} (p : ℕ) (old new : PartLog L) (olds news : List (PartLog L)) → IsTaken p old new → ((j : ℕ) (a b : PartLog L) → get_elem? olds j ≡ some a → get_elem? news j ≡ some b → IsTaken p a b)
    → (j : ℕ) (a b : PartLog L) → get_elem? (old ∷ olds) j ≡ some a → get_elem? (new ∷ news) j ≡ some b → IsTaken p a b
one_or_later {L} p old new olds news first rest zero a b here mine = subst (λ (x : PartLog L). IsTaken p x b) (some-injective old a here) (subst (λ (x : PartLog L). IsTaken p old x) (some-injective new b mine) first)
one_or_later p old new olds news first rest (suc j) a b here mine = rest j a b here mine

-- from each part, by its place
pub taken_at : {L : Type 0} (p : ℕ) (olds news : List (PartLog L)) → AreTaken p olds news → (length news ≡ length olds) × ((j : ℕ) (old new : PartLog L) → get_elem? olds j ≡ some old → get_elem? news j ≡ some new → IsTaken p old new)
taken_at p [] [] are = (refl, λ j old new here mine. absurd (some-ne-none old (sym here)))
taken_at p [] (new ∷ news) are = absurd are
taken_at p (old ∷ olds) [] are = absurd are
taken_at p (old ∷ olds) (new ∷ news) are = (let rest = taken_at p olds news are.1 in (omega (arith, rest.0), one_or_later p old new olds news are.0 rest.1))

-- a reduce task without a fault, in an epoch that runs, is back
back_of : {S : Type 0} (owned : Type 0) (written : S → List ℕ) (s : Setting) (cuts : Cuts) (e p : ℕ) (at : Place) (share : Share S) → is_fine at ≡ true → IsShare owned written s cuts e p at share → IsShare owned written s cuts e p (place.Back None) share
back_of owned written s cuts e p place.Rests share fine is = absurd (is.there refl)
back_of owned written s cuts e p (place.Back None) share fine is = is
back_of owned written s cuts e p (place.Back (Some f)) share fine is = absurd (true≢false (sym fine))
back_of owned written s cuts e p place.Waits share fine is = absurd (true≢false (sym fine))
back_of owned written s cuts e p place.Away share fine is = absurd (true≢false (sym fine))

none_there : {A : Type 0} (i : ℕ) (a : A) → slice_get [] i ≡ Some a → ⊥
none_there i a e = true≢false (sym (ap is_some e))

abbrev stream_or : Option Part → ℕ → ℕ
stream_or None d = d
stream_or (Some p) d = p.stream

stream_from : (stream part left : ℕ) (counts : List ℕ) (lines : List (List Line)) (i : ℕ) (p : Part) → slice_get (parts_from stream part left counts lines) i ≡ Some p → p.stream < stream + 1 + length counts
unfolding parts_from
stream_from stream part left counts [] i p there = absurd (none_there i p there)
stream_from stream part (suc left) counts (own ∷ lines) zero p there = (let is = ap (λ o. stream_or o stream) there in omega (arith, is))
stream_from stream part (suc left) counts (own ∷ lines) (suc i) p there = stream_from stream (part + 1) left counts lines i p there
stream_from stream part zero [] (own ∷ lines) i p there = absurd (none_there i p there)
stream_from stream part zero (count ∷ counts) (own ∷ lines) i p there = (let less = stream_from (stream + 1) 0 count counts (own ∷ lines) i p there in omega (arith, less))

-- the stream of a part is one of those that have parts
stream_in : (counts : List ℕ) (lines : List (List Line)) (i : ℕ) (p : Part) → slice_get (parts_of counts lines) i ≡ Some p → p.stream < length counts
stream_in [] lines i p there = absurd (none_there i p there)
stream_in (count ∷ counts) lines i p there = (let less = stream_from 0 0 count counts lines i p there in omega (arith, less))

module _ {D L S F : Type 0} (stores logs : Type 0) (history : D → History) (lines : L → List Line) (available : L → ℕ) (answers : L → List ℕ) (faults : L → ℕ) (written : S → List ℕ) (sealed : F → List ℕ) (shown : Shown D (Round L)) (load : Load L S F)
    (whole : IsWhole stores logs history lines available answers faults written sealed shown load) where
  -- after an entry that plans nothing, with what is held then
  pub moved_whole : (disk : D) (e : Entry) (n : Load L S F) → ((cuts : Cuts) (c : Core) → cuts_by shown.scope cuts c e ≡ cuts) → (after shown.scope shown.core e).front.planned ≡ shown.core.front.planned
      → n.view ≡ load.view → n.plans.items ≡ load.plans.items → n.kept ≡ load.kept
      → AreTold (Owns stores logs history lines shown) (setting_of lines shown.opening) (cuts_of (opening_in lines) shown) shown.opening.opened.committed (after shown.scope shown.core e).front.committed n.told.items
      → (is_open (after shown.scope shown.core e) ≡ true → length n.told.items < vec_capacity n.told)
      → ((after shown.scope shown.core e).front.stop ≡ Some cause.LogFault → HasFaulty faults (after shown.scope shown.core e).maps n.part_logs.items)
      → HoldsIn stores logs history lines available answers faults written sealed shown (cuts_of (opening_in lines) shown) (after shown.scope shown.core e) n.part_logs.items n.shares.items n.held.items n.out n.seen n.pending
      → IsWhole stores logs history lines available answers faults written sealed (did shown disk (e ∷ [])) n
  moved_whole disk e n keeps planned view plans kept told room faulty h =
      let s : Setting = setting_of lines shown.opening in
      let same : cuts_of (opening_in lines) (did shown disk (e ∷ [])) ≡ cuts_of (opening_in lines) shown = cuts_then (opening_in lines shown.opening) shown.scope shown.history e ∙ keeps (cuts_of (opening_in lines) shown) (after_all shown.scope (first shown.scope (opening_in lines shown.opening).start) shown.history) in record {
        round = whole.round;
        view = subst (λ v. IsViewOf s v) (sym view) whole.view;
        holds = subst (λ (cuts : Cuts). HoldsIn stores logs history lines available answers faults written sealed shown cuts (after shown.scope shown.core e) n.part_logs.items n.shares.items n.held.items n.out n.seen n.pending) (sym same) h;
        plans = subst (λ (cuts : Cuts). ArePlans (Owns stores logs history lines shown) shown.opening.opened.plans s cuts (after shown.scope shown.core e).front.planned n.plans.items) (sym same)
            (subst (λ (k : ℕ). ArePlans (Owns stores logs history lines shown) shown.opening.opened.plans s (cuts_of (opening_in lines) shown) k n.plans.items) (sym planned) (subst (λ l. ArePlans (Owns stores logs history lines shown) shown.opening.opened.plans s (cuts_of (opening_in lines) shown) shown.core.front.planned l) (sym plans) whole.plans));
        told = subst (λ (cuts : Cuts). AreTold (Owns stores logs history lines shown) s cuts shown.opening.opened.committed (after shown.scope shown.core e).front.committed n.told.items) (sym same) told;
        told_room = room;
        faulty = faulty;
        kept = subst (IsKept s shown.opening.opened) (sym kept) whole.kept;
      }

  module _ (legal : IsLegal (Owns stores logs history lines shown) history (opening_in lines) shown) (order : IsInOrder shown.scope shown.core) where
    pub part_logs_count : length load.part_logs.items ≡ length shown.scope.available
    part_logs_count = whole.holds.parts ∙ sym whole.round.parts

    pub parts_count : length (parts_in (setting_of lines shown.opening)) ≡ length shown.scope.available
    parts_count = sym whole.round.parts

    -- the map task that waits in a slot: its part, with its log
    pub record IsMapHere (i : ℕ) : Type 0 where
      pub ends_below : i < length shown.core.ends
      pub below : i < length load.part_logs.items
      pub part : Part
      pub there : slice_get (parts_in (setting_of lines shown.opening)) i ≡ Some part
      pub part_log : PartLog L
      pub here : get_elem? load.part_logs.items i ≡ some part_log
      pub is : IsPartLogOf (stores × logs) lines available (LogWent logs lines available answers faults) shown.opening.logs.items i part (get_or shown.scope.available i 0) place.Waits part_log
      pub mapped : IsMapped (stores × logs) (setting_of lines shown.opening).job.bound shown.core.front.committed part (get_or (cut_of (cuts_of (opening_in lines) shown shown.core.front.committed)) i 0) (get_or (cut_of (cuts_of (opening_in lines) shown (shown.core.front.committed + 1))) i 0)
          (setting_of lines shown.opening).job.partitions shown.core.reduces place.Waits part_log

    pub map_here : (t : TaskId) → t.kind ≡ kind.Map → May shown.scope shown.core (entry.Claim t) → IsMapHere t.number
    map_here t is may =
        let waits : get_elem? shown.core.maps t.number ≡ some place.Waits = subst (λ k. get_elem? (tasks_of k shown.core) t.number ≡ some place.Waits) is may.4 in
        let less = at_length shown.core.maps t.number place.Waits waits in
        let maps = order.sound.maps in
        let part_log = there_at load.part_logs.items t.number (omega (arith, less, maps, part_logs_count)) in
        let part = part_there (parts_in (setting_of lines shown.opening)) t.number (omega (arith, less, maps, parts_count)) in record {
          ends_below = (let ends = order.sound.ends in omega (arith, less, maps, ends));
          below = omega (arith, less, maps, part_logs_count);
          part = part.0;
          there = part.1;
          part_log = part_log.0;
          here = part_log.1;
          is = whole.holds.logs t.number part.0 place.Waits part_log.0 part.1 waits part_log.1;
          mapped = (whole.holds.epoch may.0 may.1).mapped t.number part.0 place.Waits part_log.0 part.1 waits part_log.1;
        }

    -- once it is handed out, without its log
    pub map_claimed : (t : TaskId) (x : PartLog L) → t.kind ≡ kind.Map → May shown.scope shown.core (entry.Claim t) → (h : IsMapHere t.number)
        → x ≡ record { stream = h.part_log.stream; part = h.part_log.part; from = h.part_log.from; log = None; fed = h.part_log.fed }
        → HoldsIn stores logs history lines available answers faults written sealed shown (cuts_of (opening_in lines) shown) (after shown.scope shown.core (entry.Claim t)) (set load.part_logs.items t.number x) load.shares.items load.held.items load.out load.seen load.pending
    map_claimed t x is may h x_is =
        subst (λ (c : Core). HoldsIn stores logs history lines available answers faults written sealed shown (cuts_of (opening_in lines) shown) c (set load.part_logs.items t.number x) load.shares.items load.held.items load.out load.seen load.pending) (sym (map_moved shown.core t place.Away is))
        (holds_map (stores × logs) (Owns stores logs history lines shown) lines available (LogWent logs lines available answers faults) shown.opening.logs.items written sealed (setting_of lines shown.opening) (cuts_of (opening_in lines) shown) shown.scope.available shown.core shown.core.front.stop t.number place.Away x load.part_logs.items load.shares.items load.held.items load.out load.seen load.pending
        (λ e. e) whole.holds
        (λ part there. (let same : h.part ≡ part = same_Some h.part part (sym h.there ∙ there) in record {
          stream = ap (λ (q : Part). q.stream) (sym same) ∙ h.is.stream ∙ sym (ap (λ (q : PartLog L). q.stream) x_is);
          number = ap (λ (q : Part). q.part) (sym same) ∙ h.is.number ∙ sym (ap (λ (q : PartLog L). q.part) x_is);
          log = λ here. absurd (here tt);
        }))
        (λ run opened part there. record {
          begins = ap (λ (q : PartLog L). q.from) x_is ∙ h.mapped.begins;
          quiet = λ e. absurd (away_not e);
          none = λ e. absurd (away_not e);
          brought = λ e. absurd (away_back None e);
          fault = λ f e. absurd (away_back (Some f) e);
        })
        whole.holds.still (λ f stopped. whole.holds.stop f stopped))
      where
        away_not : place.Away ≡ place.Rests → ⊥
        away_not e = cc

        away_back : (f : Option Cause) → place.Away ≡ place.Back f → ⊥
        away_back f e = cc

    -- and its task
    pub map_task : (t : TaskId) (view : View) (to : ℕ) (own : L) → t.kind ≡ kind.Map → May shown.scope shown.core (entry.Claim t) → (h : IsMapHere t.number) → view ≡ load.view → h.part_log.log ≡ Some own
        → to ≡ (get_or shown.core.ends t.number (record { stream = 0; part = 0; end = 0 })).end
        → IsMapOf stores logs history lines available answers faults shown (record { view = view; epoch = t.epoch; number = t.number; stream = h.part_log.stream; part = h.part_log.part; from = h.part_log.from; to = to; log = own })
    map_task t view to own is may h view_is own_is to_is =
        let log = h.is.log (λ away. away) in
        let same : log.0 ≡ own = same_Some log.0 own (sym log.1 ∙ own_is) in
        let near = order.sound.near in
        let less = open_less shown.core may.1 in
        let ends : cuts_of (opening_in lines) shown (shown.core.front.committed + 1) ≡ shown.core.ends =
        ap (cuts_of (opening_in lines) shown) (omega (arith, near, less)) ∙ ends_are stores logs history lines available answers faults written sealed shown load whole legal order in record {
          part = h.part;
          there = h.there;
          view = subst (λ v. IsViewOf (setting_of lines shown.opening) v) (sym view_is) whole.view;
          epoch = may.2;
          stream = h.is.stream;
          number = h.is.number;
          from = h.mapped.begins;
          to = to_is ∙ sym (get_or-map (λ (e : PartEnd). e.end) shown.core.ends t.number (record { stream = 0; part = 0; end = 0 }) 0 h.ends_below) ∙ sym (ap (λ (l : Ends). get_or (cut_of l) t.number 0) ends);
          log = subst (IsLogOf (stores × logs) lines available (LogWent logs lines available answers faults) shown.opening.logs.items t.number h.part (get_or shown.scope.available t.number 0)) same log.2;
        }

    -- the reduce task that waits in a slot: its partition, and what the parts brought for it
    pub record IsReduceHere (p : ℕ) : Type 0 where
      pub below : p < length load.shares.items
      pub less : p < (setting_of lines shown.opening).job.partitions
      pub share : Share S
      pub here : get_elem? load.shares.items p ≡ some share
      pub none : share.buckets.items ≡ []
      pub no_key : share.key ≡ None
      pub state : IsStateFor (Owns stores logs history lines shown) written (setting_of lines shown.opening) (cuts_of (opening_in lines) shown) shown.core.front.committed p (state_with (get_or load.held.items p None) share.stage)
      pub room : length load.part_logs.items ≤ vec_capacity share.buckets
      pub safe : (i : ℕ) (part_log : PartLog L) → get_elem? load.part_logs.items i ≡ some part_log → IsSafe (setting_of lines shown.opening).job.partitions part_log
      pub rows : Owns stores logs history lines shown → buckets_in p load.part_logs.items ≡ bucket (setting_of lines shown.opening).job.partitions p (fed (setting_of lines shown.opening).job.bound (parts_in (setting_of lines shown.opening)) (offsets (cuts_of (opening_in lines) shown)) shown.core.front.committed)

    -- the out task waits as long as reduce tasks do
    pub tos_count : is_open shown.core ≡ true → length (cut_of (cuts_of (opening_in lines) shown (shown.core.front.committed + 1))) ≡ length (parts_in (setting_of lines shown.opening))
    tos_count opened =
        let near = order.sound.near in
        let less = open_less shown.core opened in
        length-map (cuts_of (opening_in lines) shown (shown.core.front.committed + 1)) (λ (e : PartEnd). e.end)
        ∙ ap length (ap (cuts_of (opening_in lines) shown) (omega (arith, near, less)) ∙ ends_are stores logs history lines available answers faults written sealed shown load whole legal order)
        ∙ each_end stores logs history lines available answers faults written sealed shown load whole legal order

    -- no more lines of a part are planned than were found
    pub tos_within : is_open shown.core ≡ true → AreWithin shown.scope.available (cuts_of (opening_in lines) shown (shown.core.front.committed + 1))
    tos_within opened =
        let near = order.sound.near in
        let less = open_less shown.core opened in
        subst (AreWithin shown.scope.available) (sym (ap (cuts_of (opening_in lines) shown) (omega (arith, near, less)) ∙ ends_are stores logs history lines available answers faults written sealed shown load whole legal order))
        (ends_within stores logs history lines available answers faults written sealed shown load whole legal order)

    -- what was fed of each part is fine, where all map tasks are
    pub part_log_here : shown.core.front.stop ≡ None → (opened : is_open shown.core ≡ true) → list_all is_fine shown.core.maps ≡ true → (i : ℕ) (part : Part) (part_log : PartLog L) → slice_get (parts_in (setting_of lines shown.opening)) i ≡ Some part → get_elem? load.part_logs.items i ≡ some part_log
        → (at : Place) × (get_elem? shown.core.maps i ≡ some at) × (is_fine at ≡ true) × IsMapped (stores × logs) (setting_of lines shown.opening).job.bound shown.core.front.committed part (get_or (cut_of (cuts_of (opening_in lines) shown shown.core.front.committed)) i 0) (get_or (cut_of (cuts_of (opening_in lines) shown (shown.core.front.committed + 1))) i 0)
        (setting_of lines shown.opening).job.partitions shown.core.reduces at part_log
    part_log_here runs opened fine i part part_log there here =
        let at = there_at shown.core.maps i (let less = at_length load.part_logs.items i part_log here in let maps = order.sound.maps in omega (arith, less, maps, part_logs_count)) in
        (at.0, at.1, all_fine is_fine shown.core.maps i at.0 fine at.1, (whole.holds.epoch runs opened).mapped i part at.0 part_log there at.1 here)

    pub reduce_here : (t : TaskId) → t.kind ≡ kind.Reduce → May shown.scope shown.core (entry.Claim t) → IsReduceHere t.number
    reduce_here t is may =
        let s : Setting = setting_of lines shown.opening in
        let waits : get_elem? shown.core.reduces t.number ≡ some place.Waits = subst (λ k. get_elem? (tasks_of k shown.core) t.number ≡ some place.Waits) is may.4 in
        let starts = subst (λ k. may_start shown.core k ≡ true) is may.3 in
        let fine = and_right shown.core.front.fresh (list_all is_fine shown.core.maps) starts in
        let less = at_length shown.core.reduces t.number place.Waits waits in
        let reduces = order.sound.reduces in
        let scoped = whole.round.partitions in
        let count = whole.holds.partitions in
        let share = there_at load.shares.items t.number (omega (arith, less, reduces, scoped, count)) in
        let e = whole.holds.epoch may.0 may.1 in
        let out : get_elem? shown.core.outs 0 ≡ some place.Waits = elim e.last [ inl w ↦ w | inr all ↦ absurd (true≢false (sym (all_fine is_fine shown.core.reduces t.number place.Waits all waits))) ] in
        let own = e.shared out t.number place.Waits share.0 waits share.1 in
        let fresh = own.empty refl in record {
          below = omega (arith, less, reduces, scoped, count);
          less = omega (arith, less, reduces, scoped);
          share = share.0;
          here = share.1;
          none = fresh.0;
          no_key = whole.holds.keys may.1 t.number place.Waits share.0 waits share.1;
          state = state_for (Owns stores logs history lines shown) written s (cuts_of (opening_in lines) shown) shown.core.front.committed t.number (get_or load.held.items t.number None) share.0.stage (own.stage refl) (λ keeps. (
              let held = there_at load.held.items t.number (let many = whole.holds.keeping in omega (arith, keeps, many)) in
              subst (λ (o : Option Held). IsSomeAnd o (IsHeldOf (Owns stores logs history lines shown) s (cuts_of (opening_in lines) shown) shown.core.front.committed t.number)) (sym (at_get load.held.items t.number held.0 None held.1))
              (whole.holds.kept may.0 t.number place.Waits held.0 waits held.1 (λ away. away))));
          room = (let parts = whole.holds.parts in let room = fresh.1 in omega (arith, parts, room));
          safe = λ i part_log here. (let part = part_there (parts_in s) i (let l = at_length load.part_logs.items i part_log here in let parts = whole.holds.parts in omega (arith, l, parts)) in
              let m = part_log_here may.0 may.1 fine i part.0 part_log part.1 here in
              part_log_safe (stores × logs) s.job.bound shown.core.front.committed part.0 _ _ s.job.partitions shown.core.reduces m.0 part_log m.2 m.3);
          rows = λ y. ap (λ (lists : List (List FedRow)). joined lists) (all_parts (bucket_in s.job.bound shown.core.front.committed s.job.partitions t.number) (λ part_log. bucket_in_fed t.number part_log.fed) (parts_in s) load.part_logs.items
              (cut_of (cuts_of (opening_in lines) shown shown.core.front.committed)) (cut_of (cuts_of (opening_in lines) shown (shown.core.front.committed + 1))) whole.holds.parts
              (length-map (cuts_of (opening_in lines) shown shown.core.front.committed) (λ (e : PartEnd). e.end) ∙ e.froms) (tos_count may.1)
              (λ i part part_log there here. (let m = part_log_here may.0 may.1 fine i part part_log there here in
              bucket_is (stores × logs) s.job.bound shown.core.front.committed part _ _ s.job.partitions t.number shown.core.reduces m.0 part_log (y.0, y.1.0) m.2 waits m.3)))
              ∙ parts_feed s.job.bound shown.core.front.committed (parts_in s) (cut_of (cuts_of (opening_in lines) shown shown.core.front.committed)) (cut_of (cuts_of (opening_in lines) shown (shown.core.front.committed + 1))) s.job.partitions t.number;
        }

    -- once it is handed out
    pub reduce_claimed : (t : TaskId) (x : Share S) (left : List (PartLog L)) → x.key ≡ None → t.kind ≡ kind.Reduce → May shown.scope shown.core (entry.Claim t) → AreTaken t.number load.part_logs.items left
        → HoldsIn stores logs history lines available answers faults written sealed shown (cuts_of (opening_in lines) shown) (after shown.scope shown.core (entry.Claim t)) left (set load.shares.items t.number x) (set load.held.items t.number None) load.out load.seen load.pending
    reduce_claimed t x left no_key is may taken =
        let all = taken_at t.number load.part_logs.items left taken in
        subst (λ (c : Core). HoldsIn stores logs history lines available answers faults written sealed shown (cuts_of (opening_in lines) shown) c left (set load.shares.items t.number x) (set load.held.items t.number None) load.out load.seen load.pending) (sym (reduce_moved shown.core t place.Away is))
        (holds_claimed (stores × logs) (Owns stores logs history lines shown) lines available (LogWent logs lines available answers faults) shown.opening.logs.items written sealed (setting_of lines shown.opening) (cuts_of (opening_in lines) shown) shown.scope.available shown.core t.number x load.part_logs.items left load.shares.items load.held.items load.out load.seen load.pending whole.holds all.0 (subst (λ k. get_elem? (tasks_of k shown.core) t.number ≡ some place.Waits) is may.4) all.1 may.0 no_key)

    -- The watermark of the epoch that runs, by what was seen before it.
    pub watermark_here : shown.core.front.stop ≡ None → (watermark : Option ℤ) → watermark ≡ watermark_by (delays load.view.bound.now) (seen_at load.seen)
        → Owns stores logs history lines shown → watermark ≡ watermark_at (setting_of lines shown.opening) (cuts_of (opening_in lines) shown) shown.core.front.committed
    watermark_here runs watermark is y =
        let seen = whole.holds.seen_so_far runs in
        is ∙ (λ i. watermark_by (delays (whole.view.bound i)) (λ stream. seen.are y stream i))

    -- a state can hold each row that was put together
    pub rows_fit : (p : ℕ) → IsReduceHere p → All IsFitRow (buckets_in p load.part_logs.items)
    rows_fit p h = all_joined IsFitRow (λ part_log. bucket_in_fed p part_log.fed) load.part_logs.items (λ i part_log here. (h.safe i part_log here).fit p h.less)

    -- each part is of one of the query's streams
    pub streams_below : (i : ℕ) (part : Part) → slice_get (parts_in (setting_of lines shown.opening)) i ≡ Some part → part.stream < length (setting_of lines shown.opening).job.bound.streams
    streams_below i part there =
        let s : Setting = setting_of lines shown.opening in
        let counts = whole.round.streams in
        let below = stream_in s.job.parts s.lines i part there in omega (arith, below, counts)

    -- the out task that waits: what it is to take
    pub record IsOutHere : Type 0 where
      pub work : OutWork S F
      pub here : load.out ≡ Some work
      pub is : IsOutWork (Owns stores logs history lines shown) written (setting_of lines shown.opening) (cuts_of (opening_in lines) shown) shown.core.front.committed work
      pub room : length work.rows.items + length load.shares.items ≤ vec_capacity work.rows
      pub raise : CanRaise (length work.seen) load.part_logs.items
      pub times : Owns stores logs history lines shown → (stream : ℕ) → later (seen_at work.seen stream) (time_in_part_logs stream load.part_logs.items) ≡ seen (setting_of lines shown.opening).job.bound (parts_in (setting_of lines shown.opening)) (offsets (cuts_of (opening_in lines) shown)) stream (shown.core.front.committed + 1)
      pub rows : Owns stores logs history lines shown → AreShown (setting_of lines shown.opening) (cuts_of (opening_in lines) shown) shown.core.front.committed (map (λ share. share.rows.items) load.shares.items)
      pub printable : All (All (IfTime IsStampTime)) (joined (map (λ share. share.rows.items) load.shares.items))

    pub out_here : (t : TaskId) → t.kind ≡ kind.Out → t.number ≡ 0 → May shown.scope shown.core (entry.Claim t) → IsOutHere
    out_here t is zero_is may =
        let s : Setting = setting_of lines shown.opening in
        let waits : get_elem? shown.core.outs 0 ≡ some place.Waits = subst (λ n. get_elem? shown.core.outs n ≡ some place.Waits) zero_is (subst (λ k. get_elem? (tasks_of k shown.core) t.number ≡ some place.Waits) is may.4) in
        let starts = subst (λ k. may_start shown.core k ≡ true) is may.3 in
        let both = and_right shown.core.front.fresh (list_all is_fine shown.core.maps && list_all is_fine shown.core.reduces) starts in
        let maps_fine = and_left (list_all is_fine shown.core.maps) (list_all is_fine shown.core.reduces) both in
        let reduces_fine = and_right (list_all is_fine shown.core.maps) (list_all is_fine shown.core.reduces) both in
        let e = whole.holds.epoch may.0 may.1 in
        let w = e.outs waits in
        let count = whole.holds.partitions in
        let streams = w.2.times.streams in
        let share_at : (p : ℕ) (share : Share S) → get_elem? load.shares.items p ≡ some share → IsShare (Owns stores logs history lines shown) written s (cuts_of (opening_in lines) shown) shown.core.front.committed p (place.Back None) share =
        λ p share here. (let reduces = order.sound.reduces in
        let scoped = whole.round.partitions in
        let at = there_at shown.core.reduces p (let l = at_length load.shares.items p share here in omega (arith, l, count, reduces, scoped)) in
        back_of (Owns stores logs history lines shown) written s (cuts_of (opening_in lines) shown) shown.core.front.committed p at.0 share (all_fine is_fine shown.core.reduces p at.0 reduces_fine at.1) (e.shared waits p at.0 share at.1 here)) in record {
          work = w.0;
          here = w.1;
          is = w.2;
          room = (let none = ap length w.2.none in let room = w.2.room in omega (arith, none, room, count));
          raise = can_raise (length w.0.seen) load.part_logs.items (λ i part_log here. (
              let part = part_there (parts_in s) i (let l = at_length load.part_logs.items i part_log here in let parts = whole.holds.parts in omega (arith, l, parts)) in
              let m = part_log_here may.0 may.1 maps_fine i part.0 part_log part.1 here in
              let own = whole.holds.logs i part.0 m.0 part_log part.1 m.1 here in
              let below = streams_below i part.0 part.1 in
              (omega (arith, below, own.stream, streams), (part_log_safe (stores × logs) s.job.bound shown.core.front.committed part.0 _ _ s.job.partitions shown.core.reduces m.0 part_log m.2 m.3).years)));
          times = λ y stream. ap (λ (times : List (Option ℤ)). later (seen_at w.0.seen stream) (greatest times))
              (all_parts (time_of_stream s.job.bound stream) (time_of_part_log stream) (parts_in s) load.part_logs.items (cut_of (cuts_of (opening_in lines) shown shown.core.front.committed)) (cut_of (cuts_of (opening_in lines) shown (shown.core.front.committed + 1)))
              whole.holds.parts (length-map (cuts_of (opening_in lines) shown shown.core.front.committed) (λ (e : PartEnd). e.end) ∙ e.froms) (tos_count may.1)
              (λ i part part_log there here. (let m = part_log_here may.0 may.1 maps_fine i part part_log there here in
              time_same stream part_log.stream part.stream (time_of part_log.fed) _ (whole.holds.logs i part m.0 part_log there m.1 here).stream (time_is (stores × logs) s.job.bound shown.core.front.committed part _ _ s.job.partitions shown.core.reduces m.0 part_log (y.0, y.1.0) m.2 m.3))))
              ∙ raise_times s.job.bound (parts_in s) (offsets (cuts_of (opening_in lines) shown)) shown.core.front.committed stream (seen_at w.0.seen stream) (w.2.times.are y stream);
          rows = λ y. record {
            count = length-map load.shares.items (λ (share : Share S). share.rows.items) ∙ count;
            each = λ p less. (let share = there_at load.shares.items p (omega (arith, less, count)) in
                subst (IsShownOf s (cuts_of (opening_in lines) shown) shown.core.front.committed p)
                (ap (λ (x : Share S). x.rows.items) (sym (at_get load.shares.items p share.0 share.0 share.1)) ∙ sym (get_or-map (λ (x : Share S). x.rows.items) load.shares.items p share.0 [] (omega (arith, less, count))))
                ((share_at p share.0 share.1).shown refl y));
          };
          printable = all_joined (All (IfTime IsStampTime)) (λ share. share.rows.items) load.shares.items (λ p share here. (share_at p share here).printable refl);
        }

    -- once it is handed out
    pub out_claimed : (t : TaskId) (more : List (Share S)) (left : Option (OutWork S F)) → t.kind ≡ kind.Out → t.number ≡ 0 → May shown.scope shown.core (entry.Claim t) → map key_of more ≡ map key_of load.shares.items
        → HoldsIn stores logs history lines available answers faults written sealed shown (cuts_of (opening_in lines) shown) (after shown.scope shown.core (entry.Claim t)) load.part_logs.items more load.held.items left load.seen load.pending
    out_claimed t more left is zero_is may count =
        subst (λ (c : Core). HoldsIn stores logs history lines available answers faults written sealed shown (cuts_of (opening_in lines) shown) c load.part_logs.items more load.held.items left load.seen load.pending) (sym (out_moved shown.core t place.Away is zero_is))
        (holds_out (stores × logs) (Owns stores logs history lines shown) lines available (LogWent logs lines available answers faults) shown.opening.logs.items written sealed (setting_of lines shown.opening) (cuts_of (opening_in lines) shown) shown.scope.available shown.core shown.core.front.stop place.Away load.part_logs.items load.shares.items more load.held.items load.out left load.seen load.pending
        (λ e. e) whole.holds (λ e. absurd (away_waits e)) count (λ run opened. and_right (list_all is_fine shown.core.maps) (list_all is_fine shown.core.reduces) (and_right shown.core.front.fresh (list_all is_fine shown.core.maps && list_all is_fine shown.core.reduces) (subst (λ k. may_start shown.core k ≡ true) is may.3))) whole.holds.still (λ f stopped. whole.holds.stop f stopped))
      where
        away_waits : place.Away ≡ place.Waits → ⊥
        away_waits e = cc
