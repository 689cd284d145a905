-- What a desk holds once the next epoch is planned.
use Rattle.std.proofs.Common.{rules, ◌≡◌, ◌<◌, ◌≤◌, ◌+◌, ℕ, ℤ, zero, suc, nat_lt, Bool, true, false, true≢false, List, [], ◌∷◌, map, length, get_or, Option, Some, None, inl, inr, refl, sym, ap, ◌∙◌, subst, arith, le-ltb, lt-ltb}
use Rattle.std.specs.Prelude.{slice_get, if◌then◌else◌, is_some, IsSomeAnd}
use Rattle.std.specs.List.{list_all}
use Rattle.std.proofs.lemmas.List.{get_or-map, length-map}
use mathlib.Core.Option.{some, some-injective, some-ne-none}
use lib.ListN.{get_elem?}
use Rattle.ssq_meaning.specs.Meaning.{Line}
use Rattle.ssq_meaning.specs.Parts.{Part}
use Rattle.ssq_meaning.proofs.Causal.{says_same}
use Rattle.ssq_plans.specs.declared.part.PartEnd.{PartEnd}
use Rattle.ssq_core.specs.Course.{Cuts, Ends, AreSameUpTo}
use Rattle.ssq_store.specs.declared.store.Store.{Store}
use Rattle.ssq_task.specs.declared.partition.Held.{Held}
use Rattle.ssq_course.specs.Setting.{Setting, parts_in, cut_of, cuts_of}
use Rattle.ssq_terms.specs.Partitions.{HoldsStateOf}
use Rattle.ssq_board.specs.declared.front.Cause.{Cause}
use Rattle.ssq_board.specs.declared.front.Place.{Place}
use Rattle.ssq_board.specs.declared.front.Place.TheVariants as place
use Rattle.ssq_board.specs.declared.front.Entry.TheVariants as entry
use Rattle.ssq_board.specs.Core.{Scope, Core, after, dealt, extended, has_line_at, is_fine, next_ends}
use Rattle.ssq_board.proofs.Lists.{at_length, there_at, all_fine, const_at, dealt_at}
use Rattle.ssq_desk.specs.declared.desk.PartLog.{PartLog}
use Rattle.ssq_desk.specs.declared.desk.Share.{Share}
use Rattle.ssq_desk.specs.declared.desk.OutWork.{OutWork}
use Rattle.ssq_desk.specs.declared.desk.Pending.{Pending}
use Rattle.ssq_desk.specs.Contents.{is_away, is_gone, epochs_at, keeping_in, IsPartLogOf, IsMapped, IsShare, IsKeyOf, IsHeldOf, IsHeldAt, AreSeen, IsOutWork, Holds}
use Rattle.ssq_desk.specs.Room.{AreBegun}
use Rattle.ssq_desk.specs.Making.{AreReady}
use Rattle.ssq_desk.proofs.Keeping.{between_held}
use Rattle.ssq_desk.proofs.Beginnings.{slice_below}

module _ {A : Type 0} where
  pub at_get : (l : List A) (i : ℕ) (a d : A) → get_elem? l i ≡ some a → get_or l i d ≡ a
  at_get [] i a d e = absurd (some-ne-none a (sym e))
  at_get (x ∷ xs) zero a d e = some-injective x a e
  at_get (x ∷ xs) (suc i) a d e = at_get xs i a d e

-- a part without new lines
pub quiet_of : (froms tos : Ends) (i : ℕ) → i < length froms → has_line_at froms tos i ≡ false → get_or (cut_of tos) i 0 ≤ get_or (cut_of froms) i 0
quiet_of [] tos i less none = absurd (omega (arith, less))
quiet_of (f ∷ fs) [] i less none = omega arith
quiet_of (f ∷ fs) (t ∷ ts) zero less none = grind (arith, none, rules)
quiet_of (f ∷ fs) (t ∷ ts) (suc i) less none = quiet_of fs ts i (omega (arith, less)) none

is_back : Place → Bool
is_back (place.Back f) = true
is_back _ = false

pub waits_not_back : (at : Place) (f : Option Cause) → at ≡ place.Waits → at ≡ place.Back f → ⊥
unfolding is_back
waits_not_back at f w b = true≢false (sym (ap is_back b) ∙ ap is_back w)

pub rests_not_back : (at : Place) (f : Option Cause) → at ≡ place.Rests → at ≡ place.Back f → ⊥
unfolding is_back
rests_not_back at f w b = true≢false (sym (ap is_back b) ∙ ap is_back w)

is_resting : Place → Bool
is_resting place.Rests = true
is_resting _ = false

pub waits_not_rests : (at : Place) → at ≡ place.Waits → at ≡ place.Rests → ⊥
unfolding is_resting
waits_not_rests at w r = true≢false (sym (ap is_resting r) ∙ ap is_resting w)

-- a task that is back without a fault, or is not there, is with no worker
fine_not_away : (at : Place) → is_fine at ≡ true → is_away at → ⊥
fine_not_away place.Rests fine away = away
fine_not_away place.Waits fine away = away
fine_not_away place.Away fine away = true≢false (sym fine)
fine_not_away (place.Back f) fine away = away

-- and what its partition keeps is there
pub fine_not_gone : (at : Place) → is_fine at ≡ true → is_gone at → ⊥
fine_not_gone place.Rests fine gone = gone
fine_not_gone place.Waits fine gone = gone
fine_not_gone place.Away fine gone = true≢false (sym fine)
fine_not_gone (place.Back None) fine gone = gone
fine_not_gone (place.Back (Some f)) fine gone = true≢false (sym fine)

-- what the desk has of a part that begins an epoch is that part's as before
pub begun_part_log : {L : Type 0} (reads : Type 0) (lines : L → List Line) (available : L → ℕ) (went : L → L → Type 0) (opened : List L) (ends : List PartEnd) (olds news : List (PartLog L)) → AreBegun ends olds news
    → (i : ℕ) (part : Part) (found : ℕ) (at : Place) (part_log : PartLog L) → get_elem? news i ≡ some part_log → ((old : PartLog L) → get_elem? olds i ≡ some old → IsPartLogOf reads lines available went opened i part found at old)
    → IsPartLogOf reads lines available went opened i part found at part_log
begun_part_log {L} reads lines available went opened ends olds news begun i part found at part_log mine was =
    let before : i < length olds = omega (arith, at_length news i part_log mine, begun.0) in
    let end : PartEnd = record { stream = 0; part = 0; end = 0 } in
    let is = begun.1 i part_log before end in
    let old = there_at olds i before in
    let own = was old.0 old.1 in
    let same_old : get_or olds i part_log ≡ old.0 = at_get olds i old.0 part_log old.1 in
    let same_new : get_or news i part_log ≡ part_log = at_get news i part_log part_log mine in record {
      stream = own.stream ∙ sym (ap (λ (x : PartLog L). x.stream) (sym same_new) ∙ is.stream_is ∙ ap (λ (x : PartLog L). x.stream) same_old);
      number = own.number ∙ sym (ap (λ (x : PartLog L). x.part) (sym same_new) ∙ is.part_is ∙ ap (λ (x : PartLog L). x.part) same_old);
      log = λ here. (let it = own.log here in (it.0, ap (λ (x : PartLog L). x.log) (sym same_new) ∙ is.log_is ∙ ap (λ (x : PartLog L). x.log) same_old ∙ it.1, it.2));
    }

module _ (owned : Type 0) (s : Setting) (cuts other : Cuts) (e : ℕ) (same : AreSameUpTo cuts other e) where
  -- the greatest times hang on the epochs before
  pub seen_stay : (times : List (Option ℤ)) → AreSeen owned s cuts e times → AreSeen owned s other e times
  seen_stay times are = record {
    streams = are.streams;
    are = λ t stream. are.are t stream ∙ (says_same s.job.bound (parts_in s) (cuts_of cuts) (cuts_of other) e (λ n le. ap cut_of (same n le))).same_seen stream e (omega arith);
  }

  out_stays : {S F : Type 0} (written : S → List ℕ) (work : OutWork S F) → IsOutWork owned written s cuts e work → IsOutWork owned written s other e work
  out_stays written work is = record { none = is.none; room = is.room; times = seen_stay work.seen is.times; rows_empty = is.rows_empty; commit_empty = is.commit_empty }

  -- and so do the states
  state_stays : (p : ℕ) (store : Option Store) → HoldsStateOf s cuts e p store → HoldsStateOf s other e p store
  state_stays p None are = are
  state_stays p (Some store) are = (are.0, are.1, are.2 ∙ (says_same s.job.bound (parts_in s) (cuts_of cuts) (cuts_of other) e (λ n le. ap cut_of (same n le))).same_state s.job.partitions p e (omega arith))

  pub held_stays : (p : ℕ) (own : Option Held) → IsSomeAnd own (IsHeldOf owned s cuts e p) → IsSomeAnd own (IsHeldOf owned s other e p)
  held_stays p None are = are
  held_stays p (Some own) are = record { partition_is = are.partition_is; version = are.version; state = λ t. state_stays p (Some own.store) (are.state t); index = are.index }

-- What is made for the next epoch before it is planned.
pub record IsMade {L S F : Type 0} (owned : Type 0) (written : S → List ℕ) (s : Setting) (cuts : Cuts) (c : Core) (olds news : List (PartLog L)) (shares : List (Share S)) (work : OutWork S F) : Type 0 where
  pub begun : AreBegun c.ends olds news
  pub ready : AreReady owned written s.job.partitions (length (parts_in s)) (keeping_in s) shares
  pub out : IsOutWork owned written s cuts c.front.committed work

-- between epochs of a desk that runs
pub record IsBetween (s : Setting) (cuts : Cuts) (r : Scope) (c : Core) : Type 0 where
  pub running : c.front.stop ≡ None
  pub closed : c.front.committed ≡ c.front.planned
  pub back : list_all is_fine c.maps ≡ true
  pub reduced : list_all is_fine c.reduces ≡ true
  pub ends : cuts c.front.planned ≡ c.ends
  pub each_end : length c.ends ≡ length (parts_in s)
  pub each_map : length c.maps ≡ length (parts_in s)

module _ {L S F : Type 0} (reads owned : Type 0) (lines : L → List Line) (available : L → ℕ) (went : L → L → Type 0) (opened : List L) (written : S → List ℕ) (sealed : F → List ℕ) (s : Setting) (cuts : Cuts) (r : Scope) (c : Core)
    (olds news : List (PartLog L)) (shares : List (Share S)) (work : OutWork S F) (times : List (Option ℤ)) (made : IsMade owned written s cuts c olds news shares work) (between : IsBetween s cuts r c) where
  next : Ends
  next = next_ends r.cap c.ends r.available

  then_cuts : Cuts
  then_cuts = extended cuts c.front.planned next

  same_cuts : AreSameUpTo cuts then_cuts c.front.committed
  unfolding then_cuts
  same_cuts e le = sym (ap (λ (b : Bool). if b then next else cuts e) (le-ltb c.front.planned e (omega (arith, le, between.closed))))

  ends_are : then_cuts c.front.committed ≡ c.ends
  ends_are = sym (same_cuts c.front.committed (omega arith)) ∙ ap cuts between.closed ∙ between.ends

  next_are : then_cuts (c.front.committed + 1) ≡ next
  unfolding then_cuts
  next_are = ap (λ (b : Bool). if b then next else cuts (c.front.committed + 1)) (lt-ltb c.front.planned (c.front.committed + 1) (omega (arith, between.closed)))

  -- what the desk has of a part, as it was
  begun_of : (i : ℕ) (part_log : PartLog L) → get_elem? news i ≡ some part_log → i < length olds
  begun_of i part_log here = omega (arith, at_length news i part_log here, made.begun.0)

  mapped : (reduces : List Place) (i : ℕ) (part : Part) (at : Place) (part_log : PartLog L) → slice_get (parts_in s) i ≡ Some part → get_elem? (dealt c.ends next) i ≡ some at → get_elem? news i ≡ some part_log
      → IsMapped reads s.job.bound c.front.committed part (get_or (cut_of (then_cuts c.front.committed)) i 0) (get_or (cut_of (then_cuts (c.front.committed + 1))) i 0) s.job.partitions reduces at part_log
  mapped reduces i part at part_log there here mine =
      let below : i < length c.ends = omega (arith, slice_below (parts_in s) i part there, between.each_end) in
      let before : i < length olds = begun_of i part_log mine in
      let end : PartEnd = record { stream = 0; part = 0; end = 0 } in
      let is = made.begun.1 i part_log before end in
      let from_is : get_or (cut_of (then_cuts c.front.committed)) i 0 ≡ (get_or c.ends i end).end = ap (λ (ends : Ends). get_or (cut_of ends) i 0) ends_are ∙ get_or-map (λ (e : PartEnd). e.end) c.ends i end 0 below in record {
        begins = ap (λ (x : PartLog L). x.from) (sym (at_get news i part_log part_log mine)) ∙ is.from_is ∙ sym from_is;
        quiet = λ rests. elim (dealt_at c.ends next i at here) [
          | inl w ↦ absurd (waits_not_rests at w.0 rests)
          | inr q ↦ subst (λ (tos : Ends). get_or (cut_of tos) i 0 ≤ get_or (cut_of (then_cuts c.front.committed)) i 0) (sym next_are)
              (subst (λ (froms : Ends). get_or (cut_of next) i 0 ≤ get_or (cut_of froms) i 0) (sym ends_are) (quiet_of c.ends next i below q.1))
        ];
        none = λ rests. ap (λ (x : PartLog L). x.fed) (sym (at_get news i part_log part_log mine)) ∙ is.nothing;
        brought = λ back. elim (dealt_at c.ends next i at here) [ inl w ↦ absurd (waits_not_back at None w.0 back) | inr q ↦ absurd (rests_not_back at None q.0 back) ];
        fault = λ f back. elim (dealt_at c.ends next i at here) [ inl w ↦ absurd (waits_not_back at (Some f) w.0 back) | inr q ↦ absurd (rests_not_back at (Some f) q.0 back) ];
      }

  shared : (p : ℕ) (at : Place) (share : Share S) → get_elem? (map (λ _. place.Waits) c.reduces) p ≡ some at → get_elem? shares p ≡ some share → IsShare owned written s then_cuts c.front.committed p at share
  shared p at share here mine =
      let waits : at ≡ place.Waits = const_at place.Waits at c.reduces p here in
      let own = made.ready.each p share mine in record {
        there = λ rests. absurd (waits_not_rests at waits rests);
        empty = λ w. (own.none, own.room);
        stage = λ w. own.stage;
        shown = λ back. absurd (waits_not_back at None waits back);
        printable = λ back. absurd (waits_not_back at None waits back);
      }

  -- the log of a part is where it was
  logged : (pending : Option (Pending F)) (out : Option (OutWork S F)) (old_shares : List (Share S)) (held : List (Option Held)) → Holds reads owned lines available went opened written sealed s cuts r.available c olds old_shares held out times pending
      → (i : ℕ) (part : Part) (at : Place) (part_log : PartLog L) → slice_get (parts_in s) i ≡ Some part → get_elem? (dealt c.ends next) i ≡ some at → get_elem? news i ≡ some part_log
      → IsPartLogOf reads lines available went opened i part (get_or r.available i 0) at part_log
  logged pending out old_shares held holds i part at part_log there here mine =
      let placed = there_at c.maps i (omega (arith, slice_below (parts_in s) i part there, between.each_map)) in
      let back = fine_not_away placed.0 (all_fine is_fine c.maps i placed.0 between.back placed.1) in
      begun_part_log reads lines available went opened c.ends olds news made.begun i part (get_or r.available i 0) at part_log mine (λ old was. by_place placed.0 back (holds.logs i part placed.0 old there placed.1 was))
    where
      by_place : (before : Place) → (is_away before → ⊥) → {old : PartLog L} → IsPartLogOf reads lines available went opened i part (get_or r.available i 0) before old → IsPartLogOf reads lines available went opened i part (get_or r.available i 0) at old
      by_place before back was = record { stream = was.stream; number = was.number; log = λ here. was.log back }

  -- once the epoch is planned, what was made for it is what its tasks are to take
  pub planned : (pending : Option (Pending F)) (out : Option (OutWork S F)) (old_shares : List (Share S)) (held : List (Option Held)) → Holds reads owned lines available went opened written sealed s cuts r.available c olds old_shares held out times pending
      → Holds reads owned lines available went opened written sealed s (extended cuts c.front.planned (next_ends r.cap c.ends r.available)) r.available (after r c (entry.Plan c.front.planned)) news shares held (Some work) times pending
  unfolding then_cuts next
  planned pending out old_shares held holds = record {
    parts = made.begun.0 ∙ holds.parts;
    partitions = made.ready.count;
    keeping = holds.keeping;
    logs = logged pending out old_shares held holds;
    reduced = λ p f here. absurd (waits_not_fault f (const_at place.Waits (place.Back (Some f)) c.reduces p here));
    dealt = λ is_opened p here. rests_not_waits (const_at place.Waits place.Rests c.reduces p here);
    keys = λ is_opened p at share here mine. subst (λ (at : Place). IsKeyOf owned s then_cuts c.front.committed p at share.key) (sym (const_at place.Waits at c.reduces p here)) (made.ready.each p share mine).no_key;
    still = λ stopped. absurd (true≢false (sym (ap is_some stopped)));
    kept = λ running p at own here mine. by_place p own at (const_at place.Waits at c.reduces p here) (kept_of p at own here mine);
    seen_so_far = λ running. seen_stay owned s cuts then_cuts c.front.committed same_cuts times (holds.seen_so_far between.running);
    epoch = λ running is_opened. record {
      froms = ap length ends_are ∙ between.each_end;
      mapped = mapped (map (λ _. place.Waits) c.reduces);
      shared = λ waits. shared;
      last = inl refl;
      outs = λ waits. (work, refl, out_stays owned s cuts then_cuts c.front.committed same_cuts written work made.out);
    };
    commit = λ running opened written_is. absurd (true≢false (sym written_is));
    stop = λ f stopped. absurd (true≢false (sym (ap is_some stopped)));
  }
    where
      waits_not_fault : (f : Cause) → place.Back (Some f) ≡ place.Waits → ⊥
      waits_not_fault f e = cc

      rests_not_waits : place.Rests ≡ place.Waits → ⊥
      rests_not_waits e = cc

      kept_of : (p : ℕ) (at : Place) (own : Option Held) → get_elem? (map (λ _. place.Waits) c.reduces) p ≡ some at → get_elem? held p ≡ some own → IsSomeAnd own (IsHeldOf owned s then_cuts c.front.committed p)
      kept_of p at own here mine =
          let placed = there_at c.reduces p (let less = at_length (map (λ _. place.Waits) c.reduces) p at here in let count = length-map c.reduces (λ _. place.Waits) in omega (arith, less, count)) in
          let back = fine_not_gone placed.0 (all_fine is_fine c.reduces p placed.0 between.reduced placed.1) in
          let was = holds.kept between.running p placed.0 own placed.1 mine in
          held_stays owned s cuts then_cuts c.front.committed same_cuts p own
          (between_held owned s cuts c.front.committed p placed.0 own back (subst (λ (b : Bool). IsHeldAt owned s cuts b c.front.committed p placed.0 own) (le-ltb c.front.committed c.front.planned (omega (arith, between.closed))) was))

      by_place : (p : ℕ) (own : Option Held) (at : Place) → at ≡ place.Waits → IsSomeAnd own (IsHeldOf owned s then_cuts c.front.committed p)
          → IsHeldAt owned s then_cuts (nat_lt c.front.committed (c.front.planned + 1)) c.front.committed p at own
      by_place p own at waits is = λ back. subst (λ (at : Place). IsSomeAnd own (IsHeldOf owned s then_cuts (epochs_at (nat_lt c.front.committed (c.front.planned + 1)) c.front.committed at) p)) (sym waits) is
