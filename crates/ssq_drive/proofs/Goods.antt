-- The lines of the epochs that a round commits.
use Rattle.std.proofs.Common.{◌≡◌, ◌⊎◌, ◌<◌, ◌≤◌, ◌+◌, ◌++◌, not, ℕ, zero, suc, Bool, true, false, true≢false, List, [], ◌∷◌, length, get_or, set, Option, Some, None, Result, Ok, Err, IfOk, IfErr, OnOk, OnErr, if◌then◌else◌, sym, refl, ap, ◌∙◌, subst, inl, inr, le_refl, arith, rules, le-ltb, lt-ltb}
use Rattle.std.specs.Prelude.{slice_get}
use Rattle.std.specs.List.{list_all, list_any}
use Rattle.std.proofs.lemmas.Bool.{cases_lt, ltb-true, ltb-false}
use Rattle.std.proofs.lemmas.List.{length-map}
use borrow.Author.Tests.{not-false}
use mathlib.Core.Option.{some, some-injective}
use lib.ListN.{get_elem?}
use Rattle.ssq_outside.specs.declared.gate.TaskId.{TaskId}
use Rattle.ssq_outside.specs.declared.gate.Kind.{Kind}
use Rattle.ssq_outside.specs.declared.gate.Kind.TheVariants as kind
use Rattle.ssq_outside.specs.History.{History}
use Rattle.ssq_shape.specs.declared.bound.Bound.{Bound}
use Rattle.ssq_meaning.specs.Meaning.{Line}
use Rattle.ssq_meaning.specs.Cut.{Cut, of_parts}
use Rattle.ssq_meaning.specs.Parts.{Part}
use Rattle.ssq_meaning.specs.Feeding.{LineAt, fault_in, or_else}
use Rattle.ssq_meaning.specs.Epochs.{fault_between}
use Rattle.ssq_feed.specs.declared.fault.FeedFault.{FeedFault}
use Rattle.ssq_feed.specs.declared.task.Fed.{Fed}
use Rattle.ssq_feed.specs.declared.task.FedRows.{FedRows}
use Rattle.ssq_feed.specs.declared.task.MapTask.{MapTask}
use Rattle.ssq_feed.specs.Outcome.{IsFed}
use Rattle.ssq_feed.specs.Rows.{IsFedFrom}
use Rattle.ssq_plans.specs.declared.part.PartEnd.{PartEnd}
use Rattle.ssq_core.specs.Course.{Cuts, Ends}
use Rattle.ssq_course.specs.Setting.{Setting, parts_in, cut_of as offsets_of}
use Rattle.ssq_terms.proofs.Showing.{are_quiet}
use Rattle.ssq_board.specs.declared.front.Cause.{Cause}
use Rattle.ssq_board.specs.declared.front.Cause.TheVariants as cause
use Rattle.ssq_board.specs.declared.front.Entry.{Entry}
use Rattle.ssq_board.specs.declared.front.Entry.TheVariants as entry
use Rattle.ssq_board.specs.declared.front.Place.{Place}
use Rattle.ssq_board.specs.declared.front.Place.TheVariants as place
use Rattle.ssq_board.specs.declared.front.Ready.TheVariants as ready
use Rattle.ssq_board.specs.Core.{Scope, Core, after, after_all, cuts_by, cuts_all, dealt, extended, has_line_at, next_ends, if_map, tasks_of, is_fine, is_open, is_stopped, is_waiting, ready_of, ready_tasks}
use Rattle.ssq_board.specs.Shown.{Start, first, first_by, planned_by}
use Rattle.ssq_board.proofs.Lists.{all_fine, at_length, dealt_at, dealt_length, set_length, there_at}
use Rattle.ssq_board.proofs.Readies.{past, chosen, commit_may}
use Rattle.ssq_ledger.specs.Shown.{Shown, Opening, cuts_of, did}
use Rattle.ssq_desk.specs.declared.round.Round.{Round}
use Rattle.ssq_desk.specs.First.{first_shown, BeginsAs}
use Rattle.ssq_desk.specs.Handed.{IsMapOf}
use Rattle.ssq_desk.specs.Published.{IsOut}
use Rattle.ssq_desk.specs.Results.{IsReturned, cause_of_feed, fault_of}
use Rattle.ssq_desk.specs.Round.{setting_of}
use Rattle.ssq_desk.specs.Tasks.{map_id, reduce_id, out_id}
use Rattle.ssq_desk.specs.Whole.{opening_in}
use Rattle.ssq_desk.proofs.Betweens.{tasks_not}
use Rattle.ssq_desk.proofs.Wholes.{after_more}
use Rattle.ssq_drive.specs.Good.{HasGoodLines, IsGoodAt, IsGood}
use Rattle.ssq_drive.proofs.Starting.{planned_found}

-- ---- lists

set_at : (l : List Place) (n i : ℕ) (x p : Place) → get_elem? (set l n x) i ≡ some p → (get_elem? l i ≡ some p) ⊎ ((i ≡ n) × (p ≡ x))
set_at [] n i x p at = inl at
set_at (y ∷ ys) zero zero x p at = inr (refl, sym (some-injective x p at))
set_at (y ∷ ys) zero (suc i) x p at = inl at
set_at (y ∷ ys) (suc n) zero x p at = inl at
set_at (y ∷ ys) (suc n) (suc i) x p at = elim (set_at ys n i x p at) [ inl old ↦ inl old | inr new ↦ inr (ap suc new.0, new.1) ]

-- the map tasks where one task went elsewhere
maps_at : (k : Kind) (c : Core) (n : ℕ) (x : Place) (i : ℕ) (p : Place) → get_elem? (if_map k (set (tasks_of k c) n x) c.maps) i ≡ some p → (get_elem? c.maps i ≡ some p) ⊎ ((k ≡ kind.Map) × (i ≡ n) × (p ≡ x))
maps_at kind.Map c n x i p at = elim (set_at c.maps n i x p at) [ inl old ↦ inl old | inr new ↦ inr (refl, new.0, new.1) ]
maps_at kind.Reduce c n x i p at = inl at
maps_at kind.Out c n x i p at = inl at
maps_at kind.Upkeep c n x i p at = inl at

maps_count : (k : Kind) (c : Core) (n : ℕ) (x : Place) → length (if_map k (set (tasks_of k c) n x) c.maps) ≡ length c.maps
maps_count kind.Map c n x = set_length c.maps n x
maps_count kind.Reduce c n x = refl
maps_count kind.Out c n x = refl
maps_count kind.Upkeep c n x = refl

fine_none : (f : Option Cause) → is_fine (place.Back f) ≡ true → f ≡ None
fine_none None fine = refl
fine_none (Some f) fine = absurd (true≢false (sym fine))

-- a part without lines between two cuts does not go on
quiet_of : (froms tos : Ends) (i : ℕ) → i < length froms → has_line_at froms tos i ≡ false → get_or (offsets_of tos) i 0 ≤ get_or (offsets_of froms) i 0
quiet_of [] tos i less none = absurd (omega (arith, less))
quiet_of (f ∷ fs) [] i less none = omega arith
quiet_of (f ∷ fs) (t ∷ ts) zero less none = grind (arith, none, rules)
quiet_of (f ∷ fs) (t ∷ ts) (suc i) less none = quiet_of fs ts i (omega (arith, less)) none

-- a part without a task has no new lines
fine_dealt : (fs ts : Ends) (i : ℕ) (p : Place) → get_elem? (dealt fs ts) i ≡ some p → is_fine p ≡ true → get_or (offsets_of ts) i 0 ≤ get_or (offsets_of fs) i 0
fine_dealt fs ts i p at fine = elim (dealt_at fs ts i p at) [
  | inl waits ↦ absurd (true≢false (sym fine ∙ ap is_fine waits.0))
  | inr rests ↦ quiet_of fs ts i (let l = at_length (dealt fs ts) i p at in let d = dealt_length fs ts in omega (arith, l, d)) rests.1
]

-- where no part has a fault there is none
none_between : (query : Bound) (parts : List Part) (froms tos : Cut) → ((i : ℕ) (part : Part) → i < length froms → slice_get parts i ≡ Some part → fault_in query part (get_or froms i 0) (get_or tos i 0) ≡ None) → fault_between query parts froms tos ≡ None
unfolding of_parts
none_between query [] froms tos each = refl
none_between query (part ∷ parts) [] tos each = refl
none_between query (part ∷ parts) (from ∷ froms) [] each = refl
none_between query (part ∷ parts) (from ∷ froms) (to ∷ tos) each =
    ap (λ (o : Option LineAt). or_else o (fault_between query parts froms tos)) (each 0 part (omega arith) refl) ∙ none_between query parts froms tos (λ i q less at. each (suc i) q (omega (arith, less)) at)

-- ---- entries

-- What an entry rests on: a plan comes where no epoch is open; a map task that is reported without a fault has none; and an epoch is committed
-- once all its map tasks are back.
abbrev pub IsRightOf : Setting → Cuts → Core → Entry → Type 0
IsRightOf s cuts c (entry.Plan k) = is_open c ≡ false
IsRightOf s cuts c (entry.Report t f) = t.kind ≡ kind.Map → f ≡ None → (part : Part) → slice_get (parts_in s) t.number ≡ Some part
    → fault_in s.job.bound part (get_or (offsets_of (cuts c.front.committed)) t.number 0) (get_or (offsets_of (cuts (c.front.committed + 1))) t.number 0) ≡ None
IsRightOf s cuts c (entry.Commit k due) = (is_open c ≡ true) × (list_all is_fine c.maps ≡ true)
IsRightOf s cuts c (entry.Version t) = t.kind ≡ kind.Reduce
IsRightOf s cuts c (entry.Missed t) = t.kind ≡ kind.Reduce
IsRightOf s cuts c _ = Unit {0}

abbrev pub AreRightOf : Setting → Scope → Cuts → Core → List Entry → Type 0
AreRightOf s r cuts c [] = Unit {0}
AreRightOf s r cuts c (e ∷ es) = IsRightOf s cuts c e × AreRightOf s r (cuts_by r cuts c e) (after r c e) es

reduce_map : kind.Reduce ≡ kind.Map → ⊥
reduce_map e = cc

good_entry : (s : Setting) (r : Scope) (cuts : Cuts) (begin : ℕ) (c : Core) (e : Entry) → IsRightOf s cuts c e → IsGoodAt s cuts begin c → IsGoodAt s (cuts_by r cuts c e) begin (after r c e)
good_entry s r cuts begin c (entry.Plan k) right g =
    let n = c.front.planned in
    let ends = next_ends r.cap c.ends r.available in
    let new : Cuts = extended cuts n ends in
    let kept : (e : ℕ) → e ≤ n → new e ≡ cuts e = λ e le. ap (λ (b : Bool). if b then ends else cuts e) (le-ltb n e le) in
    let now : new (n + 1) ≡ ends = ap (λ (b : Bool). if b then ends else cuts (n + 1)) (lt-ltb n (n + 1) (omega arith)) in
    let all : n ≤ c.front.committed = ltb-false c.front.committed n right in
    let b = g.before in
    let same : c.front.committed ≡ n = omega (arith, all, b) in
    let from : new c.front.committed ≡ c.ends = ap new same ∙ kept n (le_refl n) ∙ g.last in
    let to : new (c.front.committed + 1) ≡ ends = ap (λ (m : ℕ). new (m + 1)) same ∙ now in
    record {
      before = omega (arith, b);
      near = omega (arith, all);
      last = now;
      count = λ opened. dealt_length c.ends ends ∙ ap length (sym from);
      mapped = λ opened i part p there at fine.
          (are_quiet s.job.bound part (get_or (offsets_of (new c.front.committed)) i 0) (get_or (offsets_of (new (c.front.committed + 1))) i 0)
          (let l = fine_dealt c.ends ends i p at fine in let f = ap (λ (x : Ends). get_or (offsets_of x) i 0) from in let t = ap (λ (x : Ends). get_or (offsets_of x) i 0) to in omega (arith, l, f, t))).fault;
      told = λ e ge less.
          ap (λ (x : Ends). fault_between s.job.bound (parts_in s) (offsets_of x) (offsets_of (new (e + 1)))) (kept e (omega (arith, less, b)))
          ∙ ap (λ (x : Ends). fault_between s.job.bound (parts_in s) (offsets_of (cuts e)) (offsets_of x)) (kept (e + 1) (omega (arith, less, b))) ∙ g.told e ge less;
    }
good_entry s r cuts begin c (entry.Claim t) right g = record {
  before = g.before;
  near = g.near;
  last = g.last;
  count = λ opened. maps_count t.kind c t.number place.Away ∙ g.count opened;
  mapped = λ opened i part p there at fine. elim (maps_at t.kind c t.number place.Away i p at) [
    | inl old ↦ g.mapped opened i part p there old fine
    | inr new ↦ absurd (true≢false (sym fine ∙ ap is_fine new.2))
  ];
  told = g.told;
}
good_entry s r cuts begin c (entry.Report t f) right g = record {
  before = g.before;
  near = g.near;
  last = g.last;
  count = λ opened. maps_count t.kind c t.number (place.Back f) ∙ g.count opened;
  mapped = λ opened i part p there at fine. elim (maps_at t.kind c t.number (place.Back f) i p at) [
    | inl old ↦ g.mapped opened i part p there old fine
    | inr new ↦
        subst (λ (j : ℕ). fault_in s.job.bound part (get_or (offsets_of (cuts c.front.committed)) j 0) (get_or (offsets_of (cuts (c.front.committed + 1))) j 0) ≡ None) (sym new.1)
        (right new.0 (fine_none f (subst (λ (x : Place). is_fine x ≡ true) new.2 fine)) part (subst (λ (j : ℕ). slice_get (parts_in s) j ≡ Some part) new.1 there))
  ];
  told = g.told;
}
good_entry s r cuts begin c (entry.Version t) right g = record {
  before = g.before;
  near = g.near;
  last = g.last;
  count = λ opened. maps_count t.kind c t.number (place.Back None) ∙ g.count opened;
  mapped = λ opened i part p there at fine. elim (maps_at t.kind c t.number (place.Back None) i p at) [ inl old ↦ g.mapped opened i part p there old fine | inr new ↦ absurd (reduce_map (sym right ∙ new.0)) ];
  told = g.told;
}
good_entry s r cuts begin c (entry.Missed t) right g = record {
  before = g.before;
  near = g.near;
  last = g.last;
  count = λ opened. maps_count t.kind c t.number (place.Back (Some cause.DiskFault)) ∙ g.count opened;
  mapped = λ opened i part p there at fine. elim (maps_at t.kind c t.number (place.Back (Some cause.DiskFault)) i p at) [ inl old ↦ g.mapped opened i part p there old fine | inr new ↦ absurd (reduce_map (sym right ∙ new.0)) ];
  told = g.told;
}
good_entry s r cuts begin c (entry.OutFile e) right g = record { before = g.before; near = g.near; last = g.last; count = g.count; mapped = g.mapped; told = g.told }
good_entry s r cuts begin c (entry.Sync clock) right g = record { before = g.before; near = g.near; last = g.last; count = g.count; mapped = g.mapped; told = g.told }
good_entry s r cuts begin c (entry.Upkeep p v) right g = record { before = g.before; near = g.near; last = g.last; count = g.count; mapped = g.mapped; told = g.told }
good_entry s r cuts begin c (entry.Snapshot p v) right g = record { before = g.before; near = g.near; last = g.last; count = g.count; mapped = g.mapped; told = g.told }
good_entry s r cuts begin c (entry.Unmade p v f) right g = record { before = g.before; near = g.near; last = g.last; count = g.count; mapped = g.mapped; told = g.told }
good_entry s r cuts begin c (entry.Untaken p v) right g = record { before = g.before; near = g.near; last = g.last; count = g.count; mapped = g.mapped; told = g.told }
good_entry s r cuts begin c (entry.Drop q) right g = record { before = g.before; near = g.near; last = g.last; count = g.count; mapped = g.mapped; told = g.told }
good_entry s r cuts begin c (entry.Undropped q) right g = record { before = g.before; near = g.near; last = g.last; count = g.count; mapped = g.mapped; told = g.told }
good_entry s r cuts begin c (entry.Stop f) right g = record { before = g.before; near = g.near; last = g.last; count = g.count; mapped = g.mapped; told = g.told }
good_entry s r cuts begin c (entry.Commit k due) right g =
    let opened = right.0 in
    let less = ltb-true c.front.committed c.front.planned opened in
    let n = g.near in
    record {
      before = omega (arith, less);
      near = omega (arith, n);
      last = g.last;
      count = λ still. absurd (let l = ltb-true (c.front.committed + 1) c.front.planned still in omega (arith, l, n));
      mapped = λ still i part p there at fine. absurd (let l = ltb-true (c.front.committed + 1) c.front.planned still in omega (arith, l, n));
      told = λ e ge below. elim (cases_lt e c.front.committed) [
        | inl early ↦ g.told e ge early
        | inr late ↦ subst (HasGoodLines s cuts) (let same : c.front.committed ≡ e = omega (arith, late, below) in same) here
      ];
    }
  where
    here : HasGoodLines s cuts c.front.committed
    here =
        none_between s.job.bound (parts_in s) (offsets_of (cuts c.front.committed)) (offsets_of (cuts (c.front.committed + 1))) (λ i part less there.
        let maps = g.count right.0 in
        let ends = length-map (cuts c.front.committed) (λ (end : PartEnd). end.end) in
        let p = there_at c.maps i (omega (arith, less, maps, ends)) in
        g.mapped right.0 i part p.0 there p.1 (all_fine is_fine c.maps i p.0 right.1 p.1))

good_all : (s : Setting) (r : Scope) (begin : ℕ) (es : List Entry) (cuts : Cuts) (c : Core) → AreRightOf s r cuts c es → IsGoodAt s cuts begin c → IsGoodAt s (cuts_all r cuts c es) begin (after_all r c es)
good_all s r begin [] cuts c right g = g
good_all s r begin (e ∷ es) cuts c right g = good_all s r begin es (cuts_by r cuts c e) (after r c e) right.1 (good_entry s r cuts begin c e right.0 g)

cuts_more : (r : Scope) (es fs : List Entry) (cuts : Cuts) (c : Core) → cuts_all r cuts c (es ++ fs) ≡ cuts_all r (cuts_all r cuts c es) (after_all r c es) fs
cuts_more r [] fs cuts c = refl
cuts_more r (e ∷ es) fs cuts c = cuts_more r es fs (cuts_by r cuts c e) (after r c e)

plan_closed : (r : Scope) (c : Core) → ready_of r c ≡ ready.Plan → is_open c ≡ false
plan_closed r c next =
    let a = past (is_stopped c.front.stop) _ _ _ next (λ x. cc) in
    elim (chosen (is_open c) (ready_tasks c) _ _ a.1) [ inl opened ↦ absurd (tasks_not c opened.1) | inr closed ↦ closed.0 ]

commit_fine : (r : Scope) (c : Core) → ready_of r c ≡ ready.Commit → (is_open c ≡ true) × (list_all is_fine c.maps ≡ true)
commit_fine r c next =
    let may = commit_may r c false next in
    let a = past (is_stopped c.front.stop) _ _ _ next (λ x. cc) in
    elim (chosen (is_open c) (ready_tasks c) _ _ a.1) [
      | inl opened ↦
          let f = past (not c.front.fresh) _ _ _ opened.1 (λ x. cc) in
          let w = past (list_any is_waiting c.maps) _ _ _ f.1 (λ x. cc) in
          let m = past (not (list_all is_fine c.maps)) _ _ _ w.1 (λ x. cc) in
          (opened.0, not-false (list_all is_fine c.maps) m.0)
      | inr closed ↦ absurd (true≢false (sym may.2 ∙ closed.0))
    ]

no_reduce : kind.Reduce ≡ kind.Map → ⊥
no_reduce is = cc

no_out : kind.Out ≡ kind.Map → ⊥
no_out is = cc

some_none_at : (f : Cause) → ◌≡◌ {A = Option Cause} (Some f) None → ⊥
some_none_at f is = cc

same_part : (one other : Part) → Some one ≡ Some other → one ≡ other
same_part one other is = ap (λ (o : Option Part). or one o) is
  where
    or : Part → Option Part → Part
    or d None = d
    or d (Some x) = x

-- the disk is as it was
pub still : {D O : Type 0} (old new : Shown D O) (es : List Entry) → new ≡ did old old.disk es → new ≡ did old new.disk es
still old new es is = is ∙ ap (λ (d : _). did old d es) (sym (ap (λ s. s.disk) is))

-- ---- a desk

-- where a round begins
good_first : (s : Setting) (cuts : Cuts) (r : Scope) (st : Start) (b : Bool) → cuts st.committed ≡ st.from → cuts (planned_by b st.committed) ≡ st.to → IsGoodAt s cuts st.committed (first_by b r st)
good_first s cuts r st true from to = record {
  before = omega arith;
  near = omega arith;
  last = to;
  count = λ opened. dealt_length st.from st.to ∙ ap length (sym from);
  mapped = λ opened i part p there at fine.
      (are_quiet s.job.bound part (get_or (offsets_of (cuts st.committed)) i 0) (get_or (offsets_of (cuts (st.committed + 1))) i 0)
      (let l = fine_dealt st.from st.to i p at fine in let f = ap (λ (x : Ends). get_or (offsets_of x) i 0) from in let t = ap (λ (x : Ends). get_or (offsets_of x) i 0) to in omega (arith, l, f, t))).fault;
  told = λ e ge below. absurd (omega (arith, ge, below));
}
good_first s cuts r st false from to = record {
  before = omega arith;
  near = omega arith;
  last = to;
  count = λ opened. absurd (let l = ltb-true st.committed st.committed opened in omega (arith, l));
  mapped = λ opened i part p there at fine. absurd (let l = ltb-true st.committed st.committed opened in omega (arith, l));
  told = λ e ge below. absurd (omega (arith, ge, below));
}

module _ {D L : Type 0} (lines : L → List Line) where
  -- what these entries rest on
  abbrev pub RightIn : Shown D (Round L) → List Entry → Type 0
  RightIn old es = AreRightOf (setting_of lines old.opening) old.scope (cuts_of (opening_in lines) old) old.core es

  -- entries keep it so
  pub good_on : (old new : Shown D (Round L)) (es : List Entry) → new ≡ did old new.disk es → RightIn old es → IsGood lines old → IsGood lines new
  good_on old new es is right g =
      let r = old.scope in
      let o : Opening = opening_in lines old.opening in
      let begun : Core = first r o.start in
      let all = good_all (setting_of lines old.opening) r old.opening.opened.committed es (cuts_of (opening_in lines) old) old.core right g.1 in
      let cuts : cuts_all r (cuts_of (opening_in lines) old) old.core es ≡ cuts_all r o.cuts begun (old.history ++ es) =
      ap (λ (c : Core). cuts_all r (cuts_of (opening_in lines) old) c es) g.0 ∙ sym (cuts_more r old.history es o.cuts begun) in
      subst (IsGood lines) (sym is) (
        ap (λ (c : Core). after_all r c es) g.0 ∙ after_more r begun old.history es,
        subst (λ (k : Cuts). IsGoodAt (setting_of lines old.opening) k old.opening.opened.committed (after_all r old.core es)) cuts all,
      )

  -- ---- turns

  pub claimed_good : (old mid : Shown D (Round L)) (t : TaskId) → mid ≡ did old old.disk (entry.Claim t ∷ []) → IsGood lines old → IsGood lines mid
  claimed_good old mid t is good = good_on old mid (entry.Claim t ∷ []) (still old mid (entry.Claim t ∷ []) is) (tt, tt) good

  -- a task that is not of the lines
  pub reduced_good : {F : Type 0} (mid new : Shown D (Round L)) (delta : Option F) (e p : ℕ) (f : Option Cause) (result : Result (Unit {0}) Cause) (risen : Type 0) → IsReturned delta mid new (reduce_id e p) f result risen → IsGood lines mid → IsGood lines new
  reduced_good mid new None e p f result risen came good = good_on mid new (entry.Report (reduce_id e p) f ∷ []) came.0 ((λ same. absurd (no_reduce same)), tt) good
  reduced_good mid new (Some file) e p f result risen (inl came) good = good_on mid new (entry.Version (reduce_id e p) ∷ []) came.0 (refl, tt) good
  reduced_good mid new (Some file) e p f result risen (inr missed) good = good_on mid new (entry.Missed (reduce_id e p) ∷ []) missed.1 (refl, tt) good

  pub published_good : (mid new : Shown D (Round L)) (b : Bool) (e : ℕ) (f : Option Cause) (result : Result (Unit {0}) Cause) (risen : Type 0) → IsOut b mid new (out_id e) f result risen → IsGood lines mid → IsGood lines new
  published_good mid new true e f (Ok done) risen out good = good_on mid new (entry.Report (out_id e) f ∷ entry.OutFile mid.core.front.committed ∷ []) out.0 ((λ same. absurd (no_out same)), (tt, tt)) good
  published_good mid new true e f (Err stop) risen out good = good_on mid new (entry.Report (out_id e) f ∷ entry.Stop stop ∷ []) out.1.1 ((λ same. absurd (no_out same)), (tt, tt)) good
  published_good mid new false e f result risen out good = good_on mid new (entry.Report (out_id e) f ∷ []) out.0 ((λ same. absurd (no_out same)), tt) good

  pub synced_good : (old new : Shown D (Round L)) (result : Result (Unit {0}) Cause) (P : Cause → Type 0) → OnOk result ((clock : ℕ) × (new ≡ did old new.disk (entry.Sync clock ∷ []))) → IfErr result (λ f. (new ≡ did old new.disk (entry.Stop f ∷ [])) × P f)
      → IsGood lines old → IsGood lines new
  synced_good old new (Ok x) P done stopped good = good_on old new (entry.Sync done.0 ∷ []) done.1 (tt, tt) good
  synced_good old new (Err f) P done stopped good = good_on old new (entry.Stop f ∷ []) stopped.0 (tt, tt) good

  pub planned_good : (old new : Shown D (Round L)) (result : Result (Unit {0}) Cause) (P : Cause → Type 0) → ready_of old.scope old.core ≡ ready.Plan → OnOk result (new ≡ did old new.disk (entry.Plan old.core.front.planned ∷ []))
      → IfErr result (λ f. (new ≡ did old new.disk (entry.Stop f ∷ [])) × P f) → IsGood lines old → IsGood lines new
  planned_good old new (Ok x) P next done stopped good = good_on old new (entry.Plan old.core.front.planned ∷ []) done (plan_closed old.scope old.core next, tt) good
  planned_good old new (Err f) P next done stopped good = good_on old new (entry.Stop f ∷ []) stopped.0 (tt, tt) good

  pub committed_good : (old new : Shown D (Round L)) (E P : Type 0) (Q : Bool → Type 0) (result : Result (Unit {0}) E) → ready_of old.scope old.core ≡ ready.Commit
      → OnOk result ((due : Bool) × (new ≡ did old new.disk (entry.Commit old.core.front.committed due ∷ [])) × Q due)
      → OnErr result ((new ≡ did old new.disk (entry.Stop cause.DiskFault ∷ [])) × P) → IsGood lines old → IsGood lines new
  committed_good old new E P Q (Ok x) next done stopped good = good_on old new (entry.Commit old.core.front.committed done.0 ∷ []) done.1 (commit_fine old.scope old.core next, tt) good
  committed_good old new E P Q (Err f) next done stopped good = good_on old new (entry.Stop cause.DiskFault ∷ []) stopped.0 (tt, tt) good

  -- a map task
  pub fed_good : (stores logs : Type 0) (history : D → History) (available : L → ℕ) (answers : L → List ℕ) (faults : L → ℕ) (mid new : Shown D (Round L)) (task : MapTask L) (done : Fed L) → stores × logs → IsMapOf stores logs history lines available answers faults mid task
      → IsFed logs lines available answers faults task done → new ≡ did mid mid.disk (entry.Report (map_id done.epoch done.number) (fault_of (cause_of_feed done.stream done.part) done.outcome) ∷ []) → IsGood lines mid → IsGood lines new
  fed_good stores logs history available answers faults mid new task done t of is came good =
      let e = entry.Report (map_id done.epoch done.number) (fault_of (cause_of_feed done.stream done.part) done.outcome) in
      good_on mid new (e ∷ []) (still mid new (e ∷ []) came) ((λ map none part there. by done.outcome none is.rows part (ap (slice_get (parts_in (setting_of lines mid.opening))) (sym is.number) ∙ there)), tt) good
    where
      s : Setting
      s = setting_of lines mid.opening

      cuts : Cuts
      cuts = cuts_of (opening_in lines) mid

      by : (outcome : Result FedRows FeedFault) → fault_of (cause_of_feed done.stream done.part) outcome ≡ None
          → IfOk outcome (λ fed. IsFedFrom logs task.view.bound.now task.epoch (record { stream = task.stream; part = task.part; lines = lines task.log }) task.from task.to task.view.partitions fed.time fed.buckets)
          → (part : Part) → slice_get (parts_in s) task.number ≡ Some part
          → fault_in s.job.bound part (get_or (offsets_of (cuts mid.core.front.committed)) done.number 0) (get_or (offsets_of (cuts (mid.core.front.committed + 1))) done.number 0) ≡ None
      by (Err f) none fed part there = absurd (some_none_at (cause_of_feed done.stream done.part f) none)
      by (Ok rows) none fed part there =
          let own : part ≡ of.part = same_part part of.part (sym there ∙ of.there) in
          let read : of.part ≡ record { stream = task.stream; part = task.part; lines = lines task.log } =
          λ i. record { stream = of.stream i; part = of.number i; lines = sym (of.log.lines_are t) i } in
          ap (λ (q : Part). fault_in s.job.bound q (get_or (offsets_of (cuts mid.core.front.committed)) done.number 0) (get_or (offsets_of (cuts (mid.core.front.committed + 1))) done.number 0)) (own ∙ read)
          ∙ ap (λ (n : ℕ). fault_in s.job.bound (record { stream = task.stream; part = task.part; lines = lines task.log }) (get_or (offsets_of (cuts mid.core.front.committed)) n 0) (get_or (offsets_of (cuts (mid.core.front.committed + 1))) n 0)) is.number
          ∙ ap (λ (n : ℕ). fault_in s.job.bound (record { stream = task.stream; part = task.part; lines = lines task.log }) n (get_or (offsets_of (cuts (mid.core.front.committed + 1))) task.number 0)) (sym of.from)
          ∙ ap (λ (n : ℕ). fault_in s.job.bound (record { stream = task.stream; part = task.part; lines = lines task.log }) task.from n) (sym of.to)
          ∙ ap (λ (b : Bound). fault_in b (record { stream = task.stream; part = task.part; lines = lines task.log }) task.from task.to) (sym of.view.bound)
          ∙ fed.good t.1

  -- ---- the first

  first_good : (round : Round L) (disk : D) (r : Scope) → round.opened.committed ≤ length round.opened.plans → length round.opened.plans ≤ round.opened.committed + 1 → IsGood lines (first_shown lines round disk r)
  first_good round disk r before near =
      let o : Opening = opening_in lines round in
      (refl, good_first (setting_of lines round) o.cuts r o.start o.start.is_planned refl (ap o.cuts (planned_found round.opened.committed (length round.opened.plans) before near)))

  pub begun_good : (round : Round L) (disk : D) (r : Scope) (new : Shown D (Round L)) (faults now : ℕ) → round.opened.committed ≤ length round.opened.plans → length round.opened.plans ≤ round.opened.committed + 1
      → BeginsAs faults now (first_shown lines round disk r) new → IsGood lines new
  begun_good round disk r new faults now before near (inl same) = good_on (first_shown lines round disk r) new [] same tt (first_good round disk r before near)
  begun_good round disk r new faults now before near (inr stop) = good_on (first_shown lines round disk r) new (entry.Stop stop.0 ∷ []) stop.1 (tt, tt) (first_good round disk r before near)
