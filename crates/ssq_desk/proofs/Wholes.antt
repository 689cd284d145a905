-- What is so of each desk stays so after the calls of its ledger.
use Rattle.std.proofs.Common.{◌≡◌, ◌<◌, ◌≤◌, ◌+◌, ◌-◌, ◌^◌, ◌++◌, [], ◌∷◌, ℕ, ℤ, min, Bool, false, true≢false, List, length, get_or, Option, refl, sym, ap, ◌∙◌, subst, arith}
use Rattle.std.proofs.lemmas.List.{append-nil, append_assoc}
use Rattle.std.proofs.lemmas.Option.{same_Some}
use Rattle.std.proofs.Math.Nat.{le-min}
use Rattle.ssq_outside.specs.Faults.{Rises}
use Rattle.ssq_meaning.specs.Meaning.{Line, Values}
use Rattle.ssq_feed.specs.Causes.{LogWent}
use Rattle.ssq_core.specs.Course.{Cuts, Job}
use Rattle.ssq_course.specs.Setting.{Setting}
use Rattle.ssq_board.specs.declared.front.Cause.{Cause}
use Rattle.ssq_board.specs.declared.front.Cause.TheVariants as cause
use Rattle.ssq_board.specs.declared.front.Entry.{Entry}
use Rattle.ssq_board.specs.declared.front.Entry.TheVariants as entry
use Rattle.ssq_plans.specs.declared.plan.Plan.{Plan}
use Rattle.ssq_plans.specs.declared.part.PartEnd.{PartEnd}
use Rattle.ssq_board.specs.Core.{Scope, Core, May, HasCause, IsFull, after, after_all, cuts_by, is_open}
use Rattle.ssq_board.specs.Shown.{first}
use Rattle.ssq_board.specs.Follows.{State, Leads}
use Rattle.ssq_ledger.specs.Shown.{Shown, Opening, IsUnplanned, cuts_after, cuts_of, did}
use Rattle.ssq_desk.specs.declared.desk.Load.{Load}
use Rattle.ssq_desk.specs.declared.round.Round.{Round}
use Rattle.ssq_desk.specs.Round.{setting_of, Owns}
use Rattle.std.specs.Global.{Vec}
use Rattle.ssq_outside.specs.History.{History}
use Rattle.ssq_ledger.proofs.Ledgers.{cuts_more}
use Rattle.ssq_desk.specs.declared.desk.PartLog.{PartLog}
use Rattle.ssq_desk.specs.declared.desk.Share.{Share}
use Rattle.ssq_desk.specs.declared.desk.OutWork.{OutWork}
use Rattle.ssq_desk.specs.declared.desk.Pending.{Pending}
use Rattle.ssq_task.specs.declared.partition.Held.{Held}
use Rattle.ssq_desk.specs.Contents.{IsStopOf}
use Rattle.ssq_desk.specs.Room.{AreBegun}
use Rattle.ssq_desk.specs.Making.{IsUnmade, IsSameLoad, IsMadeFor}
use Rattle.ssq_desk.specs.Tasks.{IsViewOf}
use Rattle.ssq_desk.proofs.Holding.{holds_stopped}
use Rattle.ssq_desk.proofs.Planned.{begun_part_log}
use Rattle.ssq_desk.specs.declared.told.Told.{Told}
use Rattle.ssq_desk.specs.Closing.{AreTold, HasFaulty}
use Rattle.ssq_desk.specs.Whole.{IsWhole, IsKept, HoldsIn, ArePlans, opening_in}

-- the cuts after one entry more
pub cuts_then : (o : Opening) (r : Scope) (es : List Entry) (e : Entry) → cuts_after o r (es ++ e ∷ []) ≡ cuts_by r (cuts_after o r es) (after_all r (first r o.start) es) e
cuts_then o r es e = cuts_more r o.cuts (first r o.start) es e

-- what the desk knows follows from the entries
pub leads_core : (tells : Type 0) (job : Job) (r : Scope) (next : Cuts → ℕ → Bool) (s : State) (es : List Entry) (n : State) → Leads tells job r next s es n → n.core ≡ after_all r s.core es
leads_core tells job r next s [] n l = ap (λ (x : State). x.core) (sym l)
leads_core tells job r next s (e ∷ es) n l = leads_core tells job r next l.0 es n l.2 ∙ (λ i. after_all r (l.1.core i) es)

pub after_more : (r : Scope) (c : Core) (es more : List Entry) → after_all r (after_all r c es) more ≡ after_all r c (es ++ more)
after_more r c [] more = refl
after_more r c (e ∷ es) more = after_more r (after r c e) es more

-- the last of some entries might come
pub last_may : (tells : Type 0) (job : Job) (r : Scope) (next : Cuts → ℕ → Bool) (es : List Entry) (e : Entry) (a n : State) → Leads tells job r next a (es ++ e ∷ []) n → (c : Core) × May r c e
last_may tells job r next [] e a n l = (a.core, l.1.may)
last_may tells job r next (x ∷ es) e a n l = last_may tells job r next es e l.0 n l.2

-- for what a Stop may come, a desk may be stopped
pub cause_stops : (reads owned : Type 0) (s : Setting) (cuts : Cuts) (e : ℕ) (r : Scope) (c : Core) (f : Cause) → HasCause r c f → (key : Option Values) → IsStopOf reads owned s cuts e key f
cause_stops reads owned s cuts e r c cause.Full has key = tt
cause_stops reads owned s cuts e r c cause.DiskFault has key = tt
cause_stops reads owned s cuts e r c cause.NoMemory has key = tt
cause_stops reads owned s cuts e r c (cause.BadLine t p o f) has key = absurd has
cause_stops reads owned s cuts e r c (cause.Overflow t p o) has key = absurd has
cause_stops reads owned s cuts e r c cause.LogFault has key = absurd has
cause_stops reads owned s cuts e r c cause.KeyOverflow has key = absurd has
cause_stops reads owned s cuts e r c (cause.LogShort t p l f) has key = absurd has
cause_stops reads owned s cuts e r c (cause.Damaged q) has key = absurd has

pub unmade_stops : (reads owned : Type 0) (s : Setting) (cuts : Cuts) (e n : ℕ) (f : Cause) → IsUnmade n f → (key : Option Values) → IsStopOf reads owned s cuts e key f
unmade_stops reads owned s cuts e n cause.Full is key = tt
unmade_stops reads owned s cuts e n cause.DiskFault is key = tt
unmade_stops reads owned s cuts e n cause.NoMemory is key = tt
unmade_stops reads owned s cuts e n (cause.BadLine t p o f) is key = absurd is
unmade_stops reads owned s cuts e n (cause.Overflow t p o) is key = absurd is
unmade_stops reads owned s cuts e n cause.LogFault is key = absurd is
unmade_stops reads owned s cuts e n cause.KeyOverflow is key = absurd is
unmade_stops reads owned s cuts e n (cause.LogShort t p l f) is key = absurd is
unmade_stops reads owned s cuts e n (cause.Damaged q) is key = absurd is

-- and for each of them the ledger may be stopped, where `Full` comes of so many epochs
pub unmade_may : (r : Scope) (c : Core) (f : Cause) → (c.front.planned ≡ 4294967295 → IsFull r c) → IsUnmade c.front.planned f → HasCause r c f
unmade_may r c cause.Full full is = full is
unmade_may r c cause.DiskFault full is = tt
unmade_may r c cause.NoMemory full is = tt
unmade_may r c (cause.BadLine t p o f) full is = absurd is
unmade_may r c (cause.Overflow t p o) full is = absurd is
unmade_may r c cause.LogFault full is = absurd is
unmade_may r c cause.KeyOverflow full is = absurd is
unmade_may r c (cause.LogShort t p l f) full is = absurd is
unmade_may r c (cause.Damaged q) full is = absurd is

-- why no epoch was planned, from earlier on and up to later
pub unplanned_later : (planned early before now late : ℕ) (f : Cause) → early ≤ before → now ≤ late → IsUnplanned planned before now f → IsUnplanned planned early late f
unplanned_later planned early before now late cause.Full first last is = is
unplanned_later planned early before now late cause.DiskFault first last is = risen first last is
  where
    risen : early ≤ before → now ≤ late → Rises before now → Rises early late
    risen first last rises = omega (arith, first, last, rises)
unplanned_later planned early before now late cause.NoMemory first last is = tt
unplanned_later planned early before now late (cause.BadLine t p o f) first last is = absurd is
unplanned_later planned early before now late (cause.Overflow t p o) first last is = absurd is
unplanned_later planned early before now late cause.LogFault first last is = absurd is
unplanned_later planned early before now late cause.KeyOverflow first last is = absurd is
unplanned_later planned early before now late (cause.LogShort t p l f) first last is = absurd is
unplanned_later planned early before now late (cause.Damaged q) first last is = absurd is

-- none of them is a fault of a log
pub cause_no_log : (r : Scope) (c : Core) (f : Cause) → HasCause r c f → f ≡ cause.LogFault → ⊥
cause_no_log r c f has is = subst (HasCause r c) is has

pub unmade_no_log : (n : ℕ) (f : Cause) → IsUnmade n f → f ≡ cause.LogFault → ⊥
unmade_no_log n f unmade is = subst (IsUnmade n) is unmade

-- what has risen has been counted
pub rises_some : (before now : ℕ) → Rises before now → 0 < now
rises_some before now rises =
    let low : 1 ≤ min (before + 1) (2 ^ 64 - 1) = le-min (omega arith) (omega arith) in
    let risen : min (before + 1) (2 ^ 64 - 1) ≤ now = rises in omega (arith, low, risen)

-- a ledger that did nothing
pub did_nothing : {D O : Type 0} (s : Shown D O) → s ≡ did s s.disk []
did_nothing s = (let none = sym (append-nil s.history) in λ i. record { opening = s.opening; opened = s.opened; scope = s.scope; disk = s.disk; core = s.core; history = none i })

module _ {D O : Type 0} where
  -- entries after entries
  pub did_then : (s : Shown D O) (one other : D) (es more : List Entry) → did (did s one es) other more ≡ did s other (es ++ more)
  did_then s one other es more = (λ i. record { opening = s.opening; opened = s.opened; scope = s.scope; disk = other; core = after_more s.scope s.core es more i; history = append_assoc s.history es more i })

-- with another commit that is to be published
abbrev pub with_pending : {L S F : Type 0} → Load L S F → Option (Pending F) → Load L S F
with_pending load pending = record { view = load.view; plans = load.plans; part_logs = load.part_logs; shares = load.shares; held = load.held; out = load.out; seen = load.seen; pending = pending; told = load.told; kept = load.kept }

module _ {D L S F : Type 0} (stores logs : Type 0) (history : D → History) (lines : L → List Line) (available : L → ℕ) (answers : L → List ℕ) (faults : L → ℕ) (written : S → List ℕ) (sealed : F → List ℕ) (shown : Shown D (Round L)) (load : Load L S F)
    (whole : IsWhole stores logs history lines available answers faults written sealed shown load) where
  -- a call of the disk that changes no name
  pub still_whole : (disk : D) → IsWhole stores logs history lines available answers faults written sealed (did shown disk []) load
  still_whole disk =
      let same : cuts_of (opening_in lines) (did shown disk []) ≡ cuts_of (opening_in lines) shown = ap (cuts_after (opening_in lines shown.opening) shown.scope) (append-nil shown.history) in record {
        round = whole.round;
        view = whole.view;
        holds = subst (λ (cuts : Cuts). HoldsIn stores logs history lines available answers faults written sealed shown cuts shown.core load.part_logs.items load.shares.items load.held.items load.out load.seen load.pending) (sym same) whole.holds;
        plans = subst (λ (cuts : Cuts). ArePlans (Owns stores logs history lines shown) shown.opening.opened.plans (setting_of lines shown.opening) cuts shown.core.front.planned load.plans.items) (sym same) whole.plans;
        told = subst (λ (cuts : Cuts). AreTold (Owns stores logs history lines shown) (setting_of lines shown.opening) cuts shown.opening.opened.committed shown.core.front.committed load.told.items) (sym same) whole.told;
        told_room = whole.told_room;
        faulty = whole.faulty;
        kept = whole.kept;
      }

  -- a Stop for a cause that may stop it, with what commit there is then
  pub stopped_whole : (disk : D) (f : Cause) (pending : Option (Pending F)) → (f ≡ cause.LogFault → ⊥) → ((key : Option Values) → IsStopOf (stores × logs) (Owns stores logs history lines shown) (setting_of lines shown.opening) (cuts_of (opening_in lines) shown) shown.core.front.committed key f)
      → IsWhole stores logs history lines available answers faults written sealed (did shown disk (entry.Stop f ∷ [])) (with_pending load pending)
  stopped_whole disk f pending no_log right =
      let s : Setting = setting_of lines shown.opening in
      let old : Cuts = cuts_of (opening_in lines) shown in
      let h = whole.holds in
      let same : cuts_of (opening_in lines) (did shown disk (entry.Stop f ∷ [])) ≡ old = cuts_then (opening_in lines shown.opening) shown.scope shown.history (entry.Stop f) in record {
        round = whole.round;
        view = whole.view;
        holds = subst (λ (cuts : Cuts). HoldsIn stores logs history lines available answers faults written sealed shown cuts (after shown.scope shown.core (entry.Stop f)) load.part_logs.items load.shares.items load.held.items load.out load.seen pending) (sym same)
            (holds_stopped (stores × logs) (Owns stores logs history lines shown) lines available (LogWent logs lines available answers faults) shown.opening.logs.items written sealed s old shown.scope.available shown.core f load.part_logs.items load.shares.items load.held.items load.out load.seen pending
            h.parts h.partitions h.keeping h.logs h.dealt h.reduced h.keys right);
        plans = subst (λ (cuts : Cuts). ArePlans (Owns stores logs history lines shown) shown.opening.opened.plans s cuts shown.core.front.planned load.plans.items) (sym same) whole.plans;
        told = subst (λ (cuts : Cuts). AreTold (Owns stores logs history lines shown) s cuts shown.opening.opened.committed shown.core.front.committed load.told.items) (sym same) whole.told;
        told_room = whole.told_room;
        faulty = λ e. absurd (no_log (same_Some f cause.LogFault e));
        kept = whole.kept;
      }

module _ {D L S F : Type 0} (stores logs : Type 0) (history : D → History) (lines : L → List Line) (available : L → ℕ) (answers : L → List ℕ) (faults : L → ℕ) (written : S → List ℕ) (sealed : F → List ℕ) (shown : Shown D (Round L)) (load : Load L S F)
    (whole : IsWhole stores logs history lines available answers faults written sealed shown load) where
  -- between epochs, a load that is the same but for room
  pub same_load : (now : Load L S F) → is_open shown.core ≡ false → IsSameLoad load now → IsWhole stores logs history lines available answers faults written sealed shown now
  same_load now closed same =
      let s : Setting = setting_of lines shown.opening in
      let cuts : Cuts = cuts_of (opening_in lines) shown in record {
        round = whole.round;
        view = subst (IsViewOf s) (sym same.view_is) whole.view;
        holds = subst (λ (x : Vec (PartLog L)). HoldsIn stores logs history lines available answers faults written sealed shown cuts shown.core x.items now.shares.items now.held.items now.out now.seen now.pending) (sym same.part_logs_are)
            (subst (λ (x : Vec (Share S)). HoldsIn stores logs history lines available answers faults written sealed shown cuts shown.core load.part_logs.items x.items now.held.items now.out now.seen now.pending) (sym same.shares_are)
            (subst (λ (x : Vec (Option Held)). HoldsIn stores logs history lines available answers faults written sealed shown cuts shown.core load.part_logs.items load.shares.items x.items now.out now.seen now.pending) (sym same.held_is)
            (subst (λ (x : Option (OutWork S F)). HoldsIn stores logs history lines available answers faults written sealed shown cuts shown.core load.part_logs.items load.shares.items load.held.items x now.seen now.pending) (sym same.out_is)
            (subst (λ (x : List (Option ℤ)). HoldsIn stores logs history lines available answers faults written sealed shown cuts shown.core load.part_logs.items load.shares.items load.held.items load.out x now.pending) (sym same.seen_is)
            (subst (λ (x : Option (Pending F)). HoldsIn stores logs history lines available answers faults written sealed shown cuts shown.core load.part_logs.items load.shares.items load.held.items load.out load.seen x) (sym same.pending_is) whole.holds)))));
        plans = subst (λ (x : List Plan). ArePlans (Owns stores logs history lines shown) shown.opening.opened.plans s cuts shown.core.front.planned x) (sym same.plans_are) whole.plans;
        told = subst (λ (x : List Told). AreTold (Owns stores logs history lines shown) s cuts shown.opening.opened.committed shown.core.front.committed x) (sym same.told_are) whole.told;
        told_room = λ opened. absurd (true≢false (sym opened ∙ closed));
        faulty = λ e. subst (λ (x : Vec (PartLog L)). HasFaulty faults shown.core.maps x.items) (sym same.part_logs_are) (whole.faulty e);
        kept = subst (IsKept s shown.opening.opened) (sym same.kept_is) whole.kept;
      }

  -- what was made for an epoch that is not to come
  pub unplanned_whole : (disk : D) (f : Cause) (made now : Load L S F) (here : Vec PartEnd) → (f ≡ cause.LogFault → ⊥) → is_open shown.core ≡ false → IsMadeFor (Owns stores logs history lines shown) written shown.core.ends load made here
      → now.view ≡ made.view → now.plans.items ≡ made.plans.items → now.part_logs.items ≡ made.part_logs.items → length now.shares.items ≡ length made.shares.items → now.held ≡ made.held → now.told.items ≡ made.told.items → now.kept ≡ made.kept
      → ((key : Option Values) → IsStopOf (stores × logs) (Owns stores logs history lines shown) (setting_of lines shown.opening) (cuts_of (opening_in lines) shown) shown.core.front.committed key f)
      → IsWhole stores logs history lines available answers faults written sealed (did shown disk (entry.Stop f ∷ [])) now
  unplanned_whole disk f made now here no_log closed is view plans part_logs shares held told kept right =
      let s : Setting = setting_of lines shown.opening in
      let old : Cuts = cuts_of (opening_in lines) shown in
      let same : cuts_of (opening_in lines) (did shown disk (entry.Stop f ∷ [])) ≡ old = cuts_then (opening_in lines shown.opening) shown.scope shown.history (entry.Stop f) in
      let begun : AreBegun shown.core.ends load.part_logs.items now.part_logs.items = subst (λ (x : List (PartLog L)). AreBegun shown.core.ends load.part_logs.items x) (sym part_logs) is.begun in
      let h = holds_stopped (stores × logs) (Owns stores logs history lines shown) lines available (LogWent logs lines available answers faults) shown.opening.logs.items written sealed s old shown.scope.available shown.core f now.part_logs.items now.shares.items now.held.items now.out now.seen now.pending
      (begun.0 ∙ whole.holds.parts) (shares ∙ is.ready.count ∙ whole.view.partitions) (ap (λ (v : Vec (Option Held)). length v.items) (held ∙ is.held_is) ∙ whole.holds.keeping)
      (λ i part at part_log there here mine. begun_part_log (stores × logs) lines available (LogWent logs lines available answers faults) shown.opening.logs.items shown.core.ends load.part_logs.items now.part_logs.items begun i part (get_or shown.scope.available i 0) at part_log mine (λ before was. whole.holds.logs i part at before there here was))
      (λ opened. absurd (true≢false (sym opened ∙ closed))) whole.holds.reduced (λ opened. absurd (true≢false (sym opened ∙ closed))) right in record {
        round = whole.round;
        view = subst (IsViewOf s) (sym (view ∙ is.view_is)) whole.view;
        holds = subst (λ (cuts : Cuts). HoldsIn stores logs history lines available answers faults written sealed shown cuts (after shown.scope shown.core (entry.Stop f)) now.part_logs.items now.shares.items now.held.items now.out now.seen now.pending) (sym same) h;
        plans = subst (λ (cuts : Cuts). ArePlans (Owns stores logs history lines shown) shown.opening.opened.plans s cuts shown.core.front.planned now.plans.items) (sym same) (subst (λ (x : List Plan). ArePlans (Owns stores logs history lines shown) shown.opening.opened.plans s old shown.core.front.planned x) (sym (plans ∙ is.plans_are)) whole.plans);
        told = subst (λ (cuts : Cuts). AreTold (Owns stores logs history lines shown) s cuts shown.opening.opened.committed shown.core.front.committed now.told.items) (sym same)
            (subst (λ (x : List Told). AreTold (Owns stores logs history lines shown) s old shown.opening.opened.committed shown.core.front.committed x) (sym (told ∙ is.told_are)) whole.told);
        told_room = λ opened. absurd (true≢false (sym opened ∙ closed));
        faulty = λ e. absurd (no_log (same_Some f cause.LogFault e));
        kept = subst (IsKept s shown.opening.opened) (sym (kept ∙ is.kept_is)) whole.kept;
      }
