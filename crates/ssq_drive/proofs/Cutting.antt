-- The cuts that entries bring.
use Rattle.std.proofs.Common.{◌≡◌, ◌⊎◌, ◌<◌, ◌≤◌, ◌+◌, ◌||◌, ◌&&◌, nat_lt, ℕ, Bool, true, false, true≢false, List, [], ◌∷◌, Option, Some, None, if◌then◌else◌, sym, refl, ap, ◌∙◌, subst, inl, inr, le_refl, arith, le-ltb, lt-ltb}
use Rattle.std.specs.List.{list_any}
use Rattle.std.proofs.lemmas.Bool.{cases_lt, or_parts}
use Rattle.ssq_core.specs.Course.{Cuts, Ends}
use Rattle.ssq_board.specs.declared.front.Cause.{Cause}
use Rattle.ssq_board.specs.declared.front.Cause.TheVariants as cause
use Rattle.ssq_board.specs.declared.front.Entry.{Entry}
use Rattle.ssq_board.specs.declared.front.Entry.TheVariants as entry
use Rattle.ssq_board.specs.Core.{Scope, Core, May, HasCause, after, cuts_by, cuts_all, extended, next_end, next_ends, within, is_behind, is_of_epoch, is_open, or_stop}
use Rattle.ssq_board.proofs.Telling.{Runs}
use Rattle.ssq_board.proofs.Leasts.{some_is as same_cause}
use Rattle.ssq_drive.specs.Driven.{brings_due}

-- Between so many planned epochs and so many: the cuts so far are as they were, and after them each part goes on from cut to cut to what
-- was found of it, by no more lines than the cap. Each epoch has lines; but the last may have none, where the query closes.
pub record AreNextCuts (r : Scope) (closing : Bool) (from to : ℕ) (old new : Cuts) : Type 0 where
  pub kept : (e : ℕ) → e ≤ from → new e ≡ old e
  pub next : (e : ℕ) → from ≤ e → e < to → new (e + 1) ≡ next_ends r.cap (new e) r.available
  pub due : (e : ℕ) → from ≤ e → e < to → (is_behind (new e) r.available ≡ true) ⊎ ((e + 1 ≡ to) × (closing ≡ true))

-- The cuts go on, and the last is where the planned epochs end; and no epoch without lines is due where the query does not close.
pub record GoOn (r : Scope) (closing : Bool) (c n : Core) (old new : Cuts) : Type 0 where
  pub more : c.front.planned ≤ n.front.planned
  pub cuts : AreNextCuts r closing c.front.planned n.front.planned old new
  pub last : new n.front.planned ≡ n.ends
  pub quiet : closing ≡ false → n.front.due ≡ false

pub first_of_two : (a b : Bool) → (a || b) ≡ true → b ≡ false → a ≡ true
first_of_two true b is none = refl
first_of_two false b is none = absurd (true≢false (sym is ∙ none))

-- where nothing more was found, the next cut covers all, too
still_covered : (cap : Option ℕ) (es : Ends) (ss : List ℕ) → is_behind es ss ≡ false → is_behind (next_ends cap es ss) ss ≡ false
still_covered cap [] ss none = refl
still_covered cap (e ∷ es) [] none = refl
still_covered cap (e ∷ es) (s ∷ ss) none =
    let both = or_parts (nat_lt e.end s) (is_behind es ss) none in
    let here : nat_lt (next_end cap e.end s) s ≡ false = ap (λ (b : Bool). nat_lt (if b then within cap e.end s else e.end) s) both.0 ∙ both.0 in
    let rest = still_covered cap es ss both.1 in
    (λ i. here i || rest i)

module _ (r : Scope) (closing : Bool) (from : ℕ) (old : Cuts) where
  -- the epochs up to this one have lines
  abbrev HaveLines : ℕ → Cuts → Type 0
  HaveLines to cuts = (e : ℕ) → from ≤ e → e < to → is_behind (cuts e) r.available ≡ true

  -- The last epoch has none, all before it have, and no other comes after it.
  record EndsWithout (c : Core) (cuts : Cuts) : Type 0 where
    pub closes : closing ≡ true
    pub before : (e : ℕ) → from ≤ e → e + 1 < c.front.planned → is_behind (cuts e) r.available ≡ true
    pub covered : is_behind c.ends r.available ≡ false
    pub no_lines : c.front.has_lines ≡ false
    pub undue : c.front.due ≡ false

  -- so far the cuts went on
  record HasGone (c : Core) (cuts : Cuts) : Type 0 where
    pub more : from ≤ c.front.planned
    pub kept : (e : ℕ) → e ≤ from → cuts e ≡ old e
    pub next : (e : ℕ) → from ≤ e → e < c.front.planned → cuts (e + 1) ≡ next_ends r.cap (cuts e) r.available
    pub last : cuts c.front.planned ≡ c.ends
    pub quiet : closing ≡ false → c.front.due ≡ false
    pub lines : HaveLines c.front.planned cuts ⊎ EndsWithout c cuts

  -- an entry that plans nothing
  still_goes : (c n : Core) (cuts : Cuts) → n.front.planned ≡ c.front.planned → n.ends ≡ c.ends → n.front.has_lines ≡ c.front.has_lines → (c.front.has_lines ≡ false → c.front.due ≡ false → n.front.due ≡ false)
      → (closing ≡ false → c.front.due ≡ false → n.front.due ≡ false) → HasGone c cuts → HasGone n cuts
  still_goes c n cuts planned ends has_lines undue quiet gone = record {
    more = (let m = gone.more in omega (arith, m, planned));
    kept = gone.kept;
    next = λ e ge less. gone.next e ge (omega (arith, less, planned));
    last = ap cuts planned ∙ gone.last ∙ sym ends;
    quiet = λ none. quiet none (gone.quiet none);
    lines = elim gone.lines [
      | inl have ↦ inl (λ e ge less. have e ge (omega (arith, less, planned)))
      | inr without ↦ inr (record {
        closes = without.closes;
        before = λ e ge less. without.before e ge (omega (arith, less, planned));
        covered = ap (λ (l : Ends). is_behind l r.available) ends ∙ without.covered;
        no_lines = has_lines ∙ without.no_lines;
        undue = undue without.no_lines without.undue;
      })
    ];
  }

  -- a plan
  plan_goes : (cuts : Cuts) (c : Core) (k : ℕ) → May r c (entry.Plan k) → HasGone c cuts → HasGone (after r c (entry.Plan k)) (cuts_by r cuts c (entry.Plan k))
  plan_goes cuts c k may gone = record {
    more = omega (arith, above);
    kept = λ e le. kept e (omega (arith, le, above)) ∙ gone.kept e le;
    next = λ e ge less. elim (cases_lt e n) [
      | inl early ↦ kept (e + 1) (omega (arith, early)) ∙ gone.next e ge early ∙ ap (λ (l : Ends). next_ends r.cap l r.available) (sym (kept e (omega (arith, early))))
      | inr late ↦ (
          let is : n ≡ e = omega (arith, less, late) in
          subst (λ (x : ℕ). new (x + 1) ≡ next_ends r.cap (new x) r.available) is (now ∙ ap (λ (l : Ends). next_ends r.cap l r.available) (sym here))
          )
    ];
    last = now;
    quiet = λ none. refl;
    lines = by (is_behind c.ends r.available) refl gone.lines;
  }
    where
      n : ℕ
      n = c.front.planned

      ends : Ends
      ends = next_ends r.cap c.ends r.available

      new : Cuts
      new = extended cuts n ends

      above : from ≤ n
      above = gone.more

      kept : (e : ℕ) → e ≤ n → new e ≡ cuts e
      kept e le = ap (λ (b : Bool). if b then ends else cuts e) (le-ltb n e le)

      now : new (n + 1) ≡ ends
      now = ap (λ (b : Bool). if b then ends else cuts (n + 1)) (lt-ltb n (n + 1) (omega arith))

      here : new n ≡ c.ends
      here = kept n (le_refl n) ∙ gone.last

      old_lines : HaveLines n cuts → (e : ℕ) → from ≤ e → e < n → is_behind (new e) r.available ≡ true
      old_lines have e ge less = ap (λ (l : Ends). is_behind l r.available) (kept e (omega (arith, less))) ∙ have e ge less

      closes : (b : Bool) → closing ≡ b → is_behind c.ends r.available ≡ false → closing ≡ true
      closes true is none = is
      closes false is none = absurd (true≢false (sym may.4 ∙ (let due = gone.quiet is in λ i. none i || due i)))

      by : (b : Bool) → is_behind c.ends r.available ≡ b → HaveLines n cuts ⊎ EndsWithout c cuts → HaveLines (n + 1) new ⊎ EndsWithout (after r c (entry.Plan k)) new
      by b is (inr without) = absurd (true≢false (sym may.4 ∙ (let behind = without.covered in let due = without.undue in λ i. behind i || due i)))
      by true is (inl have) = inl (λ e ge less. elim (cases_lt e n) [
        | inl early ↦ old_lines have e ge early
        | inr late ↦ subst (λ (x : ℕ). is_behind (new x) r.available ≡ true) (let same : n ≡ e = omega (arith, less, late) in same) (ap (λ (l : Ends). is_behind l r.available) here ∙ is)
      ])
      by false is (inl have) = inr (record {
        closes = closes closing refl is;
        before = λ e ge less. old_lines have e ge (omega (arith, less));
        covered = still_covered r.cap c.ends r.available is;
        no_lines = is;
        undue = refl;
      })

  one_goes : (cuts : Cuts) (c : Core) (e : Entry) → May r c e → (closing ≡ false → brings_due e ≡ false) → HasGone c cuts → HasGone (after r c e) (cuts_by r cuts c e)
  one_goes cuts c (entry.Plan k) may undue gone = plan_goes cuts c k may gone
  one_goes cuts c (entry.Claim t) may undue gone = still_goes c (after r c (entry.Claim t)) cuts refl refl refl (λ lines due. due) (λ none due. due) gone
  one_goes cuts c (entry.Report t f) may undue gone = still_goes c (after r c (entry.Report t f)) cuts refl refl refl (λ lines due. due) (λ none due. due) gone
  one_goes cuts c (entry.Version t) may undue gone = still_goes c (after r c (entry.Version t)) cuts refl refl refl (λ lines due. due) (λ none due. due) gone
  one_goes cuts c (entry.Missed t) may undue gone = still_goes c (after r c (entry.Missed t)) cuts refl refl refl (λ lines due. due) (λ none due. due) gone
  one_goes cuts c (entry.OutFile e) may undue gone = still_goes c (after r c (entry.OutFile e)) cuts refl refl refl (λ lines due. due) (λ none due. due) gone
  one_goes cuts c (entry.Sync clock) may undue gone = still_goes c (after r c (entry.Sync clock)) cuts refl refl refl (λ lines due. due) (λ none due. due) gone
  one_goes cuts c (entry.Commit e due) may undue gone =
      still_goes c (after r c (entry.Commit e due)) cuts refl refl refl (λ lines still. ap (λ (b : Bool). due && b) lines ∙ and_none due) (λ none still. ap (λ (b : Bool). b && c.front.has_lines) (undue none)) gone
    where
      and_none : (b : Bool) → (b && false) ≡ false
      and_none true = refl
      and_none false = refl
  one_goes cuts c (entry.Upkeep p v) may undue gone = still_goes c (after r c (entry.Upkeep p v)) cuts refl refl refl (λ lines due. due) (λ none due. due) gone
  one_goes cuts c (entry.Snapshot p v) may undue gone = still_goes c (after r c (entry.Snapshot p v)) cuts refl refl refl (λ lines due. due) (λ none due. due) gone
  one_goes cuts c (entry.Unmade p v f) may undue gone = still_goes c (after r c (entry.Unmade p v f)) cuts refl refl refl (λ lines due. due) (λ none due. due) gone
  one_goes cuts c (entry.Untaken p v) may undue gone = still_goes c (after r c (entry.Untaken p v)) cuts refl refl refl (λ lines due. due) (λ none due. due) gone
  one_goes cuts c (entry.Drop q) may undue gone = still_goes c (after r c (entry.Drop q)) cuts refl refl refl (λ lines due. due) (λ none due. due) gone
  one_goes cuts c (entry.Undropped q) may undue gone = still_goes c (after r c (entry.Undropped q)) cuts refl refl refl (λ lines due. due) (λ none due. due) gone
  one_goes cuts c (entry.Stop f) may undue gone = still_goes c (after r c (entry.Stop f)) cuts refl refl refl (λ lines due. due) (λ none due. due) gone

  all_go : (es : List Entry) (c n : Core) (cuts : Cuts) → Runs r c es n → (closing ≡ false → list_any brings_due es ≡ false) → HasGone c cuts → HasGone n (cuts_all r cuts c es)
  all_go [] c n cuts runs undue gone = subst (λ (x : Core). HasGone x cuts) runs gone
  all_go (e ∷ es) c n cuts runs undue gone =
      all_go es (after r c e) n (cuts_by r cuts c e) runs.1 (λ none. (or_parts (brings_due e) (list_any brings_due es) (undue none)).1)
      (one_goes cuts c e runs.0 (λ none. (or_parts (brings_due e) (list_any brings_due es) (undue none)).0) gone)

-- entries that may come one after another, after none of which an epoch without lines is due where the query does not close
pub entries_go : (r : Scope) (closing : Bool) (es : List Entry) (c n : Core) (cuts : Cuts) → Runs r c es n → cuts c.front.planned ≡ c.ends → (closing ≡ false → c.front.due ≡ false) → (closing ≡ false → list_any brings_due es ≡ false)
    → GoOn r closing c n cuts (cuts_all r cuts c es)
entries_go r closing es c n cuts runs last quiet undue =
    let gone = all_go r closing c.front.planned cuts es c n cuts runs undue (record {
      more = le_refl c.front.planned;
      kept = λ e le. refl;
      next = λ e ge less. absurd (omega (arith, ge, less));
      last = last;
      quiet = quiet;
      lines = inl (λ e ge less. absurd (omega (arith, ge, less)));
    }) in
    record {
      more = gone.more;
      cuts = record {
        kept = gone.kept;
        next = gone.next;
        due = λ e ge less. elim gone.lines [
          | inl have ↦ inl (have e ge less)
          | inr without ↦ elim (cases_lt (e + 1) n.front.planned) [ inl early ↦ inl (without.before e ge early) | inr late ↦ inr (omega (arith, less, late), without.closes) ]
        ];
      };
      last = gone.last;
      quiet = gone.quiet;
    }

-- where a desk stopped for the epoch's own cause, an epoch is open
abbrev pub StopsOpen : Core → Type 0
StopsOpen c = (f : Cause) → c.front.stop ≡ Some f → is_of_epoch f ≡ true → is_open c ≡ true

pub none_some : (f : Cause) → None ≡ Some f → ⊥
none_some f is = cc

pub not_of_epoch : (r : Scope) (c : Core) (f : Cause) → HasCause r c f → is_of_epoch f ≡ true → ⊥
not_of_epoch r c (cause.BadLine s p o x) has own = has
not_of_epoch r c (cause.Overflow s p o) has own = has
not_of_epoch r c cause.KeyOverflow has own = has
not_of_epoch r c cause.LogFault has own = true≢false (sym own)
not_of_epoch r c (cause.LogShort s p l x) has own = true≢false (sym own)
not_of_epoch r c (cause.Damaged q) has own = true≢false (sym own)
not_of_epoch r c cause.DiskFault has own = true≢false (sym own)
not_of_epoch r c cause.Full has own = true≢false (sym own)
not_of_epoch r c cause.NoMemory has own = true≢false (sym own)

-- what came back in place of a snapshot is no cause of an epoch
unmade_open : {A : Type 0} (o : Option Cause) (g : Cause) → is_of_epoch g ≡ false → (f : Cause) → or_stop o (Some g) ≡ Some f → is_of_epoch f ≡ true → (o ≡ Some f → A) → A
unmade_open None g outside f stops own was = absurd (true≢false (sym own ∙ ap is_of_epoch (sym (same_cause g f stops)) ∙ outside))
unmade_open (Some h) g outside f stops own was = was stops

open_step : (r : Scope) (c : Core) (e : Entry) → May r c e → StopsOpen c → StopsOpen (after r c e)
open_step r c (entry.Plan k) may so f stops own = absurd (none_some f stops)
open_step r c (entry.Claim t) may so f stops own = so f stops own
open_step r c (entry.Report t g) may so f stops own = may.0
open_step r c (entry.Version t) may so f stops own = may.0
open_step r c (entry.Missed t) may so f stops own = may.0
open_step r c (entry.OutFile e) may so f stops own = absurd (none_some f stops)
open_step r c (entry.Sync clock) may so f stops own = absurd (none_some f stops)
open_step r c (entry.Commit e due) may so f stops own = absurd (none_some f stops)
open_step r c (entry.Upkeep p v) may so f stops own = so f stops own
open_step r c (entry.Snapshot p v) may so f stops own = so f stops own
open_step r c (entry.Unmade p v g) may so f stops own = unmade_open c.front.stop g may f stops own (λ was. so f was own)
open_step r c (entry.Untaken p v) may so f stops own = absurd (true≢false (sym own ∙ ap is_of_epoch (sym (same_cause cause.DiskFault f stops))))
open_step r c (entry.Drop q) may so f stops own = so f stops own
open_step r c (entry.Undropped q) may so f stops own = absurd (true≢false (sym own ∙ ap is_of_epoch (sym (same_cause cause.DiskFault f stops))))
open_step r c (entry.Stop g) may so f stops own = absurd (not_of_epoch r c g may.1 (ap is_of_epoch (same_cause g f stops) ∙ own))

pub stops_open : (r : Scope) (es : List Entry) (c n : Core) → Runs r c es n → StopsOpen c → StopsOpen n
stops_open r [] c n runs so = subst StopsOpen runs so
stops_open r (e ∷ es) c n runs so = stops_open r es (after r c e) n runs.1 (open_step r c e runs.0 so)
