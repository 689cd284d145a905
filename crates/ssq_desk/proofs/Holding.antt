-- What a desk holds, after one of its slots was changed.
use Rattle.std.proofs.Common.{◌≡◌, ◌<◌, ◌⊎◌, ◌+◌, ℕ, ℤ, Bool, zero, suc, true≢false, List, [], ◌∷◌, length, get_or, set, Option, Some, None, inl, inr, refl, sym, ap, ◌∙◌, subst, arith}
use Rattle.std.specs.Prelude.{All, slice_get, map, is_some, IfSome, true}
use Rattle.std.proofs.lemmas.List.{length-map}
use Rattle.std.proofs.lemmas.Option.{same_Some}
use Rattle.ssq_time.specs.Time.{IsLineTime}
use Rattle.ssq_terms.specs.Rows.{bucket_in}
use Rattle.std.proofs.lemmas.List.Elements.{All-set}
use mathlib.Core.Option.{some, some-injective, some-ne-none}
use lib.ListN.{get_elem?}
use Rattle.ssq_route.specs.Buckets.{bucket_at}
use Rattle.ssq_shape.specs.declared.bound.Bound.{Bound}
use Rattle.ssq_meaning.specs.Meaning.{Line, Values}
use Rattle.ssq_meaning.specs.Group.{least_key}
use Rattle.ssq_meaning.specs.Parts.{Part}
use Rattle.ssq_feed.specs.declared.task.FedRows.{FedRows}
use Rattle.ssq_meaning.specs.Fit.{IsFitRow}
use Rattle.ssq_core.specs.Course.{Cuts}
use Rattle.ssq_course.specs.Setting.{Setting, parts_in, cut_of}
use Rattle.ssq_board.specs.declared.front.Cause.{Cause}
use Rattle.ssq_board.specs.declared.front.Place.{Place}
use Rattle.ssq_board.specs.declared.front.Place.TheVariants as place
use Rattle.std.specs.List.{filter_map, list_all}
use Rattle.ssq_board.specs.declared.front.Cause.TheVariants as cause
use Rattle.ssq_board.specs.Core.{Core, is_open, is_fine, is_here, fault_at, stopped_front, with_front}
use Rattle.ssq_board.proofs.Lists.{at_length, put_else, set_length, all_fine}
use Rattle.ssq_desk.specs.declared.desk.PartLog.{PartLog}
use Rattle.ssq_desk.specs.declared.desk.Share.{Share}
use Rattle.ssq_desk.specs.declared.desk.OutWork.{OutWork}
use Rattle.ssq_desk.specs.declared.desk.Pending.{Pending}
use Rattle.ssq_desk.specs.Handing.{IsTaken}
use Rattle.ssq_task.specs.declared.partition.Held.{Held}
use Rattle.ssq_desk.specs.Contents.{IsPartLogOf, IsMapped, IsBrought, IsShare, IsKeyOf, IsHeldAt, IsStopOf, Holds, IsPending, IsReducedCause, key_in, keeping_in}
use Rattle.ssq_desk.proofs.Beginnings.{map_at}

-- what is put into a list is there
pub put_is : {A : Type 0} (l : List A) (i : ℕ) (a x : A) → get_elem? (set l i a) i ≡ some x → a ≡ x
put_is [] i a x e = absurd (some-ne-none x (sym e))
put_is (y ∷ l) zero a x e = some-injective a x e
put_is (y ∷ l) (suc i) a x e = put_is l i a x e

same_or_not : (i j : ℕ) → (i ≡ j) ⊎ (j ≡ i → ⊥)
same_or_not zero zero = inl refl
same_or_not zero (suc j) = inr (λ e. omega (arith, e))
same_or_not (suc i) zero = inr (λ e. omega (arith, e))
same_or_not (suc i) (suc j) = elim (same_or_not i j) [ inl e ↦ inl (ap suc e) | inr n ↦ inr (λ e. n (omega (arith, e))) ]

-- what holds of both lists at each place holds after both are changed at one, where it holds of what is put there
pub put_both : {A B : Type 0} (P : ℕ → A → B → Type 0) (l : List A) (m : List B) (i : ℕ) (a : A) (b : B) → ((j : ℕ) (x : A) (y : B) → get_elem? l j ≡ some x → get_elem? m j ≡ some y → P j x y) → P i a b
    → (j : ℕ) (x : A) (y : B) → get_elem? (set l i a) j ≡ some x → get_elem? (set m i b) j ≡ some y → P j x y
put_both {A} {B} P l m i a b each here j x y ex ey = elim (same_or_not i j) [
  | inl same ↦ (let px = put_is l i a x (subst (λ (k : ℕ). get_elem? (set l i a) k ≡ some x) (sym same) ex) in
      let py = put_is m i b y (subst (λ (k : ℕ). get_elem? (set m i b) k ≡ some y) (sym same) ey) in
      subst (λ (k : ℕ). P k x y) same (subst (λ (z : B). P i x z) py (subst (λ (z : A). P i z b) px here)))
  | inr other ↦ each j x y (sym (put_else l i j a other) ∙ ex) (sym (put_else m i j b other) ∙ ey)
]

-- the same of one list beside another that stays
pub put_one : {A B : Type 0} (P : ℕ → A → B → Type 0) (l : List A) (m : List B) (i : ℕ) (a : A) → ((j : ℕ) (x : A) (y : B) → get_elem? l j ≡ some x → get_elem? m j ≡ some y → P j x y) → ((y : B) → P i a y)
    → (j : ℕ) (x : A) (y : B) → get_elem? (set l i a) j ≡ some x → get_elem? m j ≡ some y → P j x y
put_one {A} {B} P l m i a each here j x y ex ey = elim (same_or_not i j) [
  | inl same ↦ (let px = put_is l i a x (subst (λ (k : ℕ). get_elem? (set l i a) k ≡ some x) (sym same) ex) in
      subst (λ (k : ℕ). P k x y) same (subst (λ (z : A). P i z y) px (here y)))
  | inr other ↦ each j x y (sym (put_else l i j a other) ∙ ex) ey
]

-- a map task was moved, and what the desk has of its part is another
abbrev pub with_map : Core → Option Cause → ℕ → Place → Core
with_map c stop i p = record { front = stopped_front c.front stop; ends = c.ends; maps = set c.maps i p; reduces = c.reduces; outs = c.outs }

abbrev pub with_reduce : Core → Option Cause → ℕ → Place → Core
with_reduce c stop i p = record { front = stopped_front c.front stop; ends = c.ends; maps = c.maps; reduces = set c.reduces i p; outs = c.outs }

abbrev pub with_out : Core → Option Cause → Place → Core
with_out c stop p = record { front = stopped_front c.front stop; ends = c.ends; maps = c.maps; reduces = c.reduces; outs = set c.outs 0 p }

bucket_else : {T : Type 0} (l : List (List T)) (p q : ℕ) → (q ≡ p → ⊥) → bucket_at (set l p []) q ≡ bucket_at l q
bucket_else [] p q n = refl
bucket_else (x ∷ l) zero zero n = absurd (n refl)
bucket_else (x ∷ l) zero (suc q) n = refl
bucket_else (x ∷ l) (suc p) zero n = refl
bucket_else (x ∷ l) (suc p) (suc q) n = bucket_else l p q (λ e. n (ap suc e))

away_not_waits : place.Away ≡ place.Waits → ⊥
away_not_waits e = cc

no_rows : All IsFitRow []
no_rows = λ k d less. absurd (omega (arith, less))

-- what was brought, less the bucket of a partition that was handed out
brought_less : (tells : Type 0) (query : Bound) (epoch : ℕ) (part : Part) (from to partitions : ℕ) (reduces : List Place) (p : ℕ) (fed left : FedRows) → left.time ≡ fed.time → left.buckets ≡ set fed.buckets p []
    → IsBrought tells query epoch part from to partitions reduces fed → IsBrought tells query epoch part from to partitions (set reduces p place.Away) left
brought_less tells query epoch part from to partitions reduces p fed left time buckets b = record {
  count = ap length buckets ∙ set_length fed.buckets p [] ∙ b.count;
  years = subst (λ (t : Option ℤ). IfSome t IsLineTime) (sym time) b.years;
  fit = subst (λ l. All (All IsFitRow) l) (sym buckets) (All-set (All IsFitRow) fed.buckets p [] no_rows b.fit);
  time = λ t. time ∙ b.time t;
  good = b.good;
  rows = λ t q waits. by t q waits (same_or_not p q);
}
  where
    by : tells → (q : ℕ) → get_elem? (set reduces p place.Away) q ≡ some place.Waits → (p ≡ q) ⊎ (q ≡ p → ⊥) → bucket_at left.buckets q ≡ bucket_in query epoch partitions q part from to
    by t q waits (inl same) = absurd (away_not_waits (put_is reduces p place.Away place.Waits (subst (λ (k : ℕ). get_elem? (set reduces p place.Away) k ≡ some place.Waits) (sym same) waits)))
    by t q waits (inr other) = ap (λ l. bucket_at l q) buckets ∙ bucket_else fed.buckets p q other ∙ b.rows t q (sym (put_else reduces p q place.Away other) ∙ waits)

mapped_less : {L : Type 0} (tells : Type 0) (query : Bound) (epoch : ℕ) (part : Part) (from to partitions : ℕ) (reduces : List Place) (p : ℕ) (at : Place) (old new : PartLog L) → IsTaken p old new
    → IsMapped tells query epoch part from to partitions reduces at old → IsMapped tells query epoch part from to partitions (set reduces p place.Away) at new
mapped_less tells query epoch part from to partitions reduces p at old new taken m = record {
  begins = taken.from_is ∙ m.begins;
  quiet = m.quiet;
  none = λ rests. taken.none (m.none rests);
  brought = λ back. (let b = m.brought back in let l = taken.taken b.0 b.1 in (l.0, l.1, brought_less tells query epoch part from to partitions reduces p b.0 l.0 l.2 l.3 b.2));
  fault = m.fault;
}

part_log_less : {L : Type 0} (reads : Type 0) (lines : L → List Line) (available : L → ℕ) (went : L → L → Type 0) (opened : List L) (i : ℕ) (part : Part) (found p : ℕ) (at : Place) (old new : PartLog L) → IsTaken p old new
    → IsPartLogOf reads lines available went opened i part found at old → IsPartLogOf reads lines available went opened i part found at new
part_log_less reads lines available went opened i part found p at old new taken s = record {
  stream = s.stream ∙ sym taken.stream_is;
  number = s.number ∙ sym taken.part_is;
  log = λ here. (let l = s.log here in (l.0, taken.log_is ∙ l.1, l.2));
}

-- a place of a list that is as long as another
there_in : {A B : Type 0} (l : List A) (m : List B) (i : ℕ) (b : B) → length l ≡ length m → get_elem? m i ≡ some b → (a : A) × (get_elem? l i ≡ some a)
there_in [] [] i b e here = absurd (some-ne-none b (sym here))
there_in [] (y ∷ m) i b e here = absurd (omega (arith, e))
there_in (x ∷ l) [] i b e here = absurd (omega (arith, e))
there_in (x ∷ l) (y ∷ m) zero b e here = (x, refl)
there_in (x ∷ l) (y ∷ m) (suc i) b e here = there_in l m i b (omega (arith, e)) here

-- the key that a partition has
abbrev pub key_of : {S : Type 0} → Share S → Option Values
key_of share = share.key

-- two lists of which something is the same at each place
pub same_count : {A B : Type 0} (f : A → B) (l m : List A) → map f l ≡ map f m → length l ≡ length m
same_count f l m same = sym (length-map l f) ∙ ap length same ∙ length-map m f

pub same_there : {A B : Type 0} (f : A → B) (l m : List A) → map f l ≡ map f m → (i : ℕ) (y : A) → get_elem? m i ≡ some y → (x : A) × (get_elem? l i ≡ some x) × (f x ≡ f y)
same_there f l m same i y here =
    let x = there_in l m i y (same_count f l m same) here in
    (x.0, x.1, some-injective (f x.0) (f y) (sym (map_at f l i x.0 x.1) ∙ ap (λ n. get_elem? n i) same ∙ map_at f m i y here))

-- a task that is elsewhere does not rest, nor do the others
pub put_dealt : (reduces : List Place) (i : ℕ) (p : Place) → ((q : ℕ) → get_elem? reduces q ≡ some place.Rests → ⊥) → (p ≡ place.Rests → ⊥) → (q : ℕ) → get_elem? (set reduces i p) q ≡ some place.Rests → ⊥
put_dealt reduces i p none own q here = elim (same_or_not i q) [
  | inl same ↦ own (put_is reduces i p place.Rests (subst (λ (k : ℕ). get_elem? (set reduces i p) k ≡ some place.Rests) (sym same) here))
  | inr other ↦ none q (sym (put_else reduces i q p other) ∙ here)
]

-- what a task met that is elsewhere is a cause of a reduce task, as with the others
pub put_reduced : (reduces : List Place) (i : ℕ) (p : Place) → ((q : ℕ) (f : Cause) → get_elem? reduces q ≡ some (place.Back (Some f)) → IsReducedCause f) → ((f : Cause) → p ≡ place.Back (Some f) → IsReducedCause f)
    → (q : ℕ) (f : Cause) → get_elem? (set reduces i p) q ≡ some (place.Back (Some f)) → IsReducedCause f
put_reduced reduces i p none own q f here = elim (same_or_not i q) [
  | inl same ↦ own f (put_is reduces i p (place.Back (Some f)) (subst (λ (k : ℕ). get_elem? (set reduces i p) k ≡ some (place.Back (Some f))) (sym same) here))
  | inr other ↦ none q f (sym (put_else reduces i q p other) ∙ here)
]

-- what stops a desk whatever keys there are is no key's overflow
pub never_key : (reads owned : Type 0) (s : Setting) (cuts : Cuts) (e : ℕ) (f : Cause) → ((key : Option Values) → IsStopOf reads owned s cuts e key f) → f ≡ cause.KeyOverflow → ⊥
never_key reads owned s cuts e f right is = subst (IsStopOf reads owned s cuts e None) is (right None)

module _ {L S F : Type 0} (reads owned : Type 0) (lines : L → List Line) (available : L → ℕ) (went : L → L → Type 0) (opened : List L) (written : S → List ℕ) (sealed : F → List ℕ) (s : Setting) (cuts : Cuts) (found : List ℕ) where
  -- a map task is elsewhere
  pub holds_map : (c : Core) (stop : Option Cause) (i : ℕ) (p : Place) (x : PartLog L) (part_logs : List (PartLog L)) (shares : List (Share S)) (held : List (Option Held)) (out : Option (OutWork S F)) (times : List (Option ℤ)) (pending : Option (Pending F))
      → (stop ≡ None → c.front.stop ≡ None) → Holds reads owned lines available went opened written sealed s cuts found c part_logs shares held out times pending
      → ((part : Part) → slice_get (parts_in s) i ≡ Some part → IsPartLogOf reads lines available went opened i part (get_or found i 0) p x)
      → (c.front.stop ≡ None → is_open c ≡ true → (part : Part) → slice_get (parts_in s) i ≡ Some part
      → IsMapped reads s.job.bound c.front.committed part (get_or (cut_of (cuts c.front.committed)) i 0) (get_or (cut_of (cuts (c.front.committed + 1))) i 0) s.job.partitions c.reduces p x)
      → (stop ≡ Some cause.KeyOverflow → list_all is_here c.reduces ≡ true)
      → ((f : Cause) → stop ≡ Some f → IsStopOf reads owned s cuts c.front.committed (key_in shares) f)
      → Holds reads owned lines available went opened written sealed s cuts found (with_map c stop i p) (set part_logs i x) shares held out times pending
  holds_map c stop i p x part_logs shares held out times pending runs h part_log mapped still stops = record {
    parts = set_length part_logs i x ∙ h.parts;
    partitions = h.partitions;
    keeping = h.keeping;
    logs = λ j part at own there place_is own_is.
        put_both (λ j at own. (part : Part) → slice_get (parts_in s) j ≡ Some part → IsPartLogOf reads lines available went opened j part (get_or found j 0) at own) c.maps part_logs i p x
        (λ j at own place_is own_is part there. h.logs j part at own there place_is own_is) part_log j at own place_is own_is part there;
    reduced = h.reduced;
    dealt = h.dealt;
    keys = h.keys;
    still = still;
    kept = λ run. h.kept (runs run);
    seen_so_far = λ run. h.seen_so_far (runs run);
    epoch = λ run is_opened. (let e = h.epoch (runs run) is_opened in record {
      froms = e.froms;
      mapped = λ j part at own there place_is own_is.
          put_both (λ j at own. (part : Part) → slice_get (parts_in s) j ≡ Some part
          → IsMapped reads s.job.bound c.front.committed part (get_or (cut_of (cuts c.front.committed)) j 0) (get_or (cut_of (cuts (c.front.committed + 1))) j 0) s.job.partitions c.reduces at own) c.maps part_logs i p x
          (λ j at own place_is own_is part there. e.mapped j part at own there place_is own_is) (mapped (runs run) is_opened) j at own place_is own_is part there;
      shared = e.shared;
      last = e.last;
      outs = e.outs;
    });
    commit = λ run is_opened written_is. h.commit (runs run) is_opened written_is;
    stop = stops;
  }

  -- a reduce task is handed out, with its buckets
  pub holds_claimed : (c : Core) (i : ℕ) (x : Share S) (part_logs left : List (PartLog L)) (shares : List (Share S)) (held : List (Option Held)) (out : Option (OutWork S F)) (times : List (Option ℤ)) (pending : Option (Pending F))
      → Holds reads owned lines available went opened written sealed s cuts found c part_logs shares held out times pending → length left ≡ length part_logs → get_elem? c.reduces i ≡ some place.Waits
      → ((j : ℕ) (old new : PartLog L) → get_elem? part_logs j ≡ some old → get_elem? left j ≡ some new → IsTaken i old new) → c.front.stop ≡ None → x.key ≡ None
      → Holds reads owned lines available went opened written sealed s cuts found (with_reduce c c.front.stop i place.Away) left (set shares i x) (set held i None) out times pending
  holds_claimed c i x part_logs left shares held out times pending h count waits_there taken runs no_key = record {
    parts = count ∙ h.parts;
    partitions = set_length shares i x ∙ h.partitions;
    keeping = set_length held i None ∙ h.keeping;
    logs = λ j part at own there place_is own_is. (let old = there_in part_logs left j own (sym count) own_is in
        part_log_less reads lines available went opened j part (get_or found j 0) i at old.0 own (taken j old.0 own old.1 own_is) (h.logs j part at old.0 there place_is old.1));
    reduced = put_reduced c.reduces i place.Away h.reduced (λ f b. absurd (away_not_fault f b));
    dealt = λ is_opened. put_dealt c.reduces i place.Away (h.dealt is_opened) (λ e. cc);
    keys = λ is_opened. put_both (λ p at share. IsKeyOf owned s cuts c.front.committed p at share.key) c.reduces shares i place.Away x (h.keys is_opened) no_key;
    still = λ stopped. absurd (true≢false (sym (sym (ap is_some runs) ∙ ap is_some stopped)));
    kept = λ run. put_both (λ p at own. IsHeldAt owned s cuts (is_open c) c.front.committed p at own) c.reduces held i place.Away None (h.kept run) (λ here. absurd (here tt));
    seen_so_far = h.seen_so_far;
    epoch = λ run is_opened. (let e = h.epoch run is_opened in record {
      froms = e.froms;
      mapped = λ j part at own there place_is own_is. (let old = there_in part_logs left j own (sym count) own_is in
          mapped_less reads s.job.bound c.front.committed part _ _ s.job.partitions c.reduces i at old.0 own (taken j old.0 own old.1 own_is) (e.mapped j part at old.0 there place_is old.1));
      shared = λ waits. put_both (λ p at share. IsShare owned written s cuts c.front.committed p at share) c.reduces shares i place.Away x (λ j at share. e.shared waits j at share)
          (record { there = λ r. absurd (away_not_rests r); empty = λ w. absurd (away_not_waits w); stage = λ w. absurd (away_not_waits w); shown = λ b. absurd (away_not_back b); printable = λ b. absurd (away_not_back b) });
      last = elim e.last [ inl w ↦ inl w | inr fine ↦ absurd (true≢false (sym (all_fine is_fine c.reduces i place.Waits fine waits_there))) ];
      outs = e.outs;
    });
    commit = h.commit;
    stop = λ f stopped. absurd (true≢false (sym (sym (ap is_some runs) ∙ ap is_some stopped)));
  }
    where
      away_not_back : place.Away ≡ place.Back None → ⊥
      away_not_back e = cc

      away_not_rests : place.Away ≡ place.Rests → ⊥
      away_not_rests e = cc

      away_not_fault : (f : Cause) → place.Away ≡ place.Back (Some f) → ⊥
      away_not_fault f e = cc

  waits_again : (reduces : List Place) (i q : ℕ) (f : Option Cause) → get_elem? (set reduces i (place.Back f)) q ≡ some place.Waits → get_elem? reduces q ≡ some place.Waits
  waits_again reduces i q f waits = elim (same_or_not i q) [
    | inl same ↦ absurd (back_not_waits (put_is reduces i (place.Back f) place.Waits (subst (λ (k : ℕ). get_elem? (set reduces i (place.Back f)) k ≡ some place.Waits) (sym same) waits)))
    | inr other ↦ sym (put_else reduces i q (place.Back f) other) ∙ waits
  ]
    where
      back_not_waits : place.Back f ≡ place.Waits → ⊥
      back_not_waits e = cc

  -- a reduce task is back
  pub holds_reduced : (c : Core) (stop f : Option Cause) (i : ℕ) (x : Share S) (own : Option Held) (part_logs : List (PartLog L)) (shares : List (Share S)) (held : List (Option Held)) (out : Option (OutWork S F)) (times : List (Option ℤ)) (pending : Option (Pending F))
      → (stop ≡ None → c.front.stop ≡ None) → Holds reads owned lines available went opened written sealed s cuts found c part_logs shares held out times pending
      → get_elem? c.reduces i ≡ some place.Away → (c.front.stop ≡ None → is_open c ≡ true → IsShare owned written s cuts c.front.committed i (place.Back f) x)
      → (c.front.stop ≡ None → i < length held → IsHeldAt owned s cuts (is_open c) c.front.committed i (place.Back f) own)
      → (is_open c ≡ true → IsKeyOf owned s cuts c.front.committed i (place.Back f) x.key)
      → ((g : Cause) → f ≡ Some g → IsReducedCause g)
      → (stop ≡ Some cause.KeyOverflow → list_all is_here (set c.reduces i (place.Back f)) ≡ true)
      → ((g : Cause) → stop ≡ Some g → IsStopOf reads owned s cuts c.front.committed (key_in (set shares i x)) g)
      → Holds reads owned lines available went opened written sealed s cuts found (with_reduce c stop i (place.Back f)) part_logs (set shares i x) (set held i own) out times pending
  holds_reduced c stop f i x own part_logs shares held out times pending runs h away share mine key no_line still stops = record {
    parts = h.parts;
    partitions = set_length shares i x ∙ h.partitions;
    keeping = set_length held i own ∙ h.keeping;
    logs = h.logs;
    reduced = put_reduced c.reduces i (place.Back f) h.reduced (λ g b. no_line g (ap fault_at b));
    dealt = λ is_opened. put_dealt c.reduces i (place.Back f) (h.dealt is_opened) (λ e. cc);
    keys = λ is_opened. put_both (λ p at share. IsKeyOf owned s cuts c.front.committed p at share.key) c.reduces shares i (place.Back f) x (h.keys is_opened) (key is_opened);
    still = still;
    kept = λ run q at kept here there. put_both (λ q at kept. q < length held → IsHeldAt owned s cuts (is_open c) c.front.committed q at kept) c.reduces held i (place.Back f) own (λ q at kept here there less. h.kept (runs run) q at kept here there) (mine (runs run)) q at kept here there
        (let less = at_length (set held i own) q kept there in let count = set_length held i own in omega (arith, less, count));
    seen_so_far = λ run. h.seen_so_far (runs run);
    epoch = λ run is_opened. (let e = h.epoch (runs run) is_opened in record {
      froms = e.froms;
      mapped = λ j part at own there place_is own_is. (let m = e.mapped j part at own there place_is own_is in record {
        begins = m.begins;
        quiet = m.quiet;
        none = m.none;
        brought = λ back. (let b = m.brought back in (
          b.0,
          b.1,
          record {
            count = b.2.count;
            years = b.2.years;
            fit = b.2.fit;
            time = b.2.time;
            good = b.2.good;
            rows = λ t q waits. b.2.rows t q (waits_again c.reduces i q f waits);
          },
        ));
        fault = m.fault;
      });
      shared = λ waits. put_both (λ p at share. IsShare owned written s cuts c.front.committed p at share) c.reduces shares i (place.Back f) x (λ j at share. e.shared waits j at share) (share (runs run) is_opened);
      last = elim e.last [ inl w ↦ inl w | inr fine ↦ absurd (true≢false (sym (all_fine is_fine c.reduces i place.Away fine away))) ];
      outs = e.outs;
    });
    commit = λ run is_opened written_is. h.commit (runs run) is_opened written_is;
    stop = stops;
  }

  -- the out task is elsewhere, and not at the desk
  pub holds_out : (c : Core) (stop : Option Cause) (p : Place) (part_logs : List (PartLog L)) (shares more : List (Share S)) (held : List (Option Held)) (out left : Option (OutWork S F)) (times : List (Option ℤ)) (pending : Option (Pending F))
      → (stop ≡ None → c.front.stop ≡ None) → Holds reads owned lines available went opened written sealed s cuts found c part_logs shares held out times pending → (p ≡ place.Waits → ⊥)
      → map key_of more ≡ map key_of shares → (c.front.stop ≡ None → is_open c ≡ true → list_all is_fine c.reduces ≡ true)
      → (stop ≡ Some cause.KeyOverflow → list_all is_here c.reduces ≡ true)
      → ((g : Cause) → stop ≡ Some g → IsStopOf reads owned s cuts c.front.committed (key_in shares) g)
      → Holds reads owned lines available went opened written sealed s cuts found (with_out c stop p) part_logs more held left times pending
  holds_out c stop p part_logs shares more held out left times pending runs h gone same fine still stops = record {
    parts = h.parts;
    partitions = same_count key_of more shares same ∙ h.partitions;
    keeping = h.keeping;
    logs = h.logs;
    reduced = h.reduced;
    dealt = h.dealt;
    keys = λ is_opened q at share place_is share_is. (let old = same_there key_of shares more (sym same) q share share_is in
        subst (IsKeyOf owned s cuts c.front.committed q at) old.2 (h.keys is_opened q at old.0 place_is old.1));
    still = still;
    kept = λ run. h.kept (runs run);
    seen_so_far = λ run. h.seen_so_far (runs run);
    epoch = λ run is_opened. (let e = h.epoch (runs run) is_opened in record {
      froms = e.froms;
      mapped = e.mapped;
      shared = λ waits. absurd (gone (put_is c.outs 0 p place.Waits waits));
      last = inr (fine (runs run) is_opened);
      outs = λ waits. absurd (gone (put_is c.outs 0 p place.Waits waits));
    });
    commit = λ run is_opened written_is. h.commit (runs run) is_opened written_is;
    stop = λ g stopped. subst (λ (keys : List (Option Values)). IsStopOf reads owned s cuts c.front.committed (least_key (filter_map (λ key. key) keys)) g) (sym same) (stops g stopped);
  }

  -- A desk that stops, for a cause that may stop it whatever keys there are: of its tasks nothing more is said.
  pub holds_stopped : (c : Core) (f : Cause) (part_logs : List (PartLog L)) (shares : List (Share S)) (held : List (Option Held)) (out : Option (OutWork S F)) (times : List (Option ℤ)) (pending : Option (Pending F))
      → length part_logs ≡ length (parts_in s) → length shares ≡ s.job.partitions → length held ≡ keeping_in s
      → ((i : ℕ) (part : Part) (at : Place) (part_log : PartLog L) → slice_get (parts_in s) i ≡ Some part → get_elem? c.maps i ≡ some at → get_elem? part_logs i ≡ some part_log → IsPartLogOf reads lines available went opened i part (get_or found i 0) at part_log)
      → (is_open c ≡ true → (p : ℕ) → get_elem? c.reduces p ≡ some place.Rests → ⊥)
      → ((p : ℕ) (g : Cause) → get_elem? c.reduces p ≡ some (place.Back (Some g)) → IsReducedCause g)
      → (is_open c ≡ true → (p : ℕ) (at : Place) (share : Share S) → get_elem? c.reduces p ≡ some at → get_elem? shares p ≡ some share → IsKeyOf owned s cuts c.front.committed p at share.key)
      → ((key : Option Values) → IsStopOf reads owned s cuts c.front.committed key f)
      → Holds reads owned lines available went opened written sealed s cuts found (with_front c (stopped_front c.front (Some f))) part_logs shares held out times pending
  holds_stopped c f part_logs shares held out times pending parts partitions keeping logs dealt reduced keys right = record {
    parts = parts;
    partitions = partitions;
    keeping = keeping;
    logs = logs;
    dealt = dealt;
    reduced = reduced;
    keys = keys;
    still = λ stopped. absurd (never_key reads owned s cuts c.front.committed f right (same_Some f cause.KeyOverflow stopped));
    kept = λ run. absurd (true≢false (ap is_some run));
    seen_so_far = λ run. absurd (true≢false (ap is_some run));
    epoch = λ run is_opened. absurd (true≢false (ap is_some run));
    commit = λ run is_opened written_is. absurd (true≢false (ap is_some run));
    stop = λ g stopped. subst (IsStopOf reads owned s cuts c.front.committed (key_in shares)) (same_Some f g stopped) (right (key_in shares));
  }

  -- A desk that runs on and moves no task: names are synced, or the rows of its epoch are published.
  pub holds_on : (c : Core) (fresh settled is_written : Bool) (part_logs : List (PartLog L)) (shares : List (Share S)) (held : List (Option Held)) (out : Option (OutWork S F)) (times : List (Option ℤ)) (old pending : Option (Pending F))
      → Holds reads owned lines available went opened written sealed s cuts found c part_logs shares held out times old → c.front.stop ≡ None
      → (is_open c ≡ true → is_written ≡ true → (p : Pending F) × (pending ≡ Some p) × IsPending owned sealed s cuts c.front.committed p)
      → Holds reads owned lines available went opened written sealed s cuts found (with_front c (record { planned = c.front.planned; committed = c.front.committed; fresh = fresh; settled = settled; written = is_written; has_lines = c.front.has_lines; due = c.front.due; stop = None })) part_logs shares held out times pending
  holds_on c fresh settled is_written part_logs shares held out times old pending h runs commit = record {
    parts = h.parts;
    partitions = h.partitions;
    keeping = h.keeping;
    logs = h.logs;
    reduced = h.reduced;
    dealt = h.dealt;
    keys = h.keys;
    still = λ stopped. absurd (true≢false (sym (ap is_some stopped)));
    kept = λ run. h.kept runs;
    seen_so_far = λ run. h.seen_so_far runs;
    epoch = λ run is_opened. (let e = h.epoch runs is_opened in record { froms = e.froms; mapped = e.mapped; shared = e.shared; last = e.last; outs = e.outs });
    commit = λ run is_opened written_is. commit is_opened written_is;
    stop = λ f stopped. absurd (true≢false (sym (ap is_some stopped)));
  }
