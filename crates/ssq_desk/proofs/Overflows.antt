-- The least key on which an epoch overflows, by the keys of which its reduce tasks told.
use Rattle.std.proofs.Common.{◌≡◌, ◌≤◌, ◌+◌, ℕ, zero, suc, [], ◌∷◌, true, true≢false, List, length, get_or, Option, Some, None, refl, sym, ap, ◌∙◌, subst, arith}
use Rattle.std.specs.Prelude.{filter_map, is_some, IsSomeAnd, map, option_map, slice_get}
use Rattle.std.specs.List.{cons_option, list_all, range_with_len}
use mathlib.Core.Option.{some, some-injective, some-ne-none}
use lib.ListN.{get_elem?}
use Rattle.ssq_shape.specs.declared.bound.Bound.{Bound}
use Rattle.ssq_meaning.specs.Cut.{Cut, of_parts}
use Rattle.ssq_meaning.specs.Epochs.{fault, fault_between, key_fault, of_key, of_line}
use Rattle.ssq_meaning.specs.Feeding.{fault_in, or_else}
use Rattle.ssq_meaning.specs.Group.{least_key, lesser_key}
use Rattle.ssq_meaning.specs.Meaning.{Values}
use Rattle.ssq_meaning.specs.Parts.{Part}
use Rattle.ssq_core.specs.Course.{Cuts}
use Rattle.ssq_course.specs.Setting.{Setting, cut_of, cuts_of, parts_in}
use Rattle.ssq_board.specs.declared.front.Cause.{Cause}
use Rattle.ssq_board.specs.declared.front.Cause.TheVariants as cause
use Rattle.ssq_board.specs.declared.front.Place.{Place}
use Rattle.ssq_board.specs.declared.front.Place.TheVariants as place
use Rattle.ssq_board.specs.Core.{is_fine, is_here, is_of_epoch}
use Rattle.ssq_board.specs.Laws.{IsCauseOf}
use Rattle.ssq_board.proofs.Lists.{all_fine, at_length, there_at}
use Rattle.ssq_terms.specs.Partitions.{KeysAreLeast, overflow_of}
use Rattle.ssq_terms.proofs.Showing.{are_quiet}
use Rattle.ssq_desk.specs.declared.desk.Share.{Share}
use Rattle.ssq_desk.specs.declared.desk.PartLog.{PartLog}
use Rattle.ssq_desk.specs.Contents.{IsKeyOf, IsMapped, IsReducedCause, IsStopOf, key_in}
use Rattle.ssq_desk.proofs.Reducing.{reduced_cases}
use Rattle.ssq_desk.proofs.Beginnings.{slice_below}

-- ---- lines without a fault

-- a map task that is back without a fault, or was not there, has met none
good_part : {L : Type 0} (tells : Type 0) (query : Bound) (epoch : ℕ) (part : Part) (from to partitions : ℕ) (reduces : List Place) (own : Place) (part_log : PartLog L) → tells → is_fine own ≡ true → IsMapped tells query epoch part from to partitions reduces own part_log → fault_in query part from to ≡ None
good_part tells query epoch part from to partitions reduces place.Rests part_log t fine m = (are_quiet query part from to (m.quiet refl)).fault
good_part tells query epoch part from to partitions reduces (place.Back None) part_log t fine m = (m.brought refl).2.good t
good_part tells query epoch part from to partitions reduces (place.Back (Some f)) part_log t fine m = absurd (true≢false (sym fine))
good_part tells query epoch part from to partitions reduces place.Waits part_log t fine m = absurd (true≢false (sym fine))
good_part tells query epoch part from to partitions reduces place.Away part_log t fine m = absurd (true≢false (sym fine))

-- where no part has one between two cuts, there is none
good_between : (query : Bound) (parts : List Part) (froms tos : Cut) → ((i : ℕ) (part : Part) → slice_get parts i ≡ Some part → fault_in query part (get_or froms i 0) (get_or tos i 0) ≡ None) → fault_between query parts froms tos ≡ None
unfolding of_parts
good_between query [] froms tos good = refl
good_between query (part ∷ parts) [] tos good = refl
good_between query (part ∷ parts) (from ∷ froms) [] good = refl
good_between query (part ∷ parts) (from ∷ froms) (to ∷ tos) good =
    ap (λ o. or_else o (fault_between query parts froms tos)) (good 0 part refl) ∙ good_between query parts froms tos (λ i q here. good (suc i) q here)

-- all map tasks of an epoch are done
pub lines_good : {L : Type 0} (tells : Type 0) (s : Setting) (cuts : Cuts) (e : ℕ) (reduces places : List Place) (part_logs : List (PartLog L))
    → ((i : ℕ) (part : Part) (own : Place) (part_log : PartLog L) → slice_get (parts_in s) i ≡ Some part → get_elem? places i ≡ some own → get_elem? part_logs i ≡ some part_log
    → IsMapped tells s.job.bound e part (get_or (cut_of (cuts e)) i 0) (get_or (cut_of (cuts (e + 1))) i 0) s.job.partitions reduces own part_log)
    → length places ≡ length (parts_in s) → length part_logs ≡ length (parts_in s) → list_all is_fine places ≡ true → tells → fault_between s.job.bound (parts_in s) (cut_of (cuts e)) (cut_of (cuts (e + 1))) ≡ None
lines_good tells s cuts e reduces places part_logs mapped each_place each_part_log fine t =
    good_between s.job.bound (parts_in s) (cut_of (cuts e)) (cut_of (cuts (e + 1)))
    (λ i part here. (
    let less = slice_below (parts_in s) i part here in
    let own = there_at places i (omega (arith, less, each_place)) in
    let part_log = there_at part_logs i (omega (arith, less, each_part_log)) in
    good_part tells s.job.bound e part _ _ s.job.partitions reduces own.0 part_log.0 t (all_fine is_fine places i own.0 fine own.1) (mapped i part own.0 part_log.0 here own.1 part_log.1)))

-- ---- keys

-- where a partition told of one there is a least
some_least : (keys : List (Option Values)) (i : ℕ) (own : Values) → get_elem? keys i ≡ some (Some own) → (least : Values) × (least_key (filter_map (λ key. key) keys) ≡ Some least)
some_least [] i own here = absurd (some-ne-none (Some own) (sym here))
some_least (None ∷ keys) zero own here = absurd (true≢false (sym (ap is_some (some-injective None (Some own) here))))
some_least (None ∷ keys) (suc i) own here = some_least keys i own here
some_least (Some key ∷ keys) i own here = (lesser_key key (least_key (filter_map (λ key. key) keys)), refl)

key_there : {S : Type 0} (shares : List (Share S)) (i : ℕ) (share : Share S) → get_elem? shares i ≡ some share → get_elem? (map (λ share. share.key) shares) i ≡ some share.key
key_there [] i share here = absurd (some-ne-none share (sym here))
key_there (x ∷ shares) zero share here = ap (λ x. some x.key) (some-injective x share here)
key_there (x ∷ shares) (suc i) share here = key_there shares i share here

-- keys that are each its partition's
keys_are : {S : Type 0} (f : ℕ → Option Values) (shares : List (Share S)) (from : ℕ) → ((p : ℕ) (share : Share S) → get_elem? shares p ≡ some share → share.key ≡ f (from + p))
    → filter_map (λ key. key) (map (λ share. share.key) shares) ≡ filter_map f (range_with_len from (length shares))
keys_are f [] from each = refl
keys_are f (share ∷ shares) from each =
    let own : share.key ≡ f from = each 0 share refl ∙ ap f (omega arith) in
    let rest = keys_are f shares (from + 1) (λ p x here. each (suc p) x here ∙ ap f (omega arith)) in
    λ i. cons_option (own i) (rest i)

-- of the causes of a reduce task the epoch's own is a key
own_key : (f : Cause) → IsReducedCause f → is_of_epoch f ≡ true → f ≡ cause.KeyOverflow
own_key = reduced_cases (λ f. is_of_epoch f ≡ true → f ≡ cause.KeyOverflow) (λ own. absurd (true≢false (sym own))) (λ own. absurd (true≢false (sym own))) (λ own. refl)

module _ (owned : Type 0) (s : Setting) (cuts : Cuts) (e p : ℕ) where
  overflow_is : (key : Option Values) → owned → IsKeyOf owned s cuts e p (place.Back (Some cause.KeyOverflow)) key → key ≡ overflow_of s cuts e p
  overflow_is None t is = absurd is
  overflow_is (Some own) t is = sym (is t)

  -- the key of which a partition told is the least of it that overflows
  key_is : (own : Place) (key : Option Values) → owned → is_here own ≡ true → (own ≡ place.Rests → ⊥) → ((f : Cause) → own ≡ place.Back (Some f) → f ≡ cause.KeyOverflow) → IsKeyOf owned s cuts e p own key → key ≡ overflow_of s cuts e p
  key_is place.Rests key t here there met is = absurd (there refl)
  key_is place.Waits key t here there met is = absurd (true≢false (sym here))
  key_is place.Away key t here there met is = absurd (true≢false (sym here))
  key_is (place.Back None) key t here there met is = is.0 ∙ sym (is.1 t)
  key_is (place.Back (Some f)) key t here there met is = overflow_is key t (subst (λ (f : Cause). IsKeyOf owned s cuts e p (place.Back (Some f)) key) (met f refl) is)

has_key : (owned : Type 0) (s : Setting) (cuts : Cuts) (e p : ℕ) (key : Option Values) → IsKeyOf owned s cuts e p (place.Back (Some cause.KeyOverflow)) key → (own : Values) × (key ≡ Some own)
has_key owned s cuts e p None is = absurd is
has_key owned s cuts e p (Some own) is = (own, refl)

module _ {S : Type 0} (owned : Type 0) (s : Setting) (cuts : Cuts) (e : ℕ) (places : List Place) (shares : List (Share S)) (each_place : length places ≡ s.job.partitions) (each_share : length shares ≡ s.job.partitions)
    (dealt : (p : ℕ) → get_elem? places p ≡ some place.Rests → ⊥) (met : (p : ℕ) (f : Cause) → get_elem? places p ≡ some (place.Back (Some f)) → IsReducedCause f)
    (keys : (p : ℕ) (own : Place) (share : Share S) → get_elem? places p ≡ some own → get_elem? shares p ≡ some share → IsKeyOf owned s cuts e p own share.key) (c : IsCauseOf places cause.KeyOverflow) where
  each_key : owned → (p : ℕ) (share : Share S) → get_elem? shares p ≡ some share → share.key ≡ overflow_of s cuts e (0 + p)
  each_key t p share here =
      let less = at_length shares p share here in
      let own = there_at places p (omega (arith, less, each_place, each_share)) in
      let all = c.first refl in
      let number : p ≡ 0 + p = omega arith in
      key_is owned s cuts e p own.0 share.key t (all_fine is_here places p own.0 all.0 own.1) (λ rests. dealt p (own.1 ∙ ap some rests))
      (λ f back. own_key f (met p f (own.1 ∙ ap some back)) (all.1 p f (own.1 ∙ ap some back)).0) (keys p own.0 share own.1 here)
      ∙ ap (overflow_of s cuts e) number

  -- A key for which a desk stops is the epoch's fault: the least of all that overflow, where no line has a fault.
  pub key_stops : (reads : Type 0) → KeysAreLeast → 1 ≤ s.job.partitions → (owned → fault_between s.job.bound (parts_in s) (cut_of (cuts e)) (cut_of (cuts (e + 1))) ≡ None) → IsStopOf reads owned s cuts e (key_in shares) cause.KeyOverflow
  key_stops reads leasts some_partitions lines =
      let less = at_length places c.place_of (place.Back (Some cause.KeyOverflow)) c.here in
      let share = there_at shares c.place_of (omega (arith, less, each_place, each_share)) in
      let own = has_key owned s cuts e c.place_of share.0.key (keys c.place_of (place.Back (Some cause.KeyOverflow)) share.0 c.here share.1) in
      let least = some_least (map (λ (share : Share S). share.key) shares) c.place_of own.0 (key_there shares c.place_of share.0 share.1 ∙ ap some own.1) in
      let is : owned → key_fault s.job.bound (parts_in s) (cuts_of cuts) e ≡ Some least.0 = λ t.
      leasts s cuts e some_partitions ∙ ap (λ n. least_key (filter_map (overflow_of s cuts e) (range_with_len 0 n))) (sym each_share) ∙ sym (ap least_key (keys_are (overflow_of s cuts e) shares 0 (each_key t))) ∙ least.1 in
      subst (λ (key : Option Values). IsSomeAnd key (λ own. owned → fault s.job.bound (parts_in s) (cuts_of cuts) e ≡ Some (of_key own))) (sym least.1)
      (λ t. (λ i. or_else (option_map of_line (lines t i)) (option_map of_key (is t i))))
