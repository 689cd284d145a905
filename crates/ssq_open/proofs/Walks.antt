-- Walks over the ends of parts.
use Rattle.std.proofs.Common.{◌≡◌, ◌<◌, ◌≤◌, ◌+◌, ◌∙◌, ◌++◌, ◌∷◌, [], ◌==◌, ◌&&◌, ℕ, Bool, true, false, List, length, drop, get_or, add-one, drop-cons, append_assoc, None, refl, sym, arith}
use Rattle.std.specs.Prelude.{nat_lt}
use Rattle.std.specs.List.{list_all, zip}
use Rattle.std.proofs.lemmas.List.{drop_all, append-nil}
use Rattle.std.proofs.Common.{eq-eqb}
use Rattle.std.proofs.lemmas.Bool.Decides.{nat_tests}
use Rattle.ssq_plans.specs.declared.part.PartEnd.{PartEnd}
use Rattle.ssq_open.specs.Epochs.{start_of, starts, keeps_up, follows}
use Rattle.ssq_plans.specs.declared.seen.SeenBy.{SeenBy}
use Rattle.ssq_open.specs.declared.streams.Watermarked.{Watermarked}
use Rattle.ssq_open.specs.Watermarks.{is_line_of, has_lines}
use Rattle.ssq_open.specs.Opening.{is_short, first_short}

-- a value for places that are not there
abbrev pub nowhere : PartEnd
nowhere = record { stream = 0; part = 0; end = 0 }

pub starts-next : (out : List PartEnd) (at : ℕ) (found : List PartEnd) → at < length found → (out ++ start_of (get_or found at nowhere) ∷ []) ++ starts (drop (at + 1) found) ≡ out ++ starts (drop at found)
starts-next out at found less = rw (add-one, drop-cons found at nowhere) (append_assoc out _ _)

pub starts-end : (out : List PartEnd) (at : ℕ) (found : List PartEnd) → length found ≤ at → out ++ starts (drop at found) ≡ out
starts-end out at found all = rw (drop_all at found all) (append-nil out)

-- whether the rest keeps up
abbrev pub keep_up_from : ℕ → List PartEnd → List PartEnd → Bool
keep_up_from at before ends = list_all keeps_up (zip (drop at before) (drop at ends))

pub keep_up-next : (at : ℕ) (before ends : List PartEnd) → at < length before → length before ≡ length ends
    → keep_up_from at before ends ≡ (keeps_up (get_or before at nowhere, get_or ends at nowhere) && keep_up_from (at + 1) before ends)
keep_up-next at before ends less same =
    let there : at < length ends = omega arith in
    rw (add-one, drop-cons before at nowhere, drop-cons ends at nowhere) refl

pub keep_up-end : (at : ℕ) (before ends : List PartEnd) → length before ≤ at → keep_up_from at before ends ≡ true
keep_up-end at before ends all = rw (drop_all at before all) refl

-- the same parts follow where each keeps up
pub follows-from : (before ends : List PartEnd) → length before ≡ length ends → follows before ends ≡ keep_up_from 0 before ends
follows-from before ends same = let is : (length before == length ends) ≡ true = eq-eqb (length before) (length ends) same in rw is refl

-- no part is short where nothing is found of it
pub short-next : (at : ℕ) (ends found : List PartEnd) → at < length ends → at < length found → is_short (get_or ends at nowhere, get_or found at nowhere) ≡ false
    → first_short (drop at ends) (drop at found) ≡ first_short (drop (at + 1) ends) (drop (at + 1) found)
short-next at ends found less there long = rw (add-one, drop-cons ends at nowhere, drop-cons found at nowhere) (rw long refl)

pub short-past : (at : ℕ) (ends found : List PartEnd) → length found ≤ at → first_short (drop at ends) (drop at found) ≡ first_short (drop (at + 1) ends) (drop (at + 1) found)
short-past at ends found past = let here = none_past at ends found past in let next = none_past (at + 1) ends found (omega (arith, past)) in here ∙ sym next
  where
    no_pairs : (xs : List PartEnd) → first_short xs [] ≡ None
    no_pairs [] = refl
    no_pairs (x ∷ xs) = refl

    none_past : (at : ℕ) (ends found : List PartEnd) → length found ≤ at → first_short (drop at ends) (drop at found) ≡ None
    none_past at ends found past = rw (drop_all at found past) (no_pairs (drop at ends))

-- and of no lines none is short
pub short-none : (found : List PartEnd) → first_short (starts found) found ≡ None
short-none [] = refl
short-none (part ∷ rest) = let long : nat_lt part.end 0 ≡ false = not_below part.end in rw long (short-none rest)
  where
    not_below : (n : ℕ) → nat_lt n 0 ≡ false
    not_below n = grind (arith, nat_tests)

pub long_enough : (end found : PartEnd) → end.end ≤ found.end → is_short (end, found) ≡ false
long_enough end found enough = grind (arith, nat_tests)

-- whether the rest are lines of their streams
abbrev pub lines_from : ℕ → List Watermarked → List SeenBy → Bool
lines_from at streams seen = list_all is_line_of (zip (drop at streams) (drop at seen))

pub lines-next : (at : ℕ) (streams : List Watermarked) (seen : List SeenBy) (w : Watermarked) (s : SeenBy) → at < length streams → length streams ≡ length seen
    → lines_from at streams seen ≡ (is_line_of (get_or streams at w, get_or seen at s) && lines_from (at + 1) streams seen)
lines-next at streams seen w s less same =
    let there : at < length seen = omega arith in
    rw (add-one, drop-cons streams at w, drop-cons seen at s) refl

pub lines-end : (at : ℕ) (streams : List Watermarked) (seen : List SeenBy) → length streams ≤ at → lines_from at streams seen ≡ true
lines-end at streams seen all = rw (drop_all at streams all) refl

-- they are lines where each is one of its stream
pub lines-all : (streams : List Watermarked) (seen : List SeenBy) → length streams ≡ length seen → has_lines streams seen ≡ lines_from 0 streams seen
lines-all streams seen same = let is : (length streams == length seen) ≡ true = eq-eqb (length streams) (length seen) same in rw is refl
