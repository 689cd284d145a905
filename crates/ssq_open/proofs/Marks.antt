-- The watermark, stream by stream.
use Rattle.std.proofs.Common.{◌≡◌, ◌<◌, ◌≤◌, ◌+◌, ◌∙◌, ◌∷◌, [], ℕ, ℤ, true, false, true≢false, List, length, map, drop, get_or, add-one, drop-cons, ap, Option, Some, None, refl, sym, arith}
use Rattle.std.specs.Prelude.{is_some, if◌then◌else◌}
use Rattle.std.specs.Int.{int_min}
use Rattle.std.specs.List.{zip}
use Rattle.std.proofs.lemmas.Int.{ints}
use Rattle.std.proofs.lemmas.List.{drop_all}
use Rattle.ssq_meaning.specs.Times.{earlier, least}
use Rattle.ssq_plans.specs.declared.seen.SeenBy.{SeenBy}
use Rattle.ssq_open.specs.declared.streams.Watermarked.{Watermarked}
use Rattle.ssq_open.specs.Watermarks.{mark_of}

-- the least of these marks and of the least before them, where there were any
abbrev pub least_after : Option ℤ → List (Option ℤ) → Option ℤ
least_after None marks = least marks
least_after (Some a) marks = least (Some a ∷ marks)

-- what the streams from a place on say
abbrev pub marks_from : ℕ → List Watermarked → List SeenBy → List (Option ℤ)
marks_from at streams seen = map mark_of (zip (drop at streams) (drop at seen))

-- there is no least where one says none
none_more : (before : Option ℤ) (marks : List (Option ℤ)) → least_after before (None ∷ marks) ≡ None
none_more None [] = refl
none_more None (m ∷ ms) = refl
none_more (Some a) [] = refl
none_more (Some a) (m ∷ ms) = refl

-- two that come first are as the lesser of them
two_first : (a b : ℤ) (marks : List (Option ℤ)) → least (Some a ∷ Some b ∷ marks) ≡ least (Some (int_min a b) ∷ marks)
two_first a b [] = refl
two_first a b (m ∷ ms) = by_rest (least (m ∷ ms))
  where
    by_rest : (rest : Option ℤ) → earlier (Some a) (earlier (Some b) rest) ≡ earlier (Some (int_min a b)) rest
    by_rest None = refl
    by_rest (Some t) = ap Some (let same : int_min a (int_min b t) ≡ int_min (int_min a b) t = grind (arith, ints) in same)

one_more : (before mark : Option ℤ) (marks : List (Option ℤ)) → is_some mark ≡ true → least_after before (mark ∷ marks) ≡ least_after (if is_some before then earlier before mark else mark) marks
one_more before None marks some = absurd (true≢false (sym some))
one_more None (Some b) marks some = refl
one_more (Some a) (Some b) marks some = two_first a b marks

-- what the next stream says comes first
marks-next : (at : ℕ) (mark : Option ℤ) (streams : List Watermarked) (seen : List SeenBy) (w : Watermarked) (s : SeenBy) → at < length streams → length streams ≡ length seen → s ≡ get_or seen at s
    → mark ≡ mark_of (get_or streams at w, s) → marks_from at streams seen ≡ mark ∷ marks_from (at + 1) streams seen
marks-next at mark streams seen w s less same is has =
    let there : at < length seen = omega (arith, less, same) in
    let told : mark ≡ mark_of (get_or streams at w, get_or seen at s) = has ∙ ap (λ (x : SeenBy). mark_of (get_or streams at w, x)) is in
    rw (told, add-one, drop-cons streams at w, drop-cons seen at s) refl

-- at the end
pub least-end : (at : ℕ) (before : Option ℤ) (streams : List Watermarked) (seen : List SeenBy) → length streams ≤ at → least_after before (marks_from at streams seen) ≡ before
least-end at before streams seen all = rw (drop_all at streams all) (none_left before)
  where
    none_left : (before : Option ℤ) → least_after before [] ≡ before
    none_left None = refl
    none_left (Some a) = refl

-- a stream that says none
pub least-none : (at : ℕ) (before mark : Option ℤ) (streams : List Watermarked) (seen : List SeenBy) (w : Watermarked) (s : SeenBy) → at < length streams → length streams ≡ length seen → s ≡ get_or seen at s
    → mark ≡ mark_of (get_or streams at w, s) → is_some mark ≡ false → least_after before (marks_from at streams seen) ≡ None
least-none at before mark streams seen w s less same is has none =
    ap (least_after before) (marks-next at mark streams seen w s less same is has) ∙ by_mark mark none
  where
    by_mark : (mark : Option ℤ) → is_some mark ≡ false → least_after before (mark ∷ marks_from (at + 1) streams seen) ≡ None
    by_mark None none = none_more before (marks_from (at + 1) streams seen)
    by_mark (Some b) none = absurd (true≢false none)

-- and one that says a time
pub least-some : (at : ℕ) (before mark : Option ℤ) (streams : List Watermarked) (seen : List SeenBy) (w : Watermarked) (s : SeenBy) → at < length streams → length streams ≡ length seen → s ≡ get_or seen at s
    → mark ≡ mark_of (get_or streams at w, s) → is_some mark ≡ true
    → least_after before (marks_from at streams seen) ≡ least_after (if is_some before then earlier before mark else mark) (marks_from (at + 1) streams seen)
least-some at before mark streams seen w s less same is has some =
    ap (least_after before) (marks-next at mark streams seen w s less same is has) ∙ one_more before mark (marks_from (at + 1) streams seen) some
