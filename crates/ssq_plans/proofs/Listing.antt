-- Lines that stand one for each item.
use Rattle.std.proofs.Common.{◌≡◌, ◌≢◌, ℕ, ◌+◌, ◌<◌, ◌≤◌, arith, ℤ, Option, List, [], ◌∷◌, ◌++◌, length, drop, get_or, add-one, drop-cons, append_assoc, refl, sym, ap, subst, ◌∙◌, length-append}
use Rattle.std.proofs.lemmas.List.{drop_all, append-nil}
use Rattle.std.proofs.lemmas.List.Elements.{All-head, All-tail, All-push}
use Rattle.std.specs.List.{All}
use Rattle.std.specs.Option.{ForSome}
use Rattle.ssq_time.specs.Time.{IsLineTime, IsStampTime}
use Rattle.ssq_time.proofs.Signed.{signed_arith}
use Rattle.ssq_plans.specs.Records.{lines}
use Rattle.ssq_plans.specs.Written.{Written, Holds, Adds}

-- ---- written one after the other

-- what is written so far, with the lines that are left, is what it was before the next line
lines-next : {X : Type 0} (spelled : ℕ → X → List ℕ) (out : List ℕ) (at : ℕ) (xs : List X) (x : X) → at < length xs → x ≡ get_or xs at x → (out ++ spelled at x) ++ lines spelled (at + 1) (drop (at + 1) xs) ≡ out ++ lines spelled at (drop at xs)
unfolding lines
lines-next spelled out at xs x h e = rw (add-one, drop-cons xs at x, add-one, ← e) (append_assoc out _ _)

-- after the last line nothing is left to write
lines-end : {X : Type 0} (spelled : ℕ → X → List ℕ) (out : List ℕ) (at : ℕ) (xs : List X) → length xs ≤ at → out ++ lines spelled at (drop at xs) ≡ out
unfolding lines
lines-end spelled out at xs h = rw (drop_all at xs h) (append-nil out)

-- what a writer holds, with the lines that are left, is the whole
pub record AreLeft {X : Type 0} (spelled : ℕ → X → List ℕ) (at : ℕ) (xs : List X) (whole : List ℕ) (out : Written) : Type 0 where
  pub held : List ℕ
  pub holds : Holds out held
  pub bytes : held ++ lines spelled at (drop at xs) ≡ whole

pub left_first : {X : Type 0} (spelled : ℕ → X → List ℕ) (xs : List X) (held : List ℕ) (out : Written) → Holds out held → AreLeft spelled 0 xs (held ++ lines spelled 0 xs) out
left_first spelled xs held out is = record { held = held; holds = is; bytes = refl }

pub left_next : {X : Type 0} (spelled : ℕ → X → List ℕ) (at : ℕ) (xs : List X) (whole : List ℕ) (out new : Written) (x : X) → Adds out (spelled at x) new → at < length xs → x ≡ get_or xs at x → AreLeft spelled at xs whole out → AreLeft spelled (at + 1) xs whole new
left_next spelled at xs whole out new x put h e left = record {
  held = left.held ++ spelled at x;
  holds = put left.held left.holds;
  bytes = lines-next spelled left.held at xs x h e ∙ left.bytes;
}

pub left_none : {X : Type 0} (spelled : ℕ → X → List ℕ) (at : ℕ) (xs : List X) (whole : List ℕ) (out : Written) → length xs ≤ at → AreLeft spelled at xs whole out → Holds out whole
left_none spelled at xs whole out h left = λ whole_out. left.holds whole_out ∙ sym (lines-end spelled left.held at xs h) ∙ left.bytes

-- the times of lines are printed
pub line_is_stamp : (time : Option ℤ) → ForSome time IsLineTime → ForSome time IsStampTime
line_is_stamp time h = λ t e. (omega (arith, signed_arith, (h t e).0), omega (arith, signed_arith, (h t e).1))

-- ---- read one after the other

-- one more line at the end
lines-more : {X : Type 0} (spelled : ℕ → X → List ℕ) (at : ℕ) (xs : List X) (x : X) (rest : List ℕ) → lines spelled at (xs ++ x ∷ []) ++ rest ≡ lines spelled at xs ++ (spelled (at + length xs) x ++ rest)
unfolding lines
lines-more spelled at [] x rest =
    let e : at ≡ at + 0 = omega arith in
    ap (λ (line : List ℕ). line ++ rest) (append-nil (spelled at x)) ∙ ap (λ (n : ℕ). spelled n x ++ rest) e
lines-more spelled at (y ∷ xs) x rest =
    let e : at + 1 + length xs ≡ at + length (y ∷ xs) = omega arith in
    append_assoc (spelled at y) (lines spelled (at + 1) (xs ++ x ∷ [])) rest
    ∙ ap (λ (r : List ℕ). spelled at y ++ r) (lines-more spelled (at + 1) xs x rest)
    ∙ sym (append_assoc (spelled at y) (lines spelled (at + 1) xs) (spelled (at + 1 + length xs) x ++ rest))
    ∙ ap (λ (n : ℕ). (spelled at y ++ lines spelled (at + 1) xs) ++ (spelled n x ++ rest)) e

-- the text is the lines so far, the next one, and what follows it
pub found_more : {X : Type 0} (spelled : ℕ → X → List ℕ) (text : List ℕ) (so_far : List X) (rest : List ℕ) (x : X) (behind : List ℕ) → text ≡ lines spelled 0 so_far ++ rest → rest ≡ spelled (length so_far) x ++ behind → text ≡ lines spelled 0 (so_far ++ x ∷ []) ++ behind
found_more spelled text so_far rest x behind is next =
    let e : length so_far ≡ 0 + length so_far = omega arith in
    is ∙ ap (λ (r : List ℕ). lines spelled 0 so_far ++ r) (next ∙ ap (λ (n : ℕ). spelled n x ++ behind) e)
    ∙ sym (lines-more spelled 0 so_far x behind)

-- what is left of the items: with those so far they are all, and their lines stand in front of the tail
pub record IsLeft {X : Type 0} (spelled : ℕ → X → List ℕ) (items : List X) (tail : List ℕ) (so_far : List X) (rest : List ℕ) : Type 0 where
  pub left : List X
  pub whole : so_far ++ left ≡ items
  pub bytes : rest ≡ lines spelled (length so_far) left ++ tail

-- no line stands in front of the tail
abbrev pub IsBehind : {X : Type 0} → (ℕ → X → List ℕ) → List ℕ → Type 0
IsBehind {X} spelled tail = (at : ℕ) (item : X) (behind : List ℕ) → tail ≢ spelled at item ++ behind

pub begins_left : {X : Type 0} (spelled : ℕ → X → List ℕ) (items : List X) (tail text : List ℕ) → text ≡ lines spelled 0 items ++ tail → IsLeft spelled items tail [] text
begins_left spelled items tail text is = record { left = items; whole = refl; bytes = is }

all_behind : {X : Type 0} (P : X → Type 0) (front back : List X) → All P (front ++ back) → All P back
all_behind P [] back all = all
all_behind P (x ∷ front) back all = all_behind P front back (All-tail P x (front ++ back) all)

next_is : {X : Type 0} (P : X → Type 0) (items front back : List X) (x : X) → front ++ x ∷ back ≡ items → All P items → P x
next_is P items front back x whole all = All-head P x back (all_behind P front (x ∷ back) (subst (All P) (sym whole) all))

pub next_left : {X : Type 0} (P : X → Type 0) (spelled : ℕ → X → List ℕ) (items : List X) (tail : List ℕ) (so_far : List X) (rest : List ℕ) (x : X) (behind : List ℕ) → IsLeft spelled items tail so_far rest → All P items → IsBehind spelled tail → rest ≡ spelled (length so_far) x ++ behind → ((y : X) (r : List ℕ) → P y → rest ≡ spelled (length so_far) y ++ r → (x ≡ y) × (behind ≡ r)) → IsLeft spelled items tail (so_far ++ x ∷ []) behind
unfolding lines
next_left {X} P spelled items tail so_far rest x behind is all stop found each = go is.left is.whole is.bytes
  where
    go : (left : List X) → so_far ++ left ≡ items → rest ≡ lines spelled (length so_far) left ++ tail → IsLeft spelled items tail (so_far ++ x ∷ []) behind
    go [] whole bytes = absurd (stop (length so_far) x behind (sym bytes ∙ found))
    go (y ∷ left) whole bytes =
        let same = each y (lines spelled (length so_far + 1) left ++ tail) (next_is P items so_far left y whole all) (bytes ∙ append_assoc (spelled (length so_far) y) _ tail) in
        record {
          left = left;
          whole = append_assoc so_far (x ∷ []) left ∙ ap (λ z. so_far ++ z ∷ left) same.0 ∙ whole;
          bytes = same.1 ∙ ap (λ (n : ℕ). lines spelled n left ++ tail) (sym (length-append so_far (x ∷ [])));
        }

pub ends_left : {X : Type 0} (P : X → Type 0) (spelled : ℕ → X → List ℕ) (items : List X) (tail : List ℕ) (so_far : List X) (rest : List ℕ) → IsLeft spelled items tail so_far rest → All P items → ((y : X) (r : List ℕ) → P y → rest ≡ spelled (length so_far) y ++ r → ⊥) → (so_far ≡ items) × (rest ≡ tail)
unfolding lines
ends_left {X} P spelled items tail so_far rest is all none = go is.left is.whole is.bytes
  where
    go : (left : List X) → so_far ++ left ≡ items → rest ≡ lines spelled (length so_far) left ++ tail → (so_far ≡ items) × (rest ≡ tail)
    go [] whole bytes = (sym (append-nil so_far) ∙ whole, bytes)
    go (y ∷ left) whole bytes = absurd (none y (lines spelled (length so_far + 1) left ++ tail) (next_is P items so_far left y whole all) (bytes ∙ append_assoc (spelled (length so_far) y) _ tail))

-- ---- the same, where the number of the items so far, and the list with the next one, are values of the code

pub found_pushed : {X : Type 0} (spelled : ℕ → X → List ℕ) (text : List ℕ) (so_far pushed : List X) (rest : List ℕ) (x : X) (behind : List ℕ) (at : ℕ) → at ≡ length so_far → pushed ≡ so_far ++ x ∷ [] → text ≡ lines spelled 0 so_far ++ rest → rest ≡ spelled at x ++ behind → text ≡ lines spelled 0 pushed ++ behind
found_pushed spelled text so_far pushed rest x behind at e new is next =
    found_more spelled text so_far rest x behind is (next ∙ ap (λ (n : ℕ). spelled n x ++ behind) e)
    ∙ ap (λ xs. lines spelled 0 xs ++ behind) (sym new)

pub read_pushed : {X : Type 0} (P : X → Type 0) (so_far pushed : List X) (x : X) → pushed ≡ so_far ++ x ∷ [] → All P so_far → P x → All P pushed
read_pushed P so_far pushed x new all one = subst (All P) (sym new) (All-push P so_far x all one)

pub left_pushed : {X : Type 0} (P : X → Type 0) (spelled : ℕ → X → List ℕ) (items : List X) (tail : List ℕ) (so_far pushed : List X) (rest : List ℕ) (x : X) (behind : List ℕ) (at : ℕ) → at ≡ length so_far → pushed ≡ so_far ++ x ∷ [] → IsLeft spelled items tail so_far rest → All P items → IsBehind spelled tail → rest ≡ spelled at x ++ behind → ((y : X) (r : List ℕ) → P y → rest ≡ spelled at y ++ r → (x ≡ y) × (behind ≡ r)) → IsLeft spelled items tail pushed behind
left_pushed P spelled items tail so_far pushed rest x behind at e new is all stop found each =
    subst (λ xs. IsLeft spelled items tail xs behind) (sym new)
    (next_left P spelled items tail so_far rest x behind is all stop (found ∙ ap (λ (n : ℕ). spelled n x ++ behind) e)
    (λ y r one here. each y r one (here ∙ ap (λ (n : ℕ). spelled n y ++ r) (sym e))))

pub left_ends : {X : Type 0} (P : X → Type 0) (spelled : ℕ → X → List ℕ) (items : List X) (tail : List ℕ) (so_far : List X) (rest : List ℕ) (at : ℕ) → at ≡ length so_far → IsLeft spelled items tail so_far rest → All P items → ((y : X) (r : List ℕ) → P y → rest ≡ spelled at y ++ r → ⊥) → (so_far ≡ items) × (rest ≡ tail)
left_ends P spelled items tail so_far rest at e is all none =
    ends_left P spelled items tail so_far rest is all (λ y r one here. none y r one (here ∙ ap (λ (n : ℕ). spelled n y ++ r) (sym e)))

-- before the first item
pub left_starts : {X : Type 0} (spelled : ℕ → X → List ℕ) (items none : List X) (tail text : List ℕ) → none ≡ [] → text ≡ lines spelled 0 items ++ tail → IsLeft spelled items tail none text
left_starts spelled items none tail text e is = subst (λ xs. IsLeft spelled items tail xs text) (sym e) (begins_left spelled items tail text is)

pub found_none : {X : Type 0} (spelled : ℕ → X → List ℕ) (none : List X) (text : List ℕ) → none ≡ [] → text ≡ lines spelled 0 none ++ text
unfolding lines
found_none spelled none text e = ap (λ xs. lines spelled 0 xs ++ text) (sym e)

pub read_none : {X : Type 0} (P : X → Type 0) (none : List X) → none ≡ [] → All P none
read_none {X} P none e = subst (All P) (sym e) nothing
  where
    nothing : All P (let none : List X = [] in none)
    nothing k d h = absurd (omega (arith, h))
