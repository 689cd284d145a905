-- The windows that begin at the given places are those that contain the time.
use Rattle.std.proofs.Common.{◌≡◌, ℕ, zero, suc, ◌+◌, ◌-◌, ◌*◌, ◌/◌, ◌%◌, ◌<◌, ◌≤◌, inl, inr, refl, sym, ap, subst, arith, ℤ, pos, negsuc, ◌+ℤ◌, ◌-ℤ◌, ◌*ℤ◌, ◌≤ℤ◌, unsigned_abs}
use Rattle.std.proofs.Math.Nat.{div-add-mod, mul-le-mul_left}
use Rattle.std.proofs.lemmas.Bool.{cases_order}
use Rattle.std.proofs.lemmas.Int.{by_lt_z}
use Rattle.ssq_time.specs.Time.{IsSpan}
use Rattle.ssq_time.proofs.Signed.{signed_arith, one_part}
use Rattle.std.specs.Int.{int_div_euclid, int_rem_euclid}
use borrow.Author.Differences.{up, down}
use Rattle.ssq_window.specs.Window.{IsWindow, AreWindows, Covers, rest_of, window_count, first_start}

-- a quotient that is rounded up covers
pub covers : (rest size slide count more : ℕ) → rest < slide → slide ≤ size → slide * count + more ≡ size - rest + (slide - 1) → more < slide → Covers rest size slide count
covers rest size slide zero more r s e m = absurd (omega arith)
covers rest size slide (suc k) more r s e m =
    let back : suc k - 1 ≡ k = omega arith in
    record {
      some = omega arith;
      few = λ small. elim (cases_order k 64) [
        | inl same ↦ absurd (omega (arith, ap (λ n. slide * n) same))
        | inr (inl less) ↦ omega arith
        | inr (inr above) ↦ absurd (omega (arith, mul-le-mul_left slide above))
      ];
      short = rw back (omega arith);
      long = omega arith;
    }

-- the difference of two numbers
difference : (a b : ℤ) → a ≤ℤ b → (k : ℕ) × (b ≡ a +ℤ pos k)
difference a b h = (unsigned_abs (b -ℤ a), omega (arith, signed_arith, one_part (b -ℤ a)))

-- a product of a sum, and of a difference
times_sum : (a : ℤ) (k slide : ℕ) → (a +ℤ pos k) *ℤ pos slide ≡ (a *ℤ pos slide) +ℤ pos (k * slide)
times_sum a k slide =
    let same : up (a +ℤ pos k) + down a ≡ up a + k + down (a +ℤ pos k) = omega (arith, signed_arith) in
    omega (arith, signed_arith, ap (λ n. n * slide) same)

times_difference : (a : ℤ) (k slide : ℕ) → (a -ℤ pos k) *ℤ pos slide ≡ (a *ℤ pos slide) -ℤ pos (k * slide)
times_difference a k slide =
    let same : up (a -ℤ pos k) + down a + k ≡ up a + down (a -ℤ pos k) = omega (arith, signed_arith) in
    omega (arith, signed_arith, ap (λ n. n * slide) same)

-- t lies `rest` after the multiple q of the slide, and the first window begins `before` slides before that
pub record IsFirst (t first : ℤ) (slide rest before : ℕ) (q : ℤ) : Type 0 where
  pub time : t ≡ (q *ℤ pos slide) +ℤ pos rest
  pub start : first ≡ (q *ℤ pos slide) -ℤ pos (before * slide)
  pub below : rest < slide

each_window : (t first : ℤ) (size slide rest before k : ℕ) (q : ℤ) → IsFirst t first slide rest before q → before * slide + rest < size → k ≤ before → IsWindow t (pos size) (pos slide) (first +ℤ (pos k *ℤ pos slide))
each_window t first size slide rest before k q is short small =
    let d = before - k in
    let split : before ≡ k + d = omega arith in
    let sum : before * slide ≡ k * slide + d * slide = omega (arith, ap (λ n. n * slide) split) in
    let down_to = times_difference q before slide in
    let up_to = times_sum (q -ℤ pos before) k slide in
    record {
      aligned = ((q -ℤ pos before) +ℤ pos k, omega (arith, signed_arith, is.start));
      begun = omega (arith, signed_arith, is.time, is.start);
      unfinished = omega (arith, signed_arith, is.time, is.start);
    }

only_window : (t first : ℤ) (size slide rest before : ℕ) (q start : ℤ) → IsFirst t first slide rest before q → size ≤ (before + 1) * slide + rest → IsWindow t (pos size) (pos slide) start → (k : ℕ) × (k < before + 1) × (start ≡ first +ℤ (pos k *ℤ pos slide))
only_window t first size slide rest before q start is long window =
    let n = window.aligned.0 in
    let start_is : start ≡ n *ℤ pos slide = window.aligned.1 in
    by_lt_z q n
    (λ after.
    let gap = difference (q +ℤ pos 1) n (omega (arith, signed_arith)) in
    let j = gap.0 in
    let e : n ≡ q +ℤ pos (j + 1) = omega (arith, signed_arith, gap.1) in
    let later = times_sum q (j + 1) slide in
    let start_at : start ≡ (q +ℤ pos (j + 1)) *ℤ pos slide = rw (← e) start_is in
    absurd (omega (arith, signed_arith, start_at, window.begun, is.time, is.below)))
    (λ not_after.
    let gap = difference n q not_after in
    let d = gap.0 in
    let e : n ≡ q -ℤ pos d = omega (arith, signed_arith, gap.1) in
    let earlier = times_difference q d slide in
    let start_at : start ≡ (q -ℤ pos d) *ℤ pos slide = rw (← e) start_is in
    let small : d ≤ before = elim (cases_order d before) [
      | inl same ↦ omega arith
      | inr (inl less) ↦ omega arith
      | inr (inr above) ↦
          let far = mul-le-mul_left slide above in
          absurd (omega (arith, signed_arith, start_at, window.unfinished, is.time, far))
    ] in
    let k = before - d in
    let split : before ≡ k + d = omega arith in
    let sum : before * slide ≡ k * slide + d * slide = omega (arith, ap (λ n. n * slide) split) in
    (k, omega arith, omega (arith, signed_arith, start_at, is.start)))

are_windows : (t first : ℤ) (size slide rest count : ℕ) (q : ℤ) → IsFirst t first slide rest (count - 1) q → Covers rest size slide count → AreWindows t (pos size) (pos slide) first count
are_windows t first size slide rest count q is c =
    let back : count - 1 + 1 ≡ count = omega (arith, c.some) in
    let P : ℕ → Type 0 = λ n. size ≤ n * slide + rest in
    let long : P (count - 1 + 1) = subst P (sym back) c.long in
    record {
      each = λ k small. each_window t first size slide rest (count - 1) k q is c.short (omega arith);
      only = λ start window.
          let found : (k : ℕ) × (k < count - 1 + 1) × (start ≡ first +ℤ (pos k *ℤ pos slide)) = only_window t first size slide rest (count - 1) q start is long window in
          let within : found.0 < count = omega (arith, found.1) in
          (found.0, within, found.2);
    }

-- the same of what the code computes
pub windows_of_parts : (t size slide first : ℤ) (rest count before : ℕ) → pos 1 ≤ℤ slide → pos 1 ≤ℤ size → rest ≡ rest_of t slide → before ≡ rest + (count - 1) * unsigned_abs slide → first ≡ t -ℤ pos before → Covers rest (unsigned_abs size) (unsigned_abs slide) count → AreWindows t size slide first count
windows_of_parts t size (negsuc slide) first rest count before positive some r b f c = absurd (omega (arith, signed_arith, positive))
windows_of_parts t (negsuc size) (pos slide) first rest count before positive some r b f c = absurd (omega (arith, signed_arith, some))
windows_of_parts t (pos size) (pos slide) first rest count before positive some r b f c =
    let rest_at = one_part (int_rem_euclid t (pos slide)) in
    are_windows t first size slide rest count (int_div_euclid t (pos slide))
    (record {
      time = omega (arith, signed_arith);
      start = omega (arith, signed_arith);
      below = omega (arith, signed_arith);
    })
    c

pub first_start_of_parts : (t size slide first : ℤ) (rest count before : ℕ) → rest ≡ rest_of t slide → count ≡ (unsigned_abs size - rest + (unsigned_abs slide - 1)) / unsigned_abs slide → before ≡ rest + (count - 1) * unsigned_abs slide → first ≡ t -ℤ pos before → first ≡ first_start t size slide
first_start_of_parts t size slide first rest count before r n b f = rw (← r, ← n, ← b) f

-- ---- the same of any time

count_covers : (rest size slide : ℕ) → rest < slide → slide ≤ size → Covers rest size slide ((size - rest + (slide - 1)) / slide)
count_covers rest size slide low least =
    let n = size - rest + (slide - 1) in
    covers rest size slide (n / slide) (n % slide) low least (div-add-mod n slide) (omega (arith, low))

pub windows_cover : (t size slide : ℤ) → IsSpan size → IsSpan slide → slide ≤ℤ size
    → Covers (rest_of t slide) (unsigned_abs size) (unsigned_abs slide) (window_count t size slide)
windows_cover t size (negsuc slide) size_is slide_is least = absurd (omega (arith, signed_arith, slide_is.0))
windows_cover t (negsuc size) (pos slide) size_is slide_is least = absurd (omega (arith, signed_arith, size_is.0))
windows_cover t (pos size) (pos slide) size_is slide_is least =
    let rest = one_part (int_rem_euclid t (pos slide)) in
    count_covers (rest_of t (pos slide)) size slide (omega (arith, signed_arith, slide_is.0)) (omega (arith, signed_arith))

pub all_windows : (t size slide : ℤ) → IsSpan size → IsSpan slide → slide ≤ℤ size → AreWindows t size slide (first_start t size slide) (window_count t size slide)
all_windows t size slide size_is slide_is least =
    windows_of_parts t size slide (first_start t size slide) (rest_of t slide) (window_count t size slide) (rest_of t slide + (window_count t size slide - 1) * unsigned_abs slide)
    (omega (arith, signed_arith, slide_is.0)) (omega (arith, signed_arith, size_is.0)) refl refl refl (windows_cover t size slide size_is slide_is least)

pub few_windows : (t size slide : ℤ) → IsSpan size → IsSpan slide → slide ≤ℤ size → size ≤ℤ (pos 64 *ℤ slide) → window_count t size slide ≤ 64
few_windows t size (negsuc slide) size_is slide_is least most = absurd (omega (arith, signed_arith, slide_is.0))
few_windows t (negsuc size) (pos slide) size_is slide_is least most = absurd (omega (arith, signed_arith, size_is.0))
few_windows t (pos size) (pos slide) size_is slide_is least most =
    (windows_cover t (pos size) (pos slide) size_is slide_is least).few (omega (arith, signed_arith, most))
