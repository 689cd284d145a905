-- Worked cuts: watermarks over two parts, and the first fault of epochs. Times are in minutes of a day.
use Rattle.std.proofs.Common.{◌≡◌, ◌==◌, [], ◌∷◌, ℕ, pos, List, Some, None, true, Ok, Err, refl, ap, ◌∙◌}
use Rattle.std.specs.Prelude.{if◌then◌else◌}
use Rattle.ssq_value.specs.declared.value.Value.TheVariants as value
use Rattle.ssq_value.specs.Order.{value_cmp}
use Rattle.ssq_shape.specs.declared.bound.Bound.{Bound}
use Rattle.ssq_meaning.specs.FedRows.{FedRow}
use Rattle.ssq_meaning.specs.declared.line.LineFault.{LineFault}
use Rattle.ssq_meaning.specs.declared.line.LineFault.TheVariants.{Overflow}
use Rattle.ssq_meaning.specs.Dedup.{firsts}
use Rattle.ssq_meaning.specs.Meaning.{Line}
use Rattle.ssq_meaning.specs.Parts.{Part, parts_of, parts_from}
use Rattle.ssq_meaning.specs.Cut.{Cuts, of_parts}
use Rattle.ssq_meaning.specs.Times.{later, less_delay, Delay, delays, is_past, watermark_by}
use Rattle.ssq_meaning.specs.Feeding.{line_handed, time_at}
use Rattle.ssq_meaning.specs.Epochs.{fault_between, seen, watermark}

-- Two parts of one stream, the first with three lines and the second with one; an epoch takes at most one line of each.
abbrev two_parts : (a b c d : Line) → List Part
two_parts a b c d = parts_of (2 ∷ []) ((a ∷ b ∷ c ∷ []) ∷ (d ∷ []) ∷ [])

abbrev by_one : Cuts
by_one e = if e == 0 then 0 ∷ 0 ∷ [] else (if e == 1 then 1 ∷ 1 ∷ [] else (if e == 2 then 2 ∷ 1 ∷ [] else 3 ∷ 1 ∷ []))

module _ (query : Bound) (a b c d : Line) (delayed : delays query ≡ (0, pos 10) ∷ [])
    (at_a : time_at query 0 a ≡ Some (pos 723)) (at_b : time_at query 0 b ≡ Some (pos 736)) (at_c : time_at query 0 c ≡ Some (pos 722)) (at_d : time_at query 0 d ≡ Some (pos 724)) where
  marks : (e : ℕ) → watermark query (two_parts a b c d) by_one e ≡ watermark_by ((0, pos 10) ∷ []) (λ stream. seen query (two_parts a b c d) by_one stream e)
  marks e = ap (λ (ds : List Delay). watermark_by ds (λ stream. seen query (two_parts a b c d) by_one stream e)) delayed

  first_mark : watermark query (two_parts a b c d) by_one 0 ≡ None
  unfolding seen
  first_mark = marks 0

  -- 12:04 less ten minutes
  second_mark : watermark query (two_parts a b c d) by_one 1 ≡ Some (pos 714)
  unfolding seen of_parts parts_from
  second_mark = marks 1 ∙ (λ i. less_delay (later None (later (later (at_a i) None) (later (later (at_d i) None) None))) (pos 10))

  -- 12:16 less ten minutes
  third_mark : watermark query (two_parts a b c d) by_one 2 ≡ Some (pos 726)
  unfolding seen of_parts parts_from
  third_mark = marks 2 ∙ (λ i. less_delay (later (later None (later (later (at_a i) None) (later (later (at_d i) None) None))) (later (later (at_b i) None) (later None None))) (pos 10))

-- Three lines of a part, of which the third overflows, and two of another, of which the second is bad: the fault of both is the first
-- part's, though it stands at a higher offset.
module _ (query : Bound) (good over bad : Line) (what : LineFault)
    (is_good : line_handed query 0 good ≡ Ok []) (is_over : line_handed query 0 over ≡ Err Overflow) (is_bad : line_handed query 0 bad ≡ Err what) where
  abbrev faulty_parts : List Part
  faulty_parts = parts_of (2 ∷ []) ((good ∷ good ∷ over ∷ []) ∷ (good ∷ bad ∷ []) ∷ [])

  first_fault : fault_between query faulty_parts (0 ∷ 0 ∷ []) (3 ∷ 2 ∷ []) ≡ Some (record { stream = 0; part = 0; offset = 2; what = Overflow })
  unfolding of_parts parts_from
  first_fault = rw (is_good, is_over) refl

  -- an epoch that ends before the first part's fault has the second part's
  other_fault : fault_between query faulty_parts (0 ∷ 0 ∷ []) (2 ∷ 2 ∷ []) ≡ Some (record { stream = 0; part = 1; offset = 1; what = what })
  unfolding of_parts parts_from
  other_fault = rw (is_good, is_bad) refl

-- Rows without repeats by an id and a time, with their offsets as values: the second row of a key is none, in its epoch or in a later one.
-- Where the watermark is at a row's time, the row is late, and its key is forgotten.
abbrev timed_row : ℕ → ℕ → ℕ → FedRow
timed_row offset id minute = record {
  epoch = 0;
  stream = 0;
  part = 0;
  offset = offset;
  key = value.Int (pos id) ∷ value.Time (pos minute) ∷ [];
  time = Some (pos minute);
  values = value.Int (pos offset) ∷ [];
}

first_epoch : firsts [] (timed_row 0 1 720 ∷ timed_row 1 1 720 ∷ []) ≡ timed_row 0 1 720 ∷ []
unfolding firsts value_cmp
first_epoch = refl

next_epoch : firsts (timed_row 0 1 720 ∷ timed_row 1 1 720 ∷ []) (timed_row 2 1 720 ∷ timed_row 3 2 740 ∷ []) ≡ timed_row 3 2 740 ∷ []
unfolding firsts value_cmp
next_epoch = refl

-- 12:20 less ten minutes is above 12:00
last_epoch : is_past (Some (pos 730)) (timed_row 4 1 720).time ≡ true
last_epoch = refl

at_its_time : is_past (Some (pos 720)) (timed_row 4 1 720).time ≡ true
at_its_time = refl
