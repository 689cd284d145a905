-- The lines of the epochs of which a round tells: none of them is a fault.
use Rattle.std.specs.Prelude.{◌≡◌, ◌<◌, ◌≤◌, ◌+◌, ℕ, true, List, length, get_or, slice_get, Some, None}
use mathlib.Core.Option.{some}
use lib.ListN.{get_elem?}
use Rattle.ssq_meaning.specs.Meaning.{Line}
use Rattle.ssq_meaning.specs.Parts.{Part}
use Rattle.ssq_meaning.specs.Feeding.{fault_in}
use Rattle.ssq_meaning.specs.Epochs.{fault_between}
use Rattle.ssq_core.specs.Course.{Cuts}
use Rattle.ssq_course.specs.Setting.{Setting, parts_in, cut_of as offsets_of}
use Rattle.ssq_board.specs.declared.front.Place.{Place}
use Rattle.ssq_board.specs.Core.{Core, after_all, is_fine, is_open}
use Rattle.ssq_board.specs.Shown.{first}
use Rattle.ssq_ledger.specs.Shown.{Shown, cuts_of}
use Rattle.ssq_desk.specs.declared.round.Round.{Round}
use Rattle.ssq_desk.specs.Round.{setting_of}
use Rattle.ssq_desk.specs.Whole.{opening_in}

-- no line of this epoch is a fault
abbrev pub HasGoodLines : Setting → Cuts → ℕ → Type 0
HasGoodLines s cuts e = fault_between s.job.bound (parts_in s) (offsets_of (cuts e)) (offsets_of (cuts (e + 1))) ≡ None

-- What is so of lines that were read, by these cuts: of the epoch that runs none is a fault in a part whose map task is back without one, or that
-- has no task; and none is of an epoch that was committed since the first.
pub record IsGoodAt (s : Setting) (cuts : Cuts) (begin : ℕ) (c : Core) : Type 0 where
  pub before : c.front.committed ≤ c.front.planned
  pub near : c.front.planned ≤ c.front.committed + 1
  pub last : cuts c.front.planned ≡ c.ends
  pub count : is_open c ≡ true → length c.maps ≡ length (cuts c.front.committed)
  pub mapped : is_open c ≡ true → (i : ℕ) (part : Part) (p : Place) → slice_get (parts_in s) i ≡ Some part → get_elem? c.maps i ≡ some p → is_fine p ≡ true
      → fault_in s.job.bound part (get_or (offsets_of (cuts c.front.committed)) i 0) (get_or (offsets_of (cuts (c.front.committed + 1))) i 0) ≡ None
  pub told : (e : ℕ) → begin ≤ e → e < c.front.committed → HasGoodLines s cuts e

module _ {D L : Type 0} (lines : L → List Line) where
  -- so it is of what a desk did since its round began
  abbrev pub IsGood : Shown D (Round L) → Type 0
  IsGood shown = (shown.core ≡ after_all shown.scope (first shown.scope (opening_in lines shown.opening).start) shown.history)
      × IsGoodAt (setting_of lines shown.opening) (cuts_of (opening_in lines) shown) shown.opening.opened.committed shown.core

  -- and stays so, where disk and logs tell what they hold
  abbrev pub KeepsGood : Type 0 → (old new : Shown D (Round L)) → Type 0
  KeepsGood reads old new = reads → IsGood old → IsGood new
