-- What is told: the epochs that the history acknowledged.
use Rattle.std.specs.Prelude.{◌≡◌, ◌+◌, ◌≤◌, ℕ, true, false, List, [], ◌∷◌, length, None}
use Rattle.ssq_core.specs.Laws.{acknowledged}
use Rattle.ssq_board.specs.declared.front.Entry.{Entry}
use Rattle.ssq_board.specs.Core.{Scope, Core, events_all, is_behind}
use Rattle.ssq_board.specs.Shown.{Start, first}

-- the acknowledged epochs of a history of entries
abbrev pub acknowledged_of : Scope → Start → List Entry → List ℕ
acknowledged_of r s es = acknowledged None (events_all r (first r s) es)

-- a, a + 1, ..
abbrev pub AreFrom : ℕ → List ℕ → Type 0
AreFrom a [] = Unit {0}
AreFrom a (x ∷ xs) = (x ≡ a) × AreFrom (a + 1) xs

-- What is told: the epochs from the first of the round on, one after another; all that are committed but perhaps the last, and this too
-- where names are settled and the desk was not stopped.
pub record IsTold (r : Scope) (s : Start) (es : List Entry) (c : Core) : Type 0 where
  pub in_order : AreFrom s.committed (acknowledged_of r s es)
  pub most : s.committed + length (acknowledged_of r s es) ≤ c.front.committed
  pub least : c.front.committed ≤ s.committed + length (acknowledged_of r s es) + 1
  pub all : c.front.settled ≡ true → s.committed + length (acknowledged_of r s es) ≡ c.front.committed

-- All that the round found is covered and committed, settled and told, and nothing is due.
pub record IsCovered (r : Scope) (s : Start) (es : List Entry) (c : Core) : Type 0 where
  pub running : c.front.stop ≡ None
  pub covered : is_behind c.ends r.available ≡ false
  pub quiet : c.front.due ≡ false
  pub committed : c.front.planned ≡ c.front.committed
  pub settled : c.front.settled ≡ true
  pub told : s.committed + length (acknowledged_of r s es) ≡ c.front.committed
