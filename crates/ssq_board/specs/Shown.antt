-- Where a round begins, and what is so of every state that entries lead to.
use Rattle.std.specs.Prelude.{◌≡◌, ◌+◌, ◌≤◌, ℕ, Bool, true, false, List, [], ◌∷◌, length, map, replicate, None}
use Rattle.ssq_core.specs.Course.{Ends}
use Rattle.ssq_board.specs.declared.front.Place.{Place}
use Rattle.ssq_board.specs.declared.front.Place.TheVariants as place
use Rattle.ssq_outside.specs.declared.gate.Kind.{Kind}
use Rattle.ssq_board.specs.Core.{Scope, Core, dealt, has_line, is_open, tasks_of, due_stop}

-- What was opened: how many epochs are committed, and whether one more is planned; where their lines end; and whether an epoch
-- without lines is due.
pub record Start : Type 0 where
  pub committed : ℕ
  pub is_planned : Bool
  pub from : Ends
  pub to : Ends
  pub due : Bool

-- The first state. All that was opened is settled; an epoch that was opened as planned has its tasks dealt.
abbrev pub planned_by : Bool → ℕ → ℕ
planned_by true k = k + 1
planned_by false k = k

abbrev pub first_maps : Bool → Ends → Ends → List Place
first_maps true from to = dealt from to
first_maps false from to = map (λ _. place.Rests) to

abbrev pub first_place : Bool → Place
first_place true = place.Waits
first_place false = place.Rests

abbrev pub first_outs : Bool → List Place
first_outs true = place.Waits ∷ []
first_outs false = []

abbrev pub first_by : Bool → Scope → Start → Core
first_by b r s = record {
  front = record { planned = planned_by b s.committed; committed = s.committed; fresh = true; settled = true; written = false; has_lines = has_line s.from s.to; due = s.due; stop = None };
  ends = s.to;
  maps = first_maps b s.from s.to;
  reduces = replicate r.partitions (first_place b);
  outs = first_outs b;
}

abbrev pub first : Scope → Start → Core
first r s = first_by s.is_planned r s

-- what was opened has one end for each part
pub record IsStart (r : Scope) (s : Start) : Type 0 where
  pub from : length s.from ≡ length s.to
  pub available : length r.available ≡ length s.to

-- what holds of each state that entries lead to
pub record IsSound (r : Scope) (c : Core) : Type 0 where
  pub near : c.front.planned ≤ c.front.committed + 1
  pub before : c.front.committed ≤ c.front.planned
  pub ends : length c.ends ≡ length r.available
  pub maps : length c.maps ≡ length r.available
  pub reduces : length c.reduces ≡ r.partitions
  pub outs : length c.outs ≤ 1
  pub out_there : is_open c ≡ true → length c.outs ≡ 1
  -- where a phase has a cause to stop, the desk is stopped
  pub calm : c.front.stop ≡ None → (k : Kind) → due_stop (tasks_of k c) ≡ None
