use Rattle.std.proofs.Common.{◌≡◌, ℕ, Bool, List, take}
use Rattle.std.specs.Prelude.{All}
use Rattle.std.specs.HashSet.{contains}
use Rattle.ssq_time.specs.Time.{IsStampTime}
use Rattle.ssq_value.specs.declared.value.Value.{Value}
use Rattle.ssq_value.specs.Kind.{IfTime}
use Rattle.ssq_meaning.specs.Group.{has_key, is_same}
use Rattle.ssq_dedup.specs.Firsts.{HoldsKeys, IsKeyed}
use Rattle.ssq_dedup.proofs.Taking.{AreFirsts}
use Rattle.ssq_dedup.proofs.epoch.first_rows.Given as goal

abbrev pub invariant-loop-row : goal.invariant-loop-row
invariant-loop-row l = record {
  keys : (key : List Value) → contains is_same l.keys key ≡ has_key (take l.row-index l.rows) key;
  firsts : (count : ℕ) (is_held : List Value → Bool) → HoldsKeys count l.state is_held → All (IsKeyed count) l.rows → AreFirsts count is_held (take l.row-index l.rows) l.fn.draft l.draft l.shown.items;
  printable : All (All (IfTime IsStampTime)) l.shown.items;
}
