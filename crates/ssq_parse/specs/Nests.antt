-- Function values that read expressions.
use Rattle.std.specs.Prelude.{ℕ, ◌<◌, Result}
use Rattle.std.specs.declared.alloc.Global.{Global}
use denote.Ref.{MutBor}
use Rattle.ssq_parse.specs.declared.fault.Stop.{Stop}
use Rattle.ssq_parse.specs.declared.tree.Tree.{Tree}
use Rattle.ssq_parse.specs.Reading.{Ahead, Reads}
use Rattle.ssq_parse.specs.Expressions.{Reader, expr_at}

-- one that reads what stands in a bracket
pub record Nests (depth : ℕ) (pre : Global → MutBor Ahead → ℕ → Type 0)
    (post : Global → MutBor Ahead → ℕ → Result Tree Stop → MutBor Ahead → Type 0) : Type 0 where
  pub callable : 0 < depth → (alloc : Global) (old : MutBor Ahead) → pre alloc old depth
  pub reads : (alloc : Global) (old new : MutBor Ahead) (r : Result Tree Stop) → post alloc old depth r new
      → Reads (expr_at depth old.now) r new.now

-- one that reads as this reader does
pub record IsReadBy (own : Reader) (post : MutBor Ahead → Result Tree Stop → MutBor Ahead → Type 0) : Type 0 where
  pub reads : (old new : MutBor Ahead) (r : Result Tree Stop) → post old r new → Reads (own old.now) r new.now

abbrev pub IsCallable : (MutBor Ahead → Type 0) → Type 0
IsCallable pre = (old : MutBor Ahead) → pre old
