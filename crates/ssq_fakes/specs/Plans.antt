-- Which calls of an object are to fail, by their numbers from 0.
use Rattle.std.specs.Prelude.{ℕ, ◌+◌, ◌-◌, ◌^◌, ◌==◌, ◌||◌, nat_le, min, Bool, false, List, [], ◌∷◌, Option, None, Some, if◌then◌else◌}
use Rattle.std.specs.List.{list_any}
use Rattle.ssq_fakes.specs.declared.plan.FailAt.{FailAt}
use Rattle.ssq_fakes.specs.declared.plan.FailAt.TheVariants.{Disk, Stage}

-- the list names this call
abbrev pub is_named : List ℕ → ℕ → Bool
is_named calls call = list_any (λ at. at == call) calls

-- the number of the next call; numbers stop at the end of their 64 bits
abbrev pub call_after : ℕ → ℕ
call_after call = min (call + 1) (2 ^ 64 - 1)

-- this is the call on the disk with this number
abbrev pub is_on_disk : ℕ → FailAt → Bool
is_on_disk call (Disk at) = at == call
is_on_disk call (Stage stage at) = false

-- The calls on a disk and its stages that are to fail: these, and on the disk each one after so many.
pub record DiskCalls : Type 0 where
  pub named : List FailAt
  pub stop_after : Option ℕ

-- the disk's calls are over
abbrev pub is_stopped : Option ℕ → ℕ → Bool
is_stopped None call = false
is_stopped (Some most) call = nat_le most call

-- the disk's call with this number is to fail
abbrev pub fails_on_disk : DiskCalls → ℕ → Bool
fails_on_disk calls call = is_stopped calls.stop_after call || list_any (is_on_disk call) calls.named

-- the calls that are to fail on the stage with this number
abbrev pub on_stage : ℕ → List FailAt → List ℕ
on_stage stage [] = []
on_stage stage (Disk at ∷ calls) = on_stage stage calls
on_stage stage (Stage of at ∷ calls) = if of == stage then at ∷ on_stage stage calls else on_stage stage calls
