-- What an output in memory holds.
use Rattle.std.specs.Prelude.{ℕ, List}
use Rattle.ssq_fakes.specs.declared.output.MemOut.{MemOut}

-- the bytes that were put, the first first
abbrev pub put_bytes : MemOut → List ℕ
put_bytes out = out.bytes.items

-- how often it failed
abbrev pub out_faults : MemOut → ℕ
out_faults out = out.faults.count

-- the calls of `put` that are to fail, by their numbers from 0
abbrev pub out_plan : MemOut → List ℕ
out_plan out = out.faults.plan.items

-- the number of the next call of `put`
abbrev pub out_calls : MemOut → ℕ
out_calls out = out.faults.calls
