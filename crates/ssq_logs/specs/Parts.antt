-- The parts of a query's streams, and their logs.
use Rattle.std.specs.Prelude.{◌≡◌, ◌<◌, ◌≤◌, ◌+◌, ◌++◌, ℕ, zero, suc, List, [], ◌∷◌, map, ⊤}
use Rattle.ssq_outside.specs.Faults.{Rises}
use Rattle.ssq_outside.specs.Logs.{Held, Line}
use Rattle.ssq_outside.specs.declared.inputs.InputError.{InputError}
use Rattle.ssq_outside.specs.declared.inputs.InputError.TheVariants as input
use Rattle.ssq_shape.specs.declared.bound.Stream.{Stream}
use Rattle.ssq_logs.specs.declared.fault.PartsFault.{PartsFault}
use Rattle.ssq_logs.specs.declared.fault.PartsFault.TheVariants.{Full, LogFault, NoMemory}

abbrev pub fault_of_input : InputError → PartsFault
fault_of_input input.Fault = LogFault
fault_of_input input.NoMemory = NoMemory

-- the most parts of a stream
abbrev pub most_parts : ℕ
most_parts = 64

-- how many parts each stream has
abbrev pub counts_in : Held → List Stream → List ℕ
counts_in held streams = map (λ stream. held.parts stream.source) streams

-- no stream has too many
abbrev pub IsFew : ℕ → Type 0
IsFew count = count ≤ most_parts

-- the lines of so many parts of a stream, from this one on
abbrev pub lines_from : Held → List ℕ → (part left : ℕ) → List (List Line)
lines_from held source part zero = []
lines_from held source part (suc left) = held.lines source part ∷ lines_from held source (part + 1) left

-- the lines of each part of each stream, in order
abbrev pub lines_in : Held → List Stream → List (List Line)
lines_in held [] = []
lines_in held (stream ∷ streams) = lines_from held stream.source 0 (held.parts stream.source) ++ lines_in held streams

-- this stream is the first that has too many parts
abbrev pub IsFullAt : Held → List Stream → ℕ → Type 0
IsFullAt held [] at = ⊥
IsFullAt held (stream ∷ streams) zero = most_parts < held.parts stream.source
IsFullAt held (stream ∷ streams) (suc at) = (held.parts stream.source ≤ most_parts) × IsFullAt held streams at

-- a fault of the outside
abbrev pub IsOutside : PartsFault → Type 0
IsOutside (Full at) = ⊥
IsOutside LogFault = ⊤
IsOutside NoMemory = ⊤

-- why parts are not counted
abbrev pub PartsCause : Held → List Stream → PartsFault → Type 0
PartsCause held streams (Full at) = IsFullAt held streams at
PartsCause held streams LogFault = ⊤
PartsCause held streams NoMemory = ⊤

-- a fault of the inputs is told only where it was counted
abbrev pub InputsRise : ℕ → ℕ → PartsFault → Type 0
InputsRise before now LogFault = Rises before now
InputsRise before now _ = ⊤

-- the same, where so many streams were counted before
abbrev pub CauseBehind : ℕ → Held → List Stream → PartsFault → Type 0
CauseBehind counted held streams (Full at) = (n : ℕ) × (at ≡ counted + n) × IsFullAt held streams n
CauseBehind counted held streams LogFault = ⊤
CauseBehind counted held streams NoMemory = ⊤
