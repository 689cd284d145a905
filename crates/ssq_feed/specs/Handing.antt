-- What a row hands on, as it is dealt.
use Rattle.std.specs.Prelude.{◌≡◌, ⊤, List, map, Result, Ok, Err, IsOkAnd}
use Rattle.ssq_shape.specs.declared.bound.Bound.{Bound}
use Rattle.ssq_shape.specs.Evaluation.{Overflow, overflow, and_then}
use Rattle.ssq_shape.specs.Plain.{shown as shown_row}
use Rattle.ssq_expr.specs.declared.fault.EvalFault.{EvalFault}
use Rattle.ssq_expr.specs.declared.fault.EvalFault.TheVariants as fault
use Rattle.ssq_meaning.specs.FedRows.{FedRow}
use Rattle.ssq_meaning.specs.Feeding.{Handed, shown_once}
use Rattle.ssq_meaning.specs.Meaning.{Values}
use Rattle.ssq_feed.specs.declared.dealer.Origin.{Origin}
use Rattle.ssq_feed.specs.Dealing.{Deals, from_origin}

-- the row as SELECT shows it, where it shows one
abbrev pub handed_shown : Bound → Values → Result (List Handed) Overflow
handed_shown query row = and_then (shown_row query row) (λ values. Ok (shown_once values))

-- The rows that are meant to be handed on are dealt, as rows of a line; or evaluating them overflows, or memory ran out.
abbrev pub HandsOn : Origin → (old new : List (List FedRow)) → Result (Unit {0}) EvalFault → Result (List Handed) Overflow → Type 0
HandsOn origin old new (Ok done) meant = IsOkAnd meant (λ rows. Deals old new (map (from_origin origin) rows))
HandsOn origin old new (Err fault.Overflow) meant = meant ≡ Err overflow
HandsOn origin old new (Err fault.NoMemory) meant = ⊤
