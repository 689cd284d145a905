-- A stream without an event column has no greatest event time.
use Rattle.std.proofs.Common.{◌≡◌, ◌+◌, ◌==◌, [], ◌∷◌, ℕ, zero, suc, List, Option, Some, None, Result, Ok, Err, Bool, true, false, refl, ap, sym, subst, map}
use Rattle.std.specs.Prelude.{All, IfSome, slice_get, option_and_then, if◌then◌else◌}
use Rattle.std.proofs.lemmas.Bool.{eqb-true}
use Rattle.std.proofs.lemmas.List.Elements.{All-head, All-tail}
use Rattle.ssq_value.specs.Layout.{Layout}
use Rattle.ssq_json.specs.declared.bad_row.BadRow.{BadRow}
use Rattle.ssq_shape.specs.declared.bound.Bound.{Bound}
use Rattle.ssq_shape.specs.declared.bound.Stream.{Stream}
use Rattle.ssq_shape.specs.Evaluation.{time_in as time_of_value}
use Rattle.ssq_meaning.specs.Meaning.{Line, Values, layout_in, lines_between}
use Rattle.ssq_meaning.specs.Parts.{Part}
use Rattle.ssq_meaning.specs.Cut.{Cut, of_parts}
use Rattle.ssq_meaning.specs.Cut.{Cuts as Offsets}
use Rattle.ssq_meaning.specs.Times.{later, greatest}
use Rattle.ssq_meaning.specs.Feeding.{layout_at, read_at, time_if, time_at, time_in}
use Rattle.ssq_meaning.specs.Epochs.{seen, time_between}
use Rattle.ssq_terms.specs.Setting.{HasEventIfDelayed}
use Rattle.ssq_terms.specs.Laws.{UnmarkedHaveNoTimes}

no_event : (streams : List Stream) (at : ℕ) → All HasEventIfDelayed streams → IfSome (slice_get streams at) (λ s. s.delay ≡ None) → (layout_in (slice_get streams at)).event ≡ None
no_event [] at all is = refl
no_event (s ∷ streams) zero all is = All-head HasEventIfDelayed s streams all is
no_event (s ∷ streams) (suc at) all is = no_event streams at (All-tail HasEventIfDelayed s streams all) is

of_read : (schema : Layout) (read : Result (Option Values) BadRow) → schema.event ≡ None → time_if schema read ≡ None
of_read schema (Err cause) none = refl
of_read schema (Ok None) none = refl
of_read schema (Ok (Some row)) none = ap (λ (event : Option ℕ). option_and_then (λ at. option_and_then time_of_value (slice_get row at)) event) none

of_lines : (query : Bound) (stream : ℕ) (lines : List Line) → (layout_at query stream).event ≡ None → greatest (map (λ line. time_at query stream line) lines) ≡ None
of_lines query stream [] none = refl
of_lines query stream (line ∷ lines) none =
    let first = of_read (layout_at query stream) (read_at query stream line) none in
    let rest = of_lines query stream lines none in
    (λ i. later (first i) (rest i))

of_part : (query : Bound) (stream : ℕ) (part : Part) (from to : ℕ) (b : Bool) → part.stream == stream ≡ b → (layout_at query stream).event ≡ None
    → (if b then time_in query part from to else None) ≡ None
of_part query stream part from to true same none =
    of_lines query part.stream (lines_between from to part.lines) (subst (λ (n : ℕ). (layout_at query n).event ≡ None) (sym (eqb-true part.stream stream same)) none)
of_part query stream part from to false same none = refl

of_cuts : (query : Bound) (stream : ℕ) (parts : List Part) (froms tos : Cut) → (layout_at query stream).event ≡ None → time_between query parts froms tos stream ≡ None
unfolding of_parts
of_cuts query stream [] froms tos none = refl
of_cuts query stream (part ∷ parts) [] tos none = refl
of_cuts query stream (part ∷ parts) (from ∷ froms) [] none = refl
of_cuts query stream (part ∷ parts) (from ∷ froms) (to ∷ tos) none =
    let first = of_part query stream part from to (part.stream == stream) refl none in
    let rest = of_cuts query stream parts froms tos none in
    (λ i. later (first i) (rest i))

of_epochs : (query : Bound) (parts : List Part) (cuts : Offsets) (stream e : ℕ) → (layout_at query stream).event ≡ None → seen query parts cuts stream e ≡ None
unfolding seen
of_epochs query parts cuts stream zero none = refl
of_epochs query parts cuts stream (suc e) none =
    let before = of_epochs query parts cuts stream e none in
    let here = of_cuts query stream parts (cuts e) (cuts (e + 1)) none in
    (λ i. later (before i) (here i))

pub unmarked_none : UnmarkedHaveNoTimes
unmarked_none query parts cuts stream e events none = of_epochs query parts cuts stream e (no_event query.streams stream events none)
