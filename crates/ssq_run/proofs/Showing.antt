-- How showing a table ends, by how its parts do.
use Rattle.std.proofs.Common.{◌≡◌, ◌-◌, ◌++◌, ◌∷◌, ℕ, zero, suc, List, [], length, take, drop, Option, Some, None, is_some, true, false, refl, sym, ap, subst, ◌∙◌, inl, inr, append-nil, arith}
use Rattle.std.specs.Prelude.{IfNone, IfSome}
use Rattle.std.proofs.lemmas.List.{length-append, take-append-drop}
use Rattle.ssq_outside.specs.declared.output.OutError.{OutError}
use Rattle.ssq_outside.specs.declared.output.OutError.TheVariants as output
use Rattle.ssq_outside.specs.Files.{Files}
use Rattle.ssq_outside.specs.History.{History, files_now}
use Rattle.ssq_shape.specs.declared.bound.Bound.{Bound}
use Rattle.ssq_sink.specs.declared.fault.SinkFault.{SinkFault}
use Rattle.ssq_sink.specs.declared.fault.SinkFault.TheVariants as sink
use Rattle.ssq_sink.specs.Fault.{IfDamaged}
use Rattle.ssq_sink.specs.Table.{IsBadSink, IsTable}
use Rattle.ssq_open.specs.Looking.{query_of, HasRecordOf}
use Rattle.ssq_run.specs.declared.stop.Stop.{Stop}
use Rattle.ssq_run.specs.Shown.{IsRecordFault, ShowEnd, broke_off, denied, spoilt, starved, unread, written}
use Rattle.ssq_run.specs.Stopping.{stop_of_output, stop_of_sink}

-- how showing a table ends, with what was added to the output
abbrev pub Shows : (OutTells : Type 0) → Bound → Files → (before after : List ℕ) → Option Stop → Type 0
Shows OutTells bound files before after stop = (shown : List ℕ) × (OutTells → after ≡ before ++ shown) × ShowEnd bound files shown stop

-- nothing was written
pub untold : (OutTells : Type 0) (bound : Bound) (files : Files) (before : List ℕ) (stop : Option Stop) → ShowEnd bound files [] stop → Shows OutTells bound files before before stop
untold OutTells bound files before stop end = ([], λ tells. sym (append-nil before), end)

-- the record was not had
pub record_end : (bound : Bound) (files : Files) (own : Stop) → IsRecordFault bound files own → ShowEnd bound files [] (Some own)
record_end bound files own (inl why) = denied why.0 why.1 refl (ap Some why.2)
record_end bound files own (inr memory) = starved refl (ap Some memory)

-- there is no table, of files that are as they were when the record was read
pub sink_end : (bound : Bound) (old new : History) (fault : SinkFault) → new ≡ old → HasRecordOf (query_of bound) (files_now old) → IfDamaged (IsBadSink bound (files_now new)) fault → ShowEnd bound (files_now old) [] (Some (stop_of_sink fault))
sink_end bound old new (sink.Damaged at) same here bad = spoilt here at (subst (λ h. IsBadSink bound (files_now h) at) same bad) refl refl
sink_end bound old new sink.DiskFault same here bad = unread here refl refl
sink_end bound old new sink.NoMemory same here bad = starved refl refl

take-length : {A : Type 0} (n : ℕ) (xs : List A) → take (length (take n xs)) xs ≡ take n xs
take-length zero xs = refl
take-length (suc n) [] = refl
take-length (suc n) (x ∷ xs) = ap (λ l. x ∷ l) (take-length n xs)

-- what was added is the front of the table that has as many bytes
front_is : (before after table : List ℕ) (n : ℕ) → after ≡ before ++ take n table → after ≡ before ++ take (length after - length before) table
front_is before after table n is =
    let len = length-append before (take n table) in
    let many : length after - length before ≡ length (take n table) = omega (arith, ap length is, len) in
    is ∙ ap (λ l. before ++ l) (sym (take-length n table) ∙ ap (λ k. take k table) (sym many))

-- the table was written, or the output failed
pub put_end : (OutTells : Type 0) (bound : Bound) (old new : History) (table before after : List ℕ) → new ≡ old → HasRecordOf (query_of bound) (files_now old) → IsTable bound (files_now new) table → (OutTells → after ≡ before ++ table) → Shows OutTells bound (files_now old) before after None
put_end OutTells bound old new table before after same here is told = (table, told, written here (subst (λ h. IsTable bound (files_now h) table) same is) refl)

pub unput_end : (OutTells : Type 0) (bound : Bound) (old new : History) (table before after : List ℕ) (error : OutError) → new ≡ old → HasRecordOf (query_of bound) (files_now old) → IsTable bound (files_now new) table
    → (OutTells → (n : ℕ) × (after ≡ before ++ take n table)) → (OutTells → error ≡ output.NoMemory → after ≡ before) → Shows OutTells bound (files_now old) before after (Some (stop_of_output error))
unput_end OutTells bound old new table before after output.Fault same here is front none =
    let n = length after - length before in (
      take n table,
      λ tells. front_is before after table (front tells).0 (front tells).1,
      broke_off here table (subst (λ h. IsTable bound (files_now h) table) same is) (drop n table, sym (take-append-drop n table)) refl,
    )
unput_end OutTells bound old new table before after output.NoMemory same here is front none = ([], λ tells. none tells refl ∙ sym (append-nil before), starved refl refl)

-- what a list that is there tells beside it, and what one that is not does
pub there_tells : {A : Type 0} (Q : A → Type 0) (P : Type 0) (o : Option A) → IfSome o (λ x. Q x × P) → is_some o ≡ true → P
there_tells Q P None has is = absurd cc
there_tells Q P (Some x) has is = has.1

pub none_tells : {A : Type 0} (P : Type 0) (o : Option A) → IfNone o P → is_some o ≡ false → P
none_tells P None has is = has
none_tells P (Some x) has is = absurd cc
