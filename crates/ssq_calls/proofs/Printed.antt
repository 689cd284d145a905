-- Rows that were read have texts.
use Rattle.std.proofs.Common.{◌≡◌, List, [], ◌∷◌, ◌++◌}
use Rattle.std.specs.List.{All}
use Rattle.std.proofs.lemmas.List.Elements.{All-append, All-cons, All-nil}
use Rattle.ssq_time.specs.Time.{IsStampTime}
use Rattle.ssq_value.specs.declared.value.Value.{Value}
use Rattle.ssq_value.specs.Layout.{Layout}
use Rattle.ssq_value.specs.Kind.{IfTime}
use Rattle.ssq_json.specs.Fits.{FitsSchema}
use Rattle.ssq_json.proofs.Fitting.{prints}

-- one more row that was read
pub rows_more : (schema : Layout) (row : List Value) (rows more : List (List Value)) → FitsSchema schema row → All (All (IfTime IsStampTime)) rows → more ≡ rows ++ row ∷ [] → All (All (IfTime IsStampTime)) more
rows_more schema row rows more fits all is =
    rw is (All-append (All (IfTime IsStampTime)) rows (row ∷ []) all (All-cons (All (IfTime IsStampTime)) row [] (prints schema row fits) (All-nil (All (IfTime IsStampTime)))))
