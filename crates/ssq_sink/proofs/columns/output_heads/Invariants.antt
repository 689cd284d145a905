use Rattle.std.proofs.Common.{◌≡◌, map, take}
use Rattle.ssq_json.specs.RowText.{heads_of}
use Rattle.ssq_sink.proofs.columns.output_heads.Given as goal

-- the heads of the columns so far
abbrev pub invariant-loop-output : goal.invariant-loop-output
invariant-loop-output l = l.heads ≡ heads_of (map (λ output. output.name) (take l.output-index l.outputs))
