use Rattle.std.proofs.Common.{◌∷◌, drop}
use Rattle.std.specs.List.{flat_map}
use Rattle.ssq_lex.specs.Printing.{Print, Adds}
use Rattle.ssq_ast.specs.Statement.{comma}
use Rattle.ssq_ast.proofs.part.print_further.Given as goal

-- what adds the words that are left adds all of them to what was printed before
abbrev pub invariant-loop-part : goal.invariant-loop-part
invariant-loop-part g l =
    (last : Print) → Adds l.printer (flat_map (λ part. comma ∷ g.P.Part.written part) (drop l.part-index l.parts)) last → Adds l.fn.printer (flat_map (λ part. comma ∷ g.P.Part.written part) l.parts) last
