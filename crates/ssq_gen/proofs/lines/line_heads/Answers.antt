use Rattle.std.proofs.Common.{[], ◌∷◌, ◌∙◌, codes, sym}
use Rattle.ssq_json.proofs.Writing.{heads_of-none}
use Rattle.ssq_gen.proofs.lines.line_heads.Goals as goal

pub returns : goal.returns
returns c =
    c.with_name-3.ensures (codes "ts" ∷ codes "k" ∷ []) (c.in_ok-key.ensures (codes "ts" ∷ []) (c.in_ok-time.ensures [] (c.none.ensures ∙ sym heads_of-none)))
