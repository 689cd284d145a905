use Rattle.std.proofs.Common.{ap, ◌∙◌, take, drop, map}
use Rattle.std.proofs.lemmas.List.{take_rest}
use Rattle.ssq_lex.specs.Lexeme.{lexed}
use Rattle.std.specs.List.{prefix_len}
use Rattle.ssq_parse.specs.Operators.{prefixes}
use Rattle.ssq_parse.proofs.Wrapped.{taken_prefix, left_prefix}
use Rattle.ssq_parse.proofs.reader.Reader.prefixes.Goals as goal

pub returns-clause-taken : goal.returns-clause-taken
returns-clause-taken c =
    taken_prefix c.args.op c.self.inside.rest.now _ c.prefix_count-count.ensures.count
    ∙ ap (λ tokens. take (prefix_len (prefixes c.args.op) tokens) tokens) c.self.view_is

pub returns-clause-after : goal.returns-clause-after
returns-clause-after c =
    ap (map lexed) (take_rest c.self.inside.rest.now c.prefix_count-count.result)
    ∙ left_prefix c.args.op c.self.inside.rest.now _ c.prefix_count-count.ensures.count
    ∙ ap (λ tokens. drop (prefix_len (prefixes c.args.op) tokens) tokens) c.self.view_is
