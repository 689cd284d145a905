use Rattle.ssq_ast.specs.Canonical.{plain_stream}
use Rattle.ssq_ast.specs.Statement.{declared_words}
use Rattle.ssq_ast.proofs.Printed.{flat_map-map}
use Rattle.ssq_ast.proofs.canonical.print_streams.Goals as goal

pub returns : goal.returns
returns c = rw (flat_map-map declared_words plain_stream c.args.streams.now) c.print_each.ensures
