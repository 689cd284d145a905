use Rattle.ssq_json.proofs.Restoring.{stripped_is, stripped_each}
use Rattle.ssq_json.proofs.stored.behind.Goals as goal

pub returns-clause-found : goal.returns-clause-found
returns-clause-found c = stripped_is (λ rest. rest.now) c.args.text.now c.args.front.now c.strip_prefix.result c.strip_prefix.ensures.cases

pub returns-clause-each : goal.returns-clause-each
returns-clause-each c = stripped_each (λ rest. rest.now) c.args.text.now c.args.front.now c.strip_prefix.result c.strip_prefix.ensures.cases
