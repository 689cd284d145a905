use Rattle.std.proofs.Common.{Some, None, ◌++◌, ◌∙◌, ap, sym, append_assoc}
use Rattle.ssq_version.specs.Text.{field}
use Rattle.ssq_version.proofs.entry.kept_entry_and_rest.Goals as goal

pub returns-in_err-key-clause-each : goal.returns-in_err-key-clause-each
returns-in_err-key-clause-each c key None rest spelled is = absurd spelled.1
returns-in_err-key-clause-each c key (Some value) rest spelled is = absurd (c.in_err-key.ensures.each key (field value ++ rest) spelled.0 (is ∙ append_assoc (field key) (field value) rest))

pub returns-in_err-value-clause-each : goal.returns-in_err-value-clause-each
returns-in_err-value-clause-each c key None rest spelled is = absurd spelled.1
returns-in_err-value-clause-each c key (Some value) rest spelled is =
    let first = c.in_ok-key.ensures.each key (field value ++ rest) spelled.0 (is ∙ append_assoc (field key) (field value) rest) in
    absurd (c.in_err-value.ensures.each value rest spelled.1 first.1)

pub returns-clause-found : goal.returns-clause-found
returns-clause-found c =
    let key = field c.in_ok-key.key.now in
    c.in_ok-key.ensures.found ∙ ap (λ l. key ++ l) c.in_ok-value.ensures.found ∙ sym (append_assoc key (field c.in_ok-value.value.now) c.in_ok-value.rest.now)

pub returns-clause-each : goal.returns-clause-each
returns-clause-each c key None rest spelled is = absurd spelled.1
returns-clause-each c key (Some value) rest spelled is =
    let first = c.in_ok-key.ensures.each key (field value ++ rest) spelled.0 (is ∙ append_assoc (field key) (field value) rest) in
    let second = c.in_ok-value.ensures.each value rest spelled.1 first.1 in
    (first.0, ap Some second.0, second.1)
