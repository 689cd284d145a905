use Rattle.std.proofs.Common.{[], sym, ◌∙◌}
use Rattle.std.proofs.lemmas.List.{append-nil}
use Rattle.ssq_value.specs.Key.{keys_of}
use Rattle.ssq_value.proofs.KeyLaws.{same_keys}
use Rattle.ssq_value.proofs.keys.keys_are_apart.Goals as goal

pub returns-clause-whatever_follows : goal.returns-clause-whatever_follows
returns-clause-whatever_follows c = same_keys

pub returns-clause-no_front : goal.returns-clause-no_front
returns-clause-no_front c left right rest len f g apart e =
    apart (same_keys left right rest [] len f g (e ∙ sym (append-nil (keys_of right)))).0
