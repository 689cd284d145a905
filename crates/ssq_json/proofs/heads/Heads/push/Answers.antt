use Rattle.std.proofs.Common.{◌≡◌, ◌++◌, ◌∷◌, [], ap, ◌∙◌, ◌==◌, length, rules}
use Rattle.ssq_json.proofs.Writing.{heads_of-push}
use Rattle.ssq_json.proofs.heads.Heads.push.Goals as goal

pub returns-clause-ok : goal.returns-clause-ok
returns-clause-ok c names is =
    let all : c.push.new.self.items ≡ c.args.self.now ++ c.in_ok-head.head ∷ [] = search rules in
    heads_of-push names _ _ _ _ _ is (c.is_empty.ensures ∙ ap (λ made. length made == 0) c.as_slice.ensures) c.in_ok-head.ensures all
