use Rattle.std.proofs.Common.{◌≡◌, ◌∙◌, ◌∷◌, List, Option, Some, None, map, sym, ap}
use Rattle.std.specs.List.{filter_map}
use Rattle.std.proofs.lemmas.List.{nil_from_length}
use Rattle.ssq_meaning.specs.Meaning.{Values}
use Rattle.ssq_meaning.specs.Group.{least_key, lesser_key}
use Rattle.ssq_desk.specs.declared.desk.Share.{Share}
use Rattle.ssq_desk.specs.Contents.{key_in}
use Rattle.ssq_desk.proofs.keys.+take_least.Goals as goal

-- the keys of a share and of those after it
key_at : {S : Type 0} (share : Share S) (rest : List (Share S)) (key : Option Values) → share.key ≡ key → least_key (filter_map (λ key. key) (key ∷ map (λ share. share.key) rest)) ≡ key_in (share ∷ rest)
key_at {S} share rest key is = ap (λ (k : Option Values). least_key (filter_map (λ key. key) (k ∷ map (λ (share : Share S). share.key) rest))) (sym is)

pub returns-in_err-shares : goal.returns-in_err-shares
returns-in_err-shares g t c = c.from_residual.ensures ∙ ap key_in (sym (nil_from_length c.args.shares.now c.in_err-shares.ensures.cases))

pub returns-in-Some : goal.returns-in-Some
returns-in-Some g t c =
    ap (λ (key : Values). Some key) (c.lesser.ensures ∙ ap (lesser_key c.in-Some.key) c.take_least.ensures)
    ∙ key_at c.in_ok-shares.share.now c.in_ok-shares.rest.now (Some c.in-Some.key) (sym c.replace.ensures.value ∙ c.in-Some.is) ∙ ap key_in (sym c.in_ok-shares.ensures.cases.0)

pub returns-in-None : goal.returns-in-None
returns-in-None g t c =
    c.take_least-in-None.ensures ∙ key_at c.in_ok-shares.share.now c.in_ok-shares.rest.now None (sym c.replace.ensures.value ∙ c.in-None.is) ∙ ap key_in (sym c.in_ok-shares.ensures.cases.0)
