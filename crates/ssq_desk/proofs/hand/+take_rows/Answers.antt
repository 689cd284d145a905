use Rattle.std.proofs.Common.{◌++◌, [], ◌∷◌, List, length, length-append, map, suc, sym, ap, ◌∙◌, arith}
use Rattle.std.specs.Global.{Vec}
use Rattle.std.proofs.lemmas.List.{append-nil, append_assoc, map-append, nil_from_length}
use Rattle.ssq_value.specs.declared.row.Row.{Row}
use Rattle.ssq_desk.specs.declared.desk.Share.{Share}
use Rattle.ssq_desk.proofs.hand.+take_rows.Goals as goal

pub returns-in_default-clause-rows : goal.returns-in_default-clause-rows
returns-in_default-clause-rows g t c =
    sym (append-nil (map (λ (rows : Vec Row). rows.items) c.args.into.now.items))
    ∙ ap (λ (l : List (Share g.row.S.Denot)). map (λ (rows : Vec Row). rows.items) c.args.into.now.items ++ map (λ (share : Share g.row.S.Denot). share.rows.items) l) (sym (nil_from_length c.args.shares.now c.in_default.ensures.cases))

pub push_reserved-requires : goal.push_reserved-requires
push_reserved-requires g t c = omega (arith, c.requires, c.in-Some.ensures.cases.1, c.args.into.now.ok.0)

pub take_rows-requires : goal.take_rows-requires
take_rows-requires g t c κs within = (
  omega (arith, c.decreases, c.in-Some.ensures.cases.1),
  (within, let count = ap length c.push_reserved.ensures.items ∙ length-append c.args.into.now.items (c.replace.result ∷ []) in omega (arith, c.requires, c.in-Some.ensures.cases.1, count, c.push_reserved.ensures.capacity)),
)

pub returns-clause-rows : goal.returns-clause-rows
returns-clause-rows g t c =
    let of_rows : Vec Row → List Row = λ rows. rows.items in
    let of_share : Share g.row.S.Denot → List Row = λ share. share.rows.items in
    let old = map of_rows c.args.into.now.items in
    c.take_rows.ensures.rows
    ∙ ap (λ (l : List (Vec Row)). map of_rows l ++ map of_share c.in-Some.rest.now) c.push_reserved.ensures.items
    ∙ ap (λ (l : List (List Row)). l ++ map of_share c.in-Some.rest.now) (map-append of_rows c.args.into.now.items (c.replace.result ∷ []))
    ∙ append_assoc old (c.replace.result.items ∷ []) (map of_share c.in-Some.rest.now)
    ∙ ap (λ (rows : Vec Row). old ++ rows.items ∷ map of_share c.in-Some.rest.now) c.replace.ensures.value
    ∙ ap (λ (l : List (Share g.row.S.Denot)). old ++ map of_share l) (sym c.in-Some.ensures.cases.0)

pub returns-clause-count : goal.returns-clause-count
returns-clause-count g t c = ap suc c.take_rows.ensures.count ∙ sym (ap length c.in-Some.ensures.cases.0)

pub returns-clause-keys : goal.returns-clause-keys
returns-clause-keys g t c =
    ap (λ l. c.in-Some.share.now.key ∷ l) c.take_rows.ensures.keys
    ∙ ap (λ (l : List (Share g.row.S.Denot)). map (λ (share : Share g.row.S.Denot). share.key) l) (sym c.in-Some.ensures.cases.0)
