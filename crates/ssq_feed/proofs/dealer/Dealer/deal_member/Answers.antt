use Rattle.std.proofs.Common.{◌≡◌, ◌∷◌, ◌-◌, ◌∙◌, [], List, Option, ℤ, ap, sym, subst, arith, length, take, drop, take_all, length-drop}
use Rattle.std.specs.Prelude.{OnOk}
use Rattle.std.proofs.lemmas.List.Elements.{All-take, All-drop}
use Rattle.ssq_meaning.specs.Fit.{IsFit, IsFitRow}
use Rattle.ssq_meaning.specs.FedRows.{FedRow}
use Rattle.ssq_meaning.specs.Meaning.{Values}
use Rattle.ssq_meaning.specs.Placed.{placed_time}
use Rattle.ssq_feed.specs.Dealing.{Deals, from_origin}
use Rattle.ssq_feed.proofs.dealer.Dealer.deal_member.Goals as goal

pub slice_bounds-placed_time-count : goal.slice_bounds-placed_time-count
slice_bounds-placed_time-count c = omega (arith, c.requires.arguments, ap (λ (cells : Values). length cells) c.deref.ensures.value)

pub deal-requires : goal.deal-requires
deal-requires c =
    let from = c.args.from.now in
    subst IsFitRow (sym c.in_ok-row.ensures) (record {
      key = All-drop IsFit from.arguments c.args.cells.items c.requires.cells;
      values = All-take IsFit from.arguments c.args.cells.items c.requires.cells;
    })

pub returns : goal.returns
returns c =
    let from = c.args.from.now in
    let arguments = take from.arguments c.args.cells.items in
    let key = drop from.arguments c.args.cells.items in
    let P : List FedRow → Type 0 = λ rows. OnOk c.deal.result (Deals c.args.self.now.buckets c.deal.new.self.buckets rows) in
    let fed : Option ℤ → List FedRow = λ time. from_origin from.origin (record { key = key; time = time; values = arguments }) ∷ [] in
    let cells = c.deref.result.now in
    let behind : take (length cells - from.arguments) (drop from.arguments cells) ≡ key =
    take_all (length cells - from.arguments) (drop from.arguments cells) (omega (arith, length-drop from.arguments cells)) ∙ ap (drop from.arguments) c.deref.ensures.value in
    subst P (ap (λ (row : FedRow). row ∷ []) c.in_ok-row.ensures ∙ ap fed (c.placed_time-time.ensures ∙ ap (placed_time from.place) behind))
    c.deal.ensures
