use Rattle.std.proofs.Common.{rules, ◌≡◌, ◌≤◌, ◌^◌, false, length, sym, ap, ◌∙◌, subst, arith}
use mathlib.Core.Option.{some}
use lib.ListN.{get_elem?}
use Rattle.std.specs.List.{list_any}
use Rattle.ssq_board.specs.declared.front.Place.TheVariants as place
use Rattle.ssq_board.specs.Core.{Core, is_waiting}
use Rattle.ssq_board.proofs.Lists.{at_length}
use Rattle.ssq_ledger.proofs.Boards.{out_last}
use Rattle.ssq_ledger.proofs.board.Board.first_task.Goals as goal

pub overflow_cast-result : goal.overflow_cast-result
overflow_cast-result c =
    let here : get_elem? c.self.inside.maps.items c.in-Some.number ≡ some place.Waits = ap (λ l. get_elem? l c.in-Some.number) (sym c.as_slice.ensures.value) ∙ c.in-Some.ensures.1 in
    let l = at_length c.self.inside.maps.items c.in-Some.number place.Waits here in
    let few : length c.self.inside.maps.items ≤ 2 ^ 32 = subst (λ (x : Core). length x.maps ≤ 2 ^ 32) (sym c.self.view_is) c.requires.maps in
    omega arith

pub overflow_cast-result-in-Some-first_waiting : goal.overflow_cast-result-in-Some-first_waiting
overflow_cast-result-in-Some-first_waiting c =
    let here : get_elem? c.self.inside.reduces.items c.in-Some-first_waiting.number ≡ some place.Waits = ap (λ l. get_elem? l c.in-Some-first_waiting.number) (sym c.as_slice-2.ensures.value) ∙ c.in-Some-first_waiting.ensures.1 in
    let l = at_length c.self.inside.reduces.items c.in-Some-first_waiting.number place.Waits here in
    let few : length c.self.inside.reduces.items ≤ 2 ^ 32 = subst (λ (x : Core). length x.reduces ≤ 2 ^ 32) (sym c.self.view_is) c.requires.reduces in
    omega arith

pub returns-clause-may : goal.returns-clause-may
returns-clause-may c =
    let none : list_any is_waiting c.args.self.now.maps ≡ false = ap (λ l. list_any is_waiting l) (ap (λ (x : Core). x.maps) (sym c.self.view_is) ∙ sym c.as_slice.ensures.value) ∙ search rules in
    let none' : list_any is_waiting c.args.self.now.reduces ≡ false = ap (λ l. list_any is_waiting l) (ap (λ (x : Core). x.reduces) (sym c.self.view_is) ∙ sym c.as_slice-2.ensures.value) ∙ search rules in
    let may = out_last c.args.scope.now c.args.self.now c.requires.ready none none' c.requires.outs in
    (may.0, may.1, ap (λ (x : Core). x.front.committed) c.self.view_is, may.3, may.4)
