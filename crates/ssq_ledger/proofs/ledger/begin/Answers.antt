use Rattle.std.proofs.Common.{sym, subst, arith}
use Rattle.ssq_board.specs.Shown.{IsSound}
use Rattle.ssq_board.proofs.Needs.{need_bound}
use Rattle.ssq_board.proofs.Sounds.{first_sound}
use Rattle.ssq_ledger.proofs.ledger.begin.Goals as goal

pub count-requires : goal.count-requires
count-requires c =
    let d = subst (IsSound c.args.scope.now) (sym c.in_ok-board.ensures) (first_sound c.args.scope.now c.args.start c.requires.start) in
    let few = c.requires.few in
    omega (arith, d.maps, d.reduces, d.outs)

pub room_of-requires : goal.room_of-requires
room_of-requires c =
    let d = subst (IsSound c.args.scope.now) (sym c.in_ok-board.ensures) (first_sound c.args.scope.now c.args.start c.requires.start) in
    let few = c.requires.few in
    let n = c.count.ensures in
    omega (arith, d.maps, d.reduces, d.outs)

pub returns-clause-room : goal.returns-clause-room
returns-clause-room c =
    let b = need_bound c.in_ok-board.board in
    let n = c.count.ensures in
    let k = c.room_of.ensures in
    let q = c.in_ok-entries.ensures.capacity in
    omega arith

pub room_of-requires-2 : goal.room_of-requires-2
room_of-requires-2 c =
    let d = subst (IsSound c.args.scope.now) (sym c.in_ok-board.ensures) (first_sound c.args.scope.now c.args.start c.requires.start) in
    let few = c.requires.few in
    let n = c.count-2.ensures in
    omega (arith, d.maps, d.reduces, d.outs)

pub count-requires-2 : goal.count-requires-2
count-requires-2 c =
    let d = subst (IsSound c.args.scope.now) (sym c.in_ok-board.ensures) (first_sound c.args.scope.now c.args.start c.requires.start) in
    let few = c.requires.few in
    omega (arith, d.maps, d.reduces, d.outs)

pub returns-clause-names_room : goal.returns-clause-names_room
returns-clause-names_room c =
    let b = need_bound c.in_ok-board.board in
    let n = c.count-2.ensures in
    let k = c.room_of-2.ensures in
    let q = c.in_ok-names.ensures.capacity in
    omega arith
