-- Each turn of a round leaves less to do.
use Rattle.std.proofs.Common.{◌≡◌, ◌⊎◌, ◌+◌, ◌-◌, ◌*◌, ◌≤◌, ◌<◌, ◌&&◌, ◌||◌, not, nat_lt, ℕ, zero, suc, Bool, true, false, true≢false, List, [], ◌∷◌, Option, Some, None, if◌then◌else◌, sym, refl, ap, subst, inl, inr, arith, le-ltb, ltb-true}
use Rattle.ssq_outside.specs.declared.gate.TaskId.{TaskId}
use Rattle.ssq_core.specs.Course.{Ends}
use Rattle.ssq_board.specs.declared.front.Cause.{Cause}
use Rattle.ssq_board.specs.declared.front.Place.TheVariants as place
use Rattle.ssq_board.specs.declared.front.Entry.TheVariants as entry
use Rattle.ssq_board.specs.Core.{Scope, Core, within, next_end, next_ends, is_behind, is_open, is_stopped, need, May, after, after_all}
use Rattle.ssq_board.specs.Shown.{IsSound}
use Rattle.ssq_board.specs.Rounds.{HasCap, Comes, brings_rows, works, Worked, Versioned, lines_left, one_if, weigh, epochs_left, weight, left}
use Rattle.ssq_board.proofs.Sounds.{step_sound}
use Rattle.ssq_board.proofs.Placing.{at_here}
use Rattle.ssq_board.proofs.Needs.{need_claim, need_report, need_version, need_falls, need_sync, need_plan}

one_few : (b : Bool) → one_if b ≤ 1
one_few true = omega arith
one_few false = omega arith

-- an end that goes on
pub within_less : (cap : Option ℕ) (e s : ℕ) → HasCap cap → e < s → e + 1 ≤ within cap e s
within_less None e s cap less = omega arith
within_less (Some most) e s cap less = by (nat_lt (e + most) s) refl
  where
    by : (b : Bool) → nat_lt (e + most) s ≡ b → e + 1 ≤ (if nat_lt (e + most) s then e + most else s)
    by true is = rw is (omega (arith, cap))
    by false is = rw is (omega (arith, less))

end_falls : (cap : Option ℕ) (e s : ℕ) → HasCap cap → nat_lt e s ≡ true → (s - next_end cap e s) + 1 ≤ (s - e)
end_falls cap e s pos less =
    let below = ltb-true e s less in
    let w = within_less cap e s pos below in
    let is : next_end cap e s ≡ within cap e s = ap (λ (b : Bool). if b then within cap e s else e) less in
    omega arith

end_less : (cap : Option ℕ) (e s : ℕ) → HasCap cap → (s - next_end cap e s) ≤ (s - e)
end_less cap e s pos = by (nat_lt e s) refl
  where
    by : (b : Bool) → nat_lt e s ≡ b → (s - next_end cap e s) ≤ (s - e)
    by true is = omega (arith, end_falls cap e s pos is)
    by false is = (let same : next_end cap e s ≡ e = ap (λ (b : Bool). if b then within cap e s else e) is in omega arith)

lines_less : (cap : Option ℕ) (es : Ends) (ss : List ℕ) → HasCap cap → lines_left (next_ends cap es ss) ss ≤ lines_left es ss
lines_less cap [] ss pos = omega arith
lines_less cap (e ∷ es) [] pos = omega arith
lines_less cap (e ∷ es) (s ∷ ss) pos = omega (arith, end_less cap e.end s pos, lines_less cap es ss pos)

lines_fall : (cap : Option ℕ) (es : Ends) (ss : List ℕ) → HasCap cap → is_behind es ss ≡ true → lines_left (next_ends cap es ss) ss + 1 ≤ lines_left es ss
lines_fall cap [] ss pos behind = absurd (true≢false (sym behind))
lines_fall cap (e ∷ es) [] pos behind = absurd (true≢false (sym behind))
lines_fall cap (e ∷ es) (s ∷ ss) pos behind = by (nat_lt e.end s) refl behind (lines_fall cap es ss pos)
  where
    by : (b : Bool) → nat_lt e.end s ≡ b → (b || is_behind es ss) ≡ true → (is_behind es ss ≡ true → lines_left (next_ends cap es ss) ss + 1 ≤ lines_left es ss)
        → (s - next_end cap e.end s) + lines_left (next_ends cap es ss) ss + 1 ≤ (s - e.end) + lines_left es ss
    by true less h rest = omega (arith, end_falls cap e.end s pos less, lines_less cap es ss pos)
    by false less h rest = omega (arith, end_less cap e.end s pos, rest h)

weigh_less : (w a b : ℕ) → a ≤ b → weigh w a ≤ weigh w b
weigh_less w zero b le = omega arith
weigh_less w (suc a) zero le = absurd (omega arith)
weigh_less w (suc a) (suc b) le = omega (arith, weigh_less w a b (omega arith))

weigh_falls : (w a b : ℕ) → a + 1 ≤ b → weigh w a + w ≤ weigh w b
weigh_falls w a zero le = absurd (omega arith)
weigh_falls w a (suc b) le = omega (arith, weigh_less w a b (omega arith))

-- what is left where the desk runs
abbrev rest : Scope → Core → ℕ
rest r c = 1 + (weigh (weight r) (epochs_left r c) + 2 * need c + one_if (not c.front.settled) + one_if (is_open c && not c.front.fresh))

left_is : (r : Scope) (c : Core) → is_stopped c.front.stop ≡ false → left r c ≡ rest r c
left_is r c e = ap (λ (b : Bool). if b then 0 else rest r c) e

left_none : (r : Scope) (c : Core) → is_stopped c.front.stop ≡ true → left r c ≡ 0
left_none r c e = ap (λ (b : Bool). if b then 0 else rest r c) e

left_most : (r : Scope) (c : Core) → left r c ≤ rest r c
left_most r c = by (is_stopped c.front.stop) refl
  where
    by : (b : Bool) → is_stopped c.front.stop ≡ b → left r c ≤ rest r c
    by true is = omega (arith, left_none r c is)
    by false is = omega (arith, left_is r c is)

-- a Stop leaves nothing to do
stop_falls : (r : Scope) (c n : Core) → is_stopped c.front.stop ≡ false → is_stopped n.front.stop ≡ true → left r n < left r c
stop_falls r c n running stopped = omega (arith, left_none r n stopped, left_is r c running)

unstopped : (o : Option Cause) → o ≡ None → is_stopped o ≡ false
unstopped o e = ap is_stopped e

or_cases : (a b : Bool) → (a || b) ≡ true → a ≡ false → b ≡ true
or_cases true b h e = absurd (true≢false e)
or_cases false b h e = h

-- a plan is one epoch less
plan_epochs : (r : Scope) (c : Core) (e : ℕ) → HasCap r.cap → May r c (entry.Plan e) → epochs_left r (after r c (entry.Plan e)) + 1 ≤ epochs_left r c
plan_epochs r c e pos m = by (is_behind c.ends r.available) refl
  where
    n : Core
    n = after r c (entry.Plan e)

    by : (b : Bool) → is_behind c.ends r.available ≡ b → epochs_left r n + 1 ≤ epochs_left r c
    by true is = (let l = lines_fall r.cap c.ends r.available pos is in let o = one_few (is_open n && n.front.has_lines) in omega arith)
    by false is =
        let l = lines_less r.cap c.ends r.available pos in
        let none : one_if (is_open n && n.front.has_lines) ≡ 0 = no_lines (is_open n) n.front.has_lines is in
        let due : one_if c.front.due ≡ 1 = ap one_if (or_cases (is_behind c.ends r.available) c.front.due m.4 is) in
        omega arith
      where
        no_lines : (a b : Bool) → b ≡ false → one_if (a && b) ≡ 0
        no_lines true b h = ap one_if h
        no_lines false b h = refl

pub plan_falls : (r : Scope) (c n : Core) (e : ℕ) → IsSound r c → HasCap r.cap → May r c (entry.Plan e) → Comes r c n (entry.Plan e ∷ []) → left r n < left r c
plan_falls r c n e d pos m (inr stopped) = stop_falls r c n (unstopped c.front.stop m.0) stopped
plan_falls r c n e d pos m (inl is) = subst (λ x. left r x < left r c) (sym is) (
    let x = after r c (entry.Plan e) in
    let a = left_most r x in
    let b = left_is r c (unstopped c.front.stop m.0) in
    let w = weigh_falls (weight r) (epochs_left r x) (epochs_left r c) (plan_epochs r c e pos m) in
    let k = need_plan r x (step_sound r c (entry.Plan e) m d) in
    let o1 = one_few (not x.front.settled) in
    let o2 = one_few (is_open x && not x.front.fresh) in
    omega arith)

file_less : (o w : Bool) → (if o then 1 else 0) ≤ (if o then (if w then 1 else 2) else 0)
file_less true true = omega arith
file_less true false = omega arith
file_less false w = omega arith

out_need : (r : Scope) (c : Core) (e : ℕ) → need (after r c (entry.OutFile e)) ≤ need c + 1
out_need r c e = omega (arith, file_less (is_open c) c.front.written)

pub work_falls : (r : Scope) (c n : Core) → Worked r c n → left r n < left r c
work_falls r c n w = by_end w.3
  where
    t : TaskId
    t = w.0

    f : Option Cause
    f = w.1

    running : is_stopped c.front.stop ≡ false
    running = unstopped c.front.stop w.2.0

    c1 : Core
    c1 = after r c (entry.Claim w.0)

    c2 : Core
    c2 = after r (after r c (entry.Claim w.0)) (entry.Report w.0 w.1)

    two : need (after r (after r c (entry.Claim w.0)) (entry.Report w.0 w.1)) + 2 ≤ need c
    two = (let a = need_claim r c w.0 w.2.4 in let b = need_report r (after r c (entry.Claim w.0)) w.0 w.1 (at_here c w.0 place.Waits place.Away w.2.4) in omega arith)

    by_rows : (b : Bool) (e : ℕ) → left r (after_all r (after r (after r c (entry.Claim w.0)) (entry.Report w.0 w.1)) (if b then entry.OutFile e ∷ [] else [])) < left r c
    by_rows false e =
        let x = after r (after r c (entry.Claim w.0)) (entry.Report w.0 w.1) in
        let a = left_most r x in let b = left_is r c running in let k = two in
        omega arith
    by_rows true e =
        let y = after r (after r c (entry.Claim w.0)) (entry.Report w.0 w.1) in
        let x = after r y (entry.OutFile e) in
        let a = left_most r x in let b = left_is r c running in let k = two in let o = out_need r y e in
        let s = one_few (not x.front.settled) in
        omega arith

    by_end : Comes r c n (works w.0 w.1 c.front.committed) → left r n < left r c
    by_end (inr stopped) = stop_falls r c n running stopped
    by_end (inl is) = subst (λ x. left r x < left r c) (sym is) (by_rows (brings_rows w.0.kind w.1) c.front.committed)

pub version_falls : (r : Scope) (c n : Core) → Versioned r c n → left r n < left r c
version_falls r c n w = by_end w.3
  where
    running : is_stopped c.front.stop ≡ false
    running = unstopped c.front.stop w.2.0

    two : need (after r (after r c (entry.Claim w.0)) (entry.Version w.0)) + 2 ≤ need c
    two = (let a = need_claim r c w.0 w.2.4 in let b = need_version r (after r c (entry.Claim w.0)) w.0 (at_here c w.0 place.Waits place.Away w.2.4) in omega arith)

    by_end : Comes r c n (entry.Claim w.0 ∷ entry.Version w.0 ∷ []) → left r n < left r c
    by_end (inr stopped) = stop_falls r c n running stopped
    by_end (inl is) = subst (λ x. left r x < left r c) (sym is) (
        let x = after r (after r c (entry.Claim w.0)) (entry.Version w.0) in
        let a = left_most r x in let b = left_is r c running in let k = two in
        let s = one_few (not x.front.settled) in
        omega arith)

and_no : (b : Bool) → one_if (b && false) ≡ 0
and_no true = refl
and_no false = refl

pub sync_falls : (r : Scope) (c n : Core) (clock : ℕ) → c.front.stop ≡ None → (c.front.settled ≡ false) ⊎ ((is_open c ≡ true) × (c.front.fresh ≡ false)) → Comes r c n (entry.Sync clock ∷ []) → left r n < left r c
sync_falls r c n clock running due (inr stopped) = stop_falls r c n (unstopped c.front.stop running) stopped
sync_falls r c n clock running due (inl is) = subst (λ x. left r x < left r c) (sym is) (
    let x = after r c (entry.Sync clock) in
    let a = left_most r x in
    let b = left_is r c (unstopped c.front.stop running) in
    let q = need_sync r c clock running in
    let z = and_no (is_open c) in
    let k : 1 ≤ one_if (not c.front.settled) + one_if (is_open c && not c.front.fresh) = one_due due in
    omega arith)
  where
    one_due : (c.front.settled ≡ false) ⊎ ((is_open c ≡ true) × (c.front.fresh ≡ false)) → 1 ≤ one_if (not c.front.settled) + one_if (is_open c && not c.front.fresh)
    one_due (inl e) = (let q = ap (λ b. one_if (not b)) e in omega arith)
    one_due (inr e) = (let q : one_if (is_open c && not c.front.fresh) ≡ 1 = (λ i. one_if (e.0 i && not (e.1 i))) in omega arith)

pub commit_falls : (r : Scope) (c n : Core) (e : ℕ) (b : Bool) → IsSound r c → May r c (entry.Commit e b) → Comes r c n (entry.Commit e b ∷ []) → left r n < left r c
commit_falls r c n e b d m (inr stopped) = stop_falls r c n (unstopped c.front.stop m.0) stopped
commit_falls r c n e b d m (inl is) = subst (λ x. left r x < left r c) (sym is) (
    let x = after r c (entry.Commit e b) in
    let a = left_most r x in
    let k = left_is r c (unstopped c.front.stop m.0) in
    let q = need_falls r c (entry.Commit e b) d m refl in
    let closed : is_open x ≡ false = le-ltb (c.front.committed + 1) c.front.planned d.near in
    let stale : one_if (is_open x && not x.front.fresh) ≡ 0 = ap (λ (o : Bool). one_if (o && not x.front.fresh)) closed in
    let lines : one_if (is_open x && x.front.has_lines) ≡ 0 = ap (λ (o : Bool). one_if (o && x.front.has_lines)) closed in
    let opened : one_if (is_open c && c.front.has_lines) ≡ one_if c.front.has_lines = ap (λ (o : Bool). one_if (o && c.front.has_lines)) m.2 in
    let due : one_if (b && c.front.has_lines) ≤ one_if c.front.has_lines = and_less b c.front.has_lines in
    let w = weigh_less (weight r) (epochs_left r x) (epochs_left r c) (omega arith) in
    omega arith)
  where
    and_less : (a b : Bool) → one_if (a && b) ≤ one_if b
    and_less true b = omega arith
    and_less false b = omega arith
