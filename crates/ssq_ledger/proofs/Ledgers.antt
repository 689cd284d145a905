-- What is so of each ledger stays so after the entries of a call.
use Rattle.std.proofs.Common.{◌≡◌, ◌+◌, ◌≤◌, ◌<◌, ◌^◌, ◌++◌, ◌∷◌, [], ℕ, Bool, true, true≢false, List, None, length, length-append, sym, refl, ap, ◌∙◌, subst, arith}
use Rattle.ssq_outside.specs.Faults.{Rises}
use Rattle.ssq_outside.specs.History.{History}
use Rattle.ssq_core.specs.Course.{Cuts, Job}
use Rattle.ssq_board.specs.declared.front.Cause.TheVariants as cause
use Rattle.ssq_board.specs.declared.front.Front.{Front}
use Rattle.ssq_board.specs.declared.front.Entry.{Entry}
use Rattle.ssq_board.specs.declared.front.Entry.TheVariants as entry
use Rattle.ssq_board.specs.Core.{Scope, Core, need, May, after, after_all, cuts_by, cuts_all}
use Rattle.ssq_board.specs.Rounds.{spends}
use Rattle.ssq_board.specs.Shelf.{Shelf, MayKeep, shelf_by, shelf_all}
use Rattle.ssq_board.specs.Shown.{IsSound, first}
use Rattle.ssq_board.specs.Follows.{State, Leads, Moves, IsRight}
use Rattle.ssq_board.proofs.Needs.{need_falls}
use Rattle.ssq_board.proofs.Sounds.{run_sound, first_sound}
use Rattle.ssq_ledger.specs.Shown.{Opening, Shown, state, first_state, cuts_after, shelf_after, did, IsLedger}

-- what a call asks of what it is shown is so inside the ledger
module _ {D O : Type 0} (x y : Shown D O) (same : x ≡ y) where
  pub runs_inside : y.core.front.stop ≡ None → x.core.front.stop ≡ None
  runs_inside running = ap (λ (s : Shown D O). s.core.front.stop) same ∙ running

  -- of an entry with the number of an epoch, as the code has it
  pub may_inside : (of : ℕ → Entry) (number : Front → ℕ) (e : ℕ) → e ≡ number x.core.front → May y.scope y.core (of (number y.core.front)) → May x.scope x.core (of e)
  may_inside of number e is may = subst (λ n. May x.scope x.core (of n)) (sym is) (subst (λ (s : Shown D O). May s.scope s.core (of (number s.core.front))) (sym same) may)

  -- what it shows after one entry more, with this disk
  pub did_inside : (disk : D) (e : Entry) (core : Core) (now : List Entry) → core ≡ after x.scope x.core e → now ≡ x.history ++ e ∷ []
      → ◌≡◌ {A = Shown D O} (record { opening = x.opening; opened = x.opened; scope = x.scope; disk = disk; core = core; history = now }) (did y disk (e ∷ []))
  did_inside disk e core now known more =
      (λ i. record { opening = x.opening; opened = x.opened; scope = x.scope; disk = disk; core = known i; history = more i }) ∙ ap (λ (s : Shown D O). did s disk (e ∷ [])) same

  -- and with the disk as it was
  pub did_still : (e : Entry) (core : Core) (now : List Entry) → core ≡ after x.scope x.core e → now ≡ x.history ++ e ∷ []
      → ◌≡◌ {A = Shown D O} (record { opening = x.opening; opened = x.opened; scope = x.scope; disk = x.disk; core = core; history = now }) (did y y.disk (e ∷ []))
  did_still e core now known more = did_inside x.disk e core now known more ∙ ap (λ (s : Shown D O). did y s.disk (e ∷ [])) same

  -- the faults that its disk counted since
  pub risen_inside : (faults : D → ℕ) (disk : D) → Rises (faults x.disk) (faults disk) → Rises (faults y.disk) (faults disk)
  risen_inside faults disk = subst (λ (s : Shown D O). Rises (faults s.disk) (faults disk)) same

-- an entry more, where room was made for it before
pub pushed : (e : Entry) (old made now : List Entry) → now ≡ made ++ e ∷ [] → made ≡ old → now ≡ old ++ e ∷ []
pushed e old made now is same = is ∙ ap (λ (l : List Entry). l ++ e ∷ []) same

module _ (tells : Type 0) (job : Job) (r : Scope) (next : Cuts → ℕ → Bool) where
  leads_more : (s : State) (es : List Entry) (mid : State) (fs : List Entry) (n : State) → Leads tells job r next s es mid → Leads tells job r next mid fs n → Leads tells job r next s (es ++ fs) n
  leads_more s [] mid fs n l more = subst (λ x. Leads tells job r next x fs n) (sym l) more
  leads_more s (e ∷ es) mid fs n l more = (l.0, l.1, leads_more l.0 es mid fs n l.2 more)

  -- the cuts follow from the entries
  leads_cuts : (s : State) (es : List Entry) (n : State) → Leads tells job r next s es n → n.cuts ≡ cuts_all r s.cuts s.core es
  leads_cuts s [] n l = ap (λ x. x.cuts) (sym l)
  leads_cuts s (e ∷ es) n l = leads_cuts l.0 es n l.2 ∙ (λ i. cuts_all r (l.1.cuts i) (l.1.core i) es)

  -- and so do the files of the state
  leads_shelf : (s : State) (es : List Entry) (n : State) → Leads tells job r next s es n → n.shelf ≡ shelf_all r s.core s.shelf es
  leads_shelf s [] n l = ap (λ x. x.shelf) (sym l)
  leads_shelf s (e ∷ es) n l = leads_shelf l.0 es n l.2 ∙ (λ i. shelf_all r (l.1.core i) (l.1.shelf i) es)

  -- and so does what the ledger knows
  leads_core : (s : State) (es : List Entry) (n : State) → Leads tells job r next s es n → n.core ≡ after_all r s.core es
  leads_core s [] n l = ap (λ x. x.core) (sym l)
  leads_core s (e ∷ es) n l = leads_core l.0 es n l.2 ∙ (λ i. after_all r (l.1.core i) es)

-- the cuts after one entry more
pub cuts_more : (r : Scope) (cuts : Cuts) (c : Core) (es : List Entry) (e : Entry) → cuts_all r cuts c (es ++ e ∷ []) ≡ cuts_by r (cuts_all r cuts c es) (after_all r c es) e
cuts_more r cuts c [] e = refl
cuts_more r cuts c (x ∷ es) e = cuts_more r (cuts_by r cuts c x) (after r c x) es e

-- and the files of the state
pub shelf_more : (r : Scope) (k : Shelf) (c : Core) (es : List Entry) (e : Entry) → shelf_all r c k (es ++ e ∷ []) ≡ shelf_by (after_all r c es) (shelf_all r c k es) e
shelf_more r k c [] e = refl
shelf_more r k c (x ∷ es) e = shelf_more r (shelf_by c k x) (after r c x) es e

-- an entry that spends of the room asks nothing of the files of the state
keeps_spent : (r : Scope) (c : Core) (k : Shelf) (e : Entry) → spends e ≡ true → MayKeep r c k e
keeps_spent r c k (entry.Plan e) is = tt
keeps_spent r c k (entry.Claim t) is = tt
keeps_spent r c k (entry.Report t f) is = tt
keeps_spent r c k (entry.Version t) is = tt
keeps_spent r c k (entry.Missed t) is = tt
keeps_spent r c k (entry.OutFile e) is = tt
keeps_spent r c k (entry.Sync clock) is = tt
keeps_spent r c k (entry.Commit e due) is = tt
keeps_spent r c k (entry.Stop f) is = tt
keeps_spent r c k (entry.Upkeep p v) is = absurd (true≢false (sym is))
keeps_spent r c k (entry.Snapshot p v) is = absurd (true≢false (sym is))
keeps_spent r c k (entry.Unmade p v f) is = absurd (true≢false (sym is))
keeps_spent r c k (entry.Untaken p v) is = absurd (true≢false (sym is))
keeps_spent r c k (entry.Drop q) is = absurd (true≢false (sym is))
keeps_spent r c k (entry.Undropped q) is = absurd (true≢false (sym is))

module _ (tells : Type 0) (o : Opening) (opened : History) (r : Scope) (disk : History) (c : Core) (entries : List Entry) (capacity : ℕ) (d : IsLedger tells o opened r disk c entries capacity) where
  -- one entry more
  pub one : (new : History) (n : Core) (now : List Entry) (more : ℕ) (e : Entry) → May r c e → MayKeep r c (shelf_after o r entries) e → (tells → Moves o.job r c (cuts_after o r entries) e disk new)
      → (tells → IsRight o.job o.due (cuts_after o r entries) e) → n ≡ after r c e → now ≡ entries ++ e ∷ [] → length entries + 1 + need n ≤ more → IsLedger tells o opened r new n now more
  one new n now more e may keeps moves right is here room =
      let next : State = state new n (shelf_by c (shelf_after o r entries) e) (cuts_by r (cuts_after o r entries) c e) in
      let moved : tells → Moves o.job r c (cuts_after o r entries) e d.until new = (λ t. subst (λ (x : History). Moves o.job r c (cuts_after o r entries) e x new) (sym (d.is_disk t)) (moves t)) in
      let last : Leads tells o.job r o.due (state d.until c (shelf_after o r entries) (cuts_after o r entries)) (e ∷ []) next = (next, record { may = may; keeps = keeps; moves = moved; right = right; core = is; shelf = refl; cuts = refl }, refl) in
      let all = leads_more tells o.job r o.due (first_state o r opened) entries (state d.until c (shelf_after o r entries) (cuts_after o r entries)) (e ∷ []) next d.leads last in
      let same = leads_cuts tells o.job r o.due (first_state o r opened) (entries ++ e ∷ []) next all in
      let kept = leads_shelf tells o.job r o.due (first_state o r opened) (entries ++ e ∷ []) next all in record {
        until = new;
        is_disk = λ t. refl;
        leads = subst (λ (x : List Entry). Leads tells o.job r o.due (first_state o r opened) x (state new n (shelf_after o r x) (cuts_after o r x))) (sym here)
            (subst (λ (k : Shelf). Leads tells o.job r o.due (first_state o r opened) (entries ++ e ∷ []) (state new n k (cuts_after o r (entries ++ e ∷ [])))) kept
            (subst (λ (x : Cuts). Leads tells o.job r o.due (first_state o r opened) (entries ++ e ∷ []) (state new n (shelf_by c (shelf_after o r entries) e) x)) same all));
        start = d.start;
        terms = d.terms;
        plans = d.plans;
        room = (let a = ap length here in let b = length-append entries (e ∷ []) in omega arith);
        few = d.few;
      }

  -- none, with a call of the disk that changes nothing
  pub still : (new : History) → (tells → new ≡ disk) → IsLedger tells o opened r new c entries capacity
  still new same = record { until = d.until; is_disk = λ t. d.is_disk t ∙ sym (same t); leads = d.leads; start = d.start; terms = d.terms; plans = d.plans; room = d.room; few = d.few }

  -- what it knows follows from its entries
  pub known : c ≡ after_all r (first r o.start) entries
  known = leads_core tells o.job r o.due (first_state o r opened) entries (state d.until c (shelf_after o r entries) (cuts_after o r entries)) d.leads

  -- what holds of each state that entries lead to
  pub held : IsSound r c
  held = run_sound tells o.job r o.due entries (first_state o r opened) (state d.until c (shelf_after o r entries) (cuts_after o r entries)) d.leads (first_sound r o.start d.start)

  -- there is room for an entry that spends of it
  pub has_room : (e : Entry) → May r c e → spends e ≡ true → length entries < capacity
  has_room e may is = (let n = need_falls r c e held may is in let k = d.room in omega arith)

  -- and after it for all that can still come
  pub spent : (new : History) (n : Core) (now : List Entry) (more : ℕ) (e : Entry) → spends e ≡ true → May r c e → (tells → Moves o.job r c (cuts_after o r entries) e disk new)
      → (tells → IsRight o.job o.due (cuts_after o r entries) e) → n ≡ after r c e → now ≡ entries ++ e ∷ [] → capacity ≤ more → IsLedger tells o opened r new n now more
  spent new n now more e is may moves right to here kept =
      one new n now more e may (keeps_spent r c (shelf_after o r entries) e is) moves right to here (let n = need_falls r c e held may is in let k = d.room in let q = ap need to in omega arith)

  -- and for a Stop where there is more room
  pub stop_room : (now : List Entry) (more : ℕ) → c.front.stop ≡ None → now ≡ entries → capacity ≤ more → length now < more
  stop_room now more running same kept = (let a = has_room (entry.Stop cause.NoMemory) (running, tt) refl in let b = ap length same in omega (arith, a, b, kept))

  -- its tasks can be counted
  pub few_tasks : (n : Core) (count : ℕ) → IsSound r n → count ≡ length n.maps + length n.reduces + length n.outs → count ≤ 2 ^ 40
  few_tasks n count sound is = (let few = d.few in omega (arith, is, few, sound.maps, sound.reduces, sound.outs))
