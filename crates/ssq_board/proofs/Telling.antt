-- What is told is what the history acknowledged.
use Rattle.std.proofs.Common.{◌≡◌, ◌⊎◌, ◌+◌, ◌&&◌, ◌++◌, ℕ, Bool, true, false, true≢false, List, [], ◌∷◌, length, Option, Some, None, sym, refl, ap, ◌∙◌, subst, inl, inr, arith}
use Rattle.ssq_outside.specs.declared.gate.TaskId.{TaskId}
use Rattle.ssq_outside.specs.declared.gate.Kind.{Kind}
use Rattle.ssq_outside.specs.declared.gate.Kind.TheVariants as kind
use Rattle.ssq_core.specs.declared.event.Event.{Event}
use Rattle.ssq_core.specs.declared.event.Event.TheVariants as event
use Rattle.ssq_core.specs.Course.{Cuts, Job}
use Rattle.ssq_core.specs.Laws.{acknowledged}
use Rattle.ssq_core.specs.Machine.{upkeep}
use Rattle.ssq_board.specs.declared.front.Cause.{Cause}
use Rattle.ssq_board.specs.declared.front.Entry.{Entry}
use Rattle.ssq_board.specs.declared.front.Entry.TheVariants as entry
use Rattle.ssq_board.specs.declared.front.Ready.TheVariants as ready
use Rattle.ssq_board.specs.Core.{Scope, Core, May, after, is_stopped, or_stop, due, seals, stops, stops_by, makes, events_all, ready_of}
use Rattle.ssq_board.specs.Shown.{Start, first, IsSound}
use Rattle.ssq_board.specs.Follows.{State, Leads}
use Rattle.ssq_board.specs.Told.{acknowledged_of, AreFrom, IsTold, IsCovered}
use Rattle.ssq_board.proofs.Readies.{over_is}

-- entries that may come, one after another
abbrev pub Runs : Scope → Core → List Entry → Core → Type 0
Runs r c [] n = c ≡ n
Runs r c (e ∷ es) n = May r c e × Runs r (after r c e) es n

pub runs_of : (tells : Type 0) (job : Job) (r : Scope) (next : Cuts → ℕ → Bool) (es : List Entry) (s n : State) → Leads tells job r next s es n → Runs r s.core es n.core
runs_of tells job r next [] s n l = ap (λ (x : State). x.core) l
runs_of tells job r next (e ∷ es) s n l = (l.1.may, subst (λ (c : Core). Runs r c es n.core) l.1.core (runs_of tells job r next es l.0 n l.2))

-- What waits for a sync, if anything, is the last that was committed; after a Stop nothing waits.
abbrev IsAt : Core → Option ℕ → ℕ → Type 0
IsAt c p a = ((p ≡ None) × (a ≡ c.front.committed)) ⊎ (((p ≡ Some a) × (a + 1 ≡ c.front.committed) × (c.front.settled ≡ false)) ⊎ ((p ≡ None) × (a + 1 ≡ c.front.committed) × (c.front.settled ≡ false) × (is_stopped c.front.stop ≡ true)))

pub none_some : {A : Type 0} {a : A} → None ≡ Some a → ⊥
none_some e = cc

some_is : {A : Type 0} (a b : A) → Some a ≡ Some b → a ≡ b
some_is {A} a b e = ap or_a e
  where
    or_a : Option A → A
    or_a None = a
    or_a (Some x) = x

-- a Stop leaves nothing that waits
abbrev pub after_stop : Option Cause → Option ℕ → Option ℕ
after_stop None p = p
after_stop (Some f) p = None

pub ack_report : (k : Kind) (t : TaskId) (f o : Option Cause) (p : Option ℕ) (rest : List Event) → acknowledged p ((seals k t f ++ (event.Report t ∷ stops o)) ++ rest) ≡ acknowledged (after_stop o p) rest
ack_report kind.Map t f None p rest = refl
ack_report kind.Map t f (Some g) p rest = refl
ack_report kind.Reduce t f None p rest = refl
ack_report kind.Reduce t f (Some g) p rest = refl
ack_report kind.Out t None None p rest = refl
ack_report kind.Out t None (Some g) p rest = refl
ack_report kind.Out t (Some h) None p rest = refl
ack_report kind.Out t (Some h) (Some g) p rest = refl
ack_report kind.Upkeep t f None p rest = refl
ack_report kind.Upkeep t f (Some g) p rest = refl

pub ack_version : (t : TaskId) (o : Option Cause) (p : Option ℕ) (rest : List Event) → acknowledged p ((event.Seal t ∷ event.Report t ∷ stops o) ++ rest) ≡ acknowledged (after_stop o p) rest
ack_version t None p rest = refl
ack_version t (Some g) p rest = refl

stays_stopped : (a o : Option Cause) → is_stopped a ≡ true → is_stopped (or_stop a o) ≡ true
stays_stopped None o h = absurd (true≢false (sym h))
stays_stopped (Some f) o h = refl

pub now_stopped : (a : Option Cause) (g : Cause) → is_stopped (or_stop a (Some g)) ≡ true
now_stopped None g = refl
now_stopped (Some f) g = refl

report_at : (r : Scope) (c : Core) (t : TaskId) (f o : Option Cause) (p : Option ℕ) (a : ℕ) → due c t f ≡ o → IsAt c p a → IsAt (after r c (entry.Report t f)) (after_stop o p) a
report_at r c t f None p a is (inl at) = inl at
report_at r c t f (Some g) p a is (inl at) = inl (refl, at.1)
report_at r c t f None p a is (inr (inl at)) = inr (inl at)
report_at r c t f (Some g) p a is (inr (inl at)) = inr (inr (refl, at.1, at.2, (ap (λ (x : Option Cause). is_stopped (or_stop c.front.stop x)) is ∙ now_stopped c.front.stop g)))
report_at r c t f None p a is (inr (inr at)) = inr (inr (at.0, at.1, at.2, stays_stopped c.front.stop (due c t f) at.3))
report_at r c t f (Some g) p a is (inr (inr at)) = inr (inr (refl, at.1, at.2, stays_stopped c.front.stop (due c t f) at.3))

-- a version is a report, but for what is settled
version_at : (r : Scope) (c : Core) (t : TaskId) (p : Option ℕ) (a : ℕ) → IsAt c p a → IsAt (after r c (entry.Version t)) (after_stop (due c t None) p) a
version_at r c t p a at = by (report_at r c t None (due c t None) p a refl at)
  where
    unsettled : (o : Option Cause) (b : Bool) → b ≡ false → (is_stopped o && b) ≡ false
    unsettled None b e = refl
    unsettled (Some f) b e = e

    by : IsAt (after r c (entry.Report t None)) (after_stop (due c t None) p) a → IsAt (after r c (entry.Version t)) (after_stop (due c t None) p) a
    by (inl x) = inl x
    by (inr (inl x)) = inr (inl (x.0, x.1, unsettled c.front.stop c.front.settled x.2))
    by (inr (inr x)) = inr (inr (x.0, x.1, unsettled c.front.stop c.front.settled x.2, x.3))

-- a snapshot that comes back is published, or not
pub ack_snapshot : (i v : ℕ) (o : Option Cause) (p : Option ℕ) (rest : List Event) → acknowledged p ((event.Seal (upkeep i v) ∷ event.Report (upkeep i v) ∷ makes o i v) ++ rest) ≡ acknowledged p rest
ack_snapshot i v None p rest = refl
ack_snapshot i v (Some f) p rest = refl

pub ack_unmade : (t : TaskId) (o : Option Cause) (p : Option ℕ) (rest : List Event) → acknowledged p ((event.Report t ∷ stops o) ++ rest) ≡ acknowledged (after_stop o p) rest
ack_unmade t None p rest = refl
ack_unmade t (Some f) p rest = refl

unmade_at : (r : Scope) (c : Core) (i v : ℕ) (f : Cause) (p : Option ℕ) (a : ℕ) (o : Option Cause) → c.front.stop ≡ o → IsAt c p a → IsAt (after r c (entry.Unmade i v f)) (after_stop (stops_by o f) p) a
unmade_at r c i v f p a None is (inl at) = inl (refl, at.1)
unmade_at r c i v f p a None is (inr (inl at)) = inr (inr (refl, at.1, at.2, now_stopped c.front.stop f))
unmade_at r c i v f p a None is (inr (inr at)) = inr (inr (refl, at.1, at.2, now_stopped c.front.stop f))
unmade_at r c i v f p a (Some g) is (inl at) = inl at
unmade_at r c i v f p a (Some g) is (inr (inl at)) = inr (inl at)
unmade_at r c i v f p a (Some g) is (inr (inr at)) = inr (inr (at.0, at.1, at.2, now_stopped c.front.stop f))

module _ (r : Scope) where
  abbrev Tells : List Event → ℕ → Option ℕ → Core → Type 0
  Tells es a p n = AreFrom a (acknowledged p es) × ((q : Option ℕ) × IsAt n q (a + length (acknowledged p es)))

  unstopped : (c : Core) → c.front.stop ≡ None → is_stopped c.front.stop ≡ true → ⊥
  unstopped c run h = true≢false (sym h ∙ ap is_stopped run)

  told : (es : List Entry) (c n : Core) (p : Option ℕ) (a : ℕ) → IsAt c p a → Runs r c es n → Tells (events_all r c es) a p n
  told [] c n p a at l = (tt, (p, subst (λ (k : ℕ). IsAt n p k) (let e : a ≡ a + 0 = omega arith in e) (subst (λ (x : Core). IsAt x p a) l at)))
  told (entry.Plan e ∷ es) c n p a (inl at) l = told es (after r c (entry.Plan e)) n p a (inl at) l.1
  told (entry.Plan e ∷ es) c n p a (inr (inl at)) l = absurd (true≢false (sym l.0.3 ∙ at.2))
  told (entry.Plan e ∷ es) c n p a (inr (inr at)) l = absurd (true≢false (sym l.0.3 ∙ at.2))
  told (entry.Claim t ∷ es) c n p a at l = told es (after r c (entry.Claim t)) n p a at l.1
  told (entry.Report t f ∷ es) c n p a at l =
      let more = told es (after r c (entry.Report t f)) n (after_stop (due c t f) p) a (report_at r c t f (due c t f) p a refl at) l.1 in
      subst (λ (x : List ℕ). AreFrom a x × ((q : Option ℕ) × IsAt n q (a + length x))) (sym (ack_report t.kind t f (due c t f) p (events_all r (after r c (entry.Report t f)) es))) more
  told (entry.Version t ∷ es) c n p a at l =
      let more = told es (after r c (entry.Version t)) n (after_stop (due c t None) p) a (version_at r c t p a at) l.1 in
      subst (λ (x : List ℕ). AreFrom a x × ((q : Option ℕ) × IsAt n q (a + length x))) (sym (ack_version t (due c t None) p (events_all r (after r c (entry.Version t)) es))) more
  told (entry.Missed t ∷ es) c n p a (inl at) l = told es (after r c (entry.Missed t)) n None a (inl (refl, at.1)) l.1
  told (entry.Missed t ∷ es) c n p a (inr (inl at)) l = told es (after r c (entry.Missed t)) n None a (inr (inr (refl, at.1, at.2, refl))) l.1
  told (entry.Missed t ∷ es) c n p a (inr (inr at)) l = told es (after r c (entry.Missed t)) n None a (inr (inr (refl, at.1, at.2, refl))) l.1
  told (entry.OutFile e ∷ es) c n p a (inl at) l = told es (after r c (entry.OutFile e)) n p a (inl at) l.1
  told (entry.OutFile e ∷ es) c n p a (inr (inl at)) l = told es (after r c (entry.OutFile e)) n p a (inr (inl (at.0, at.1, refl))) l.1
  told (entry.OutFile e ∷ es) c n p a (inr (inr at)) l = absurd (unstopped c l.0.0 at.3)
  told (entry.Upkeep i v ∷ es) c n p a at l = told es c n p a at l.1
  told (entry.Drop q ∷ es) c n p a at l = told es c n p a at l.1
  told (entry.Snapshot i v ∷ es) c n p a at l =
      let more = told es c n p a at l.1 in
      subst (λ (x : List ℕ). AreFrom a x × ((q : Option ℕ) × IsAt n q (a + length x))) (sym (ack_snapshot i v c.front.stop p (events_all r c es))) more
  told (entry.Unmade i v f ∷ es) c n p a at l =
      let more = told es (after r c (entry.Unmade i v f)) n (after_stop (stops_by c.front.stop f) p) a (unmade_at r c i v f p a c.front.stop refl at) l.1 in
      subst (λ (x : List ℕ). AreFrom a x × ((q : Option ℕ) × IsAt n q (a + length x))) (sym (ack_unmade (upkeep i v) (stops_by c.front.stop f) p (events_all r (after r c (entry.Unmade i v f)) es))) more
  told (entry.Untaken i v ∷ es) c n p a (inl at) l = told es (after r c (entry.Untaken i v)) n None a (inl (refl, at.1)) l.1
  told (entry.Untaken i v ∷ es) c n p a (inr (inl at)) l = told es (after r c (entry.Untaken i v)) n None a (inr (inr (refl, at.1, at.2, refl))) l.1
  told (entry.Untaken i v ∷ es) c n p a (inr (inr at)) l = told es (after r c (entry.Untaken i v)) n None a (inr (inr (refl, at.1, at.2, refl))) l.1
  told (entry.Undropped q ∷ es) c n p a (inl at) l = told es (after r c (entry.Undropped q)) n None a (inl (refl, at.1)) l.1
  told (entry.Undropped q ∷ es) c n p a (inr (inl at)) l = told es (after r c (entry.Undropped q)) n None a (inr (inr (refl, at.1, at.2, refl))) l.1
  told (entry.Undropped q ∷ es) c n p a (inr (inr at)) l = told es (after r c (entry.Undropped q)) n None a (inr (inr (refl, at.1, at.2, refl))) l.1
  told (entry.Stop f ∷ es) c n p a (inl at) l = told es (after r c (entry.Stop f)) n None a (inl (refl, at.1)) l.1
  told (entry.Stop f ∷ es) c n p a (inr (inl at)) l = told es (after r c (entry.Stop f)) n None a (inr (inr (refl, at.1, at.2, refl))) l.1
  told (entry.Stop f ∷ es) c n p a (inr (inr at)) l = told es (after r c (entry.Stop f)) n None a (inr (inr (refl, at.1, at.2, refl))) l.1
  told (entry.Commit e b ∷ es) c n p a (inl at) l = told es (after r c (entry.Commit e b)) n (Some e) a (inr (inl (ap Some (l.0.1 ∙ sym at.1), ap (λ (k : ℕ). k + 1) at.1, refl))) l.1
  told (entry.Commit e b ∷ es) c n p a (inr (inl at)) l = absurd (true≢false (sym l.0.5 ∙ at.2))
  told (entry.Commit e b ∷ es) c n p a (inr (inr at)) l = absurd (true≢false (sym l.0.5 ∙ at.2))
  told (entry.Sync clock ∷ es) c n None a (inl at) l = told es (after r c (entry.Sync clock)) n None a (inl (refl, at.1)) l.1
  told (entry.Sync clock ∷ es) c n None a (inr (inl at)) l = absurd (none_some at.0)
  told (entry.Sync clock ∷ es) c n None a (inr (inr at)) l = absurd (unstopped c l.0 at.3)
  told (entry.Sync clock ∷ es) c n (Some e) a (inl at) l = absurd (none_some (sym at.0))
  told (entry.Sync clock ∷ es) c n (Some e) a (inr (inr at)) l = absurd (none_some (sym at.0))
  told (entry.Sync clock ∷ es) c n (Some e) a (inr (inl at)) l =
      let more = told es (after r c (entry.Sync clock)) n None (a + 1) (inl (refl, at.1)) l.1 in
      let later = events_all r (after r c (entry.Sync clock)) es in
      ((some_is e a at.0, more.0), (more.1.0, subst (λ (k : ℕ). IsAt n more.1.0 k) (let q : a + 1 + length (acknowledged None later) ≡ a + length (e ∷ acknowledged None later) = omega arith in q) more.1.1))

  pub tells_all : (start : Start) (es : List Entry) (n : Core) → Runs r (first r start) es n → IsTold r start es n
  tells_all start es n l =
      let m = told es (first r start) n None start.committed (inl (refl, refl)) l in
      by_end m.0 m.1.1
    where
      by_end : {q : Option ℕ} → AreFrom start.committed (acknowledged_of r start es) → IsAt n q (start.committed + length (acknowledged_of r start es)) → IsTold r start es n
      by_end order (inl at) = (let e = at.1 in record { in_order = order; most = omega arith; least = omega arith; all = λ x. e })
      by_end order (inr (inl at)) = (let e = at.1 in record { in_order = order; most = omega arith; least = omega arith; all = λ x. absurd (true≢false (sym x ∙ at.2)) })
      by_end order (inr (inr at)) = (let e = at.1 in record { in_order = order; most = omega arith; least = omega arith; all = λ x. absurd (true≢false (sym x ∙ at.2)) })

  -- where it is over
  pub covered : (start : Start) (es : List Entry) (n : Core) → Runs r (first r start) es n → IsSound r n → ready_of r n ≡ ready.Over → IsCovered r start es n
  covered start es n l sound e =
      let o = over_is r n e in
      let t = tells_all start es n l in
      record { running = o.0; covered = o.3; quiet = o.4; committed = (let a = sound.before in let b = o.1 in omega arith); settled = o.2; told = t.all o.2 }
