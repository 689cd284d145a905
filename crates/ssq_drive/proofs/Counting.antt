-- How many epochs a history acknowledged.
use Rattle.std.proofs.Common.{◌≡◌, ◌⊎◌, ◌+◌, ◌-◌, ◌||◌, nat_lt, ℕ, Bool, true, false, true≢false, List, [], ◌∷◌, length, Option, Some, None, if◌then◌else◌, sym, refl, ap, ◌∙◌, subst, inl, inr, arith, le-ltb, lt-ltb}
use Rattle.std.proofs.lemmas.Bool.{or_right, or_left}
use Rattle.ssq_core.specs.declared.event.Event.{Event}
use Rattle.ssq_core.specs.Laws.{acknowledged}
use Rattle.ssq_core.specs.Machine.{upkeep}
use Rattle.ssq_board.specs.declared.front.Cause.{Cause}
use Rattle.ssq_board.specs.declared.front.Entry.{Entry}
use Rattle.ssq_board.specs.declared.front.Entry.TheVariants as entry
use Rattle.ssq_board.specs.Core.{Scope, Core, after, due, is_open, is_stopped, stops_by, events_all}
use Rattle.ssq_board.specs.Shown.{Start, IsSound, first}
use Rattle.ssq_board.specs.Told.{acknowledged_of}
use Rattle.ssq_board.proofs.Sounds.{step_sound}
use Rattle.ssq_board.proofs.Telling.{Runs, ack_snapshot, ack_unmade, after_stop, now_stopped, ack_report, ack_version, none_some}
use Rattle.ssq_board.specs.Shelf.{acknowledged_in}

-- So many are acknowledged, and maybe one waits for its sync. All that are committed are, where an epoch is open or names are settled; and
-- else all but the last, which waits, but for a Stop.
abbrev IsAt : Core → Option ℕ → ℕ → Type 0
IsAt c p a = ((p ≡ None) × (a ≡ c.front.committed) × ((is_open c || c.front.settled) ≡ true))
    ⊎ (((p ≡ Some a) ⊎ ((p ≡ None) × (is_stopped c.front.stop ≡ true))) × (a + 1 ≡ c.front.committed) × (c.front.settled ≡ false) × (is_open c ≡ false))

none_waits : (o : Option Cause) (p : Option ℕ) → p ≡ None → after_stop o p ≡ None
none_waits None p is = is
none_waits (Some f) p is = refl

-- what came back in place of a snapshot
unmade_at : (r : Scope) (c : Core) (i v : ℕ) (f : Cause) (p : Option ℕ) (a : ℕ) (o : Option Cause) → IsAt c p a → IsAt (after r c (entry.Unmade i v f)) (after_stop (stops_by o f) p) a
unmade_at r c i v f p a None (inl at) = inl (refl, at.1, at.2)
unmade_at r c i v f p a None (inr at) = inr (inr (refl, now_stopped c.front.stop f), at.1, at.2, at.3)
unmade_at r c i v f p a (Some g) (inl at) = inl at
unmade_at r c i v f p a (Some g) (inr (inl waits, one, unsettled, closed)) = inr (inl waits, one, unsettled, closed)
unmade_at r c i v f p a (Some g) (inr (inr stopped, one, unsettled, closed)) = inr (inr (stopped.0, now_stopped c.front.stop f), one, unsettled, closed)

-- and a Stop
halted_at : (c n : Core) (p : Option ℕ) (a : ℕ) → n.front.committed ≡ c.front.committed → n.front.settled ≡ c.front.settled → is_open n ≡ is_open c → is_stopped n.front.stop ≡ true → IsAt c p a → IsAt n None a
halted_at c n p a committed settled opened stopped (inl at) = inl (refl, at.1 ∙ sym committed, (λ i. opened i || settled i) ∙ at.2)
halted_at c n p a committed settled opened stopped (inr at) = inr (inr (refl, stopped), at.1 ∙ sym committed, settled ∙ at.2, opened ∙ at.3)

module _ (r : Scope) where
  abbrev Counts : List Event → ℕ → Option ℕ → Core → Type 0
  Counts es a p n = (q : Option ℕ) × IsAt n q (a + length (acknowledged p es))

  unstopped : (c : Core) → c.front.stop ≡ None → is_stopped c.front.stop ≡ true → ⊥
  unstopped c run h = true≢false (sym h ∙ ap is_stopped run)

  counts : (es : List Entry) (c n : Core) (p : Option ℕ) (a : ℕ) → IsSound r c → IsAt c p a → Runs r c es n → Counts (events_all r c es) a p n
  counts [] c n p a sound at l = (p, subst (λ (k : ℕ). IsAt n p k) (let e : a ≡ a + 0 = omega arith in e) (subst (λ (x : Core). IsAt x p a) l at))
  counts (entry.Plan e ∷ es) c n p a sound (inl at) l =
      let before = sound.before in
      let now = lt-ltb c.front.committed (c.front.planned + 1) (omega (arith, before)) in
      counts es (after r c (entry.Plan e)) n p a (step_sound r c (entry.Plan e) l.0 sound) (inl (at.0, at.1, or_left (nat_lt c.front.committed (c.front.planned + 1)) false now)) l.1
  counts (entry.Plan e ∷ es) c n p a sound (inr at) l = absurd (true≢false (sym l.0.3 ∙ at.2))
  counts (entry.Claim t ∷ es) c n p a sound at l = counts es (after r c (entry.Claim t)) n p a (step_sound r c (entry.Claim t) l.0 sound) at l.1
  counts (entry.Report t f ∷ es) c n p a sound (inl at) l =
      let o = due c t f in
      let more = counts es (after r c (entry.Report t f)) n (after_stop o p) a (step_sound r c (entry.Report t f) l.0 sound) (inl (none_waits o p at.0, at.1, at.2)) l.1 in
      subst (λ (x : List ℕ). (q : Option ℕ) × IsAt n q (a + length x)) (sym (ack_report t.kind t f o p (events_all r (after r c (entry.Report t f)) es))) more
  counts (entry.Report t f ∷ es) c n p a sound (inr at) l = absurd (true≢false (sym l.0.0 ∙ at.3))
  counts (entry.Version t ∷ es) c n p a sound (inl at) l =
      let o = due c t None in
      let more = counts es (after r c (entry.Version t)) n (after_stop o p) a (step_sound r c (entry.Version t) l.0 sound) (inl (none_waits o p at.0, at.1, or_left (is_open c) (after r c (entry.Version t)).front.settled l.0.0)) l.1 in
      subst (λ (x : List ℕ). (q : Option ℕ) × IsAt n q (a + length x)) (sym (ack_version t o p (events_all r (after r c (entry.Version t)) es))) more
  counts (entry.Version t ∷ es) c n p a sound (inr at) l = absurd (true≢false (sym l.0.0 ∙ at.3))
  counts (entry.Missed t ∷ es) c n p a sound (inl at) l = counts es (after r c (entry.Missed t)) n None a (step_sound r c (entry.Missed t) l.0 sound) (inl (refl, at.1, at.2)) l.1
  counts (entry.Missed t ∷ es) c n p a sound (inr at) l = absurd (true≢false (sym l.0.0 ∙ at.3))
  counts (entry.OutFile e ∷ es) c n p a sound (inl at) l = counts es (after r c (entry.OutFile e)) n p a (step_sound r c (entry.OutFile e) l.0 sound) (inl (at.0, at.1, or_left (is_open c) false l.0.2)) l.1
  counts (entry.OutFile e ∷ es) c n p a sound (inr at) l = absurd (true≢false (sym l.0.2 ∙ at.3))
  counts (entry.Upkeep i v ∷ es) c n p a sound at l = counts es c n p a sound at l.1
  counts (entry.Drop q ∷ es) c n p a sound at l = counts es c n p a sound at l.1
  counts (entry.Snapshot i v ∷ es) c n p a sound at l =
      subst (λ (x : List ℕ). (q : Option ℕ) × IsAt n q (a + length x)) (sym (ack_snapshot i v c.front.stop p (events_all r c es))) (counts es c n p a sound at l.1)
  counts (entry.Unmade i v f ∷ es) c n p a sound at l =
      let more = counts es (after r c (entry.Unmade i v f)) n (after_stop (stops_by c.front.stop f) p) a (step_sound r c (entry.Unmade i v f) l.0 sound) (unmade_at r c i v f p a c.front.stop at) l.1 in
      subst (λ (x : List ℕ). (q : Option ℕ) × IsAt n q (a + length x)) (sym (ack_unmade (upkeep i v) (stops_by c.front.stop f) p (events_all r (after r c (entry.Unmade i v f)) es))) more
  counts (entry.Untaken i v ∷ es) c n p a sound at l =
      counts es (after r c (entry.Untaken i v)) n None a (step_sound r c (entry.Untaken i v) l.0 sound) (halted_at c (after r c (entry.Untaken i v)) p a refl refl refl refl at) l.1
  counts (entry.Undropped q ∷ es) c n p a sound at l =
      counts es (after r c (entry.Undropped q)) n None a (step_sound r c (entry.Undropped q) l.0 sound) (halted_at c (after r c (entry.Undropped q)) p a refl refl refl refl at) l.1
  counts (entry.Stop f ∷ es) c n p a sound (inl at) l = counts es (after r c (entry.Stop f)) n None a (step_sound r c (entry.Stop f) l.0 sound) (inl (refl, at.1, at.2)) l.1
  counts (entry.Stop f ∷ es) c n p a sound (inr at) l = counts es (after r c (entry.Stop f)) n None a (step_sound r c (entry.Stop f) l.0 sound) (inr (inr (refl, refl), at.1, at.2, at.3)) l.1
  counts (entry.Commit e b ∷ es) c n p a sound (inl at) l =
      let near = sound.near in
      let here : e ≡ a = l.0.1 ∙ sym at.1 in
      counts es (after r c (entry.Commit e b)) n (Some e) a (step_sound r c (entry.Commit e b) l.0 sound)
      (inr (inl (ap Some here), ap (λ (k : ℕ). k + 1) at.1, refl, le-ltb (c.front.committed + 1) c.front.planned near)) l.1
  counts (entry.Commit e b ∷ es) c n p a sound (inr at) l = absurd (true≢false (sym l.0.5 ∙ at.2))
  counts (entry.Sync clock ∷ es) c n None a sound (inl at) l =
      counts es (after r c (entry.Sync clock)) n None a (step_sound r c (entry.Sync clock) l.0 sound) (inl (refl, at.1, or_right (is_open c) true refl)) l.1
  counts (entry.Sync clock ∷ es) c n None a sound (inr (inl waits, more, unsettled, closed)) l = absurd (none_some waits)
  counts (entry.Sync clock ∷ es) c n None a sound (inr (inr stopped, more, unsettled, closed)) l = absurd (unstopped c l.0 stopped.1)
  counts (entry.Sync clock ∷ es) c n (Some e) a sound (inl at) l = absurd (none_some (sym at.0))
  counts (entry.Sync clock ∷ es) c n (Some e) a sound (inr (inr stopped, more, unsettled, closed)) l = absurd (none_some (sym stopped.0))
  counts (entry.Sync clock ∷ es) c n (Some e) a sound (inr (inl waits, one, unsettled, closed)) l =
      let more = counts es (after r c (entry.Sync clock)) n None (a + 1) (step_sound r c (entry.Sync clock) l.0 sound) (inl (refl, one, or_right (is_open c) true refl)) l.1 in
      let later = events_all r (after r c (entry.Sync clock)) es in
      (more.0, subst (λ (k : ℕ). IsAt n more.0 k) (let q : a + 1 + length (acknowledged None later) ≡ a + length (e ∷ acknowledged None later) = omega arith in q) more.1)

  -- those that a desk says are
  pub counted : (start : Start) (es : List Entry) (n : Core) → IsSound r (first r start) → Runs r (first r start) es n → start.committed + length (acknowledged_of r start es) ≡ acknowledged_in n
  counted start es n sound l =
      let m = counts es (first r start) n None start.committed sound (inl (refl, refl, or_right (is_open (first r start)) true refl)) l in
      by m.0 (start.committed + length (acknowledged_of r start es)) m.1
    where
      none_by : (a b : Bool) (k : ℕ) → a ≡ false → b ≡ false → (if a || b then k else k - 1) ≡ k - 1
      none_by false false k x y = refl
      none_by true b k x y = absurd (true≢false x)
      none_by false true k x y = absurd (true≢false y)

      by : (q : Option ℕ) (a : ℕ) → IsAt n q a → a ≡ acknowledged_in n
      by q a (inl at) = at.1 ∙ ap (λ (b : Bool). if b then n.front.committed else n.front.committed - 1) (sym at.2)
      by q a (inr at) = (let is : a ≡ n.front.committed - 1 = (let e = at.1 in omega (arith, e)) in is ∙ sym (none_by (is_open n) n.front.settled n.front.committed at.3 at.2))
