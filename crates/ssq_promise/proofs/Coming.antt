-- How a round goes on: what it plans and commits.
use Rattle.std.proofs.Common.{◌≡◌, ◌⊎◌, ◌<◌, ◌≤◌, ◌+◌, [], ◌∷◌, ℕ, Bool, true, false, List, None, refl, sym, ap, ◌∙◌, subst, inl, inr, le_refl, arith}
use Rattle.std.proofs.lemmas.Bool.{cases_lt}
use Rattle.ssq_outside.specs.declared.name.Name.TheVariants as name
use Rattle.ssq_outside.specs.Files.{Had}
use Rattle.ssq_outside.specs.History.{had_now}
use Rattle.ssq_core.specs.Course.{Ends, Cuts, Job, AreSameUpTo}
use Rattle.ssq_core.specs.Machine.{Desk}
use Rattle.ssq_core.specs.Sound.{Sound, IsSoundAt}
use Rattle.ssq_core.proofs.Moves.{moves_on, open_sound}
use Rattle.ssq_board.specs.declared.front.Entry.{Entry}
use Rattle.ssq_board.specs.declared.front.Entry.TheVariants as entry
use Rattle.ssq_board.specs.Core.{Scope, Core, events_all, is_behind, is_open, next_ends}
use Rattle.ssq_board.specs.Shown.{Start, IsSound}
use Rattle.ssq_board.specs.Follows.{Terms, State, Step, Leads, Shows, ShowsShelf, shown}
use Rattle.ssq_board.proofs.Following.{list_follows}
use Rattle.ssq_board.proofs.Opening.{shows_first}
use Rattle.ssq_board.proofs.Sounds.{first_sound, step_sound}
use Rattle.ssq_promise.specs.Run.{Begins, WentOn}
use Rattle.ssq_promise.proofs.Joining.{shown_first, begins_shelf}
use Rattle.ssq_promise.proofs.Leaving.{sound_by}
use Rattle.ssq_promise.proofs.Truths.{either_of, extended_below}

module _ (tells : Type 0) (t : tells) (job : Job) (r : Scope) (next : Cuts → ℕ → Bool) (terms : Terms job r next) where
  -- an epoch was to come
  abbrev IsComing : Cuts → ℕ → Type 0
  IsComing cuts e = (is_behind (cuts e) r.available ≡ true) ⊎ (next cuts e ≡ true)

  -- no epoch that is committed has a fault
  abbrev AreFaultless : State → Type 0
  AreFaultless s = (e : ℕ) → e < s.core.front.committed → (job.course s.cuts).is_faulty e ≡ false

  -- From one state to another: the cuts so far stay, and each epoch that was planned was to come.
  record HasCome (s n : State) : Type 0 where
    pub more : s.core.front.planned ≤ n.core.front.planned
    pub kept : AreSameUpTo n.cuts s.cuts s.core.front.planned
    pub each : (e : ℕ) → s.core.front.planned ≤ e → e < n.core.front.planned → IsComing n.cuts e

  come_same : (one other : Cuts) (e : ℕ) → ((k : ℕ) → k ≤ e → one k ≡ other k) → IsComing other e → IsComing one e
  come_same one other e same is = elim is [
    | inl behind ↦ inl (ap (λ (l : Ends). is_behind l r.available) (same e (le_refl e)) ∙ behind)
    | inr due ↦ inr (terms.dues one other e same ∙ due)
  ]

  come_more : (a b c : State) → HasCome a b → HasCome b c → HasCome a c
  come_more a b c first later =
      let f = first.more in
      let l = later.more in
      record {
        more = omega (arith, f, l);
        kept = λ e le. later.kept e (omega (arith, le, f)) ∙ first.kept e le;
        each = λ e from to. elim (cases_lt e b.core.front.planned) [
          | inl before ↦ come_same c.cuts b.cuts e (λ k le. later.kept k (omega (arith, le, before))) (first.each e from before)
          | inr behind ↦ later.each e behind to
        ];
      }

  -- nothing was planned
  none_come : (s n : State) → n.core.front.planned ≡ s.core.front.planned → n.cuts ≡ s.cuts → HasCome s n
  none_come s n same cuts = record {
    more = omega (arith, same);
    kept = λ e le. ap (λ (k : Cuts). k e) cuts;
    each = λ e from to. absurd (omega (arith, same, from, to));
  }

  -- what is due where no epoch is open
  pub closed_due : (s : State) (d : Desk) → d.cuts ≡ s.cuts → Shows job r next terms s.core d → is_open s.core ≡ false → s.core.front.due ≡ next s.cuts s.core.front.planned
  closed_due s d cuts shows between = shows.due between ∙ ap (λ (k : Cuts). next k s.core.front.planned) cuts

  one_come : (e : Entry) (s n : State) (d : Desk) → d.cuts ≡ s.cuts → Shows job r next terms s.core d → Step tells job r next s e n → HasCome s n
  one_come (entry.Plan e) s n d cuts shows step =
      let k = s.core.front.planned in
      let ends = next_ends r.cap s.core.ends r.available in
      let planned : n.core.front.planned ≡ k + 1 = ap (λ (c : Core). c.front.planned) step.core in
      let kept : AreSameUpTo n.cuts s.cuts k = λ i le. ap (λ (c : Cuts). c i) step.cuts ∙ extended_below s.cuts k ends i le in
      let last : s.cuts k ≡ s.core.ends = ap (λ (c : Cuts). c k) (sym cuts) ∙ shows.ends in
      let here : IsComing s.cuts k = elim (either_of (is_behind s.core.ends r.available) s.core.front.due step.may.4) [
        | inl behind ↦ inl (ap (λ (l : Ends). is_behind l r.available) last ∙ behind)
        | inr due ↦ inr (sym (closed_due s d cuts shows step.may.2) ∙ due)
      ] in
      record {
        more = omega (arith, planned);
        kept = kept;
        each = λ i from to. (let is : k ≡ i = omega (arith, from, to, planned) in subst (IsComing n.cuts) is (come_same n.cuts s.cuts k kept here));
      }
  one_come (entry.Claim u) s n d cuts shows step = none_come s n (ap (λ (c : Core). c.front.planned) step.core) step.cuts
  one_come (entry.Report u f) s n d cuts shows step = none_come s n (ap (λ (c : Core). c.front.planned) step.core) step.cuts
  one_come (entry.Version u) s n d cuts shows step = none_come s n (ap (λ (c : Core). c.front.planned) step.core) step.cuts
  one_come (entry.Missed u) s n d cuts shows step = none_come s n (ap (λ (c : Core). c.front.planned) step.core) step.cuts
  one_come (entry.OutFile e) s n d cuts shows step = none_come s n (ap (λ (c : Core). c.front.planned) step.core) step.cuts
  one_come (entry.Sync clock) s n d cuts shows step = none_come s n (ap (λ (c : Core). c.front.planned) step.core) step.cuts
  one_come (entry.Commit e due) s n d cuts shows step = none_come s n (ap (λ (c : Core). c.front.planned) step.core) step.cuts
  one_come (entry.Upkeep p v) s n d cuts shows step = none_come s n (ap (λ (c : Core). c.front.planned) step.core) step.cuts
  one_come (entry.Snapshot p v) s n d cuts shows step = none_come s n (ap (λ (c : Core). c.front.planned) step.core) step.cuts
  one_come (entry.Unmade p v f) s n d cuts shows step = none_come s n (ap (λ (c : Core). c.front.planned) step.core) step.cuts
  one_come (entry.Untaken p v) s n d cuts shows step = none_come s n (ap (λ (c : Core). c.front.planned) step.core) step.cuts
  one_come (entry.Drop q) s n d cuts shows step = none_come s n (ap (λ (c : Core). c.front.planned) step.core) step.cuts
  one_come (entry.Undropped q) s n d cuts shows step = none_come s n (ap (λ (c : Core). c.front.planned) step.core) step.cuts
  one_come (entry.Stop f) s n d cuts shows step = none_come s n (ap (λ (c : Core). c.front.planned) step.core) step.cuts

  -- a running desk has committed no epoch with a fault
  sound_faultless : (d : Desk) (had : Had) → IsSoundAt job d had → (e : ℕ) → e < d.committed → (job.course d.cuts).is_faulty e ≡ false
  sound_faultless d had sound e less =
      sound.holds.faultless e (had (name.Out e)).settled (inl refl) (sound.holds.outs e less (had (name.Out e)).settled (inl refl))

  running_faultless : (s : State) (d : Desk) → d.cuts ≡ s.cuts → Shows job r next terms s.core d → s.core.front.stop ≡ None → Sound job (shown s.disk s.core d) → AreFaultless s
  running_faultless s d cuts shows runs sound =
      subst (λ (k : ℕ). (e : ℕ) → e < k → (job.course s.cuts).is_faulty e ≡ false) shows.committed
      (subst (λ (c : Cuts). (e : ℕ) → e < d.committed → (job.course c).is_faulty e ≡ false) cuts (sound_faultless d (had_now s.disk) (sound_by job s.core.front.stop d (had_now s.disk) runs sound)))

  same_faultless : (s n : State) → n.core.front.committed ≡ s.core.front.committed → n.cuts ≡ s.cuts → AreFaultless s → AreFaultless n
  same_faultless s n same cuts good =
      subst (λ (k : ℕ). (e : ℕ) → e < k → (job.course n.cuts).is_faulty e ≡ false) (sym same) (subst (λ (c : Cuts). (e : ℕ) → e < s.core.front.committed → (job.course c).is_faulty e ≡ false) (sym cuts) good)

  one_faultless : (e : Entry) (s n : State) (d : Desk) → Step tells job r next s e n → d.cuts ≡ n.cuts → Shows job r next terms n.core d → Sound job (shown n.disk n.core d) → AreFaultless s → AreFaultless n
  one_faultless (entry.Plan e) s n d step cuts shows sound good = running_faultless n d cuts shows (ap (λ (c : Core). c.front.stop) step.core) sound
  one_faultless (entry.Commit e due) s n d step cuts shows sound good = running_faultless n d cuts shows (ap (λ (c : Core). c.front.stop) step.core) sound
  one_faultless (entry.Claim u) s n d step cuts shows sound good = same_faultless s n (ap (λ (c : Core). c.front.committed) step.core) step.cuts good
  one_faultless (entry.Report u f) s n d step cuts shows sound good = same_faultless s n (ap (λ (c : Core). c.front.committed) step.core) step.cuts good
  one_faultless (entry.Version u) s n d step cuts shows sound good = same_faultless s n (ap (λ (c : Core). c.front.committed) step.core) step.cuts good
  one_faultless (entry.Missed u) s n d step cuts shows sound good = same_faultless s n (ap (λ (c : Core). c.front.committed) step.core) step.cuts good
  one_faultless (entry.OutFile e) s n d step cuts shows sound good = same_faultless s n (ap (λ (c : Core). c.front.committed) step.core) step.cuts good
  one_faultless (entry.Sync clock) s n d step cuts shows sound good = same_faultless s n (ap (λ (c : Core). c.front.committed) step.core) step.cuts good
  one_faultless (entry.Upkeep p v) s n d step cuts shows sound good = same_faultless s n (ap (λ (c : Core). c.front.committed) step.core) step.cuts good
  one_faultless (entry.Snapshot p v) s n d step cuts shows sound good = same_faultless s n (ap (λ (c : Core). c.front.committed) step.core) step.cuts good
  one_faultless (entry.Unmade p v f) s n d step cuts shows sound good = same_faultless s n (ap (λ (c : Core). c.front.committed) step.core) step.cuts good
  one_faultless (entry.Untaken p v) s n d step cuts shows sound good = same_faultless s n (ap (λ (c : Core). c.front.committed) step.core) step.cuts good
  one_faultless (entry.Drop q) s n d step cuts shows sound good = same_faultless s n (ap (λ (c : Core). c.front.committed) step.core) step.cuts good
  one_faultless (entry.Undropped q) s n d step cuts shows sound good = same_faultless s n (ap (λ (c : Core). c.front.committed) step.core) step.cuts good
  one_faultless (entry.Stop f) s n d step cuts shows sound good = same_faultless s n (ap (λ (c : Core). c.front.committed) step.core) step.cuts good

  goes_on : (es : List Entry) (s n : State) (d : Desk) → IsSound r s.core → d.cuts ≡ s.cuts → Shows job r next terms s.core d → ShowsShelf s.core s.shelf d → Sound job (shown s.disk s.core d) → AreFaultless s → Leads tells job r next s es n
      → HasCome s n × AreFaultless n × (is_open n.core ≡ false → n.core.front.due ≡ next n.cuts n.core.front.planned)
  goes_on [] s n d core cuts shows held sound good l =
      subst (λ (x : State). HasCome s x × AreFaultless x × (is_open x.core ≡ false → x.core.front.due ≡ next x.cuts x.core.front.planned)) l (none_come s s refl refl, good, closed_due s d cuts shows)
  goes_on (e ∷ es) s n d core cuts shows held sound good l =
      let mid = l.0 in
      let one = list_follows tells job r next terms t (e ∷ []) s mid d core cuts shows held (mid, l.1, refl) in
      let later : Sound job (shown mid.disk mid.core one.0) = (moves_on tells job (events_all r s.core (e ∷ [])) (shown s.disk s.core d) (shown mid.disk mid.core one.0) t terms.causal sound one.1).sound in
      let rest = goes_on es mid n one.0 (subst (IsSound r) (sym l.1.core) (step_sound r s.core e l.1.may core)) one.2 one.3 one.4 later (one_faultless e s mid one.0 l.1 one.2 one.3 later good) l.2 in
      (come_more s mid n (one_come e s mid d cuts shows l.1) rest.0, rest.1, rest.2)

pub round_goes_on : (tells : Type 0) → tells → (job : Job) (r : Scope) (next : Cuts → ℕ → Bool) (terms : Terms job r next) (st : Start) (es : List Entry) (s n : State) → Begins job r next terms st s
    → Leads tells job r next s es n → WentOn job r next s n
round_goes_on tells t job r next terms st es s n b l =
    let here : Shows job r next terms s.core b.desk = subst (λ (x : Core). Shows job r next terms x b.desk) (sym b.core)
    (shows_first job r next terms st b.files b.desk b.at.committed b.at.begins b.at.from b.is st.is_planned b.at.planned b.at.to b.at.due) in
    let sound : IsSound r s.core = subst (IsSound r) (sym b.core) (first_sound r st b.at.start) in
    let sound_first : IsSoundAt job b.desk (had_now s.disk) = subst (λ (h : Had). IsSoundAt job b.desk h) (sym b.settled.is) (open_sound job b.files b.desk b.is) in
    let begun : Sound job (shown s.disk s.core b.desk) = subst (Sound job) (sym (shown_first r st s.disk s.core b.desk b.core)) sound_first in
    let good = running_faultless tells t job r next terms s b.desk (sym b.cuts) here (ap (λ (c : Core). c.front.stop) b.core) begun in
    let on = goes_on tells t job r next terms es s n b.desk sound (sym b.cuts) here (begins_shelf job r next terms st s b) begun good l in
    record { come = on.0.each; faultless = on.1; due_is = on.2 }
