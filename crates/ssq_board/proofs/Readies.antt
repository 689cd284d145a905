-- What is next may come.
use Rattle.std.proofs.Common.{◌≡◌, ◌⊎◌, ◌<◌, ◌≤◌, ◌&&◌, not, ℕ, Bool, true, false, true≢false, None, if◌then◌else◌, sym, refl, ap, ◌∙◌, inl, inr}
use Rattle.std.specs.List.{list_all, list_any}
use Rattle.std.proofs.lemmas.Bool.{or_parts}
use borrow.Author.Tests.{not-false, not-true}
use mathlib.Core.Option.{some}
use lib.ListN.{get_elem?}
use Rattle.ssq_outside.specs.declared.gate.Kind.TheVariants as kind
use Rattle.ssq_board.specs.declared.front.Place.TheVariants as place
use Rattle.ssq_board.specs.declared.front.Ready.{Ready}
use Rattle.ssq_board.specs.declared.front.Ready.TheVariants as ready
use Rattle.ssq_board.specs.declared.front.Entry.TheVariants as entry
use Rattle.ssq_board.specs.Core.{Scope, Core, May, IsFull, is_open, is_fine, is_waiting, is_stopped, is_more, is_behind, ready_tasks, ready_of}
use Rattle.ssq_board.specs.Rounds.{WaitsFor}
use Rattle.ssq_board.proofs.Sounds.{running_of, open_not}

-- where a test leads to another answer than the one that came, it failed
pub past : (b : Bool) (x y z : Ready) → (if b then x else y) ≡ z → (x ≡ z → ⊥) → (b ≡ false) × (y ≡ z)
past true x y z e never = absurd (never e)
past false x y z e never = (refl, e)

pub chosen : (b : Bool) (x y z : Ready) → (if b then x else y) ≡ z → ((b ≡ true) × (x ≡ z)) ⊎ ((b ≡ false) × (y ≡ z))
chosen true x y z e = inl (refl, e)
chosen false x y z e = inr (refl, e)

first_not : (b : Bool) (x y z : Ready) → b ≡ false → (if b then x else y) ≡ z → y ≡ z
first_not true x y z not_it e = absurd (true≢false not_it)
first_not false x y z not_it e = e

-- what is next where an epoch runs
abbrev pub is_of_tasks : Ready → Bool
is_of_tasks ready.Plan = false
is_of_tasks ready.Over = false
is_of_tasks ready.Stopped = false
is_of_tasks _ = true

either_of : (b : Bool) (x y : Ready) → is_of_tasks x ≡ true → is_of_tasks y ≡ true → is_of_tasks (if b then x else y) ≡ true
either_of true x y first second = first
either_of false x y first second = second

tasks_are : (c : Core) → is_of_tasks (ready_tasks c) ≡ true
tasks_are c =
    either_of (not c.front.fresh) _ _ refl (either_of (list_any is_waiting c.maps) _ _ refl (either_of (not (list_all is_fine c.maps)) _ _ refl (either_of (list_any is_waiting c.reduces) _ _ refl
    (either_of (not (list_all is_fine c.reduces)) _ _ refl (either_of (list_any is_waiting c.outs) _ _ refl (either_of (not c.front.written) _ _ refl (either_of c.front.settled ready.Commit ready.Sync refl refl)))))))

pub none_of_tasks : (c : Core) (z : Ready) → is_of_tasks z ≡ false → ready_tasks c ≡ z → ⊥
none_of_tasks c z other e = true≢false (sym (tasks_are c) ∙ ap is_of_tasks e ∙ other)

-- after the tests on tasks
tasks_done : (c : Core) (z : Ready) → ready_tasks c ≡ z → not c.front.fresh ≡ false → (ready.Task ≡ z → ⊥) → (ready.Idle ≡ z → ⊥) → (not c.front.written ≡ false) × ((if c.front.settled then ready.Commit else ready.Sync) ≡ z)
tasks_done c z e fresh no_task no_idle =
    let b = past (list_any is_waiting c.maps) _ _ z (first_not (not c.front.fresh) _ _ z fresh e) no_task in
    let d = past (not (list_all is_fine c.maps)) _ _ z b.1 no_idle in
    let f = past (list_any is_waiting c.reduces) _ _ z d.1 no_task in
    let g = past (not (list_all is_fine c.reduces)) _ _ z f.1 no_idle in
    let h = past (list_any is_waiting c.outs) _ _ z g.1 no_task in
    past (not c.front.written) _ _ z h.1 no_idle

-- the end of the chain where an epoch runs
tasks_commit : (c : Core) → ready_tasks c ≡ ready.Commit → (c.front.fresh ≡ true) × (c.front.written ≡ true) × (c.front.settled ≡ true)
tasks_commit c e =
    let a = past (not c.front.fresh) _ _ _ e (λ x. cc) in
    let k = tasks_done c ready.Commit e a.0 (λ x. cc) (λ x. cc) in
    elim (chosen c.front.settled ready.Commit ready.Sync ready.Commit k.1) [
      | inl yes_it ↦ (not-false c.front.fresh a.0, not-false c.front.written k.0, yes_it.0)
      | inr no_it ↦ absurd (let x = no_it.1 in cc)
    ]

pub commit_may : (r : Scope) (c : Core) (due : Bool) → ready_of r c ≡ ready.Commit → May r c (entry.Commit c.front.committed due)
commit_may r c due e =
    let a = past (is_stopped c.front.stop) _ _ _ e (λ x. cc) in
    elim (chosen (is_open c) (ready_tasks c) _ _ a.1) [
      | inl opened ↦ (let t = tasks_commit c opened.1 in (running_of c.front.stop a.0, refl, opened.0, t.0, t.1, t.2))
      | inr closed ↦
          let b = past (not c.front.settled) _ _ _ closed.1 (λ x. cc) in
          absurd (elim (chosen (is_more r c) ready.Plan ready.Over ready.Commit b.1) [ inl x ↦ (let y = x.1 in cc) | inr x ↦ (let y = x.1 in cc) ])
    ]

plan_is : (r : Scope) (c : Core) → ready_of r c ≡ ready.Plan → (c.front.stop ≡ None) × (is_open c ≡ false) × (c.front.settled ≡ true) × (is_more r c ≡ true)
plan_is r c e =
    let a = past (is_stopped c.front.stop) _ _ _ e (λ x. cc) in
    elim (chosen (is_open c) (ready_tasks c) _ _ a.1) [
      | inl opened ↦ absurd (none_of_tasks c ready.Plan refl opened.1)
      | inr closed ↦
          let b = past (not c.front.settled) _ _ _ closed.1 (λ x. cc) in
          elim (chosen (is_more r c) ready.Plan ready.Over ready.Plan b.1) [
            | inl more ↦ (running_of c.front.stop a.0, closed.0, not-false c.front.settled b.0, more.0)
            | inr over ↦ absurd (let x = over.1 in cc)
          ]
    ]

pub plan_may : (r : Scope) (c : Core) → ready_of r c ≡ ready.Plan → c.front.planned < 4294967295 → May r c (entry.Plan c.front.planned)
plan_may r c e few = let p = plan_is r c e in (p.0, refl, p.1, p.2, p.3, few)

-- where as many epochs are planned as there may be
pub full_is : (r : Scope) (c : Core) → ready_of r c ≡ ready.Plan → c.front.planned ≡ 4294967295 → IsFull r c
full_is r c e full = let p = plan_is r c e in (full, p.1, p.2, p.3)

tasks_wait : (c : Core) → ready_tasks c ≡ ready.Task → (c.front.fresh ≡ true)
    × ((list_any is_waiting c.maps ≡ true) ⊎ ((list_any is_waiting c.maps ≡ false) × (list_all is_fine c.maps ≡ true)
    × ((list_any is_waiting c.reduces ≡ true) ⊎ ((list_any is_waiting c.reduces ≡ false) × (list_all is_fine c.reduces ≡ true) × (list_any is_waiting c.outs ≡ true)))))
tasks_wait c e =
    let a = past (not c.front.fresh) _ _ _ e (λ x. cc) in (
      not-false c.front.fresh a.0,
      elim (chosen (list_any is_waiting c.maps) _ _ _ a.1) [
        | inl here ↦ inl here.0
        | inr no_map ↦
            let d = past (not (list_all is_fine c.maps)) _ _ _ no_map.1 (λ x. cc) in
            inr (
              no_map.0,
              not-false _ d.0,
              elim (chosen (list_any is_waiting c.reduces) _ _ _ d.1) [
                | inl here ↦ inl here.0
                | inr no_reduce ↦
                    let f = past (not (list_all is_fine c.reduces)) _ _ _ no_reduce.1 (λ x. cc) in
                    inr (
                      no_reduce.0,
                      not-false _ f.0,
                      elim (chosen (list_any is_waiting c.outs) _ _ _ f.1) [
                        | inl here ↦ here.0
                        | inr none ↦ absurd (
                            let h = past (not c.front.written) _ _ _ none.1 (λ x. cc) in
                            elim (chosen c.front.settled ready.Commit ready.Sync ready.Task h.1) [ inl x ↦ (let y = x.1 in cc) | inr x ↦ (let y = x.1 in cc) ])
                      ],
                    )
              ],
            )
      ],
    )

pub waits_for : (r : Scope) (c : Core) → ready_of r c ≡ ready.Task → WaitsFor c
waits_for r c e =
    let a = past (is_stopped c.front.stop) _ _ _ e (λ x. cc) in
    elim (chosen (is_open c) (ready_tasks c) _ _ a.1) [
      | inl opened ↦ (let t = tasks_wait c opened.1 in record { running = running_of c.front.stop a.0; opened = opened.0; fresh = t.0; first = t.1 })
      | inr closed ↦ absurd (
          let b = past (not c.front.settled) _ _ _ closed.1 (λ x. cc) in
          elim (chosen (is_more r c) ready.Plan ready.Over ready.Task b.1) [ inl x ↦ (let y = x.1 in cc) | inr x ↦ (let y = x.1 in cc) ])
    ]

-- where it is over
pub over_is : (r : Scope) (c : Core) → ready_of r c ≡ ready.Over → (c.front.stop ≡ None) × (c.front.planned ≤ c.front.committed) × (c.front.settled ≡ true) × (is_behind c.ends r.available ≡ false) × (c.front.due ≡ false)
over_is r c e =
    let a = past (is_stopped c.front.stop) _ _ _ e (λ x. cc) in
    elim (chosen (is_open c) (ready_tasks c) _ _ a.1) [
      | inl opened ↦ absurd (none_of_tasks c ready.Over refl opened.1)
      | inr closed ↦
          let b = past (not c.front.settled) _ _ _ closed.1 (λ x. cc) in
          let d = past (is_more r c) _ _ _ b.1 (λ x. cc) in
          let o = or_parts (is_behind c.ends r.available) c.front.due d.0 in
          (running_of c.front.stop a.0, open_not c closed.0, not-false c.front.settled b.0, o.0, o.1)
    ]

-- where a sync is next
pub sync_due : (r : Scope) (c : Core) → ready_of r c ≡ ready.Sync → (c.front.stop ≡ None) × ((c.front.settled ≡ false) ⊎ ((is_open c ≡ true) × (c.front.fresh ≡ false)))
sync_due r c e =
    let a = past (is_stopped c.front.stop) _ _ _ e (λ x. cc) in (
      running_of c.front.stop a.0,
      elim (chosen (is_open c) (ready_tasks c) _ _ a.1) [
        | inl opened ↦ by_tasks opened.0 opened.1
        | inr closed ↦ elim (chosen (not c.front.settled) _ _ _ closed.1) [
          | inl here ↦ inl (not-true c.front.settled here.0)
          | inr not_here ↦ absurd (elim (chosen (is_more r c) ready.Plan ready.Over ready.Sync not_here.1) [ inl x ↦ (let y = x.1 in cc) | inr x ↦ (let y = x.1 in cc) ])
        ]
      ],
    )
  where
    by_tasks : is_open c ≡ true → ready_tasks c ≡ ready.Sync → (c.front.settled ≡ false) ⊎ ((is_open c ≡ true) × (c.front.fresh ≡ false))
    by_tasks opened e = elim (chosen (not c.front.fresh) _ _ _ e) [
      | inl stale ↦ inr (opened, not-true c.front.fresh stale.0)
      | inr fresh ↦
          let k = tasks_done c ready.Sync e fresh.0 (λ x. cc) (λ x. cc) in
          inl (past c.front.settled _ _ _ k.1 (λ x. cc)).0
    ]

module _ (r : Scope) (c : Core) (e : ready_of r c ≡ ready.Task) where
  and_true : {a b : Bool} → a ≡ true → b ≡ true → (a && b) ≡ true
  and_true p q = λ i. p i && q i

  pub map_may : (i : ℕ) → get_elem? c.maps i ≡ some place.Waits → May r c (entry.Claim (record { epoch = c.front.committed; kind = kind.Map; number = i }))
  map_may i here = let w = waits_for r c e in (w.running, w.opened, refl, w.fresh, here)

  pub reduce_may : (i : ℕ) → list_any is_waiting c.maps ≡ false → get_elem? c.reduces i ≡ some place.Waits → May r c (entry.Claim (record { epoch = c.front.committed; kind = kind.Reduce; number = i }))
  reduce_may i none here = let w = waits_for r c e in elim w.first [
    | inl some_map ↦ absurd (true≢false (sym some_map ∙ none))
    | inr rest ↦ (w.running, w.opened, refl, and_true w.fresh rest.1, here)
  ]

  pub out_may : (i : ℕ) → list_any is_waiting c.maps ≡ false → list_any is_waiting c.reduces ≡ false → get_elem? c.outs i ≡ some place.Waits → May r c (entry.Claim (record { epoch = c.front.committed; kind = kind.Out; number = i }))
  out_may i none none' here = let w = waits_for r c e in elim w.first [
    | inl some_map ↦ absurd (true≢false (sym some_map ∙ none))
    | inr rest ↦ elim rest.2 [
      | inl some_reduce ↦ absurd (true≢false (sym some_reduce ∙ none'))
      | inr last ↦ (w.running, w.opened, refl, and_true w.fresh (and_true rest.1 last.1), here)
    ]
  ]

  pub some_waits : list_any is_waiting c.maps ≡ false → list_any is_waiting c.reduces ≡ false → list_any is_waiting c.outs ≡ false → ⊥
  some_waits none none' none'' = let w = waits_for r c e in elim w.first [
    | inl some_map ↦ true≢false (sym some_map ∙ none)
    | inr rest ↦ elim rest.2 [
      | inl some_reduce ↦ true≢false (sym some_reduce ∙ none')
      | inr last ↦ true≢false (sym last.2 ∙ none'')
    ]
  ]
