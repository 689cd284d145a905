-- The files of the state, and the snapshots that are being made, after each entry.
use Rattle.std.proofs.Common.{◌≡◌, ◌⊎◌, ◌<◌, ◌≤◌, ◌+◌, ◌-◌, ◌++◌, ◌==◌, ◌&&◌, ◌||◌, nat_lt, ℕ, zero, suc, Bool, true, false, true≢false, List, [], ◌∷◌, Option, Some, None, if◌then◌else◌, sym, refl, ap, ◌∙◌, subst, inl, inr, arith, rules, ltb-true, lt-ltb, le-ltb}
use Rattle.std.proofs.lemmas.Bool.{cases_lt, and_left, or_left, or_right}
use Rattle.std.proofs.lemmas.Bool.Decides.{nat_tests}
use Rattle.std.proofs.lemmas.List.Folds.{list_any-append}
use mathlib.Core.Bool.{or-false}
use Rattle.ssq_outside.specs.declared.name.Name.{Name}
use Rattle.ssq_outside.specs.declared.name.Name.TheVariants as name
use Rattle.ssq_outside.specs.declared.gate.TaskId.{TaskId}
use Rattle.ssq_outside.specs.declared.gate.Kind.{Kind}
use Rattle.ssq_outside.specs.declared.gate.Kind.TheVariants as kind
use Rattle.ssq_outside.specs.Files.{same_name}
use Rattle.ssq_outside.proofs.Names.{same_name-true, same_name-same}
use Rattle.ssq_upkeep.specs.Upkeep.{is_among, is_up_to}
use Rattle.ssq_upkeep.proofs.Among.{or_false, among_both}
use Rattle.ssq_core.specs.Course.{Cuts}
use Rattle.ssq_core.specs.Sound.{is_state}
use Rattle.ssq_core.specs.Machine.{Desk, placed, with_file, with_plan, with_commit, with_sync, with_store, without_file, same_kind, same_task, upkeep}
use Rattle.ssq_core.specs.Machine as machine
use Rattle.ssq_board.specs.declared.front.Cause.{Cause}
use mathlib.Core.Option.{some, some-ne-none}
use lib.ListN.{get_elem?}
use Rattle.ssq_board.specs.declared.front.Place.{Place}
use Rattle.ssq_board.specs.Core.{Core, is_open, or_stop, tasks_of, at}
use Rattle.ssq_board.specs.Shelf.{Shelf, there_in, with_name, last_before, last_of, acknowledged_in}
use Rattle.ssq_board.specs.Follows.{Shelves}

-- ---- tasks of an epoch are no snapshots

other_kind : (k : Kind) → (k ≡ kind.Upkeep → ⊥) → same_kind kind.Upkeep k ≡ false
other_kind kind.Map other = refl
other_kind kind.Reduce other = refl
other_kind kind.Out other = refl
other_kind kind.Upkeep other = absurd (other refl)

other_task : (p v : ℕ) (t : TaskId) → (t.kind ≡ kind.Upkeep → ⊥) → same_task (upkeep p v) t ≡ false
other_task p v t other = and_left (same_kind kind.Upkeep t.kind) (v == t.epoch && p == t.number) (other_kind t.kind other)

-- a task of an epoch is elsewhere, and perhaps there was a Stop
pub shelves_placed : (last : Option ℕ) (committed : ℕ) (stop now : Option Cause) (s : Shelf) (d : Desk) (t : TaskId) (there : machine.Place) → (t.kind ≡ kind.Upkeep → ⊥) → (now ≡ None → stop ≡ None)
    → Shelves last committed stop s d → Shelves last committed now s (placed t there d)
shelves_placed last committed stop now s d t there other runs k = record {
  names = k.names;
  sure = k.sure;
  acknowledged = k.acknowledged;
  commits = k.commits;
  tidy = k.tidy;
  claimed = λ p v is. still p v ∙ k.claimed p v is;
  kept = λ run p v. elim (k.kept (runs run) p v) [ inl waits ↦ inl (still p v ∙ waits) | inr rest ↦ inr rest ];
}
  where
    still : (p v : ℕ) → (placed t there d).tasks (upkeep p v) ≡ d.tasks (upkeep p v)
    still p v = ap (λ (b : Bool). if b then there else d.tasks (upkeep p v)) (other_task p v t other)

-- a store has another state
pub shelves_stored : (last : Option ℕ) (committed : ℕ) (stop : Option Cause) (s : Shelf) (d : Desk) (p : ℕ) (bytes : List ℕ) → Shelves last committed stop s d → Shelves last committed stop s (with_store p bytes d)
shelves_stored last committed stop s d p bytes k = record { names = k.names; sure = k.sure; acknowledged = k.acknowledged; commits = k.commits; tidy = k.tidy; claimed = k.claimed; kept = k.kept }

-- a Stop changes no file
pub shelves_stopped : (last : Option ℕ) (committed : ℕ) (stop now : Option Cause) (s : Shelf) (d : Desk) → (now ≡ None → stop ≡ None) → Shelves last committed stop s d → Shelves last committed now s d
shelves_stopped last committed stop now s d runs k = record { names = k.names; sure = k.sure; acknowledged = k.acknowledged; commits = k.commits; tidy = k.tidy; claimed = k.claimed; kept = λ run. k.kept (runs run) }

-- ---- files of an epoch

other_names : (d : Desk) (n q : Name) → is_state n ≡ false → is_state q ≡ true → (with_file n d).there q ≡ d.there q
other_names d n q other is = ap (λ (b : Bool). if b then true else d.there q) (by (same_name q n) refl)
  where
    by : (b : Bool) → same_name q n ≡ b → b ≡ false
    by false h = refl
    by true h = absurd (true≢false (sym is ∙ ap is_state (same_name-true q n h) ∙ other))

-- A file is there that is none of the state, and perhaps counts and cuts are others, and there was a Stop.
shelves_filed : (last : Option ℕ) (committed more : ℕ) (stop now : Option Cause) (s : Shelf) (d n : Desk) (file : Name) → is_state file ≡ false → ((f : ℕ) → more ≤ f → (with_file file d).there (name.Commit f) ≡ false) → (now ≡ None → stop ≡ None)
    → Shelves last committed stop s d → Shelves last more now s (with_file file (record { cuts = n.cuts; planned = n.planned; committed = n.committed; there = d.there; sure = d.sure; tasks = d.tasks; stores = n.stores }))
shelves_filed last committed more stop now s d n file other commits runs k = record {
  names = λ q is. other_names d file q other is ∙ k.names q is;
  sure = k.sure;
  acknowledged = k.acknowledged;
  commits = commits;
  tidy = λ is p v here. k.tidy is p v (sym (other_names d file (name.Snapshot p v) other refl) ∙ here);
  claimed = k.claimed;
  kept = λ run p v. subst (λ (here : Bool). (d.tasks (upkeep p v) ≡ machine.waits) ⊎ ((is_among s.claimed (name.Snapshot p v) ≡ true)
      ⊎ ((here ≡ true) ⊎ ((w : ℕ) × (v < w) × (d.sure (name.Snapshot p w) ≡ true) × (d.sure (name.Commit (w + 20)) ≡ true))))) (sym (other_names d file (name.Snapshot p v) other refl)) (k.kept (runs run) p v);
}

-- rows are published
pub shelves_out : (last : Option ℕ) (committed e : ℕ) (stop : Option Cause) (s : Shelf) (d : Desk) → Shelves last committed stop s d → Shelves last committed stop s (with_file (name.Out e) d)
shelves_out last committed e stop s d k = shelves_filed last committed committed stop stop s d d (name.Out e) refl k.commits (λ run. run) k

-- an epoch is planned
pub shelves_plan : (last : Option ℕ) (committed e : ℕ) (stop now : Option Cause) (s : Shelf) (d : Desk) (cuts : Cuts) → (now ≡ None → stop ≡ None) → Shelves last committed stop s d
    → Shelves last committed now s (with_file (name.Plan e) (with_plan cuts d))
shelves_plan last committed e stop now s d cuts runs k = shelves_filed last committed committed stop now s d (with_plan cuts d) (name.Plan e) refl k.commits runs k

other_number : (e f : ℕ) → f < e → (e == f) ≡ false
other_number e f less = grind (arith, rules)

-- an epoch is committed
pub shelves_commit : (last : Option ℕ) (committed e : ℕ) (stop now : Option Cause) (s : Shelf) (d : Desk) → e ≡ committed → (now ≡ None → stop ≡ None) → Shelves last committed stop s d
    → Shelves last (committed + 1) now s (with_file (name.Commit e) (with_commit d))
shelves_commit last committed e stop now s d is runs k = shelves_filed last committed (committed + 1) stop now s d (with_commit d) (name.Commit e) refl
    (λ f above. ap (λ (b : Bool). if b then true else d.there (name.Commit f)) (other_number f e (omega (arith, is, above))) ∙ k.commits f (omega (arith, above))) runs k

-- ---- names are synced

pub among_end : (names : List Name) (q : Name) → is_among (names ++ []) q ≡ is_among names q
among_end names q = list_any-append (λ n. same_name n q) names [] ∙ or-false (is_among names q)

-- what no crash can take away is there
pub sure_there : (last : Option ℕ) (committed : ℕ) (stop : Option Cause) (s : Shelf) (d : Desk) → Shelves last committed stop s d → (q : Name) → is_state q ≡ true → d.sure q ≡ true → d.there q ≡ true
sure_there last committed stop s d k q is sure =
    k.names q is ∙ list_any-append (λ n. same_name n q) s.settled s.news ∙ or_left (is_among s.settled q) (is_among s.news q) (sym (k.sure q is) ∙ sure)

pub up_to_is : (n e : ℕ) → is_up_to (last_before n) e ≡ nat_lt e n
up_to_is zero e = grind (arith, nat_tests)
up_to_is (suc n) e = grind (arith, nat_tests)

pub shelves_sync : (n committed : ℕ) (stop now : Option Cause) (s : Shelf) (d : Desk) → n ≤ committed → ((e : ℕ) → e < committed → d.there (name.Commit e) ≡ true) → (now ≡ None → stop ≡ None)
    → Shelves (last_before n) committed stop s d → Shelves (last_before committed) committed now (record { settled = there_in s; news = []; claimed = s.claimed; tidy = true }) (with_sync d)
shelves_sync n committed stop now s d most there runs k = record {
  names = λ q is. k.names q is ∙ sym (among_end (there_in s) q);
  sure = k.names;
  acknowledged = λ e. elim (cases_lt e committed) [
    | inl less ↦ there e less ∙ sym (up_to_is committed e ∙ lt-ltb e committed less)
    | inr above ↦ k.commits e above ∙ sym (up_to_is committed e ∙ le-ltb e committed above)
  ];
  commits = k.commits;
  tidy = λ is p v here. here;
  claimed = k.claimed;
  kept = λ run p v. elim (k.kept (runs run) p v) [
    | inl waits ↦ inl waits
    | inr rest ↦ elim rest [
      | inl claimed ↦ inr (inl claimed)
      | inr done ↦ elim done [
        | inl here ↦ inr (inr (inl here))
        | inr gone ↦ inr (inr (inr (
          gone.0,
          gone.1,
          sure_there (last_before n) committed stop s d k (name.Snapshot p gone.0) refl gone.2,
          there (gone.0 + 20) (let less = ltb-true (gone.0 + 20) n (sym (up_to_is n (gone.0 + 20)) ∙ sym (k.acknowledged (gone.0 + 20)) ∙ gone.3) in omega (arith, less, most)),
        )))
      ]
    ]
  ];
}

-- ---- a file of the state is published

-- a name that was added is among the others
added_there : (s : Shelf) (q : Name) → same_name q q ≡ true → is_among (there_in (with_name q s)) q ≡ true
added_there s q itself = by (is_among (there_in s) q) refl
  where
    by : (b : Bool) → is_among (there_in s) q ≡ b → is_among (s.settled ++ (if is_among (there_in s) q then s.news else s.news ++ q ∷ [])) q ≡ true
    by true h = ap (λ (b : Bool). is_among (s.settled ++ (if b then s.news else s.news ++ q ∷ [])) q) h ∙ h
    by false h = ap (λ (b : Bool). is_among (s.settled ++ (if b then s.news else s.news ++ q ∷ [])) q) h
        ∙ among_both s.settled (s.news ++ q ∷ []) q ∙ or_right (is_among s.settled q) (is_among (s.news ++ q ∷ []) q) (among_both s.news (q ∷ []) q ∙ or_right (is_among s.news q) (same_name q q || false) (or_left (same_name q q) false itself))

-- the others are as they were
added_other : (s : Shelf) (q r : Name) → same_name q r ≡ false → is_among (there_in (with_name q s)) r ≡ is_among (there_in s) r
added_other s q r other = by (is_among (there_in s) q) refl
  where
    by : (b : Bool) → is_among (there_in s) q ≡ b → is_among (s.settled ++ (if is_among (there_in s) q then s.news else s.news ++ q ∷ [])) r ≡ is_among (there_in s) r
    by true h = ap (λ (b : Bool). is_among (s.settled ++ (if b then s.news else s.news ++ q ∷ [])) r) h
    by false h = ap (λ (b : Bool). is_among (s.settled ++ (if b then s.news else s.news ++ q ∷ [])) r) h
        ∙ among_both s.settled (s.news ++ q ∷ []) r
        ∙ ap (λ (b : Bool). is_among s.settled r || b) (among_both s.news (q ∷ []) r ∙ or_false (is_among s.news r) (same_name q r || false) (or-false (same_name q r) ∙ other))
        ∙ sym (among_both s.settled s.news r)

same_turned : (q r : Name) → same_name r q ≡ false → same_name q r ≡ false
same_turned q r other = by (same_name q r) refl
  where
    by : (b : Bool) → same_name q r ≡ b → b ≡ false
    by false h = refl
    by true h = absurd (true≢false (sym (same_name-same r) ∙ subst (λ (n : Name). same_name r n ≡ false) (same_name-true q r h) other))

-- which names are there, with one more
pub added_names : (s : Shelf) (d : Desk) (q : Name) → ((r : Name) → is_state r ≡ true → d.there r ≡ is_among (there_in s) r) → (r : Name) → is_state r ≡ true
    → (if same_name r q then true else d.there r) ≡ is_among (there_in (with_name q s)) r
added_names s d q names r is = by (same_name r q) refl
  where
    by : (b : Bool) → same_name r q ≡ b → (if same_name r q then true else d.there r) ≡ is_among (there_in (with_name q s)) r
    by true h = ap (λ (b : Bool). if b then true else d.there r) h ∙ sym (subst (λ (n : Name). is_among (there_in (with_name q s)) n ≡ true) (sym (same_name-true r q h)) (added_there s q (same_name-same q)))
    by false h = ap (λ (b : Bool). if b then true else d.there r) h ∙ names r is ∙ sym (added_other s q r (same_turned q r h))

-- a delta is published
pub shelves_delta : (last : Option ℕ) (committed p v : ℕ) (stop now : Option Cause) (s : Shelf) (d : Desk) → (now ≡ None → stop ≡ None) → Shelves last committed stop s d
    → Shelves last committed now (with_name (name.Delta p v) s) (with_file (name.Delta p v) d)
shelves_delta last committed p v stop now s d runs k = record {
  names = added_names s d (name.Delta p v) k.names;
  sure = k.sure;
  acknowledged = k.acknowledged;
  commits = k.commits;
  tidy = k.tidy;
  claimed = k.claimed;
  kept = λ run. k.kept (runs run);
}

-- ---- the last acknowledged epoch

pub open_last : (c : Core) → is_open c ≡ true → last_of c ≡ last_before c.front.committed
open_last c is = ap last_before (ap (λ (b : Bool). if b || c.front.settled then c.front.committed else c.front.committed - 1) is)

pub settled_last : (c : Core) → c.front.settled ≡ true → last_of c ≡ last_before c.front.committed
settled_last c is = ap last_before (ap (λ (b : Bool). if b then c.front.committed else c.front.committed - 1) (or_right (is_open c) c.front.settled is))

pub closed_last : (c : Core) → is_open c ≡ false → c.front.settled ≡ false → last_of c ≡ last_before (c.front.committed - 1)
closed_last c closed open_ = ap last_before (ap (λ (b : Bool). if b then c.front.committed else c.front.committed - 1) (or_false (is_open c) c.front.settled open_ ∙ closed))

pub acknowledged_few : (c : Core) → acknowledged_in c ≤ c.front.committed
acknowledged_few c = by (is_open c || c.front.settled)
  where
    by : (b : Bool) → (if b then c.front.committed else c.front.committed - 1) ≤ c.front.committed
    by true = omega arith
    by false = omega arith

pub or_stop_none : (a b : Option Cause) → or_stop a b ≡ None → a ≡ None
or_stop_none None b e = refl
or_stop_none (Some f) b e = absurd (some_none e)
  where
    some_none : Some f ≡ None → ⊥
    some_none e = cc

-- a task that has a place is none of upkeep
pub no_upkeep : (c : Core) (t : TaskId) (q : Place) → at c t ≡ some q → t.kind ≡ kind.Upkeep → ⊥
no_upkeep c t q here is = by t.kind is here
  where
    by : (k : Kind) → k ≡ kind.Upkeep → get_elem? (tasks_of k c) t.number ≡ some q → ⊥
    by kind.Map is here = absurd (cc)
    by kind.Reduce is here = absurd (cc)
    by kind.Out is here = absurd (cc)
    by kind.Upkeep is here = some-ne-none q (sym here)
