-- The names of the state's files after each entry.
use Rattle.std.proofs.Common.{◌≡◌, ◌+◌, ◌-◌, ◌*◌, ◌≤◌, ◌<◌, ◌++◌, ◌||◌, not, ◌∷◌, [], ℕ, Bool, true, false, true≢false, List, Option, Some, None, is_some, length, length-append, vec_capacity, nat_lt, if◌then◌else◌, sym, refl, ap, ◌∙◌, subst, le_refl, arith}
use Rattle.std.specs.Global.{Vec}
use Rattle.ssq_outside.specs.declared.gate.TaskId.{TaskId}
use Rattle.ssq_outside.specs.declared.name.Name.{Name}
use Rattle.ssq_outside.specs.declared.name.Name.TheVariants as name
use Rattle.ssq_outside.specs.Files.{same_name}
use Rattle.ssq_outside.specs.History.{History}
use Rattle.ssq_upkeep.specs.Upkeep.{is_among}
use Rattle.ssq_upkeep.proofs.Among.{among_both}
use Rattle.ssq_board.specs.declared.front.Cause.{Cause}
use Rattle.ssq_board.specs.declared.front.Front.{Front}
use Rattle.ssq_board.specs.declared.front.Entry.{Entry}
use Rattle.ssq_board.specs.declared.front.Entry.TheVariants as entry
use Rattle.ssq_board.specs.Core.{Scope, Core, HasCause, May, need, stop_need, after, is_stopped, with_front, stopped_front}
use Rattle.ssq_board.specs.Rounds.{spends}
use Rattle.ssq_board.specs.Shelf.{Shelf, MayKeep, last_before, last_of, there_in, with_name, without, unclaimed, untidy, shelf_by, snapshot_on, version_on}
use Rattle.ssq_board.specs.Shown.{first}
use Rattle.ssq_board.specs.Follows.{Moves, IsRight}
use Rattle.ssq_board.proofs.Needs.{need_falls}
use Rattle.ssq_ledger.specs.Shown.{Opening, Shown, IsLedger, cuts_after, shelf_after, shelf_of}
use Rattle.ssq_ledger.specs.Names.{IsShelved, MakesRoom, MakesSettled}
use Rattle.ssq_ledger.specs.declared.names.Names.{Names}
use Rattle.ssq_ledger.proofs.Ledgers.{shelf_more, known, held, one, spent}

-- the entry leaves the files of the state as they are
abbrev pub leaves : Entry → Bool
leaves (entry.Plan e) = true
leaves (entry.Claim t) = true
leaves (entry.Report t f) = true
leaves (entry.Missed t) = true
leaves (entry.OutFile e) = true
leaves (entry.Commit e due) = true
leaves (entry.Stop f) = true
leaves _ = false

left_alone : (c : Core) (k : Shelf) (e : Entry) → leaves e ≡ true → shelf_by c k e ≡ k
left_alone c k (entry.Plan e) is = refl
left_alone c k (entry.Claim t) is = refl
left_alone c k (entry.Report t f) is = refl
left_alone c k (entry.Missed t) is = refl
left_alone c k (entry.OutFile e) is = refl
left_alone c k (entry.Commit e due) is = refl
left_alone c k (entry.Stop f) is = refl
left_alone c k (entry.Version t) is = absurd (true≢false (sym is))
left_alone c k (entry.Sync clock) is = absurd (true≢false (sym is))
left_alone c k (entry.Upkeep p v) is = absurd (true≢false (sym is))
left_alone c k (entry.Snapshot p v) is = absurd (true≢false (sym is))
left_alone c k (entry.Unmade p v f) is = absurd (true≢false (sym is))
left_alone c k (entry.Untaken p v) is = absurd (true≢false (sym is))
left_alone c k (entry.Drop q) is = absurd (true≢false (sym is))
left_alone c k (entry.Undropped q) is = absurd (true≢false (sym is))

-- the names are those of a shelf
pub record AreNamesOf (k : Shelf) (names : Names) : Type 0 where
  pub settled : names.settled.items ≡ k.settled
  pub news : names.news.items ≡ k.news
  pub claimed : names.claimed.items ≡ k.claimed
  pub tidy : names.tidy ≡ k.tidy

-- the shelf of names
abbrev pub shelf_in : Names → Shelf
shelf_in names = record { settled = names.settled.items; news = names.news.items; claimed = names.claimed.items; tidy = names.tidy }

pub is_shelf : (k : Shelf) (n count capacity : ℕ) (names : Names) → IsShelved k n count capacity names → shelf_in names ≡ k
is_shelf k n count capacity names held = λ i. record { settled = held.settled i; news = held.news i; claimed = held.claimed i; tidy = held.tidy i }

-- and so they stay
pub same_are : (k : Shelf) (n count capacity : ℕ) (names : Names) → IsShelved k n count capacity names → AreNamesOf k names
same_are k n count capacity names held = record { settled = held.settled; news = held.news; claimed = held.claimed; tidy = held.tidy }

-- what the code says of the names, and of the last acknowledged epoch, is so of the shelf
pub by_shelf : (P : Option ℕ → Shelf → Type 0) (k : Shelf) (n count capacity : ℕ) (names : Names) (c : Core) (front : Front) (last : Option ℕ) → IsShelved k n count capacity names → front ≡ c.front
    → last ≡ last_before (if nat_lt front.committed front.planned || front.settled then front.committed else front.committed - 1) → P last (shelf_in names) → P (last_of c) k
by_shelf P k n count capacity names c front last held same is so =
    let of_front = ap (λ (f : Front). last_before (if nat_lt f.committed f.planned || f.settled then f.committed else f.committed - 1)) same in
    subst (P (last_of c)) (is_shelf k n count capacity names held) (subst (λ (l : Option ℕ). P l (shelf_in names)) (is ∙ of_front) so)

-- a snapshot that is being made, as a call says it, is one inside the ledger
pub claimed_inside : {D O : Type 0} (opening : O → Opening) (x y : Shown D O) → x ≡ y → (q : Name) → is_among (shelf_of opening y).claimed q ≡ true → is_among (shelf_of opening x).claimed q ≡ true
claimed_inside {D} {O} opening x y same q = subst (λ (s : Shown D O). is_among (shelf_of opening s).claimed q ≡ true) (sym same)

-- ---- a name is left out

pub without_most : (q : Name) (l : List Name) → length (without q l) ≤ length l
without_most q [] = omega arith
without_most q (n ∷ ns) = by (same_name n q) (without_most q ns)
  where
    by : (b : Bool) → length (without q ns) ≤ length ns → length (if not b then n ∷ without q ns else without q ns) ≤ length (n ∷ ns)
    by true few = omega (arith, few)
    by false few = omega (arith, few)

pub without_less : (q : Name) (l : List Name) → is_among l q ≡ true → length (without q l) + 1 ≤ length l
without_less q [] is = absurd (true≢false (sym is))
without_less q (n ∷ ns) is = by (same_name n q) is (without_most q ns) (λ there. without_less q ns there)
  where
    by : (b : Bool) → (b || is_among ns q) ≡ true → length (without q ns) ≤ length ns → (is_among ns q ≡ true → length (without q ns) + 1 ≤ length ns)
        → length (if not b then n ∷ without q ns else without q ns) + 1 ≤ length (n ∷ ns)
    by true is few less = omega (arith, few)
    by false is few less = (let l = less is in omega (arith, l))

-- a snapshot comes back, after a Stop or not
pub stopped_by : (k : Shelf) (q : Name) (names : Names) (stop : Option Cause) → is_some stop ≡ true → AreNamesOf (unclaimed q k) names → AreNamesOf (snapshot_on (is_stopped stop) q k) names
stopped_by k q names None is are = absurd (true≢false (sym is))
stopped_by k q names (Some f) is are = are

pub running_by : (k : Shelf) (q : Name) (names : Names) (stop : Option Cause) → stop ≡ None → AreNamesOf (untidy (with_name q (unclaimed q k))) names → AreNamesOf (snapshot_on (is_stopped stop) q k) names
running_by k q names stop is are = subst (λ (o : Option Cause). AreNamesOf (snapshot_on (is_stopped o) q k) names) (sym is) are

-- a Stop leaves no more need of room
pub stops_need : (c : Core) (o : Option Cause) → stop_need o ≤ stop_need c.front.stop → need (with_front c (stopped_front c.front o)) ≤ need c
stops_need c o less = omega (arith, less)

pub stop_most : (o : Option Cause) (f : Cause) → stop_need (Some f) ≤ stop_need o
stop_most o f = omega arith

-- more room
pub made_room : (k : Shelf) (n more count capacity now : ℕ) (old new : Names) (result : Option (Unit {0})) → IsShelved k n count capacity old → MakesRoom more old new result → capacity ≤ now → IsShelved k n count now new
made_room k n more count capacity now old new result held made kept = record {
  settled = ap (λ (v : Vec Name). v.items) made.settled ∙ held.settled;
  news = made.news ∙ held.news;
  claimed = made.claimed ∙ held.claimed;
  tidy = made.tidy ∙ held.tidy;
  room = (let room = held.room in let kept = made.kept in let one = ap length made.news in let other = ap length made.claimed in omega arith);
  entries = (let entries = held.entries in let other = ap length made.claimed in omega (arith, entries, other, kept));
}

pub made_settled : (k : Shelf) (n count capacity now : ℕ) (old new : Names) (result : Option (Unit {0})) → IsShelved k n count capacity old → MakesSettled old new result → capacity ≤ now → IsShelved k n count now new
made_settled k n count capacity now old new result held made kept = record {
  settled = made.settled ∙ held.settled;
  news = ap (λ (v : Vec Name). v.items) made.news ∙ held.news;
  claimed = ap (λ (v : Vec Name). v.items) made.claimed ∙ held.claimed;
  tidy = made.tidy ∙ held.tidy;
  room = (let room = held.room in let one = ap (λ (v : Vec Name). length v.items) made.news in let cap = ap vec_capacity made.news in let other = ap (λ (v : Vec Name). length v.items) made.claimed in omega arith);
  entries = (let entries = held.entries in let other = ap (λ (v : Vec Name). length v.items) made.claimed in omega (arith, entries, other, kept));
}

stopped_is : (stop : Option Cause) → is_some stop ≡ true → is_stopped stop ≡ true
stopped_is None is = absurd (true≢false (sym is))
stopped_is (Some f) is = refl

pub one_more : (b : Bool) (names : List Name) (q : Name) → length (if b then names else names ++ q ∷ []) ≤ length names + 1
one_more true names q = omega arith
one_more false names q = (let a = length-append names (q ∷ []) in omega (arith, a))

module _ (tells : Type 0) (o : Opening) (opened : History) (r : Scope) (disk : History) (c : Core) (entries : List Entry) (capacity : ℕ) (d : IsLedger tells o opened r disk c entries capacity) where
  -- the shelf after one entry more
  shelf_then : (now : List Entry) (e : Entry) → now ≡ entries ++ e ∷ [] → shelf_after o r now ≡ shelf_by c (shelf_after o r entries) e
  shelf_then now e is =
      ap (shelf_after o r) is ∙ shelf_more r o.shelf (first r o.start) entries e ∙ ap (λ (x : Core). shelf_by x (shelf_after o r entries) e) (sym (known tells o opened r disk c entries capacity d))

  shelf_same : (now : List Entry) (e : Entry) → leaves e ≡ true → now ≡ entries ++ e ∷ [] → shelf_after o r now ≡ shelf_after o r entries
  shelf_same now e is here = shelf_then now e here ∙ left_alone c (shelf_after o r entries) e is

  module _ (cap : ℕ) (names : Names) (shelved : IsShelved (shelf_after o r entries) (need c) (length entries) cap names) where
    -- the names stay, and there is room for what can still come
    still_shelved : (k : Shelf) (n more : ℕ) (now : List Entry) (e : Entry) → now ≡ entries ++ e ∷ [] → k ≡ shelf_after o r entries → n + 1 ≤ need c → cap ≤ more → IsShelved k n (length now) more names
    still_shelved k n more now e here same fewer kept = record {
      settled = shelved.settled ∙ ap (λ (k : Shelf). k.settled) (sym same);
      news = shelved.news ∙ ap (λ (k : Shelf). k.news) (sym same);
      claimed = shelved.claimed ∙ ap (λ (k : Shelf). k.claimed) (sym same);
      tidy = shelved.tidy ∙ ap (λ (k : Shelf). k.tidy) (sym same);
      room = (let room = shelved.room in omega (arith, room, fewer));
      entries = (let all = shelved.entries in let one = ap length here in let count = length-append entries (e ∷ []) in omega (arith, all, one, count, fewer, kept));
    }

    -- an entry that spends of the room and leaves the files of the state
    pub spent_both : (new : History) (n : Core) (now : List Entry) (more : ℕ) (e : Entry) → spends e ≡ true → leaves e ≡ true → May r c e → (tells → Moves o.job r c (cuts_after o r entries) e disk new)
        → (tells → IsRight o.job o.due (cuts_after o r entries) e) → n ≡ after r c e → now ≡ entries ++ e ∷ [] → capacity ≤ more → cap ≤ more → IsLedger tells o opened r new n now more × IsShelved (shelf_after o r now) (need n) (length now) more names
    spent_both new n now more e is stays may moves right to here kept more_kept = (
      spent tells o opened r disk c entries capacity d new n now more e is may moves right to here kept,
      still_shelved (shelf_after o r now) (need n) more now e here (shelf_same now e stays here) (let falls = need_falls r c e (held tells o opened r disk c entries capacity d) may is in let same = ap need to in omega (arith, falls, same)) more_kept,
    )

    -- a Stop, where there is more room
    pub halted_both : (new : History) (n : Core) (made now : List Entry) (more last : ℕ) (g : Cause) → c.front.stop ≡ None → HasCause r c g → (tells → Moves o.job r c (cuts_after o r entries) (entry.Stop g) disk new) → n ≡ after r c (entry.Stop g)
        → made ≡ entries → now ≡ made ++ entry.Stop g ∷ [] → capacity ≤ more → cap ≤ more → last ≡ more → IsLedger tells o opened r new n now last × IsShelved (shelf_after o r now) (need n) (length now) last names
    halted_both new n made now more last g running why moves to same here kept more_kept is =
        spent_both new n now last (entry.Stop g) refl refl (running, why) moves (λ t. tt) to (here ∙ ap (λ (l : List Entry). l ++ entry.Stop g ∷ []) same) (omega (arith, kept, is)) (omega (arith, more_kept, is))

    -- there is room for the name of a delta
    pub has_name_room : (t : TaskId) → May r c (entry.Version t) → length names.news.items < vec_capacity names.news
    has_name_room t may = (let falls = need_falls r c (entry.Version t) (held tells o opened r disk c entries capacity d) may refl in let room = shelved.room in omega (arith, falls, room))

    -- a version comes back after a Stop
    pub stopped_shelved : (t : TaskId) (n : Core) (now : List Entry) (more : ℕ) → is_some c.front.stop ≡ true → May r c (entry.Version t) → n ≡ after r c (entry.Version t) → now ≡ entries ++ entry.Version t ∷ [] → cap ≤ more → IsShelved (shelf_after o r now) (need n) (length now) more names
    stopped_shelved t n now more stops may to here kept =
        still_shelved (shelf_after o r now) (need n) more now (entry.Version t) here (shelf_then now (entry.Version t) here ∙ ap (λ (b : Bool). version_on b (name.Delta t.number t.epoch) (shelf_after o r entries)) (stopped_is c.front.stop stops))
        (let falls = need_falls r c (entry.Version t) (held tells o opened r disk c entries capacity d) may refl in let same = ap need to in omega (arith, falls, same)) kept

    -- its delta is published
    pub version_shelved : (t : TaskId) (n : Core) (now : List Entry) (more : ℕ) (later : Names) → c.front.stop ≡ None → May r c (entry.Version t) → n ≡ after r c (entry.Version t) → now ≡ entries ++ entry.Version t ∷ []
        → later.settled ≡ names.settled → later.claimed ≡ names.claimed → later.tidy ≡ names.tidy → vec_capacity later.news ≡ vec_capacity names.news
        → later.news.items ≡ (if is_among names.settled.items (name.Delta t.number t.epoch) || is_among names.news.items (name.Delta t.number t.epoch) then names.news.items else names.news.items ++ name.Delta t.number t.epoch ∷ [])
        → cap ≤ more → IsShelved (shelf_after o r now) (need n) (length now) more later
    version_shelved t n now more later running may to here settled claimed tidy same_cap news kept =
        let q = name.Delta t.number t.epoch in
        let k = shelf_after o r entries in
        let is : shelf_after o r now ≡ with_name q k = shelf_then now (entry.Version t) here ∙ ap (λ (x : Option Cause). version_on (is_stopped x) q k) running in
        let test : (is_among names.settled.items q || is_among names.news.items q) ≡ is_among (there_in k) q = (λ i. is_among (shelved.settled i) q || is_among (shelved.news i) q) ∙ sym (among_both k.settled k.news q) in record {
          settled = ap (λ (v : Vec Name). v.items) settled ∙ shelved.settled ∙ ap (λ (x : Shelf). x.settled) (sym is);
          news = news ∙ (λ i. if test i then shelved.news i else shelved.news i ++ q ∷ []) ∙ ap (λ (x : Shelf). x.news) (sym is);
          claimed = ap (λ (v : Vec Name). v.items) claimed ∙ shelved.claimed ∙ ap (λ (x : Shelf). x.claimed) (sym is);
          tidy = tidy ∙ shelved.tidy ∙ ap (λ (x : Shelf). x.tidy) (sym is);
          room =
              (let falls = need_falls r c (entry.Version t) (held tells o opened r disk c entries capacity d) may refl in
              let same = ap need to in
              let room = shelved.room in
              let few = one_more (is_among names.settled.items q || is_among names.news.items q) names.news.items q in
              let count = ap length news in
              let others = ap (λ (v : Vec Name). length v.items) claimed in
              omega (arith, falls, same, room, few, count, others, same_cap));
          entries =
              (let falls = need_falls r c (entry.Version t) (held tells o opened r disk c entries capacity d) may refl in
              let same = ap need to in
              let all = shelved.entries in
              let one = ap length here in
              let count = length-append entries (entry.Version t ∷ []) in
              let others = ap (λ (v : Vec Name). length v.items) claimed in
              omega (arith, falls, same, all, one, count, others, kept));
        }

    -- names are synced
    pub sync_shelved : (clock : ℕ) (n : Core) (now : List Entry) (more : ℕ) (later : Names) → need n ≡ need c → now ≡ entries ++ entry.Sync clock ∷ [] → later.settled.items ≡ names.settled.items ++ names.news.items → later.news.items ≡ []
        → vec_capacity later.news ≡ vec_capacity names.news → later.claimed ≡ names.claimed → later.tidy ≡ true → length entries + 1 + need c + length names.claimed.items ≤ more → IsShelved (shelf_after o r now) (need n) (length now) more later
    sync_shelved clock n now more later same here settled news same_cap claimed tidy fits =
        let k = shelf_after o r entries in
        let is = shelf_then now (entry.Sync clock) here in record {
          settled = settled ∙ (λ i. shelved.settled i ++ shelved.news i) ∙ ap (λ (x : Shelf). x.settled) (sym is);
          news = news ∙ ap (λ (x : Shelf). x.news) (sym is);
          claimed = ap (λ (v : Vec Name). v.items) claimed ∙ shelved.claimed ∙ ap (λ (x : Shelf). x.claimed) (sym is);
          tidy = tidy ∙ ap (λ (x : Shelf). x.tidy) (sym is);
          room = (let room = shelved.room in let count = ap length news in let others = ap (λ (v : Vec Name). length v.items) claimed in omega (arith, same, room, count, others, same_cap));
          entries = (let one = ap length here in let all = length-append entries (entry.Sync clock ∷ []) in let others = ap (λ (v : Vec Name). length v.items) claimed in omega (arith, same, fits, one, all, others));
        }

    -- an epoch is planned, and room was made for it
    pub plan_shelved : (e tasks : ℕ) (n : Core) (now : List Entry) (more : ℕ) (later : Names) (made : Unit {0}) → now ≡ entries ++ entry.Plan e ∷ [] → need n ≤ 2 * tasks + 4 → MakesRoom (2 * tasks + 4) names later (Some made)
        → length entries + 1 + need n + length names.claimed.items ≤ more → IsShelved (shelf_after o r now) (need n) (length now) more later
    plan_shelved e tasks n now more later made here few room fits =
        let made_more = made_room (shelf_after o r entries) (need c) (2 * tasks + 4) (length entries) cap cap names later (Some made) shelved room (le_refl cap) in
        let is = shelf_same now (entry.Plan e) refl here in record {
          settled = made_more.settled ∙ ap (λ (x : Shelf). x.settled) (sym is);
          news = made_more.news ∙ ap (λ (x : Shelf). x.news) (sym is);
          claimed = made_more.claimed ∙ ap (λ (x : Shelf). x.claimed) (sym is);
          tidy = made_more.tidy ∙ ap (λ (x : Shelf). x.tidy) (sym is);
          room = (let has = room.room in let one = ap length room.news in let other = ap length room.claimed in omega (arith, has, one, other, few));
          entries = (let one = ap length here in let all = length-append entries (entry.Plan e ∷ []) in let others = ap length room.claimed in omega (arith, fits, one, all, others));
        }

    -- an entry of upkeep, by what it leaves of the names
    pub upkeep_both : (new : History) (n : Core) (now : List Entry) (more : ℕ) (later : Names) (e : Entry) → May r c e → MayKeep r c (shelf_after o r entries) e → (tells → Moves o.job r c (cuts_after o r entries) e disk new)
        → (tells → IsRight o.job o.due (cuts_after o r entries) e) → n ≡ after r c e → now ≡ entries ++ e ∷ [] → need n ≤ need c → AreNamesOf (shelf_by c (shelf_after o r entries) e) later
        → length later.news.items + need c + length later.claimed.items ≤ vec_capacity later.news → length entries + 1 + need c + length later.claimed.items ≤ more
        → IsLedger tells o opened r new n now more × IsShelved (shelf_after o r now) (need n) (length now) more later
    upkeep_both new n now more later e may keeps moves right to here fewer are room fits =
        let is = shelf_then now e here in (
          one tells o opened r disk c entries capacity d new n now more e may keeps moves right to here (omega (arith, fits, fewer)),
          record {
            settled = are.settled ∙ ap (λ (x : Shelf). x.settled) (sym is);
            news = are.news ∙ ap (λ (x : Shelf). x.news) (sym is);
            claimed = are.claimed ∙ ap (λ (x : Shelf). x.claimed) (sym is);
            tidy = are.tidy ∙ ap (λ (x : Shelf). x.tidy) (sym is);
            room = omega (arith, room, fewer);
            entries = (let length_now = ap length here in let all = length-append entries (e ∷ []) in omega (arith, fits, fewer, length_now, all));
          },
        )

    abbrev kept_shelf : Shelf
    kept_shelf = shelf_after o r entries

    -- a snapshot is handed out
    pub claim_are : (p v : ℕ) (later : Names) → later.settled.items ≡ names.settled.items → later.news.items ≡ names.news.items → later.claimed.items ≡ names.claimed.items ++ name.Snapshot p v ∷ [] → later.tidy ≡ names.tidy
        → AreNamesOf (shelf_by c kept_shelf (entry.Upkeep p v)) later
    claim_are p v later settled news claimed tidy = record {
      settled = settled ∙ shelved.settled;
      news = news ∙ shelved.news;
      claimed = claimed ∙ ap (λ (l : List Name). l ++ name.Snapshot p v ∷ []) shelved.claimed;
      tidy = tidy ∙ shelved.tidy;
    }

    -- one is no longer being made
    pub unclaimed_are : (q : Name) (later : Names) → later.settled.items ≡ names.settled.items → later.news.items ≡ names.news.items → later.claimed.items ≡ without q names.claimed.items → later.tidy ≡ names.tidy → AreNamesOf (unclaimed q kept_shelf) later
    unclaimed_are q later settled news claimed tidy = record {
      settled = settled ∙ shelved.settled;
      news = news ∙ shelved.news;
      claimed = claimed ∙ ap (without q) shelved.claimed;
      tidy = tidy ∙ shelved.tidy;
    }

    -- and its file is there
    pub published_are : (q : Name) (later : Names) → later.settled.items ≡ names.settled.items
        → later.news.items ≡ (if is_among names.settled.items q || is_among names.news.items q then names.news.items else names.news.items ++ q ∷ []) → later.claimed.items ≡ without q names.claimed.items → later.tidy ≡ false
        → AreNamesOf (untidy (with_name q (unclaimed q kept_shelf))) later
    published_are q later settled news claimed tidy =
        let test : (is_among names.settled.items q || is_among names.news.items q) ≡ is_among (there_in kept_shelf) q =
        (λ i. is_among (shelved.settled i) q || is_among (shelved.news i) q) ∙ sym (among_both kept_shelf.settled kept_shelf.news q) in record {
          settled = settled ∙ shelved.settled;
          news = news ∙ (λ i. if test i then shelved.news i else shelved.news i ++ q ∷ []);
          claimed = claimed ∙ ap (without q) shelved.claimed;
          tidy = tidy;
        }

    -- a file is removed
    pub dropped_are : (q : Name) (later : Names) → later.settled.items ≡ without q names.settled.items → later.news.items ≡ without q names.news.items → later.claimed.items ≡ names.claimed.items → later.tidy ≡ false
        → AreNamesOf (shelf_by c kept_shelf (entry.Drop q)) later
    dropped_are q later settled news claimed tidy = record {
      settled = settled ∙ ap (without q) shelved.settled;
      news = news ∙ ap (without q) shelved.news;
      claimed = claimed ∙ shelved.claimed;
      tidy = tidy;
    }

    -- it is among the names that are being made
    pub is_claimed : (q : Name) → is_among kept_shelf.claimed q ≡ true → length (without q names.claimed.items) + 1 ≤ length names.claimed.items
    is_claimed q is = without_less q names.claimed.items (ap (λ (l : List Name). is_among l q) shelved.claimed ∙ is)

    -- there is room for its entry
    pub claimed_room : (q : Name) → is_among kept_shelf.claimed q ≡ true → length entries < cap
    claimed_room q is = (let fewer = is_claimed q is in let all = shelved.entries in omega (arith, fewer, all))

    -- and it comes back, with no file
    pub unclaimed_both : (new : History) (n : Core) (now : List Entry) (more : ℕ) (later : Names) (e : Entry) (q : Name) → is_among kept_shelf.claimed q ≡ true → May r c e → MayKeep r c kept_shelf e
        → (tells → Moves o.job r c (cuts_after o r entries) e disk new) → (tells → IsRight o.job o.due (cuts_after o r entries) e) → n ≡ after r c e → now ≡ entries ++ e ∷ [] → need n ≤ need c → AreNamesOf (shelf_by c kept_shelf e) later
        → later.news ≡ names.news → later.claimed.items ≡ without q names.claimed.items → more ≡ cap → IsLedger tells o opened r new n now more × IsShelved (shelf_after o r now) (need n) (length now) more later
    unclaimed_both new n now more later e q claimed may keeps moves right to here fewer are news left is =
        let less = is_claimed q claimed in
        let count = ap length left in
        let same = ap (λ (v : Vec Name). length v.items) news in
        let held = ap vec_capacity news in
        let room = shelved.room in
        let all = shelved.entries in
        upkeep_both new n now more later e may keeps moves right to here fewer are (omega (arith, room, less, count, same, held)) (omega (arith, all, less, count, is))
