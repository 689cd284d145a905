-- The files that make a state, in a list.
use Rattle.std.proofs.Common.{◌≡◌, ◌⊎◌, ◌<◌, ◌≤◌, ◌+◌, ◌-◌, ◌++◌, ◌||◌, [], ◌∷◌, ℕ, zero, suc, Bool, true, false, List, Option, Some, None, Result, Ok, Err, if◌then◌else◌, refl, sym, ap, ◌∙◌, subst, inl, inr, arith}
use Rattle.std.specs.Prelude.{All, IfOk, IfSome, is_some}
use Rattle.std.specs.Global.{Vec}
use Rattle.std.proofs.lemmas.Bool.{cases_lt, or_right, or_left}
use Rattle.std.proofs.lemmas.List.{append-nil, append_assoc, map-append}
use Rattle.std.proofs.lemmas.List.Elements.{All-head, All-push, All-tail}
use Rattle.ssq_outside.specs.declared.name.Name.{Name}
use Rattle.ssq_outside.specs.declared.name.Name.TheVariants as name
use Rattle.ssq_outside.specs.Files.{Content, Files, same_name}
use Rattle.ssq_outside.proofs.Names.{same_name-true, same_name-same}
use Rattle.ssq_upkeep.specs.Upkeep.{is_among}
use Rattle.ssq_version.specs.State.{State}
use Rattle.ssq_store.specs.Loaded.{content_in, files_in, IsDamaged, DamagedByEither, Makes, IsNoDelta}
use Rattle.ssq_board.specs.declared.front.Cause.{Cause}
use Rattle.ssq_promise.proofs.Knowing.{false_true}
use Rattle.ssq_ledger.specs.Names.{IsNewestBelow}
use Rattle.ssq_desk.specs.Upkeep.{IsNotFound, IsReadBy, IsUnread, deltas_from, files_for, names_in}

-- ---- the names that are needed

-- the first version whose delta is needed
abbrev pub floor_of : Option ℕ → ℕ
floor_of None = 0
floor_of (Some below) = below + 1

pub among_deltas : (p from count : ℕ) (q : Name) → is_among (deltas_from p from count) q ≡ true → (w : ℕ) × (q ≡ name.Delta p w) × (from ≤ w) × (w < from + count)
among_deltas p from zero q among = false_true among
among_deltas p from (suc count) q among = by (same_name (name.Delta p from) q) refl (among_deltas p (from + 1) count q)
  where
    by : (b : Bool) → same_name (name.Delta p from) q ≡ b → (is_among (deltas_from p (from + 1) count) q ≡ true → (w : ℕ) × (q ≡ name.Delta p w) × (from + 1 ≤ w) × (w < (from + 1) + count)) → (w : ℕ) × (q ≡ name.Delta p w) × (from ≤ w) × (w < from + suc count)
    by true is later = (from, sym (same_name-true (name.Delta p from) q is), omega arith, omega arith)
    by false is later =
        let rest = later (sym (ap (λ (b : Bool). b || is_among (deltas_from p (from + 1) count) q) is) ∙ among) in
        (rest.0, rest.1, (let a = rest.2 in omega (arith, a)), (let a = rest.3 in omega (arith, a)))

pub delta_among : (p from count w : ℕ) → from ≤ w → w < from + count → is_among (deltas_from p from count) (name.Delta p w) ≡ true
delta_among p from zero w le less = absurd (omega (arith, le, less))
delta_among p from (suc count) w le less = elim (cases_lt from w) [
  | inl below ↦ or_right (same_name (name.Delta p from) (name.Delta p w)) (is_among (deltas_from p (from + 1) count) (name.Delta p w)) (delta_among p (from + 1) count w (omega (arith, below)) (omega (arith, less)))
  | inr most ↦ (let same : from ≡ w = omega (arith, le, most) in
      or_left (same_name (name.Delta p from) (name.Delta p w)) (is_among (deltas_from p (from + 1) count) (name.Delta p w)) (subst (λ (x : ℕ). same_name (name.Delta p from) (name.Delta p x) ≡ true) same (same_name-same (name.Delta p from))))
]

-- a needed file is a delta from the floor on, or the snapshot below it
pub data IsNeeded (p v : ℕ) (below : Option ℕ) (q : Name) : Type 0 where
  a_delta : (w : ℕ) → q ≡ name.Delta p w → floor_of below ≤ w → w ≤ v → IsNeeded p v below q
  a_snapshot : (b : ℕ) → below ≡ Some b → q ≡ name.Snapshot p b → IsNeeded p v below q

pub needed_is : (p v : ℕ) (below : Option ℕ) → IfSome below (λ b. b < v) → (q : Name) → is_among (files_for p v below) q ≡ true → IsNeeded p v below q
needed_is p v None older q among = (let d = among_deltas p 0 (v + 1) q among in let less = d.3 in a_delta d.0 d.1 (omega arith) (omega (arith, less)))
needed_is p v (Some b) older q among = by (same_name (name.Snapshot p b) q) refl
  where
    by : (x : Bool) → same_name (name.Snapshot p b) q ≡ x → IsNeeded p v (Some b) q
    by true is = a_snapshot b refl (sym (same_name-true (name.Snapshot p b) q is))
    by false is =
        let d = among_deltas p (b + 1) (v - b) q (sym (ap (λ (x : Bool). x || is_among (deltas_from p (b + 1) (v - b)) q) is) ∙ among) in
        let less = d.3 in a_delta d.0 d.1 d.2 (omega (arith, less, older))

pub needs_delta : (p v : ℕ) (below : Option ℕ) → IfSome below (λ b. b < v) → (w : ℕ) → floor_of below ≤ w → w ≤ v → is_among (files_for p v below) (name.Delta p w) ≡ true
needs_delta p v None older w from to = delta_among p 0 (v + 1) w (omega arith) (omega (arith, to))
needs_delta p v (Some b) older w from to = or_right (same_name (name.Snapshot p b) (name.Delta p w)) (is_among (deltas_from p (b + 1) (v - b)) (name.Delta p w)) (delta_among p (b + 1) (v - b) w from (omega (arith, to, older)))

pub needs_snapshot : (p v b : ℕ) → is_among (files_for p v (Some b)) (name.Snapshot p b) ≡ true
needs_snapshot p v b = or_left (same_name (name.Snapshot p b) (name.Snapshot p b)) (is_among (deltas_from p (b + 1) (v - b)) (name.Snapshot p b)) (same_name-same (name.Snapshot p b))

-- one delta more
deltas_next : (p from count : ℕ) → deltas_from p from (suc count) ≡ deltas_from p from count ++ name.Delta p (from + count) ∷ []
deltas_next p from zero = ap (λ (n : ℕ). name.Delta p n ∷ []) (let e : from ≡ from + 0 = omega arith in e)
deltas_next p from (suc count) =
    ap (λ (l : List Name). name.Delta p from ∷ l) (deltas_next p (from + 1) count ∙ ap (λ (n : ℕ). deltas_from p (from + 1) count ++ name.Delta p n ∷ []) (let e : (from + 1) + count ≡ from + suc count = omega arith in e))

pub deltas_more : (p from count : ℕ) → deltas_from p from (count + 1) ≡ deltas_from p from count ++ name.Delta p (from + count) ∷ []
deltas_more p from count = ap (deltas_from p from) (let e : count + 1 ≡ suc count = omega arith in e) ∙ deltas_next p from count

-- ---- what stands in a list

pub read_is : (files : Files) (read : List (Name × List ℕ)) → All (λ file. files file.0 ≡ Some file.1) read → (q : Name) → is_among (names_in read) q ≡ true → content_in read q ≡ files q
read_is files [] all q among = false_true among
read_is files (file ∷ read) all q among = by (same_name file.0 q) refl (read_is files read (All-tail (λ file. files file.0 ≡ Some file.1) file read all) q)
  where
    by : (b : Bool) → same_name file.0 q ≡ b → (is_among (names_in read) q ≡ true → content_in read q ≡ files q) → (if same_name file.0 q then Some file.1 else content_in read q) ≡ files q
    by true is later = ap (λ (b : Bool). if b then Some file.1 else content_in read q) is ∙ sym (All-head (λ file. files file.0 ≡ Some file.1) file read all) ∙ ap files (same_name-true file.0 q is)
    by false is later = ap (λ (b : Bool). if b then Some file.1 else content_in read q) is
        ∙ later (sym (ap (λ (b : Bool). b || is_among (names_in read) q) is) ∙ among)

pub read_some : (read : List (Name × List ℕ)) (q : Name) → is_among (names_in read) q ≡ true → is_some (content_in read q) ≡ true
read_some [] q among = false_true among
read_some (file ∷ read) q among = by (same_name file.0 q) refl (read_some read q)
  where
    by : (b : Bool) → same_name file.0 q ≡ b → (is_among (names_in read) q ≡ true → is_some (content_in read q) ≡ true) → is_some (if same_name file.0 q then Some file.1 else content_in read q) ≡ true
    by true is later = ap (λ (b : Bool). is_some (if b then Some file.1 else content_in read q)) is
    by false is later = ap (λ (b : Bool). is_some (if b then Some file.1 else content_in read q)) is ∙ later (sym (ap (λ (b : Bool). b || is_among (names_in read) q) is) ∙ among)

pub some_read : (read : List (Name × List ℕ)) (q : Name) → is_some (content_in read q) ≡ true → is_among (names_in read) q ≡ true
some_read [] q there = false_true there
some_read (file ∷ read) q there = by (same_name file.0 q) refl (some_read read q)
  where
    by : (b : Bool) → same_name file.0 q ≡ b → (is_some (content_in read q) ≡ true → is_among (names_in read) q ≡ true) → (same_name file.0 q || is_among (names_in read) q) ≡ true
    by true is later = or_left (same_name file.0 q) (is_among (names_in read) q) is
    by false is later = or_right (same_name file.0 q) (is_among (names_in read) q) (later (sym (ap (λ (b : Bool). is_some (if b then Some file.1 else content_in read q)) is) ∙ there))

-- ---- the first of them that is malformed is one of them

module _ (read : List (Name × List ℕ)) (p v : ℕ) (below : Option ℕ) (older : IfSome below (λ b. b < v)) (are : names_in read ≡ files_for p v below) where
  -- where no snapshot of a version is there, the floor lies below it
  under : (w : ℕ) → floor_of below ≤ suc w → content_in read (name.Snapshot p w) ≡ None → floor_of below ≤ w
  under w le none = by below refl
    where
      by : (o : Option ℕ) → below ≡ o → floor_of below ≤ w
      by None is = (let f : floor_of below ≡ 0 = ap floor_of is in omega (arith, f))
      by (Some b) is = elim (cases_lt b w) [
        | inl less ↦ (let f : floor_of below ≡ b + 1 = ap floor_of is in omega (arith, f, less))
        | inr most ↦ (let f : floor_of below ≡ b + 1 = ap floor_of is in let same : b ≡ w = omega (arith, f, le, most) in
            false_true (sym (ap is_some none) ∙ read_some read (name.Snapshot p w) (ap (λ l. is_among l (name.Snapshot p w)) are ∙ ap (λ o. is_among (files_for p v o) (name.Snapshot p w)) is ∙ subst (λ (x : ℕ). is_among (files_for p v (Some b)) (name.Snapshot p x) ≡ true) same (needs_snapshot p v b))))
      ]

  pub damaged_among : (n : ℕ) → floor_of below ≤ n → n ≤ v + 1 → (q : Name) → IsDamaged (files_in read) p n q → is_among (names_in read) q ≡ true
  unfolding IsDamaged
  damaged_among zero from to q damaged = absurd damaged
  damaged_among (suc w) from to q damaged = by (content_in read (name.Snapshot p w)) refl damaged (λ d. damaged_among w (omega (arith, d)) (omega (arith, to)))
    where
      Otherwise : Type 0
      Otherwise = IsDamaged (files_in read) p w q ⊎ ((old : State) × Makes (files_in read) p w old × (q ≡ name.Delta p w) × IsNoDelta (files_in read (name.Delta p w)) p w old)

      by : (c : Content) → content_in read (name.Snapshot p w) ≡ c → DamagedByEither (content_in read (name.Snapshot p w)) p w q Otherwise → (floor_of below ≤ w → (r : Name) → IsDamaged (files_in read) p w r → is_among (names_in read) r ≡ true) → is_among (names_in read) q ≡ true
      by None is bad rest =
          let at = under w from is in
          elim (subst (λ (c : Content). DamagedByEither c p w q Otherwise) is bad) [
            | inl lower ↦ rest at q lower
            | inr delta ↦ ap (is_among (names_in read)) delta.2 ∙ ap (λ l. is_among l (name.Delta p w)) are ∙ needs_delta p v below older w at (omega (arith, to))
          ]
      by (Some bytes) is bad rest = (let d = subst (λ (c : Content). DamagedByEither c p w q Otherwise) is bad in ap (is_among (names_in read)) d.0 ∙ some_read read (name.Snapshot p w) (ap is_some is))

-- ---- how they are read

abbrev pub Found : Files → Name × List ℕ → Type 0
Found files file = files file.0 ≡ Some file.1

-- one file more
pub names_more : (old new : List (Name × List ℕ)) (q : Name) (bytes : List ℕ) → new ≡ old ++ (q, bytes) ∷ [] → names_in new ≡ names_in old ++ q ∷ []
names_more old new q bytes is = ap names_in is ∙ map-append (λ (file : Name × List ℕ). file.0) old ((q, bytes) ∷ [])

pub found_more : (files : Files) (old new : List (Name × List ℕ)) (q : Name) (bytes : List ℕ) → new ≡ old ++ (q, bytes) ∷ [] → files q ≡ Some bytes → All (λ file. files file.0 ≡ Some file.1) old → All (λ file. files file.0 ≡ Some file.1) new
found_more files old new q bytes is here were = subst (All (Found files)) (sym is) (All-push (Found files) old (q, bytes) were here)

-- the deltas up to one version more
pub names_step : (p from v next : ℕ) (start now news : List Name) → from ≤ v → next ≡ suc v → now ≡ start ++ deltas_from p from (v - from) → news ≡ now ++ name.Delta p v ∷ [] → news ≡ start ++ deltas_from p from (next - from)
names_step p from v next start now news le is were more =
    more ∙ ap (λ (l : List Name). l ++ name.Delta p v ∷ []) were ∙ append_assoc start (deltas_from p from (v - from)) (name.Delta p v ∷ [])
    ∙ ap (λ (l : List Name). start ++ l)
    (ap (λ (w : ℕ). deltas_from p from (v - from) ++ name.Delta p w ∷ []) (let e : v ≡ from + (v - from) = omega (arith, le) in e)
    ∙ sym (deltas_more p from (v - from))
    ∙ ap (deltas_from p from) (let e : (v - from) + 1 ≡ next - from = omega (arith, le, is) in e))

pub names_none : (p from : ℕ) (start : List Name) → start ≡ start ++ deltas_from p from (from - from)
names_none p from start = sym (append-nil start) ∙ ap (λ (n : ℕ). start ++ deltas_from p from n) (let e : 0 ≡ from - from = omega arith in e)

-- the loop is over
pub names_all : (p from v versions : ℕ) (start now : List Name) → v ≡ versions → now ≡ start ++ deltas_from p from (v - from) → now ≡ start ++ deltas_from p from (versions - from)
names_all p from v versions start now same is = is ∙ ap (λ (w : ℕ). start ++ deltas_from p from (w - from)) same

-- a snapshot is among itself and others
pub first_among : (q : Name) (names : List Name) → is_among (q ∷ names) q ≡ true
first_among q names = or_left (same_name q q) (is_among names q) (same_name-same q)

pub next_among : (n q : Name) (names : List Name) → is_among names q ≡ true → is_among (n ∷ names) q ≡ true
next_among n q names is = or_right (same_name n q) (is_among names q) is

-- these are the files that are needed
pub behind_is : (p v b versions : ℕ) → versions ≡ v + 1 → name.Snapshot p b ∷ deltas_from p (b + 1) (versions - (b + 1)) ≡ files_for p v (Some b)
behind_is p v b versions count = ap (λ (n : ℕ). name.Snapshot p b ∷ deltas_from p (b + 1) n) (let e : versions - (b + 1) ≡ v - b = omega (arith, count) in e)

pub whole_is : (p v versions : ℕ) → versions ≡ v + 1 → deltas_from p 0 (versions - 0) ≡ files_for p v None
whole_is p v versions count = ap (deltas_from p 0) (let e : versions - 0 ≡ v + 1 = omega (arith, count) in e)

module _ (tells : Type 0) (files : Files) (p v : ℕ) (names : List Name) (below : Option ℕ) (newest : IsNewestBelow p v names below) (list : List Name) (list_is : list ≡ files_for p v below) where
  -- all of them were read
  pub all_read : (result : Result (Vec (Name × List ℕ)) Cause) → IfOk result (λ read. names_in read.items ≡ list) → (tells → IfOk result (λ read. All (λ file. files file.0 ≡ Some file.1) read.items)) → IfOk result (λ read. IsReadBy tells files p v names read.items)
  all_read (Ok read) are found = record { below = below; newest = newest; are = are ∙ list_is; found = found }
  all_read (Err f) are found = tt

  -- one of them was not found
  pub none_read : (q : Name) → IsNotFound tells files list q → IsUnread tells files p v names q
  none_read q bad = record { below = below; newest = newest; unfound = subst (λ (l : List Name). IsNotFound tells files l q) list_is bad }
