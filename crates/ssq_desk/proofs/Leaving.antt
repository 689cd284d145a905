-- What is left of what partitions keep, where a round ends.
use Rattle.std.proofs.Common.{◌≡◌, ◌≤◌, ◌+◌, ◌++◌, [], ◌∷◌, ℕ, zero, suc, true≢false, List, length, length-append, map, get_or, Option, Some, None, refl, sym, ap, ◌∙◌, subst, arith}
use Rattle.std.specs.Prelude.{slice_get, is_some, IsSome, IsSomeAnd}
use Rattle.std.proofs.lemmas.List.{append-nil, append_assoc, get_or-map, length-map}
use mathlib.Core.Option.{some, some-injective}
use lib.ListN.{get_elem?}
use Rattle.ssq_shape.specs.declared.bound.Shape.{Shape}
use Rattle.ssq_shape.specs.declared.bound.Shape.TheVariants.{Plain, Group, Dedup, Join}
use Rattle.ssq_step.specs.Indexing.{IsIndex, Timed}
use Rattle.ssq_store.specs.declared.store.Store.{Store}
use Rattle.ssq_store.specs.Loaded.{count_to}
use Rattle.ssq_task.specs.declared.partition.Held.{Held}
use Rattle.ssq_meaning.specs.Meaning.{Values}
use Rattle.ssq_core.specs.Course.{Cuts}
use Rattle.ssq_course.specs.Setting.{Setting, keeping_of}
use Rattle.ssq_open.specs.Stores.{AreStores}
use Rattle.ssq_terms.specs.Partitions.{HoldsStateOf}
use Rattle.ssq_board.specs.declared.front.Cause.{Cause}
use Rattle.ssq_board.specs.declared.front.Cause.TheVariants as cause
use Rattle.ssq_board.proofs.Lists.{there_at}
use Rattle.ssq_desk.specs.Contents.{IsHeldOf, IsStopOf, keeping_in}
use Rattle.ssq_desk.specs.First.{AreIndexes}
use Rattle.ssq_desk.specs.Closing.{stores_in, closings_in}
use Rattle.ssq_desk.proofs.Planned.{at_get}
use Rattle.ssq_desk.proofs.Beginnings.{map_at}

-- ---- lists of options of which each has a value

is_there : {A : Type 0} (P : A → Type 0) (o : Option A) → IsSomeAnd o P → IsSome o
is_there P None is = absurd is
is_there P (Some a) is = refl

all_some : {A : Type 0} (l : List (Option A)) → ((i : ℕ) (own : Option A) → get_elem? l i ≡ some own → IsSome own) → (there : List A) × (l ≡ map (λ a. Some a) there)
all_some [] each = ([], refl)
all_some (None ∷ l) each = absurd (true≢false (sym (each 0 None refl)))
all_some {A} (Some a ∷ l) each = (let rest = all_some l (λ i own here. each (suc i) own here) in (a ∷ rest.0, ap (λ (l : List (Option A)). Some a ∷ l) rest.1))

-- what holds of each of them, and of the places after them
each_place : {A B : Type 0} (f : A → B) (P : ℕ → Option B → Type 0) (l : List A) → ((i : ℕ) → length l ≤ i → P i None) → ((i : ℕ) (a : A) → get_elem? l i ≡ some a → P i (Some (f a))) → (i : ℕ) → P i (slice_get (map f l) i)
each_place f P [] behind each i = behind i (omega arith)
each_place f P (x ∷ l) behind each zero = each 0 x refl
each_place f P (x ∷ l) behind each (suc i) = each_place f (λ j o. P (suc j) o) l (λ j le. behind (suc j) (omega (arith, le))) (λ j a here. each (suc j) a here) i

abbrev value_or : {A : Type 0} → A → Option A → A
value_or d None = d
value_or d (Some x) = x

-- what was mapped is of one of them
mapped_from : {A B : Type 0} (f : A → B) (l : List A) (i : ℕ) (b : B) → slice_get (map f l) i ≡ Some b → (a : A) × (get_elem? l i ≡ some a) × (f a ≡ b)
mapped_from f [] i b here = absurd (true≢false (sym (ap is_some here)))
mapped_from f (x ∷ l) zero b here = (x, refl, ap (value_or b) here)
mapped_from f (x ∷ l) (suc i) b here = mapped_from f l i b here

-- ---- what partitions keep

stores_are : (l : List Held) → stores_in (map (λ (h : Held). Some h) l) ≡ map (λ (h : Held). h.store) l
stores_are [] = refl
stores_are (h ∷ l) = ap (λ (s : List Store). h.store ∷ s) (stores_are l)

closings_are : (l : List Held) → closings_in (map (λ (h : Held). Some h) l) ≡ map (λ (h : Held). h.closing) l
closings_are [] = refl
closings_are (h ∷ l) = ap (λ (s : List (List Timed)). h.closing ∷ s) (closings_are l)

-- the stores and indexes of what is kept after so many epochs
pub record IsLeft (owned : Type 0) (s : Setting) (cuts : Cuts) (n : ℕ) (held : List (Option Held)) : Type 0 where
  pub stores : AreStores (keeping_in s) n (stores_in held)
  pub indexes : AreIndexes (Unit {0}) s.job.bound (stores_in held) (closings_in held)
  pub states : owned → (p : ℕ) → HoldsStateOf s cuts n p (slice_get (stores_in held) p)

module _ (owned : Type 0) (s : Setting) (cuts : Cuts) (n : ℕ) where
  all_left : (l : List Held) → length l ≡ keeping_in s → ((p : ℕ) (own : Held) → get_elem? l p ≡ some own → IsHeldOf owned s cuts n p own) → IsLeft owned s cuts n (map (λ (h : Held). Some h) l)
  all_left l count each = record {
    stores = record {
      many = ap length (stores_are l) ∙ length-map l (λ (h : Held). h.store) ∙ count;
      each = λ p d less. (let own = there_at l p (omega (arith, less, count)) in
          let is = each p own.0 own.1 in
          let same : get_or (stores_in (map (λ (h : Held). Some h) l)) p d ≡ own.0.store =
          ap (λ (x : List Store). get_or x p d) (stores_are l) ∙ get_or-map (λ (h : Held). h.store) l p own.0 d (omega (arith, less, count)) ∙ ap (λ (h : Held). h.store) (at_get l p own.0 own.0 own.1) in
          record { partition = ap (λ (x : Store). x.partition) same ∙ is.partition_is; version = ap (λ (x : Store). count_to x.version) same ∙ is.version });
    };
    indexes = record {
      count = ap length (closings_are l) ∙ length-map l (λ (h : Held). h.closing) ∙ sym (ap length (stores_are l) ∙ length-map l (λ (h : Held). h.store));
      each = λ t p store closing one other. (let a = mapped_from (λ (h : Held). h.store) l p store (ap (λ (x : List Store). slice_get x p) (sym (stores_are l)) ∙ one) in
          let b = mapped_from (λ (h : Held). h.closing) l p closing (ap (λ (x : List (List Timed)). slice_get x p) (sym (closings_are l)) ∙ other) in
          let same : b.0 ≡ a.0 = some-injective b.0 a.0 (sym b.1 ∙ a.1) in
          subst (λ (x : Store). IsIndex s.job.bound x.state closing) a.2
          (subst (λ (x : List Timed). IsIndex s.job.bound a.0.store.state x) (ap (λ (h : Held). h.closing) (sym same) ∙ b.2) (each p a.0 a.1).index));
    };
    states = λ t p. subst (λ (x : List Store). HoldsStateOf s cuts n p (slice_get x p)) (sym (stores_are l))
        (each_place (λ (h : Held). h.store) (λ q o. HoldsStateOf s cuts n q o) l (λ q le. omega (arith, le, count)) (λ q own here. (each q own here).state t) p);
  }

  pub held_left : (held : List (Option Held)) → length held ≡ keeping_in s → ((p : ℕ) (own : Option Held) → get_elem? held p ≡ some own → IsSomeAnd own (IsHeldOf owned s cuts n p)) → IsLeft owned s cuts n held
  held_left held count each =
      let all = all_some held (λ p own here. is_there (IsHeldOf owned s cuts n p) own (each p own here)) in
      subst (IsLeft owned s cuts n) (sym all.1)
      (all_left all.0 (sym (length-map all.0 (λ (h : Held). Some h)) ∙ ap length (sym all.1) ∙ count)
      (λ p own here. each p (Some own) (ap (λ (x : List (Option Held)). get_elem? x p) all.1 ∙ map_at (λ (h : Held). Some h) all.0 p own here)))

-- the stores and indexes so far, with what is left
pub record IsParting (held rest : List (Option Held)) (stores : List Store) (closings : List (List Timed)) (room places : ℕ) : Type 0 where
  pub stored : stores ++ stores_in rest ≡ stores_in held
  pub indexed : closings ++ closings_in rest ≡ closings_in held
  pub stores_room : length stores + length rest ≤ room
  pub closings_room : length closings + length rest ≤ places

-- one more is taken apart
pub one_apart : (held rest : List (Option Held)) (own : Option Held) (stores more : List Store) (closings others : List (List Timed)) (room places new_room new_places : ℕ) → more ≡ stores ++ stores_in (own ∷ []) → others ≡ closings ++ closings_in (own ∷ [])
    → new_room ≡ room → new_places ≡ places → IsParting held (own ∷ rest) stores closings room places → IsParting held rest more others new_room new_places
one_apart held rest None stores more closings others room places new_room new_places more_is others_are same_room same_places is =
    let stays = more_is ∙ append-nil stores in
    let stay = others_are ∙ append-nil closings in
    let count = ap length stays in
    let counted = ap length stay in
    let stores_room = is.stores_room in
    let closings_room = is.closings_room in record {
      stored = ap (λ (l : List Store). l ++ stores_in rest) stays ∙ is.stored;
      indexed = ap (λ (l : List (List Timed)). l ++ closings_in rest) stay ∙ is.indexed;
      stores_room = omega (arith, stores_room, count, same_room);
      closings_room = omega (arith, closings_room, counted, same_places);
    }
one_apart held rest (Some own) stores more closings others room places new_room new_places more_is others_are same_room same_places is =
    let count = ap length more_is ∙ length-append stores (own.store ∷ []) in
    let counted = ap length others_are ∙ length-append closings (own.closing ∷ []) in
    let stores_room = is.stores_room in
    let closings_room = is.closings_room in record {
      stored = ap (λ (l : List Store). l ++ stores_in rest) more_is ∙ append_assoc stores (own.store ∷ []) (stores_in rest) ∙ is.stored;
      indexed = ap (λ (l : List (List Timed)). l ++ closings_in rest) others_are ∙ append_assoc closings (own.closing ∷ []) (closings_in rest) ∙ is.indexed;
      stores_room = omega (arith, stores_room, count, same_room);
      closings_room = omega (arith, closings_room, counted, same_places);
    }

-- no more partitions keep state than there are
pub keeping_most : (shape : Shape) (partitions : ℕ) → keeping_of shape partitions ≤ partitions
keeping_most Plain partitions = omega arith
keeping_most (Group grouping) partitions = omega arith
keeping_most (Dedup columns) partitions = omega arith
keeping_most (Join joining) partitions = omega arith

-- ---- the key for which a desk was stopped

-- where it was stopped for another cause than a key, nothing is said of keys
pub stopped_for : (reads owned : Type 0) (s : Setting) (cuts : Cuts) (e : ℕ) (key other : Option Values) (f : Cause) → (f ≡ cause.KeyOverflow → other ≡ key) → IsStopOf reads owned s cuts e key f → IsStopOf reads owned s cuts e other f
stopped_for reads owned s cuts e key other (cause.BadLine t p o f) same is = is
stopped_for reads owned s cuts e key other (cause.Overflow t p o) same is = is
stopped_for reads owned s cuts e key other cause.KeyOverflow same is = subst (λ (k : Option Values). IsStopOf reads owned s cuts e k cause.KeyOverflow) (sym (same refl)) is
stopped_for reads owned s cuts e key other (cause.LogShort t p l f) same is = is
stopped_for reads owned s cuts e key other (cause.Damaged q) same is = is
stopped_for reads owned s cuts e key other cause.LogFault same is = is
stopped_for reads owned s cuts e key other cause.DiskFault same is = is
stopped_for reads owned s cuts e key other cause.Full same is = is
stopped_for reads owned s cuts e key other cause.NoMemory same is = is
