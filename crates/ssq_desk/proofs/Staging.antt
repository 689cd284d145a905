-- Files aside that were begun for partitions, and what these keep as it was opened.
use Rattle.std.proofs.Common.{◌≡◌, ◌<◌, ◌≤◌, ℕ, zero, suc, List, [], ◌∷◌, length, get_or, Option, Some, None, refl, sym, ap, ◌∙◌, subst, arith}
use Rattle.std.specs.Prelude.{All, IsSomeAnd, slice_get, vec_capacity}
use Rattle.std.proofs.lemmas.List.Elements.{All-nil, All-cons, All-head, All-tail}
use mathlib.Core.Option.{some, some-injective, some-ne-none}
use lib.ListN.{get_elem?}
use Rattle.ssq_step.specs.Indexing.{Timed}
use Rattle.ssq_store.specs.declared.store.Store.{Store}
use Rattle.ssq_task.specs.declared.partition.Held.{Held}
use Rattle.ssq_desk.specs.declared.desk.Share.{Share}
use Rattle.ssq_desk.specs.Contents.{IsStageOf}
use Rattle.ssq_desk.specs.First.{held_of}
use Rattle.ssq_desk.specs.Making.{IsReady, AreReady}
use Rattle.ssq_desk.specs.Room.{IsFresh, AreStaged}

stage_of : {S : Type 0} (tells owned : Type 0) (written : S → List ℕ) → (owned → tells) → (keeping p : ℕ) (stage : Option S) → p < keeping → IsSomeAnd stage (λ stage. tells → written stage ≡ []) → IsStageOf owned written keeping p stage
stage_of tells owned written so keeping p None less is = absurd is
stage_of tells owned written so keeping p (Some stage) less is = (less, λ t. is (so t))

no_stage : {S : Type 0} (owned : Type 0) (written : S → List ℕ) (keeping p : ℕ) (stage : Option S) → keeping ≤ p → stage ≡ None → IsStageOf owned written keeping p stage
no_stage owned written keeping p stage above none = subst (IsStageOf owned written keeping p) (sym none) above

-- one partition more before it
later : {S : Type 0} (owned : Type 0) (written : S → List ℕ) (keeping p : ℕ) (stage : Option S) → IsStageOf owned written keeping p stage → IsStageOf owned written (suc keeping) (suc p) stage
later owned written keeping p None is = omega (arith, is)
later owned written keeping p (Some stage) is = (let less = is.0 in omega (arith, less), is.1)

module _ {A S : Type 0} (tells owned : Type 0) (written : S → List ℕ) (so : owned → tells) where
  pub staged_count : (held : List A) (olds news : List (Share S)) → AreStaged tells written held olds news → length news ≡ length olds
  staged_count [] olds news are = ap length are
  staged_count (own ∷ held) [] news are = ap length are
  staged_count (own ∷ held) (old ∷ olds) [] are = absurd are
  staged_count (own ∷ held) (old ∷ olds) (new ∷ news) are = ap suc (staged_count held olds news are.1)

  staged_at : (parts : ℕ) (held : List A) (olds news : List (Share S)) → ((p : ℕ) (share : Share S) → get_elem? olds p ≡ some share → IsFresh parts share) → AreStaged tells written held olds news
      → (p : ℕ) (share : Share S) → get_elem? news p ≡ some share → IsReady owned written parts (length held) p share
  staged_at parts [] olds news fresh are p share here =
      let f = fresh p share (subst (λ (l : List (Share S)). get_elem? l p ≡ some share) are here) in
      record { none = f.none; room = f.room; stage = no_stage owned written 0 p share.stage (omega arith) f.no_stage; no_key = f.no_key }
  staged_at parts (own ∷ held) [] news fresh are p share here = absurd (some-ne-none share (sym (subst (λ (l : List (Share S)). get_elem? l p ≡ some share) are here)))
  staged_at parts (own ∷ held) (old ∷ olds) [] fresh are p share here = absurd are
  staged_at parts (own ∷ held) (old ∷ olds) (new ∷ news) fresh are zero share here =
      let f = fresh zero old refl in
      let same : new ≡ share = some-injective new share here in
      subst (IsReady owned written parts (suc (length held)) zero) same (record {
        none = ap (λ v. v.items) are.0.buckets_are ∙ f.none;
        room = subst (λ v. parts ≤ vec_capacity v) (sym are.0.buckets_are) f.room;
        stage = stage_of tells owned written so (suc (length held)) zero new.stage (omega arith) are.0.stage;
        no_key = are.0.key_is ∙ f.no_key;
      })
  staged_at parts (own ∷ held) (old ∷ olds) (new ∷ news) fresh are (suc p) share here =
      let rest = staged_at parts held olds news (λ q x there. fresh (suc q) x there) are.1 p share here in
      record { none = rest.none; room = rest.room; stage = later owned written (length held) p share.stage rest.stage; no_key = rest.no_key }

  -- no key is told of any
  pub staged_keys : (parts : ℕ) (held : List A) (olds news : List (Share S)) → All (IsFresh parts) olds → AreStaged tells written held olds news → All (λ (share : Share S). share.key ≡ None) news
  staged_keys parts [] olds news fresh are = subst (λ (l : List (Share S)). All (λ (share : Share S). share.key ≡ None) l) (sym are) (λ i d less. (fresh i d less).no_key)
  staged_keys parts (own ∷ held) [] news fresh are = subst (λ (l : List (Share S)). All (λ (share : Share S). share.key ≡ None) l) (sym are) (All-nil (λ (share : Share S). share.key ≡ None))
  staged_keys parts (own ∷ held) (old ∷ olds) [] fresh are = absurd are
  staged_keys parts (own ∷ held) (old ∷ olds) (new ∷ news) fresh are =
      All-cons (λ (share : Share S). share.key ≡ None) new news (are.0.key_is ∙ (All-head (IsFresh parts) old olds fresh).no_key) (staged_keys parts held olds news (All-tail (IsFresh parts) old olds fresh) are.1)

  -- each partition has its room, and its file where it keeps state
  pub staged_ready : (partitions parts : ℕ) (held : List A) (olds news : List (Share S)) → length olds ≡ partitions → All (IsFresh parts) olds → AreStaged tells written held olds news
      → AreReady owned written partitions parts (length held) news
  staged_ready partitions parts held olds news count fresh are = record {
    count = staged_count held olds news are ∙ count;
    each = staged_at parts held olds news (λ p share here. all_get (IsFresh parts) olds fresh p share here) are;
  }
    where
      at_here : {B : Type 0} (l : List B) (p : ℕ) (x d : B) → get_elem? l p ≡ some x → (p < length l) × (get_or l p d ≡ x)
      at_here [] p x d e = absurd (some-ne-none x (sym e))
      at_here (y ∷ l) zero x d e = (omega arith, some-injective y x e)
      at_here (y ∷ l) (suc p) x d e = (let rest = at_here l p x d e in (omega (arith, rest.0), rest.1))

      all_get : {B : Type 0} (P : B → Type 0) (l : List B) → All P l → (p : ℕ) (x : B) → get_elem? l p ≡ some x → P x
      all_get P l all p x e = (let at = at_here l p x x e in subst P at.1 (all p x at.0))

-- ---- what was opened

pub held_length : (stores : List Store) (closings : List (List Timed)) → length closings ≡ length stores → length (held_of stores closings) ≡ length stores
held_length [] closings same = refl
held_length (store ∷ stores) [] same = absurd (omega (arith, same))
held_length (store ∷ stores) (closing ∷ closings) same = ap suc (held_length stores closings (omega (arith, same)))

-- at each place it is the store there with its index
pub record IsHeldThere (stores : List Store) (closings : List (List Timed)) (p : ℕ) (own : Option Held) : Type 0 where
  pub store : Store
  pub closing : List Timed
  pub store_is : slice_get stores p ≡ Some store
  pub closing_is : slice_get closings p ≡ Some closing
  pub own_is : own ≡ Some (record { store = store; closing = closing })

pub held_at : (stores : List Store) (closings : List (List Timed)) (p : ℕ) (own : Option Held) → get_elem? (held_of stores closings) p ≡ some own → IsHeldThere stores closings p own
held_at [] closings p own here = absurd (some-ne-none own (sym here))
held_at (store ∷ stores) [] p own here = absurd (some-ne-none own (sym here))
held_at (store ∷ stores) (closing ∷ closings) zero own here = record { store = store; closing = closing; store_is = refl; closing_is = refl; own_is = sym (some-injective (Some (record { store = store; closing = closing })) own here) }
held_at (store ∷ stores) (closing ∷ closings) (suc p) own here = (let rest = held_at stores closings p own here in record { store = rest.store; closing = rest.closing; store_is = rest.store_is; closing_is = rest.closing_is; own_is = rest.own_is })
