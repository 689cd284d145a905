-- The stores are loaded one after the other.
use Rattle.std.proofs.Common.{◌≡◌, ◌∙◌, ◌<◌, ◌≤◌, ◌+◌, ◌++◌, [], ◌∷◌, ℕ, List, length, get_or, refl, sym, ap, subst, arith}
use Rattle.std.proofs.lemmas.List.{length_push}
use Rattle.ssq_outside.specs.Files.{Files}
use Rattle.ssq_store.specs.declared.store.Store.{Store}
use Rattle.ssq_store.specs.declared.fault.StoreFault.{StoreFault}
use Rattle.ssq_store.specs.declared.fault.StoreFault.TheVariants as store_fault
use Rattle.ssq_store.specs.Loaded.{Makes, Refuses as StateRefuses, IsDamaged as IsStateDamaged}
use Rattle.ssq_open.specs.declared.fault.OpenFault.{OpenFault}
use Rattle.ssq_open.specs.declared.fault.OpenFault.TheVariants.{OtherQuery, OtherPartitions, OtherParts, LogShort, Damaged, DiskFault, NoMemory}
use Rattle.ssq_open.specs.Fault.{fault_of_store}
use Rattle.ssq_open.specs.Stores.{IsStoreOf, AreStores, AreLoaded, AreNew, CanBeMade, StoresRefuse}
use Rattle.ssq_open.specs.Opening.{IsOutside}
use Rattle.ssq_open.proofs.Planning.{pushed}

-- what holds of so many elements, each at its place, and of one more
pushed_to : {X : Type 0} (Good : ℕ → X → Type 0) (xs : List X) (x : X) (n : ℕ) → length xs ≡ n → ((e : ℕ) (default : X) → e < n → Good e (get_or xs e default)) → Good n x
    → (e : ℕ) (default : X) → e < n + 1 → Good e (get_or (xs ++ x ∷ []) e default)
pushed_to Good xs x n count each here e default less =
    pushed Good xs x (λ f d low. each f d (omega (arith, low, count))) (subst (λ m. Good m x) (sym count) here) e default (omega (arith, less, count, length_push xs x))

pub no_stores : (committed : ℕ) → AreStores 0 committed []
no_stores committed = record { many = refl; each = λ p default less. absurd (omega (arith, less)) }

pub none_loaded : (files : Files) (committed : ℕ) → AreLoaded files 0 committed []
none_loaded files committed = record { numbers = no_stores committed; made = λ p default less. absurd (omega (arith, less)) }

pub stores_next : (p committed : ℕ) (stores : List Store) (store : Store) → AreStores p committed stores → IsStoreOf p committed store → AreStores (p + 1) committed (stores ++ store ∷ [])
stores_next p committed stores store are is = record {
  many = length_push stores store ∙ ap (λ n. n + 1) are.many;
  each = pushed_to (λ q (own : Store). IsStoreOf q committed own) stores store p are.many are.each is;
}

pub loaded_next : (files : Files) (p committed : ℕ) (stores : List Store) (store : Store) → AreLoaded files p committed stores → IsStoreOf p committed store → Makes files p committed store.state
    → AreLoaded files (p + 1) committed (stores ++ store ∷ [])
loaded_next files p committed stores store are is makes = record {
  numbers = stores_next p committed stores store are.numbers is;
  made = pushed_to (λ q (own : Store). Makes files q committed own.state) stores store p are.numbers.many are.made makes;
}

-- what is loaded can be made
pub made_of : (files : Files) (keeping committed : ℕ) (stores : List Store) → AreLoaded files keeping committed stores → (p : ℕ) → p < keeping → CanBeMade files committed p
made_of files keeping committed [] are p less = absurd (let none : 0 ≡ keeping = are.numbers.many in omega (arith, less, none))
made_of files keeping committed (store ∷ stores) are p less = ((get_or (store ∷ stores) p store).state, are.made p store less)

-- why the state of the next partition is not loaded
pub next_refused : (files : Files) (p committed : ℕ) (stores : List Store) (why : StoreFault) → AreLoaded files p committed stores → StateRefuses files p committed why → StoresRefuse files (p + 1) committed (fault_of_store why)
next_refused files p committed stores (store_fault.Damaged at) are refused = record { partition = p; within = omega arith; before = made_of files p committed stores are; damaged = refused }
next_refused files p committed stores store_fault.DiskFault are refused = tt
next_refused files p committed stores store_fault.NoMemory are refused = tt

-- of more partitions the same one is the first
pub refused_more : (files : Files) (p keeping committed : ℕ) (why : OpenFault) → p ≤ keeping → StoresRefuse files p committed why → StoresRefuse files keeping committed why
refused_more files p keeping committed (Damaged at) less refused = record { partition = refused.partition; within = omega (arith, refused.within, less); before = refused.before; damaged = refused.damaged }
refused_more files p keeping committed DiskFault less refused = tt
refused_more files p keeping committed NoMemory less refused = tt
refused_more files p keeping committed (OtherQuery kept) less refused = refused
refused_more files p keeping committed (OtherPartitions kept asked) less refused = refused
refused_more files p keeping committed (OtherParts stream kept found) less refused = refused
refused_more files p keeping committed (LogShort stream part logged found) less refused = refused

-- before the first epoch the stores are empty, and nothing but the outside refuses them
pub new_loaded : (files : Files) (keeping : ℕ) (stores : List Store) → AreLoaded files keeping 0 stores → AreNew keeping stores
unfolding Makes
new_loaded files keeping stores are = record { numbers = are.numbers; empty = are.made }

pub new_refused : (files : Files) (keeping : ℕ) (why : OpenFault) → StoresRefuse files keeping 0 why → IsOutside why
unfolding IsStateDamaged
new_refused files keeping (Damaged at) refused = refused.damaged
new_refused files keeping DiskFault refused = tt
new_refused files keeping NoMemory refused = tt
new_refused files keeping (OtherQuery kept) refused = refused
new_refused files keeping (OtherPartitions kept asked) refused = refused
new_refused files keeping (OtherParts stream kept found) refused = refused
new_refused files keeping (LogShort stream part logged found) refused = refused
