-- The stores of the partitions that keep state.
use Rattle.std.specs.Prelude.{◌≡◌, ◌<◌, ℕ, List, [], length, get_or, ⊤}
use Rattle.ssq_outside.specs.declared.name.Name.{Name}
use Rattle.ssq_outside.specs.Files.{Files}
use Rattle.ssq_version.specs.State.{State}
use Rattle.ssq_store.specs.declared.store.Store.{Store}
use Rattle.ssq_store.specs.Loaded.{count_to, Makes, IsDamaged as IsStateDamaged}
use Rattle.ssq_open.specs.declared.fault.OpenFault.{OpenFault}
use Rattle.ssq_open.specs.declared.fault.OpenFault.TheVariants.{OtherQuery, OtherPartitions, OtherParts, LogShort, Damaged, DiskFault, NoMemory}

-- it is the store of this partition, at the version of the last of so many epochs: none where there is no epoch
pub record IsStoreOf (p committed : ℕ) (store : Store) : Type 0 where
  pub partition : store.partition ≡ p
  pub version : count_to store.version ≡ committed

-- the stores of the first so many partitions, in order, after so many epochs
pub record AreStores (keeping committed : ℕ) (stores : List Store) : Type 0 where
  pub many : length stores ≡ keeping
  pub each : (p : ℕ) (default : Store) → p < keeping → IsStoreOf p committed (get_or stores p default)

-- the stores of partitions, each with the state that the files make of it
pub record AreLoaded (files : Files) (keeping committed : ℕ) (stores : List Store) : Type 0 where
  pub numbers : AreStores keeping committed stores
  pub made : (p : ℕ) (default : Store) → p < keeping → Makes files p committed (get_or stores p default).state

-- the stores of partitions before the first epoch, which are empty
pub record AreNew (keeping : ℕ) (stores : List Store) : Type 0 where
  pub numbers : AreStores keeping 0 stores
  pub empty : (p : ℕ) (default : Store) → p < keeping → (get_or stores p default).state ≡ []

-- the files make a state of the partition after so many epochs
abbrev pub CanBeMade : Files → ℕ → ℕ → Type 0
CanBeMade files committed p = (state : State) × Makes files p committed state

-- The first file that is damaged of those that make the states of the first so many partitions after so many epochs: each partition before
-- that one has its state.
pub record IsUnloaded (files : Files) (keeping committed : ℕ) (at : Name) : Type 0 where
  pub partition : ℕ
  pub within : partition < keeping
  pub before : (p : ℕ) → p < partition → CanBeMade files committed p
  pub damaged : IsStateDamaged files partition committed at

-- why the states are not loaded; a fault of the outside may come at any time
abbrev pub StoresRefuse : Files → ℕ → ℕ → OpenFault → Type 0
StoresRefuse files keeping committed (Damaged at) = IsUnloaded files keeping committed at
StoresRefuse files keeping committed DiskFault = ⊤
StoresRefuse files keeping committed NoMemory = ⊤
StoresRefuse files keeping committed (OtherQuery kept) = ⊥
StoresRefuse files keeping committed (OtherPartitions kept asked) = ⊥
StoresRefuse files keeping committed (OtherParts stream kept found) = ⊥
StoresRefuse files keeping committed (LogShort stream part logged found) = ⊥
