-- Lists of names in their order.
use Rattle.std.specs.Prelude.{◌≡◌, Bool, true, List, Contains, AllPairs, IsTrue}
use Rattle.ssq_outside.specs.declared.name.Name.{Name}
use Rattle.ssq_outside.specs.Files.{name_before}

-- exactly the names of which the test is true, each once, in their order
pub record Lists (test : Name → Bool) (names : List Name) : Type 0 where
  pub there : (q : Name) → Contains names q → test q ≡ true
  pub all : (q : Name) → test q ≡ true → Contains names q
  pub in_order : AllPairs (λ m n. IsTrue (name_before m n)) names
