-- A list has a place at which a test passes exactly where one of its items passes.
use Rattle.std.proofs.Common.{◌≡◌, ◌+◌, ◌||◌, ℕ, Bool, true, false, List, [], ◌∷◌, Some, ap, refl, ◌∙◌}
use Rattle.std.specs.Prelude.{cond}
use Rattle.std.specs.Option.{is_some}
use Rattle.std.specs.List.{list_any, position, position_from}
use Rattle.std.proofs.lemmas.Iterator.Adapters.{position_from-zero}

some_from : {X : Type 0} (test : X → Bool) (i : ℕ) (xs : List X) → is_some (position_from test i xs) ≡ list_any test xs
some_from test i [] = refl
some_from {X} test i (x ∷ xs) = by (test x) (some_from test (i + 1) xs) where
  by : (b : Bool) → is_some (position_from test (i + 1) xs) ≡ list_any test xs → is_some (cond b (Some i) (position_from test (i + 1) xs)) ≡ (b || list_any test xs)
  by true later = refl
  by false later = later

pub some_place : {X : Type 0} (test : X → Bool) (xs : List X) → is_some (position test xs) ≡ list_any test xs
some_place test xs = ap is_some (position_from-zero test xs) ∙ some_from test 0 xs
