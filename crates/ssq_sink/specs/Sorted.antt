-- A list in ascending order.
use Rattle.std.specs.Prelude.{Bool, List, [], ◌∷◌, if◌then◌else◌}

-- the list with x before the first item that is not below it
unfoldable pub placed : {X : Type 0} → (X → X → Bool) → X → List X → List X
placed is_below x [] = x ∷ []
placed is_below x (y ∷ ys) = if is_below y x then y ∷ placed is_below x ys else x ∷ y ∷ ys

-- the items from the least on
unfoldable pub sorted : {X : Type 0} → (X → X → Bool) → List X → List X
sorted is_below [] = []
sorted is_below (x ∷ xs) = placed is_below x (sorted is_below xs)
