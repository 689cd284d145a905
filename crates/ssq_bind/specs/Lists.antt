-- Lists that grow from the left.
use Rattle.std.specs.Prelude.{List, [], ◌∷◌, ◌++◌, Option, Some, None}

-- one element, where there is one
abbrev pub listed : {A : Type 0} → Option A → List A
listed None = []
listed (Some a) = a ∷ []

-- what each element gives, after what was found in front of them
unfoldable pub gathered : {A B : Type 0} → (A → List B) → List B → List A → List B
gathered f found [] = found
gathered f found (x ∷ xs) = gathered f (found ++ f x) xs
