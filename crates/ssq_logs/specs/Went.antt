-- What becomes of the inputs in a call.
use Rattle.std.specs.Prelude.{◌≡◌, ◌≤◌, ◌+◌, ◌-◌, ◌^◌, ◌++◌, ℕ, List, [], ◌∷◌, reverse, min, sum}
use Rattle.ssq_outside.specs.Logs.{Held}

-- the logs that came back by what they had answered, the last one first, once these came back after those
abbrev pub returned_with : List (List ℕ) → List (List ℕ) → List (List ℕ)
returned_with back before = reverse back ++ before

-- a count of faults once logs with these counts came back: all of them together, at most the last value of its 64 bits; as it was where
-- none came back
abbrev pub faults_with : List ℕ → ℕ → ℕ
faults_with [] before = before
faults_with (first ∷ more) before = min (before + sum (first ∷ more)) (2 ^ 64 - 1)

module _ {I : Type 0} (tells : Type 0) (held : I → Held) (returned : I → List (List ℕ)) (available : I → List ℕ → ℕ → ℕ) where
  -- They hold what they held, logs with these answers came back and no others, and no line went away.
  pub record InputsWent (before after : I) (back : List (List ℕ)) : Type 0 where
    pub same : tells → held after ≡ held before
    pub given : tells → returned after ≡ returned_with back (returned before)
    pub grown : tells → (stream : List ℕ) (part : ℕ) → available before stream part ≤ available after stream part
