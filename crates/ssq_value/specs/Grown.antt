-- What a writer leaves in a buffer.
use Rattle.std.specs.Prelude.{◌≡◌, List, ℕ, ◌++◌, length, take, Result, OnOk, OnErr}

-- At Ok the new bytes stand after the old ones. At Err the old ones still stand in front.
pub record Grows {T E : Type 0} (old new : List ℕ) (result : Result T E) (bytes : List ℕ) : Type 0 where
  pub ok : OnOk result (new ≡ old ++ bytes)
  pub err : OnErr result (take (length old) new ≡ old)
