-- What inputs hold that were given a query's file and two parts.
use Rattle.std.proofs.Common.{◌≡◌, ℕ, zero, suc, ◌+◌, ◌==◌, ◌&&◌, Bool, true, false, List, [], ◌∷◌, refl, ap, ◌∙◌, arith}
use Rattle.std.specs.Prelude.{if◌then◌else◌, slice_get}
use Rattle.std.specs.Option.{option_map_or}
use Rattle.std.specs.Str.{bytes_eq}
use Rattle.std.proofs.lemmas.Bool.Decides.{nat_tests}
use Rattle.ssq_outside.specs.Logs.{Held, Line}
use Rattle.ssq_fakes.specs.Inputs.{holding_part, holding_text}
use Rattle.ssq_gen.specs.Made.{made_held, part_lines, query_name, query_text, source}

-- so many parts
counted : (own : Bool) → (if own then (if own then 0 + 1 else 0) + 1 else (if own then 0 + 1 else 0)) ≡ (if own then 2 else 0)
counted true = refl
counted false = refl

-- and these are their lines
read : (own : Bool) (part : ℕ) (even odd : List Line) → (if own && part == (if own then 0 + 1 else 0) then odd else (if own && part == 0 then even else [])) ≡ (if own then option_map_or (λ lines. lines) (slice_get (even ∷ odd ∷ []) part) [] else [])
read false part even odd = refl
read true zero even odd = refl
read true (suc zero) even odd = refl
read true (suc (suc part)) even odd =
    let second : (suc (suc part) == 1) ≡ false = grind (arith, nat_tests) in
    let first : (suc (suc part) == 0) ≡ false = grind (arith, nat_tests) in
    rw (second, first) refl

abbrev nothing : Held
nothing = record { text = λ name. []; parts = λ stream. 0; lines = λ stream number. [] }

two_parts_held : (even odd : List Line) → holding_part source odd (holding_part source even (holding_text query_name query_text nothing)) ≡ record {
  text = λ name. if bytes_eq query_name name then query_text else [];
  parts = λ stream. if bytes_eq source stream then 2 else 0;
  lines = λ stream part. if bytes_eq source stream then option_map_or (λ lines. lines) (slice_get (even ∷ odd ∷ []) part) [] else [];
}
two_parts_held even odd = λ i. record {
  text = λ name. if bytes_eq query_name name then query_text else [];
  parts = λ stream. counted (bytes_eq source stream) i;
  lines = λ stream part. read (bytes_eq source stream) part even odd i;
}

pub held_as_made : (number n : ℕ) (even odd : List Line) (none queried half whole : Held) → none ≡ nothing → queried ≡ holding_text query_name query_text none → half ≡ holding_part source even queried → whole ≡ holding_part source odd half → even ≡ part_lines number n 0 → odd ≡ part_lines number n 1 → whole ≡ made_held number n
held_as_made number n even odd none queried half whole is text first second evens odds =
    second ∙ ap (holding_part source odd) (first ∙ ap (holding_part source even) (text ∙ ap (holding_text query_name query_text) is))
    ∙ two_parts_held even odd ∙ rw (evens, odds) refl
