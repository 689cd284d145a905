-- How the parts get their logs.
use Rattle.std.proofs.Common.{◌≡◌, ◌≤◌, ◌+◌, ◌++◌, ◌∷◌, [], ℕ, List, length, length-append, map, drop, Option, Some, refl, sym, ap, ◌∙◌, subst, arith}
use Rattle.std.specs.Prelude.{All, IsSome}
use Rattle.std.proofs.lemmas.List.{append-nil, append_assoc, map-append, nil_from_length}
use Rattle.std.proofs.lemmas.List.Elements.{All-tail}
use Rattle.std.specs.List.{AllZip}
use Rattle.ssq_plans.specs.declared.part.PartEnd.{PartEnd}
use Rattle.ssq_desk.specs.declared.desk.PartLog.{PartLog}
use Rattle.ssq_desk.specs.First.{part_logs_of}

-- these parts have theirs, and the others are to get these
pub record IsPlacing {L : Type 0} (parts ends : List PartEnd) (logs rest : List L) (part_logs : List (PartLog L)) (capacity : ℕ) : Type 0 where
  pub items : part_logs ++ part_logs_of (drop (length part_logs) parts) (drop (length part_logs) ends) rest ≡ part_logs_of parts ends logs
  pub each_part : length parts ≡ length part_logs + length rest
  pub each_end : length ends ≡ length part_logs + length rest
  pub room : length part_logs + length rest ≤ capacity

-- the logs of these parts are taken, and those of the others are to be
pub record IsTaking {L : Type 0} (part_logs rest : List (PartLog L)) (logs : List L) (capacity : ℕ) : Type 0 where
  pub items : map (λ (log : L). Some log) logs ++ map (λ (x : PartLog L). x.log) rest ≡ map (λ (x : PartLog L). x.log) part_logs
  pub there : All (λ (x : PartLog L). IsSome x.log) rest
  pub room : length logs + length rest ≤ capacity

-- none is taken yet
pub none_taken : {L : Type 0} (part_logs rest : List (PartLog L)) (logs : List L) (capacity : ℕ) → logs ≡ [] → rest ≡ part_logs → All (λ (x : PartLog L). IsSome x.log) part_logs → length part_logs ≤ capacity → IsTaking part_logs rest logs capacity
none_taken {L} part_logs rest logs capacity none same there fits =
    subst (λ (l : List L). IsTaking part_logs rest l capacity) (sym none) (subst (λ (l : List (PartLog L)). IsTaking part_logs l [] capacity) (sym same) (record { items = refl; there = there; room = omega (arith, fits) }))

-- one log more is taken
pub one_taken : {L : Type 0} (part_logs : List (PartLog L)) (x : PartLog L) (rest : List (PartLog L)) (logs : List L) (own : L) (capacity more : ℕ) → x.log ≡ Some own → capacity ≡ more → IsTaking part_logs (x ∷ rest) logs capacity
    → IsTaking part_logs rest (logs ++ own ∷ []) more
one_taken {L} part_logs x rest logs own capacity more log_is same is = record {
  items = ap (λ (l : List (Option L)). l ++ map (λ (y : PartLog L). y.log) rest) (map-append (λ (log : L). Some log) logs (own ∷ []))
      ∙ append_assoc (map (λ (log : L). Some log) logs) (Some own ∷ []) (map (λ (y : PartLog L). y.log) rest)
      ∙ ap (λ (o : Option L). map (λ (log : L). Some log) logs ++ o ∷ map (λ (y : PartLog L). y.log) rest) (sym log_is) ∙ is.items;
  there = All-tail (λ (y : PartLog L). IsSome y.log) x rest is.there;
  room = (let room = is.room in let count = length-append logs (own ∷ []) in omega (arith, room, count, same));
}

-- all are
pub all_taken : {L : Type 0} (part_logs rest : List (PartLog L)) (logs : List L) (capacity : ℕ) → length rest ≡ 0 → IsTaking part_logs rest logs capacity → map (λ (log : L). Some log) logs ≡ map (λ (x : PartLog L). x.log) part_logs
all_taken {L} part_logs rest logs capacity none is =
    sym (append-nil (map (λ (log : L). Some log) logs)) ∙ ap (λ (l : List (PartLog L)). map (λ (log : L). Some log) logs ++ map (λ (x : PartLog L). x.log) l) (sym (nil_from_length rest none)) ∙ is.items

-- ends that were copied one by one
pub copied : {A : Type 0} (xs ys : List A) → AllZip (λ x y. y ≡ x) xs ys → ys ≡ xs
copied [] [] same = refl
copied [] (y ∷ ys) same = absurd same
copied (x ∷ xs) [] same = absurd same
copied (x ∷ xs) (y ∷ ys) same = (let rest = copied xs ys same.1 in (λ i. same.0 i ∷ rest i))
