-- What becomes of the inputs in one call and another after it.
use Rattle.std.proofs.Common.{◌≡◌, ◌<◌, ◌≤◌, ◌+◌, ◌-◌, ◌^◌, ◌++◌, ◌∷◌, [], ℕ, List, map, min, sum, sym, ap, ◌∙◌, subst, arith}
use Rattle.std.specs.List.{sum_by}
use Rattle.std.proofs.lemmas.List.{map-append, map-id, reverse-append}
use Rattle.std.proofs.lemmas.List.Sums.{sum-map, sum_by_push}
use Rattle.ssq_outside.specs.Faults.{Rises}
use Rattle.ssq_outside.specs.Logs.{Held}
use Rattle.ssq_logs.specs.Went.{returned_with, faults_with, InputsWent}

one_back : {L : Type 0} (answers : L → List ℕ) (logs : List L) (log : L) (before : List (List ℕ)) → answers log ∷ returned_with (map answers logs) before ≡ returned_with (map answers (logs ++ log ∷ [])) before
one_back answers logs log before =
    sym (ap (λ (back : List (List ℕ)). returned_with back before) (map-append answers logs (log ∷ []))
    ∙ ap (λ (back : List (List ℕ)). back ++ before) (reverse-append (map answers logs) (answers log ∷ [])))

capped : (before all one both most : ℕ) → both ≡ all + one → min (min (before + all) most + one) most ≡ min (before + both) most
capped before all one both most is = omega (arith, is)

one_count : (counts : List ℕ) (count before : ℕ) → min (faults_with counts before + count) (2 ^ 64 - 1) ≡ faults_with (counts ++ count ∷ []) before
one_count [] count before = let one : sum (count ∷ []) ≡ count = omega arith in ap (λ n. min (before + n) (2 ^ 64 - 1)) (sym one)
one_count (first ∷ more) count before =
    capped before (sum (first ∷ more)) count (sum ((first ∷ more) ++ count ∷ [])) (2 ^ 64 - 1) (sum_by_push (λ n. n) (first ∷ more) count)

-- the faults of one log more
pub faults_more : {L : Type 0} (faults : L → ℕ) (logs : List L) (log : L) (before : ℕ) → min (faults_with (map faults logs) before + faults log) (2 ^ 64 - 1) ≡ faults_with (map faults (logs ++ log ∷ [])) before
faults_more faults logs log before =
    one_count (map faults logs) (faults log) before ∙ ap (λ (counts : List ℕ). faults_with counts before) (sym (map-append faults logs (log ∷ [])))

kept : (before all most : ℕ) → min before most ≤ min (before + all) most
kept before all most = omega arith

risen : (before all most : ℕ) → 0 < all → min (before + 1) most ≤ min (before + all) most
risen before all most some = omega (arith, some)

-- no fault is forgotten
pub faults_kept : (counts : List ℕ) (before : ℕ) → min before (2 ^ 64 - 1) ≤ faults_with counts before
faults_kept [] before = omega arith
faults_kept (first ∷ more) before = kept before (sum (first ∷ more)) (2 ^ 64 - 1)

-- where one log failed, the count rose
pub faults_rise : {L : Type 0} (faults : L → ℕ) (logs : List L) (before : ℕ) → 0 < sum_by faults logs → Rises before (faults_with (map faults logs) before)
faults_rise faults [] before some = absurd (omega (arith, some))
faults_rise faults (log ∷ logs) before some =
    let all : sum (map faults (log ∷ logs)) ≡ sum_by faults (log ∷ logs) = sum-map faults (log ∷ logs) in
    risen before (sum (map faults (log ∷ logs))) (2 ^ 64 - 1) (omega (arith, some, all))

-- those that a loop took are all
pub all_added : {L : Type 0} (faults : L → ℕ) (taken logs : List L) (before now : ℕ) → map (λ (log : L). log) taken ≡ logs → now ≡ faults_with (map faults taken) before → now ≡ faults_with (map faults logs) before
all_added {L} faults taken logs before now all is = is ∙ ap (λ (l : List L). faults_with (map faults l) before) (sym (map-id taken) ∙ all)

module _ {I : Type 0} (tells : Type 0) (held : I → Held) (returned : I → List (List ℕ)) (available : I → List ℕ → ℕ → ℕ) where
  -- no log came back in the first call
  pub went_then : (before mid after : I) (back : List (List ℕ)) → InputsWent tells held returned available before mid [] → InputsWent tells held returned available mid after back
      → InputsWent tells held returned available before after back
  went_then before mid after back a b = record {
    same = λ t. b.same t ∙ a.same t;
    given = λ t. b.given t ∙ ap (returned_with back) (a.given t);
    grown = λ t stream part. let x = a.grown t stream part in let y = b.grown t stream part in omega (arith, x, y);
  }

  -- one log more came back
  pub went_back : {L : Type 0} (answers : L → List ℕ) (before mid after : I) (logs : List L) (log : L) → InputsWent tells held returned available before mid (map answers logs) → InputsWent tells held returned available mid after (answers log ∷ [])
      → InputsWent tells held returned available before after (map answers (logs ++ log ∷ []))
  went_back answers before mid after logs log a b = record {
    same = λ t. b.same t ∙ a.same t;
    given = λ t. b.given t ∙ ap (λ l. answers log ∷ l) (a.given t) ∙ one_back answers logs log (returned before);
    grown = λ t stream part. let x = a.grown t stream part in let y = b.grown t stream part in omega (arith, x, y);
  }

  -- those that a loop took are all
  pub all_back : {L : Type 0} (answers : L → List ℕ) (before after : I) (taken logs : List L) → map (λ (log : L). log) taken ≡ logs → InputsWent tells held returned available before after (map answers taken)
      → InputsWent tells held returned available before after (map answers logs)
  all_back {L} answers before after taken logs all went = subst (λ (l : List L). InputsWent tells held returned available before after (map answers l)) (sym (map-id taken) ∙ all) went
