-- What a phase has done so far.
use Rattle.std.proofs.Common.{◌≡◌, ◌<◌, ◌≤◌, ◌+◌, ℕ, List, refl, sym, ◌∙◌, subst, length, slice_index_or, slice_set, inl, inr, arith, get_or-set_same, get_or-set_other}
use Rattle.std.proofs.lemmas.List.{get_or_default}
use Rattle.std.proofs.lemmas.Bool.{cases_lt}
use Rattle.ssq_crew.specs.declared.place.Place.{Place}
use Rattle.ssq_crew.specs.Places.{IsRun, AreRun, AreRunTo}

module _ {T D : Type 0} (is_result : T → D → Type 0) where
  -- nothing was run yet
  pub none_run : (olds : List (Place T D)) → AreRunTo is_result olds olds 0
  none_run olds = record { run = λ i d below. absurd (omega (arith, below)); rest = λ i d from. refl }

  -- one more was run
  pub one_more_run : (olds news : List (Place T D)) (n : ℕ) (old new : Place T D) → AreRunTo is_result olds news n → length news ≡ length olds → n < length olds
      → IsRun is_result (slice_index_or news n old) new → AreRunTo is_result olds (slice_set news n new) (n + 1)
  one_more_run olds news n old new before same within ran = record {
    run = λ i d below. by i d below;
    rest = λ i d from. get_or-set_other news n i new d (λ is. omega (arith, from, is)) ∙ before.rest i d (omega (arith, from));
  }
    where
      last : (d : Place T D) → IsRun is_result (slice_index_or olds n d) (slice_index_or (slice_set news n new) n d)
      last d =
          let was : slice_index_or news n old ≡ slice_index_or olds n d = get_or_default news n old d (omega (arith, same, within)) ∙ before.rest n d (omega arith) in
          subst (λ (x : Place T D). IsRun is_result x (slice_index_or (slice_set news n new) n d)) was
          (subst (λ (x : Place T D). IsRun is_result (slice_index_or news n old) x) (sym (get_or-set_same news n new d (omega (arith, same, within)))) ran)

      by : (i : ℕ) (d : Place T D) → i < n + 1 → IsRun is_result (slice_index_or olds i d) (slice_index_or (slice_set news n new) i d)
      by i d below = elim (cases_lt i n) [
        | inl less ↦ subst (λ (x : Place T D). IsRun is_result (slice_index_or olds i d) x) (sym (get_or-set_other news n i new d (λ is. omega (arith, less, is)))) (before.run i d less)
        | inr not ↦ (let is : n ≡ i = omega (arith, below, not) in subst (λ (j : ℕ). IsRun is_result (slice_index_or olds j d) (slice_index_or (slice_set news n new) j d)) is (last d))
      ]

  -- all were run
  pub all_run : (olds news : List (Place T D)) (n : ℕ) → AreRunTo is_result olds news n → length news ≡ length olds → length olds ≤ n → AreRun is_result olds news
  all_run olds news n done same all = (same, λ i d below. done.run i d (omega (arith, below, all)))
