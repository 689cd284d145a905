-- What a loop over places has done so far.
use Rattle.std.proofs.Common.{◌≡◌, ◌<◌, ◌≤◌, ◌+◌, ℕ, List, refl, sym, ◌∙◌, subst, length, slice_index_or, slice_set, inl, inr, arith, get_or-set_same, get_or-set_other}
use Rattle.std.proofs.lemmas.List.{get_or_default}
use Rattle.std.proofs.lemmas.Bool.{cases_lt}

module _ {A : Type 0} (IsDone : ℕ → A → A → Type 0) where
  -- the first n are done, and the others as they were
  pub record AreDoneTo (olds news : List A) (n : ℕ) : Type 0 where
    pub done : (i : ℕ) (d : A) → i < n → IsDone i (slice_index_or olds i d) (slice_index_or news i d)
    pub rest : (i : ℕ) (d : A) → n ≤ i → slice_index_or news i d ≡ slice_index_or olds i d

  pub none_done : (olds : List A) → AreDoneTo olds olds 0
  none_done olds = record { done = λ i d below. absurd (omega (arith, below)); rest = λ i d from. refl }

  -- one more is done
  pub one_more : (olds news : List A) (n : ℕ) (old new : A) → AreDoneTo olds news n → length news ≡ length olds → n < length olds → IsDone n (slice_index_or news n old) new
      → AreDoneTo olds (slice_set news n new) (n + 1)
  one_more olds news n old new before same within ran = record {
    done = λ i d below. by i d below;
    rest = λ i d from. get_or-set_other news n i new d (λ is. omega (arith, from, is)) ∙ before.rest i d (omega (arith, from));
  }
    where
      last : (d : A) → IsDone n (slice_index_or olds n d) (slice_index_or (slice_set news n new) n d)
      last d =
          let was : slice_index_or news n old ≡ slice_index_or olds n d = get_or_default news n old d (omega (arith, same, within)) ∙ before.rest n d (omega arith) in
          subst (λ (x : A). IsDone n x (slice_index_or (slice_set news n new) n d)) was
          (subst (λ (x : A). IsDone n (slice_index_or news n old) x) (sym (get_or-set_same news n new d (omega (arith, same, within)))) ran)

      by : (i : ℕ) (d : A) → i < n + 1 → IsDone i (slice_index_or olds i d) (slice_index_or (slice_set news n new) i d)
      by i d below = elim (cases_lt i n) [
        | inl less ↦ subst (λ (x : A). IsDone i (slice_index_or olds i d) x) (sym (get_or-set_other news n i new d (λ is. omega (arith, less, is)))) (before.done i d less)
        | inr not ↦ (let is : n ≡ i = omega (arith, below, not) in subst (λ (j : ℕ). IsDone j (slice_index_or olds j d) (slice_index_or (slice_set news n new) j d)) is (last d))
      ]

  -- all are done
  pub all_done : (olds news : List A) (n : ℕ) → AreDoneTo olds news n → length olds ≤ n → (i : ℕ) (d : A) → i < length olds → IsDone i (slice_index_or olds i d) (slice_index_or news i d)
  all_done olds news n before all i d below = before.done i d (omega (arith, below, all))
