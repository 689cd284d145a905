-- What files make is one state, or one of them is damaged.
use Rattle.std.proofs.Common.{◌≡◌, ◌⊎◌, ℕ, zero, suc, ◌<◌, ◌≤◌, ◌^◌, arith, true≢false, is_some, Some, None, IsSome, refl, sym, ap, subst, ◌∙◌, inl, inr}
use Rattle.std.proofs.lemmas.Bool.{cases_lt}
use Rattle.ssq_outside.specs.declared.name.Name.{Name}
use Rattle.ssq_outside.specs.declared.name.Name.TheVariants as name
use Rattle.ssq_outside.specs.Files.{Content, Files}
use Rattle.ssq_version.specs.State.{State, Change, IsAfter}
use Rattle.ssq_version.specs.Text.{delta_text, snapshot_text, AreFilesApart}
use Rattle.ssq_version.proofs.WhatIsNew.{one_after, leads_between}
use Rattle.ssq_store.specs.Loaded.{IsSnapshot, IsDelta, IsNoDelta, ByEither, Makes, DamagedByEither, IsDamaged, AreTrue}

pub some_once : {X : Type 0} (x y : X) → Some x ≡ Some y → x ≡ y
some_once x y e = cc

one_snapshot : AreFilesApart → (content : Content) (p v : ℕ) (one other : State) → p < 2 ^ 32 → v < 2 ^ 32 → IsSnapshot content p v one → IsSnapshot content p v other → one ≡ other
one_snapshot apart content p v one other small low is too =
    (apart.snapshots p v p v one other small low small low is.kept too.kept is.few too.few (some_once (snapshot_text p v one) (snapshot_text p v other) (sym is.is ∙ too.is))).2

one_delta : AreFilesApart → (content : Content) (p v : ℕ) (old one other : State) → p < 2 ^ 32 → v < 2 ^ 32 → IsDelta content p v old one → IsDelta content p v old other → one ≡ other
one_delta apart content p v old one other small low is too =
    let same = (apart.deltas p v p v is.change too.change small low small low is.kept too.kept is.few too.few (some_once (delta_text p v is.change) (delta_text p v too.change) (sym is.is ∙ too.is))).2 in
    one_after is.change old one other is.state.ascend too.state.ascend (leads_between old one is.change is.between) (subst (λ (c : Change). IsAfter c old other) (sym same) (leads_between old other too.change too.between))

pub made_once : AreFilesApart → (files : Files) (p n : ℕ) (one other : State) → p < 2 ^ 32 → n ≤ 2 ^ 32 → Makes files p n one → Makes files p n other → one ≡ other
unfolding Makes
made_once apart files p zero one other small few is too = is ∙ sym too
made_once apart files p (suc v) one other small few is too =
    go (files (name.Snapshot p v)) is too (λ old also makes likewise. made_once apart files p v old also small (omega (arith, few)) makes likewise)
  where
    low : v < 2 ^ 32
    low = omega (arith, few)

    go : (content : Content) → ByEither content p v one ((old : State) × Makes files p v old × IsDelta (files (name.Delta p v)) p v old one)
        → ByEither content p v other ((old : State) × Makes files p v old × IsDelta (files (name.Delta p v)) p v old other)
        → ((old also : State) → Makes files p v old → Makes files p v also → old ≡ also) → one ≡ other
    go None is too before =
        let same = before is.0 too.0 is.1 too.1 in
        one_delta apart (files (name.Delta p v)) p v is.0 one other small low is.2 (subst (λ (old : State). IsDelta (files (name.Delta p v)) p v old other) (sym same) too.2)
    go (Some bytes) is too before = one_snapshot apart (Some bytes) p v one other small low is too

pub made_is_sound : AreFilesApart → (files : Files) (p n : ℕ) (state : State) (at : Name) → p < 2 ^ 32 → n ≤ 2 ^ 32 → Makes files p n state → IsDamaged files p n at → ⊥
unfolding Makes IsDamaged
made_is_sound apart files p zero state at small few is damaged = damaged
made_is_sound apart files p (suc v) state at small few is damaged =
    go (files (name.Snapshot p v)) is damaged (λ old makes bad. made_is_sound apart files p v old at small (omega (arith, few)) makes bad)
  where
    go : (content : Content) → ByEither content p v state ((old : State) × Makes files p v old × IsDelta (files (name.Delta p v)) p v old state)
        → DamagedByEither content p v at (IsDamaged files p v at ⊎ ((old : State) × Makes files p v old × (at ≡ name.Delta p v) × IsNoDelta (files (name.Delta p v)) p v old))
        → ((old : State) → Makes files p v old → IsDamaged files p v at → ⊥) → ⊥
    go None is damaged before = elim damaged [
      | inl bad ↦ before is.0 is.1 bad
      | inr bad ↦ (let same = made_once apart files p v is.0 bad.0 small (omega (arith, few)) is.1 bad.1 in
          bad.3 state (subst (λ (old : State). IsDelta (files (name.Delta p v)) p v old state) same is.2))
    ]
    go (Some bytes) is damaged before = damaged.1 state is

-- where there is no snapshot of the last version, what is true of more versions is true of fewer
fewer : (files : Files) (p v floor : ℕ) (states : ℕ → State) → files (name.Snapshot p v) ≡ None → AreTrue files p (suc v) floor states → (floor ≤ v) × AreTrue files p v floor states
fewer files p v floor states none is = (
  elim is.base [
    | inl nothing ↦ omega (arith, nothing)
    | inr at ↦ below at.0 at.1 at.2 at.3
  ],
  record {
    first = is.first;
    snapshots = λ version low there. is.snapshots version (omega (arith, low)) there;
    deltas = λ version from low. is.deltas version from (omega (arith, low));
    base = elim is.base [
      | inl nothing ↦ inl nothing
      | inr at ↦ inr (at.0, at.1, (let b = below at.0 at.1 at.2 at.3 in let e = at.1 in omega (arith, b, e)), at.3)
    ];
  },
)
  where
    below : (f : ℕ) → floor ≡ suc f → f < suc v → IsSome (files (name.Snapshot p f)) → floor ≤ v
    below f is low there =
        elim (cases_lt f v) [
          | inl lt ↦ omega (arith, is, lt)
          | inr ge ↦ (let same : f ≡ v = omega (arith, low, ge) in
              absurd (true≢false (sym there ∙ ap (λ (n : ℕ). is_some (files (name.Snapshot p n))) same ∙ ap is_some none)))
        ]

pub made_true : (files : Files) (p n floor : ℕ) (states : ℕ → State) → AreTrue files p n floor states → Makes files p n (states n)
unfolding Makes
made_true files p zero floor states is = is.first
made_true files p (suc v) floor states is =
    go (files (name.Snapshot p v)) refl (λ less. made_true files p v floor states less)
  where
    go : (content : Content) → files (name.Snapshot p v) ≡ content → (AreTrue files p v floor states → Makes files p v (states v))
        → ByEither (files (name.Snapshot p v)) p v (states (suc v)) ((old : State) × Makes files p v old × IsDelta (files (name.Delta p v)) p v old (states (suc v)))
    go None none before =
        let less = fewer files p v floor states none is in
        subst (λ (content : Content). ByEither content p v (states (suc v)) ((old : State) × Makes files p v old × IsDelta (files (name.Delta p v)) p v old (states (suc v)))) (sym none)
        (states v, before less.1, is.deltas v less.0 (omega arith))
    go (Some bytes) there before =
        let snapshot = is.snapshots v (omega arith) (ap is_some there) in
        subst (λ (content : Content). ByEither content p v (states (suc v)) ((old : State) × Makes files p v old × IsDelta (files (name.Delta p v)) p v old (states (suc v)))) (sym there)
        (subst (λ (content : Content). IsSnapshot content p v (states (suc v))) there snapshot)
