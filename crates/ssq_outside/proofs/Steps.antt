-- What each step of a disk does to its images: with these a crash proof is a chain, a line for each device call.
use Rattle.std.proofs.Common.{◌≡◌, ◌⊎◌, ◌++◌, ◌∷◌, [], ◌<◌, ◌≤◌, ℕ, List, Bool, true, false, Some, refl, ap, sym, ◌∙◌, subst, inl, inr, arith}
use Rattle.std.specs.Prelude.{Contains, if◌then◌else◌}
use Rattle.std.proofs.lemmas.Bool.{cases_lt}
use Rattle.std.proofs.lemmas.List.Elements.{Contains-push_cases, Contains-append_right}
use Rattle.ssq_outside.specs.declared.name.Name.{Name}
use Rattle.ssq_outside.specs.Files.{same_name, Content, Files, newest, last_or, MayBe, Had, files_of, changed, added, settled_at, IsImage, IsSyncStep, published}
use Rattle.ssq_outside.specs.History.{History, had_now, files_now, Elapses, LeavesNow, LeavesOnly, Run}
use Rattle.ssq_outside.proofs.Names.{same_name-true, same_name-same}

pub last_or-push : (c d : Content) (cs : List Content) → last_or c (cs ++ d ∷ []) ≡ d
last_or-push c d [] = refl
last_or-push c d (e ∷ cs) = last_or-push e d cs

pub last_among : (c : Content) (cs : List Content) → (last_or c cs ≡ c) ⊎ Contains cs (last_or c cs)
last_among c [] = inl refl
last_among c (d ∷ cs) =
    let first : Contains (d ∷ cs) d = (0, omega arith, refl) in
    let P : Content → Type 0 = Contains (d ∷ cs) in
    elim (last_among d cs) [ inl e ↦ inr (subst P (sym e) first) | inr among ↦ inr (Contains-append_right (d ∷ []) cs _ among) ]

-- the files are themselves an image
pub files_are_image : (had : Had) → IsImage had (files_of had)
files_are_image had q = last_among (had q).settled (had q).since

-- what stands at a name after a change of one name
pub newest_changed : (name q : Name) (c : Content) (had : Had) → newest (changed name c had q) ≡ (if same_name q name then c else newest (had q))
newest_changed name q c had = by (same_name q name) refl
  where
    by : (b : Bool) → same_name q name ≡ b → newest (changed name c had q) ≡ (if b then c else newest (had q))
    by true same = rw same (last_or-push (had q).settled c (had q).since)
    by false other = rw other refl

-- after a publish the files are those of before, with the bytes under the name
pub files_of-added : (name : Name) (bytes : List ℕ) (had : Had) → files_of (added name bytes had) ≡ published name bytes (files_of had)
files_of-added name bytes had =
    let at : (q : Name) → files_of (added name bytes had) q ≡ published name bytes (files_of had) q = λ q. newest_changed name q (Some bytes) had in
    λ i q. at q i

-- after a sync the files are the same
pub files_of-settled : (files : Files) → files_of (settled_at files) ≡ files
files_of-settled files = refl

-- what a name may be after a change of that name, and of another
pub may_be_changed : (name q : Name) (c x : Content) (had : Had) → same_name q name ≡ true → MayBe (changed name c had q) x → MayBe (had q) x ⊎ (x ≡ c)
may_be_changed name q c x had same may =
    let at = rw same at may in
    elim at [ inl settled ↦ inl (inl settled) | inr since ↦ elim (Contains-push_cases (had q).since c x since) [ inl among ↦ inl (inr among) | inr is ↦ inr (sym is) ] ]

pub may_be_other : (name q : Name) (c x : Content) (had : Had) → same_name q name ≡ false → MayBe (changed name c had q) x → MayBe (had q) x
may_be_other name q c x had other may = rw other at may

-- An image after a publish is one of before, or one of before with the bytes under the name.
abbrev pub IsImageAfter : Name → List ℕ → Had → Files → Type 0
IsImageAfter name bytes had image = IsImage had image ⊎ ((old : Files) × IsImage had old × (image ≡ published name bytes old))

-- at a name, by whether it is the one that changed
at_name : (P : Name → Type 0) (name q : Name) (b : Bool) → same_name q name ≡ b → P name → (same_name q name ≡ false → P q) → P q
at_name P name q true same here there = subst P (sym (same_name-true q name same)) here
at_name P name q false other here there = there other

-- an image with the settled content at one name
before_at : Name → Had → Files → Files
before_at name had image = λ q. if same_name q name then (had q).settled else image q

before-may : (name : Name) (bytes : List ℕ) (had : Had) (image : Files) (q : Name) (b : Bool) → same_name q name ≡ b
    → MayBe (added name bytes had q) (image q) → MayBe (had q) (before_at name had image q)
unfolding before_at
before-may name bytes had image q true same may = rw same (inl refl)
before-may name bytes had image q false other may =
    let at : MayBe (had q) (image q) = may_be_other name q (Some bytes) (image q) had other may in rw other at

before-published : (name : Name) (bytes : List ℕ) (had : Had) (image : Files) (q : Name) (b : Bool) → same_name q name ≡ b
    → image name ≡ Some bytes → image q ≡ published name bytes (before_at name had image) q
unfolding before_at
before-published name bytes had image q true same new = rw same (ap image (same_name-true q name same) ∙ new)
before-published name bytes had image q false other new = rw other refl

pub image_after : (name : Name) (bytes : List ℕ) (had : Had) (image : Files) → IsImage (added name bytes had) image → IsImageAfter name bytes had image
image_after name bytes had image is =
    let motive : Name → Type 0 = λ n. MayBe (had n) (image n) in
    elim (may_be_changed name name (Some bytes) (image name) had (same_name-same name) (is name)) [
      | inl old ↦ inl (λ q. at_name motive name q (same_name q name) refl old (λ other. may_be_other name q (Some bytes) (image q) had other (is q)))
      | inr new ↦ inr (before_at name had image, (λ q. before-may name bytes had image q (same_name q name) refl (is q)), λ i q. before-published name bytes had image q (same_name q name) refl new i)
    ]

-- an image after a sync is the files
pub image_settled : (files image : Files) → IsImage (settled_at files) image → image ≡ files
image_settled files image is =
    let at : (q : Name) → image q ≡ files q = λ q. elim (is q) [ inl same ↦ same | inr among ↦ absurd (omega (arith, among.1)) ] in
    λ i q. at q i

-- Time that goes on keeps what was shown of it, where each fresh moment leaves only images with P.
pub goes_on : (P : Files → Type 0) (start mid new : History) (IsAllowed : Had → Type 0)
    → LeavesOnly start mid P → Elapses mid new IsAllowed
    → ((had : Had) → IsAllowed had → (image : Files) → IsImage had image → P image)
    → LeavesOnly start new P
goes_on P start mid new IsAllowed so_far step fresh = record {
  later = omega (arith, so_far.later, step.later);
  kept = λ k le. step.kept k (omega (arith, le, so_far.later)) ∙ so_far.kept k le;
  each = λ k from to image is. each_at k from to image is (decided k);
}
  where
    decided : (k : ℕ) → (mid.moment < k) ⊎ (k ≤ mid.moment)
    decided k = cases_lt mid.moment k

    each_at : (k : ℕ) → start.moment ≤ k → k ≤ new.moment → (image : Files) → IsImage (new.had_at k) image → (mid.moment < k) ⊎ (k ≤ mid.moment) → P image
    each_at k from to image is (inr old) = so_far.each k from old image (let M : Had → Type 0 = λ had. IsImage had image in subst M (step.kept k old) is)
    each_at k from to image is (inl now) = fresh (new.had_at k) (step.fresh k now to) image is

-- A call's own moment: the disk is as before, or as the step allows.
pub present_after : (mid new : History) (IsAllowed : Had → Type 0) → Elapses mid new IsAllowed → (had_now new ≡ had_now mid) ⊎ IsAllowed (had_now new)
present_after mid new IsAllowed step =
    elim (cases_lt mid.moment new.moment) [
      | inl later ↦ inr (step.fresh new.moment later (omega arith))
      | inr not_later ↦ inl (step.kept new.moment not_later ∙ ap mid.had_at (omega (arith, step.later)))
    ]

-- A disk whose images all have Q, and all of whose images with Q have P, begins a run.
pub begins : (P Q N : Files → Type 0) (h : History) → LeavesNow h Q → ((f : Files) → Q f → P f) → N (files_now h) → Run h h P Q N
begins P Q N h now gives here = record {
  since = record {
    later = omega arith;
    kept = λ k le. refl;
    each = λ k from to image is.
        let M : ℕ → Type 0 = λ k. IsImage (h.had_at k) image in
        let at : k ≡ h.moment = omega arith in
        gives image (now.each image (subst M at is));
  };
  present = now;
  here = here;
}

-- A publish, whether it is done, fails or is in between: each image has R.
pub publishes : (P Q R N : Files → Type 0) (start mid new : History) (name : Name) (bytes : List ℕ)
    → Run start mid P Q N → Elapses mid new (λ had. had ≡ added name bytes (had_now mid))
    → ((f : Files) → Q f → R f) → ((f : Files) → Q f → R (published name bytes f)) → ((f : Files) → R f → P f)
    → Run start new P R R
publishes P Q R N start mid new name bytes run step stays goes gives =
    record { since = goes_on P start mid new (λ had. had ≡ added name bytes (had_now mid)) run.since step (λ had is image among. gives image (after had is image among)); present = record { each = present }; here = present (files_now new) (files_are_image (had_now new)) }
  where
    after : (had : Had) → had ≡ added name bytes (had_now mid) → (image : Files) → IsImage had image → R image
    after had is image among =
        let M : Had → Type 0 = λ had. IsImage had image in
        elim (image_after name bytes (had_now mid) image (subst M is among)) [
          | inl old ↦ stays image (run.present.each image old)
          | inr new ↦ subst R (sym new.2) (goes new.0 (run.present.each new.0 new.1))
        ]

    present : (image : Files) → IsImage (had_now new) image → R image
    present image among =
        let M : Had → Type 0 = λ had. IsImage had image in
        elim (present_after mid new (λ had. had ≡ added name bytes (had_now mid)) step) [
          | inl same ↦ stays image (run.present.each image (subst M same among))
          | inr is ↦ after (had_now new) is image among
        ]

-- A publish that is done: the files have the bytes under the name.
pub published_now : (mid new : History) (name : Name) (bytes : List ℕ) → had_now new ≡ added name bytes (had_now mid) → files_now new ≡ published name bytes (files_now mid)
published_now mid new name bytes is = ap files_of is ∙ files_of-added name bytes (had_now mid)

image_synced : (old had : Had) (image : Files) → IsSyncStep old had → IsImage had image → IsImage old image
image_synced old had image step is q = step.fewer q (image q) (is q)

-- A sync, whether it is done, fails or is in between: no image is new.
pub syncs : (P Q N : Files → Type 0) (start mid new : History)
    → Run start mid P Q N → Elapses mid new (IsSyncStep (had_now mid)) → ((f : Files) → Q f → P f)
    → Run start new P Q Q
syncs P Q N start mid new run step gives =
    record { since = goes_on P start mid new (IsSyncStep (had_now mid)) run.since step (λ had is image among. gives image (run.present.each image (image_synced (had_now mid) had image is among))); present = record { each = present }; here = present (files_now new) (files_are_image (had_now new)) }
  where
    present : (image : Files) → IsImage (had_now new) image → Q image
    present image among =
        let M : Had → Type 0 = λ had. IsImage had image in
        elim (present_after mid new (IsSyncStep (had_now mid)) step) [
          | inl same ↦ run.present.each image (subst M same among)
          | inr is ↦ run.present.each image (image_synced (had_now mid) (had_now new) image is among)
        ]

-- A sync that is done: the files as they were are the one image.
pub synced : (R : Files → Type 0) (mid new : History) → had_now new ≡ settled_at (files_now mid) → R (files_now mid) → LeavesNow new R
synced R mid new is here = record {
  each = λ image among.
      let M : Had → Type 0 = λ had. IsImage had image in
      subst R (sym (image_settled (files_now mid) image (subst M is among))) here;
}

-- two runs, one after the other
pub joined : (P : Files → Type 0) (old mid new : History) → LeavesOnly old mid P → LeavesOnly mid new P → LeavesOnly old new P
joined P old mid new first second = record {
  later = omega (arith, first.later, second.later);
  kept = λ k le. second.kept k (omega (arith, le, first.later)) ∙ first.kept k le;
  each = λ k from to image is. elim (cases_lt mid.moment k) [
    | inl later ↦ second.each k (omega arith) to image is
    | inr early ↦ first.each k from early image (let M : Had → Type 0 = λ had. IsImage had image in subst M (second.kept k early) is)
  ];
}

-- a run that leaves P leaves all that P gives
pub weaker : (P Q : Files → Type 0) (old new : History) → LeavesOnly old new P → ((f : Files) → P f → Q f) → LeavesOnly old new Q
weaker P Q old new run gives = record { later = run.later; kept = run.kept; each = λ k from to image is. gives image (run.each k from to image is) }
