-- What is due, and what may go, once names are settled, and once a file that may go is removed.
use Rattle.std.proofs.Common.{◌≡◌, ◌⊎◌, ◌<◌, ◌+◌, ◌++◌, ◌||◌, not, ℕ, Bool, true, false, true≢false, List, [], ◌∷◌, Option, sym, refl, ap, ◌∙◌, subst, inl, inr, append-nil, if◌then◌else◌, arith}
use Rattle.std.proofs.lemmas.Bool.{or_left, or_right, false_from_ne_true}
use Rattle.ssq_outside.specs.declared.name.Name.{Name}
use Rattle.ssq_outside.specs.declared.name.Name.TheVariants as name
use Rattle.ssq_outside.specs.Files.{same_name}
use Rattle.ssq_outside.proofs.Names.{same_name-true, same_name-same}
use Rattle.ssq_upkeep.specs.Upkeep.{Goes, IsDue, MayGo, is_among, is_sure, is_up_to}
use Rattle.ssq_upkeep.proofs.Among.{among_both}
use Rattle.ssq_upkeep.proofs.Leasts.{snapshot_numbers, apart as delta_snapshot}
use Rattle.ssq_board.specs.Shelf.{without}
use Rattle.ssq_board.proofs.Keeping.{among_end}

pub first_of : (a b : Bool) → (a || b) ≡ false → a ≡ false
first_of true b is = absurd (true≢false is)
first_of false b is = refl

-- what is settled is there
pub among_first : (a b : List Name) (q : Name) → is_among a q ≡ true → is_among (a ++ b) q ≡ true
among_first a b q is = among_both a b q ∙ or_left (is_among a q) (is_among b q) is

pub among_second : (a b : List Name) (q : Name) → is_among b q ≡ true → is_among (a ++ b) q ≡ true
among_second a b q is = among_both a b q ∙ or_right (is_among a q) (is_among b q) is

-- where more is settled, what is due was due
module _ (settled news claimed : List Name) where
  asked_same : (q : Name) → is_among (((settled ++ news) ++ []) ++ claimed) q ≡ is_among ((settled ++ news) ++ claimed) q
  asked_same q = among_both ((settled ++ news) ++ []) claimed q ∙ ap (λ (b : Bool). b || is_among claimed q) (among_end (settled ++ news) q) ∙ sym (among_both (settled ++ news) claimed q)

  pub due_before : (p : ℕ) (last : Option ℕ) (v : ℕ) → IsDue (((settled ++ news) ++ []) ++ claimed) (settled ++ news) p last v → IsDue ((settled ++ news) ++ claimed) settled p last v
  due_before p last v due = record {
    tenth = due.tenth;
    acknowledged = due.acknowledged;
    absent = sym (asked_same (name.Snapshot p v)) ∙ due.absent;
    stays = λ s above sure. due.stays s above (among_first settled news (name.Snapshot p s) sure);
  }

-- ---- names without one

pub without_keeps : (q x : Name) (names : List Name) → (x ≡ q → ⊥) → is_among names x ≡ true → is_among (without q names) x ≡ true
without_keeps q x [] other there = there
without_keeps q x (n ∷ ns) other there = by (same_name n q) refl (same_name n x) refl there (without_keeps q x ns other)
  where
    by : (b : Bool) → same_name n q ≡ b → (d : Bool) → same_name n x ≡ d → (d || is_among ns x) ≡ true → (is_among ns x ≡ true → is_among (without q ns) x ≡ true)
        → is_among (if not b then n ∷ without q ns else without q ns) x ≡ true
    by true is true here there rest = absurd (other (sym (same_name-true n x here) ∙ same_name-true n q is))
    by true is false here there rest = rest there
    by false is true here there rest = or_left (same_name n x) (is_among (without q ns) x) here
    by false is false here there rest = or_right (same_name n x) (is_among (without q ns) x) (rest there)

pub without_less : (q x : Name) (names : List Name) → is_among (without q names) x ≡ true → is_among names x ≡ true
without_less q x [] there = there
without_less q x (n ∷ ns) there = by (same_name n q) there (without_less q x ns)
  where
    or_second : (d : Bool) → (d || is_among (without q ns) x) ≡ true → (is_among (without q ns) x ≡ true → is_among ns x ≡ true) → (d || is_among ns x) ≡ true
    or_second true is rest = refl
    or_second false is rest = rest is

    by : (b : Bool) → is_among (if not b then n ∷ without q ns else without q ns) x ≡ true → (is_among (without q ns) x ≡ true → is_among ns x ≡ true) → (same_name n x || is_among ns x) ≡ true
    by true there rest = or_right (same_name n x) (is_among ns x) (rest there)
    by false there rest = or_second (same_name n x) there rest

-- a snapshot that may go lies below one that no crash can take away, and that stays
module _ (settled : List Name) (last : Option ℕ) (q : Name) (may : MayGo (is_sure settled last) q) where
  record IsBelow (p v : ℕ) : Type 0 where
    floor : ℕ
    above : v < floor
    there : is_among (without q settled) (name.Snapshot p floor) ≡ true
    old : is_up_to last (floor + 20) ≡ true

  below : (p v : ℕ) → name.Snapshot p v ≡ q → IsBelow p v
  below p v is = elim may.is [
    | inl delta ↦ absurd (delta_snapshot may.p may.v p v (sym delta.0 ∙ sym is))
    | inr snapshot ↦ (
        let same = snapshot_numbers may.p may.v p v (sym snapshot.0 ∙ sym is) in
        let less = snapshot.1 in
        let own_v = same.1 in
        let above : v < may.s = omega (arith, less, own_v) in
        let at : is_among settled (name.Snapshot p may.s) ≡ true = subst (λ (x : ℕ). is_among settled (name.Snapshot x may.s) ≡ true) same.0 may.snapshot in
        record {
          floor = may.s;
          above = above;
          there = without_keeps q (name.Snapshot p may.s) settled (λ other. (let e = (snapshot_numbers p may.s p v (other ∙ sym is)).1 in omega (arith, e, above))) at;
          old = may.acknowledged;
        }
        )
  ]

  -- what was not due is not due without it
  pub due_without : (news claimed : List Name) (p v : ℕ) → IsDue ((without q settled ++ without q news) ++ claimed) (without q settled) p last v → IsDue ((settled ++ news) ++ claimed) settled p last v
  due_without news claimed p v due = record {
    tenth = due.tenth;
    acknowledged = due.acknowledged;
    absent = false_from_ne_true (is_among ((settled ++ news) ++ claimed) (name.Snapshot p v)) (λ is. absent is);
    stays = λ s above sure. false_from_ne_true (is_up_to last (s + 20)) (λ up. stays s above sure up);
  }
    where
      here : Name
      here = name.Snapshot p v

      never : here ≡ q → ⊥
      never is = (let b = below p v is in true≢false (sym b.old ∙ due.stays b.floor b.above b.there))

      absent : is_among ((settled ++ news) ++ claimed) here ≡ true → ⊥
      absent is = elim (cases (is_among settled here) (is_among news here) (is_among claimed here) (sym (among_both (settled ++ news) claimed here ∙ ap (λ (b : Bool). b || is_among claimed here) (among_both settled news here)) ∙ is)) [
        | inl s ↦ true≢false (sym (among_first (without q settled ++ without q news) claimed here (among_first (without q settled) (without q news) here (without_keeps q here settled never s))) ∙ due.absent)
        | inr other ↦ elim other [
          | inl n ↦ true≢false (sym (among_first (without q settled ++ without q news) claimed here (among_second (without q settled) (without q news) here (without_keeps q here news never n))) ∙ due.absent)
          | inr c ↦ true≢false (sym (among_second (without q settled ++ without q news) claimed here c) ∙ due.absent)
        ]
      ]
        where
          cases : (a b c : Bool) → ((a || b) || c) ≡ true → (a ≡ true) ⊎ ((b ≡ true) ⊎ (c ≡ true))
          cases true b c is = inl refl
          cases false true c is = inr (inl refl)
          cases false false c is = inr (inr is)

      stays : (s : ℕ) → v < s → is_among settled (name.Snapshot p s) ≡ true → is_up_to last (s + 20) ≡ true → ⊥
      stays s above sure up = by (same_name (name.Snapshot p s) q) refl
        where
          by : (b : Bool) → same_name (name.Snapshot p s) q ≡ b → ⊥
          by true is = (
              let b = below p s (same_name-true (name.Snapshot p s) q is) in
              let further = b.above in
              true≢false (sym b.old ∙ due.stays b.floor (omega (arith, above, further)) b.there)
              )
          by false is = true≢false (sym up ∙ due.stays s above (without_keeps q (name.Snapshot p s) settled (λ same. other same) sure))
            where
              other : name.Snapshot p s ≡ q → ⊥
              other same = true≢false (sym (ap (λ (x : Name). same_name x q) same ∙ same_name-same q) ∙ is)

-- where nothing is new, settling names changes none of them
pub goes_settled : (settled news : List Name) (partitions : ℕ) (last : Option ℕ) (q : Name) → news ≡ [] → Goes ((settled ++ news) ++ []) (settled ++ news) partitions last q → Goes (settled ++ news) settled partitions last q
goes_settled settled news partitions last q none goes =
    let same : settled ++ news ≡ settled = ap (λ (l : List Name). settled ++ l) none ∙ append-nil settled in
    subst (λ (l : List Name). Goes (settled ++ news) l partitions last q) same
    (subst (λ (l : List Name). Goes l (settled ++ news) partitions last q) (append-nil (settled ++ news)) goes)
