-- No two records of a kind have one text.
use Rattle.std.proofs.Common.{◌≡◌, ◌≢◌, ◌<◌, ◌+◌, ◌∙◌, ◌^◌, ◌==◌, ◌++◌, ◌∷◌, [], ℕ, ℤ, Bool, true, false, List, Option, Some, None, codes, decimal, length, get_or, refl, sym, ap, arith, append_assoc}
use Rattle.std.specs.Prelude.{All}
use Rattle.std.specs.Option.{ForSome}
use Rattle.std.proofs.lemmas.List.{append_cancel_left}
use Rattle.std.proofs.lemmas.List.Elements.{All-head, All-tail}
use Rattle.std.proofs.lemmas.Bool.{eqb-true, eqb-false}
use Rattle.ssq_field.proofs.Digits.{decimals_apart}
use Rattle.ssq_time.specs.Time.{stamp_text, stamp_of, IsStampTime}
use Rattle.ssq_time.proofs.Readback.{stamp_of-stamp_text}
use Rattle.ssq_plans.specs.declared.meta.Meta.{Meta}
use Rattle.ssq_plans.specs.declared.plan.Plan.{Plan}
use Rattle.ssq_plans.specs.declared.commit.Commit.{Commit}
use Rattle.ssq_plans.specs.Records.{lines, time_or_none, parts_line, part_line, seen_line, meta_text, plan_text, commit_text, IsCount, IsMetaRecord, IsPart, IsPlan, IsSeen, IsCommit, AreRecordsApart}
use Rattle.ssq_plans.proofs.Listing.{IsBehind, line_is_stamp}
use Rattle.ssq_plans.proofs.Spelled.{part_split, part_is, no_part, seen_split, seen_is, no_seen, commit_split, commit_is, plan_split, plan_is, parts_split, meta_split, meta_is, no_parts}
use Rattle.ssq_plans.proofs.Times.{with_z, without_z, no_stamp}
use Rattle.ssq_value.proofs.Fronts.{same_fronts}

stamp_same : (t u : ℤ) → IsStampTime t → IsStampTime u → stamp_text t ≡ stamp_text u → t ≡ u
stamp_same t u of_t of_u e = let some : Some t ≡ Some u = sym (stamp_of-stamp_text t of_t) ∙ ap stamp_of e ∙ stamp_of-stamp_text u of_u in cc

stamps_by : (t u : ℤ) (x y : List ℕ) (b : Bool) → (get_or (stamp_text t ++ x) 19 0 == 90) ≡ b → stamp_text t ++ x ≡ stamp_text u ++ y → length (stamp_text t) ≡ length (stamp_text u)
stamps_by t u x y true z e =
    let here : get_or (stamp_text t ++ x) 19 0 ≡ 90 = eqb-true (get_or (stamp_text t ++ x) 19 0) 90 z in
    with_z t (stamp_text t ++ x) x refl here ∙ sym (with_z u (stamp_text t ++ x) y e here)
stamps_by t u x y false z e =
    let other : get_or (stamp_text t ++ x) 19 0 ≢ 90 = eqb-false (get_or (stamp_text t ++ x) 19 0) 90 z in
    without_z t (stamp_text t ++ x) x refl other ∙ sym (without_z u (stamp_text t ++ x) y e other)

stamps : (t u : ℤ) (x y : List ℕ) → IsStampTime t → IsStampTime u → stamp_text t ++ x ≡ stamp_text u ++ y → (t ≡ u) × (x ≡ y)
stamps t u x y of_t of_u e =
    let both = same_fronts (stamp_text t) (stamp_text u) x y (stamps_by t u x y (get_or (stamp_text t ++ x) 19 0 == 90) refl e) e in
    (stamp_same t u of_t of_u both.0, both.1)

-- times, or `none`
pub times : (t u : Option ℤ) (x y : List ℕ) → ForSome t IsStampTime → ForSome u IsStampTime → time_or_none t ++ x ≡ time_or_none u ++ y → (t ≡ u) × (x ≡ y)
times None None x y of_t of_u e = (refl, append_cancel_left (codes "none") x y e)
times None (Some u) x y of_t of_u e = absurd (no_stamp (stamp_text u) y x u (sym e) (stamp_of-stamp_text u (of_u u refl)))
times (Some t) None x y of_t of_u e = absurd (no_stamp (stamp_text t) x y t e (stamp_of-stamp_text t (of_t t refl)))
times (Some t) (Some u) x y of_t of_u e = let both = stamps t u x y (of_t t refl) (of_u u refl) e in (ap Some both.0, both.1)

-- a time or `none` that ends a line is one of the two
pub no_time : (time : Option ℤ) (text rest : List ℕ) → ForSome time IsStampTime → text ≡ time_or_none time ++ (codes "\n" ++ rest) → ((behind : List ℕ) → text ≢ codes "none\n" ++ behind) → ((t : ℤ) → IsStampTime t → text ≡ stamp_text t ++ (codes "\n" ++ rest) → ⊥) → ⊥
no_time None text rest fits is none stamp = none rest is
no_time (Some t) text rest fits is none stamp = stamp t (fits t refl) is

-- ---- lines

-- each line tells its item and where it ends
abbrev AreLinesApart : {X : Type 0} → (X → Type 0) → (ℕ → X → List ℕ) → Type 0
AreLinesApart {X} P spelled = (at : ℕ) (a b : X) (x y : List ℕ) → P a → P b → spelled at a ++ x ≡ spelled at b ++ y → (a ≡ b) × (x ≡ y)

cons_same : {X : Type 0} (a b : X) (xs ys : List X) → a ≡ b → xs ≡ ys → a ∷ xs ≡ b ∷ ys
cons_same a b xs ys e f = cc

lists : {X : Type 0} (P : X → Type 0) (spelled : ℕ → X → List ℕ) (at : ℕ) (xs ys : List X) (x y : List ℕ) → AreLinesApart P spelled → IsBehind spelled x → IsBehind spelled y
    → All P xs → All P ys → lines spelled at xs ++ x ≡ lines spelled at ys ++ y → (xs ≡ ys) × (x ≡ y)
unfolding lines
lists P spelled at [] [] x y apart end_x end_y of_xs of_ys e = (refl, e)
lists P spelled at [] (b ∷ ys) x y apart end_x end_y of_xs of_ys e = absurd (end_x at b (lines spelled (at + 1) ys ++ y) (e ∙ append_assoc (spelled at b) (lines spelled (at + 1) ys) y))
lists P spelled at (a ∷ xs) [] x y apart end_x end_y of_xs of_ys e = absurd (end_y at a (lines spelled (at + 1) xs ++ x) (sym e ∙ append_assoc (spelled at a) (lines spelled (at + 1) xs) x))
lists P spelled at (a ∷ xs) (b ∷ ys) x y apart end_x end_y of_xs of_ys e =
    let first = apart at a b (lines spelled (at + 1) xs ++ x) (lines spelled (at + 1) ys ++ y) (All-head P a xs of_xs) (All-head P b ys of_ys)
    (sym (append_assoc (spelled at a) (lines spelled (at + 1) xs) x) ∙ e ∙ append_assoc (spelled at b) (lines spelled (at + 1) ys) y) in
    let rest = lists P spelled (at + 1) xs ys x y apart end_x end_y (All-tail P a xs of_xs) (All-tail P b ys of_ys) first.1 in
    (cons_same a b xs ys first.0 rest.0, rest.1)

fits_wide : (n : ℕ) → n < 2 ^ 32 → n < 2 ^ 64
fits_wide n less = omega (arith, less)

parts_apart : AreLinesApart IsPart (λ at part. part_line part)
parts_apart at p q x y of_p of_q e =
    let all = append_cancel_left (codes "part ") _ _ (sym (part_split p x) ∙ e ∙ part_split q y) in
    let stream = decimals_apart p.stream q.stream _ _ (fits_wide p.stream of_p.0) (fits_wide q.stream of_q.0) refl refl all in
    let part = decimals_apart p.part q.part _ _ (fits_wide p.part of_p.1) (fits_wide q.part of_q.1) refl refl (append_cancel_left (codes " ") _ _ stream.1) in
    let end = decimals_apart p.end q.end _ _ of_p.2 of_q.2 refl refl (append_cancel_left (codes " ") _ _ part.1) in
    (part_is q p.stream p.part p.end stream.0 part.0 end.0, append_cancel_left (codes "\n") _ _ end.1)

seens_apart : AreLinesApart IsSeen (λ at seen. seen_line seen)
seens_apart at s t x y of_s of_t e =
    let all = append_cancel_left (codes "seen ") _ _ (sym (seen_split s x) ∙ e ∙ seen_split t y) in
    let stream = decimals_apart s.stream t.stream _ _ (fits_wide s.stream of_s.0) (fits_wide t.stream of_t.0) refl refl all in
    let time = times s.time t.time _ _ (line_is_stamp s.time of_s.1) (line_is_stamp t.time of_t.1) (append_cancel_left (codes " ") _ _ stream.1) in
    (seen_is s t stream.0 time.0, append_cancel_left (codes "\n") _ _ time.1)

commits_apart : (c d : Commit) → IsCommit c → IsCommit d → commit_text c ≡ commit_text d → c ≡ d
commits_apart c d of_c of_d e =
    let all = append_cancel_left (codes "v1\ncommit ") _ _ (sym (commit_split c) ∙ e ∙ commit_split d) in
    let epoch = decimals_apart c.epoch d.epoch _ _ (fits_wide c.epoch of_c.0) (fits_wide d.epoch of_d.0) refl refl all in
    let seen = lists IsSeen (λ at seen. seen_line seen) 0 c.seen d.seen (codes "end\n") (codes "end\n") seens_apart no_seen no_seen of_c.1 of_d.1 (append_cancel_left (codes "\n") _ _ epoch.1) in
    commit_is d c.epoch c.seen epoch.0 seen.0

plans_apart : (p q : Plan) → IsPlan p → IsPlan q → plan_text p ≡ plan_text q → p ≡ q
plans_apart p q of_p of_q e =
    let all = append_cancel_left (codes "v1\nplan ") _ _ (sym (plan_split p) ∙ e ∙ plan_split q) in
    let epoch = decimals_apart p.epoch q.epoch _ _ (fits_wide p.epoch of_p.0) (fits_wide q.epoch of_q.0) refl refl all in
    let mark = times p.watermark q.watermark _ _ of_p.1 of_q.1 (append_cancel_left (codes "watermark ") _ _ (append_cancel_left (codes "\n") _ _ epoch.1)) in
    let ends = lists IsPart (λ at part. part_line part) 0 p.ends q.ends (codes "end\n") (codes "end\n") parts_apart no_part no_part of_p.2 of_q.2 (append_cancel_left (codes "\n") _ _ mark.1) in
    plan_is q p.epoch p.watermark p.ends epoch.0 mark.0 ends.0

counts_apart : AreLinesApart IsCount parts_line
counts_apart at m n x y of_m of_n e =
    let all = append_cancel_left (codes "parts ") _ _ (sym (parts_split at m x) ∙ e ∙ parts_split at n y) in
    let count = decimals_apart m n _ _ (omega (arith, of_m)) (omega (arith, of_n)) refl refl (append_cancel_left (codes " ") _ _ (append_cancel_left (decimal at) _ _ all)) in
    (count.0, append_cancel_left (codes "\n") _ _ count.1)

metas_apart : (m n : Meta) → IsMetaRecord m → IsMetaRecord n → meta_text m ≡ meta_text n → m ≡ n
metas_apart m n of_m of_n e =
    let all = append_cancel_left (codes "v1\npartitions ") _ _ (sym (meta_split m) ∙ e ∙ meta_split n) in
    let partitions = decimals_apart m.partitions n.partitions _ _ (omega (arith, of_m.0.1)) (omega (arith, of_n.0.1)) refl refl all in
    let parts = lists IsCount parts_line 0 m.parts n.parts _ _ counts_apart (λ at count behind. no_parts at count _ behind) (λ at count behind. no_parts at count _ behind) of_m.0.2 of_n.0.2 (append_cancel_left (codes "\n") _ _ partitions.1) in
    let count = decimals_apart (length m.query) (length n.query) _ _ of_m.2 of_n.2 refl refl (append_cancel_left (codes "query ") _ _ parts.1) in
    let query = same_fronts m.query n.query (codes "\nend\n") (codes "\nend\n") count.0 (append_cancel_left (codes "\n") _ _ count.1) in
    meta_is n m.partitions m.parts m.query partitions.0 parts.0 query.0

pub records_apart : AreRecordsApart
records_apart = record { metas = metas_apart; plans = plans_apart; commits = commits_apart }
