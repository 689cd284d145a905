-- Totals that are read one after the other.
use Rattle.std.proofs.Common.{◌≡◌, ◌==◌, ◌+◌, ◌<◌, ◌≤◌, ◌++◌, ℕ, suc, true, false, refl, arith, [], ◌∷◌, List, ap, sym, subst, ◌∙◌, drop, drop-cons, take, add-one, length, get_or, append_assoc, append-nil}
use Rattle.std.proofs.Math.Seq.{take-suc}
use Rattle.std.proofs.lemmas.Bool.{eqb-true, eqb-false}
use Rattle.std.proofs.lemmas.Grind.{flat_map-append}
use Rattle.std.proofs.lemmas.List.{drop_all}
use Rattle.ssq_shape.specs.declared.bound.Aggregate.{Aggregate}
use Rattle.ssq_meaning.specs.declared.total.Total.{Total}
use Rattle.ssq_meaning.specs.Totals.{total_bytes, total_of, totals_bytes, totals_from}
use Rattle.ssq_agg.specs.Readable.{IsTotalOf, AreTotalsOf}

-- ---- those that were read

-- the totals so far are those of the aggregates in front, and those of the others may follow
abbrev pub AreFront : List Aggregate → List Total → List Aggregate → Type 0
AreFront all so_far left = (totals : List Total) → AreTotalsOf left totals → AreTotalsOf all (so_far ++ totals)

pub front_begins : (all : List Aggregate) (so_far : List Total) → so_far ≡ [] → AreFront all so_far all
front_begins all so_far none totals are = subst (λ l. AreTotalsOf all (l ++ totals)) (sym none) are

pub front_on : (all left : List Aggregate) (aggregate : Aggregate) (so_far pushed : List Total) (own : Total) → pushed ≡ so_far ++ own ∷ [] → IsTotalOf aggregate.function own
    → AreFront all so_far (aggregate ∷ left) → AreFront all pushed left
front_on all left aggregate so_far pushed own push is was totals are =
    subst (λ l. AreTotalsOf all l) (sym (append_assoc so_far (own ∷ []) totals) ∙ ap (λ l. l ++ totals) (sym push)) (was (own ∷ totals) (is, are))

pub front_all : (all : List Aggregate) (so_far : List Total) → AreFront all so_far [] → AreTotalsOf all so_far
front_all all so_far was = subst (AreTotalsOf all) (append-nil so_far) (was [] tt)

pub bytes_on : (so_far pushed : List Total) (own : Total) (bytes rest behind : List ℕ) → pushed ≡ so_far ++ own ∷ [] → rest ≡ total_bytes own ++ behind → totals_bytes so_far ++ rest ≡ bytes → totals_bytes pushed ++ behind ≡ bytes
bytes_on so_far pushed own bytes rest behind push front was =
    ap (λ l. totals_bytes l ++ behind) push
    ∙ ap (λ l. l ++ behind) (flat_map-append total_bytes so_far (own ∷ []))
    ∙ append_assoc (totals_bytes so_far) (total_bytes own ++ []) behind
    ∙ ap (λ l. totals_bytes so_far ++ (l ++ behind)) (append-nil (total_bytes own))
    ∙ ap (λ l. totals_bytes so_far ++ l) (sym front)
    ∙ was

-- ---- those that are left

-- what is left of totals, of these aggregates, where these were read and these bytes follow
pub record IsLeft (aggregates : List Aggregate) (totals so_far : List Total) (rest : List ℕ) : Type 0 where
  pub left : List Total
  pub parts : totals ≡ so_far ++ left
  pub are : AreTotalsOf aggregates left
  pub bytes : rest ≡ totals_bytes left

-- all totals of the aggregates that the bytes are go on so
abbrev pub EachIsLeft : (all : List Aggregate) (bytes : List ℕ) (aggregates : List Aggregate) (so_far : List Total) (rest : List ℕ) → Type 0
EachIsLeft all bytes aggregates so_far rest = (totals : List Total) → AreTotalsOf all totals → totals_bytes totals ≡ bytes → IsLeft aggregates totals so_far rest

pub left_begins : (all : List Aggregate) (bytes : List ℕ) (so_far : List Total) → so_far ≡ [] → EachIsLeft all bytes all so_far bytes
left_begins all bytes so_far none totals are is = record {
  left = totals;
  parts = ap (λ (l : List Total). l ++ totals) (sym none);
  are = are;
  bytes = sym is;
}

-- what is found in front is this total
abbrev pub FindsTotal : Aggregate → (rest : List ℕ) → Total → (behind : List ℕ) → Type 0
FindsTotal aggregate rest own behind = (other : Total) (r : List ℕ) → IsTotalOf aggregate.function other → rest ≡ total_bytes other ++ r → (own ≡ other) × (behind ≡ r)

one_read : (aggregates : List Aggregate) (aggregate : Aggregate) (totals so_far left : List Total) (own : Total) (rest behind : List ℕ) → totals ≡ so_far ++ left → AreTotalsOf (aggregate ∷ aggregates) left
    → rest ≡ totals_bytes left → FindsTotal aggregate rest own behind → IsLeft aggregates totals (so_far ++ own ∷ []) behind
one_read aggregates aggregate totals so_far [] own rest behind parts are bytes finds = absurd are
one_read aggregates aggregate totals so_far (other ∷ left) own rest behind parts are bytes finds =
    let same = finds other (totals_bytes left) are.0 bytes in
    record {
      left = left;
      parts = parts ∙ ap (λ x. so_far ++ x ∷ left) (sym same.0) ∙ sym (append_assoc so_far (own ∷ []) left);
      are = are.1;
      bytes = same.1;
    }

pub left_on : (all : List Aggregate) (bytes : List ℕ) (aggregates : List Aggregate) (aggregate : Aggregate) (so_far pushed : List Total) (own : Total) (rest behind : List ℕ) → pushed ≡ so_far ++ own ∷ []
    → FindsTotal aggregate rest own behind → EachIsLeft all bytes (aggregate ∷ aggregates) so_far rest → EachIsLeft all bytes aggregates pushed behind
left_on all bytes aggregates aggregate so_far pushed own rest behind push finds was totals are is =
    let left = was totals are is in
    subst (λ l. IsLeft aggregates totals l behind) (sym push) (one_read aggregates aggregate totals so_far left.left own rest behind left.parts left.are left.bytes finds)

none_read : (aggregates : List Aggregate) (aggregate : Aggregate) (left : List Total) (rest : List ℕ) → AreTotalsOf (aggregate ∷ aggregates) left → rest ≡ totals_bytes left
    → ((other : Total) (r : List ℕ) → IsTotalOf aggregate.function other → rest ≡ total_bytes other ++ r → ⊥) → ⊥
none_read aggregates aggregate [] rest are bytes none = are
none_read aggregates aggregate (other ∷ left) rest are bytes none = none other (totals_bytes left) are.0 bytes

-- where no total of the aggregate is in front the bytes are no such totals
pub nothing_in_front : (all : List Aggregate) (bytes : List ℕ) (aggregates : List Aggregate) (aggregate : Aggregate) (so_far : List Total) (rest : List ℕ)
    → ((other : Total) (r : List ℕ) → IsTotalOf aggregate.function other → rest ≡ total_bytes other ++ r → ⊥)
    → EachIsLeft all bytes (aggregate ∷ aggregates) so_far rest → (totals : List Total) → AreTotalsOf all totals → totals_bytes totals ≡ bytes → ⊥
nothing_in_front all bytes aggregates aggregate so_far rest none was totals are is =
    let left = was totals are is in
    none_read aggregates aggregate left.left rest left.are left.bytes none

nothing_left : (totals so_far left : List Total) (rest : List ℕ) → totals ≡ so_far ++ left → AreTotalsOf [] left → rest ≡ totals_bytes left → (totals ≡ so_far) × (rest ≡ [])
nothing_left totals so_far [] rest parts are bytes = (parts ∙ append-nil so_far, bytes)
nothing_left totals so_far (own ∷ left) rest parts are bytes = absurd are

-- where all were read they are the totals, and nothing follows
pub all_read : (all : List Aggregate) (at : ℕ) → length all ≤ at → (bytes : List ℕ) (so_far : List Total) (rest : List ℕ) → EachIsLeft all bytes (drop at all) so_far rest
    → (totals : List Total) → AreTotalsOf all totals → totals_bytes totals ≡ bytes → (totals ≡ so_far) × (rest ≡ [])
all_read all at ended bytes so_far rest was totals are is =
    let left = subst (λ l. EachIsLeft all bytes l so_far rest) (drop_all at all ended) was totals are is in
    nothing_left totals so_far left.left rest left.parts left.are left.bytes

-- the item that comes next
pub step_is : {T : Type 0} (all : List T) (at : ℕ) (item : T) → at < length all → item ≡ get_or all at item → drop at all ≡ item ∷ drop (at + 1) all
step_is all at item inside is = rw (add-one, drop-cons all at item inside) (ap (λ a. a ∷ drop (suc at) all) (sym is))

-- ---- where nothing follows

pub no_items : {T : Type 0} (xs : List T) → (length xs == 0) ≡ true → xs ≡ []
no_items [] is = refl
no_items (x ∷ xs) is = absurd (omega (arith, eqb-true (length (x ∷ xs)) 0 is))

pub some_item : {T : Type 0} (xs : List T) → (length xs == 0) ≡ false → xs ≡ [] → ⊥
some_item xs is none = absurd (omega (arith, eqb-false (length xs) 0 is, ap length none))

-- ---- those that are written

-- the bytes of the totals up to and with the next one
pub bytes_taken : (totals : List Total) (at : ℕ) (own : Total) (before after : List ℕ) → at < length totals → own ≡ get_or totals at own → before ≡ totals_bytes (take at totals)
    → after ≡ before ++ total_bytes own → after ≡ totals_bytes (take (at + 1) totals)
bytes_taken totals at own before after inside is was wrote =
    wrote ∙ ap (λ l. l ++ total_bytes own) was
    ∙ ap (λ t. totals_bytes (take at totals) ++ total_bytes t) is
    ∙ ap (λ l. totals_bytes (take at totals) ++ l) (sym (append-nil (total_bytes (get_or totals at own))))
    ∙ sym (flat_map-append total_bytes (take at totals) (get_or totals at own ∷ []))
    ∙ ap totals_bytes (sym (ap (λ n. take n totals) (add-one at) ∙ take-suc totals at own inside))

-- ---- those of no row

pub none_on : (all left : List Aggregate) (aggregate : Aggregate) (at : ℕ) (so_far pushed whole : List Total) (own : Total) → drop at all ≡ aggregate ∷ left → own ≡ total_of aggregate.function []
    → pushed ≡ so_far ++ own ∷ [] → so_far ++ totals_from at (drop at all) [] ≡ whole → pushed ++ totals_from (at + 1) left [] ≡ whole
unfolding totals_from
none_on all left aggregate at so_far pushed whole own step is push was =
    ap (λ l. l ++ totals_from (at + 1) left []) push
    ∙ append_assoc so_far (own ∷ []) (totals_from (at + 1) left [])
    ∙ ap (λ t. so_far ++ t ∷ totals_from (at + 1) left []) is
    ∙ ap (λ l. so_far ++ totals_from at l []) (sym step)
    ∙ was
