-- One more item in a bucket, and one more entry in the history of all buckets.
use Rattle.std.proofs.Common.{◌≡◌, ℕ, suc, ◌+◌, ◌<◌, Bool, true, false, cond, eqb, List, [], ◌∷◌, ◌++◌, map, length, get_or, set, refl, sym, ap, subst, ap₂, ◌∙◌, inl, inr, arith}
use Rattle.std.specs.Global.{Vec}
use Rattle.std.specs.List.{filter, range_with_len}
use Rattle.std.proofs.lemmas.Bool.{cases_eq}
use Rattle.std.proofs.lemmas.Bool.Decides.{nat_tests}
use Rattle.std.proofs.lemmas.List.{get_or-map, get_or-set_same, get_or-set_other, map-append, append-nil, length-set, map-set, set-get_or}
use Rattle.std.proofs.lemmas.List.Elements.{filter-append}
use Rattle.std.proofs.lemmas.List.FromFn.{fill_by_all, get_or-map-range_with_len, length-map-range_with_len, map-range_with_len_more}
use Rattle.ssq_route.specs.Place.{place_of}
use Rattle.ssq_route.specs.Buckets.{items_at, buckets_of, bucket_at}

-- the buckets, as contracts see them
abbrev pub contents : {T : Type 0} → List (Vec T) → List (List T)
contents buckets = map (λ bucket. bucket.items) buckets

pub contents-len : {T : Type 0} (buckets : List (Vec T)) → length (contents buckets) ≡ length buckets
contents-len [] = refl
contents-len (first ∷ buckets) = ap suc (contents-len buckets)

-- what is read at a place is that place's bucket
pub contents-at : {T : Type 0} (buckets : List (Vec T)) (at : ℕ) (bucket : Vec T) → at < length buckets → bucket ≡ get_or buckets at bucket → bucket.items ≡ bucket_at (contents buckets) at
contents-at {T} buckets at bucket within is = ap (λ (b : Vec T). b.items) is ∙ sym (get_or-map (λ (b : Vec T). b.items) buckets at bucket [] within)

-- the bucket with what it has after a step
pub replaced : {T : Type 0} (buckets : List (Vec T)) (at : ℕ) (new : Vec T) (items : List T) → new.items ≡ items → contents (set buckets at new) ≡ set (contents buckets) at items
replaced {T} buckets at new items is = map-set (λ (b : Vec T). b.items) buckets at new ∙ ap (set (contents buckets) at) is

pub kept : {T : Type 0} (buckets : List (Vec T)) (at : ℕ) (old new : Vec T) → at < length buckets → old ≡ get_or buckets at old → new.items ≡ old.items → contents (set buckets at new) ≡ contents buckets
kept buckets at old new within is same =
    replaced buckets at new (bucket_at (contents buckets) at) (same ∙ contents-at buckets at old within is) ∙ set-get_or (contents buckets) at []

-- ---- the history

abbrev one_if : {T : Type 0} → Bool → T → List T
one_if true item = item ∷ []
one_if false item = []

alone : {T : Type 0} (key : List ℕ) (item : T) (b : Bool) → map (λ (entry : List ℕ × T). entry.1) (cond b ((key, item) ∷ []) []) ≡ one_if b item
alone key item true = refl
alone key item false = refl

items_at-add : {T : Type 0} (partitions : ℕ) (added : List (List ℕ × T)) (key : List ℕ) (item : T) (at : ℕ) → items_at partitions (added ++ (key, item) ∷ []) at ≡ items_at partitions added at ++ one_if (eqb (place_of key partitions) at) item
items_at-add {T} partitions added key item at =
    let test = λ (entry : List ℕ × T). eqb (place_of entry.0 partitions) at in
    let item_of = λ (entry : List ℕ × T). entry.1 in
    ap (map item_of) (filter-append test added ((key, item) ∷ [])) ∙ map-append item_of (filter test added) (filter test ((key, item) ∷ []))
    ∙ ap (λ (rest : List T). map item_of (filter test added) ++ rest) (alone key item (eqb (place_of key partitions) at))

same_test : (a : ℕ) → eqb a a ≡ true
same_test a = grind (arith, nat_tests)

other_test : (a b : ℕ) → (b ≡ a → ⊥) → eqb a b ≡ false
other_test a b apart = grind (arith, nat_tests)

-- the item stands after the others of its place
own_bucket : {T : Type 0} (partitions : ℕ) (added : List (List ℕ × T)) (key : List ℕ) (item : T) → items_at partitions added (place_of key partitions) ++ item ∷ [] ≡ items_at partitions (added ++ (key, item) ∷ []) (place_of key partitions)
own_bucket {T} partitions added key item =
    let at = place_of key partitions in
    sym (items_at-add partitions added key item at ∙ ap (λ (b : Bool). items_at partitions added at ++ one_if b item) (same_test at))

-- the other buckets stay
other_bucket : {T : Type 0} (partitions : ℕ) (added : List (List ℕ × T)) (key : List ℕ) (item : T) (k : ℕ) → (k ≡ place_of key partitions → ⊥) → items_at partitions added k ≡ items_at partitions (added ++ (key, item) ∷ []) k
other_bucket {T} partitions added key item k apart =
    sym (items_at-add partitions added key item k ∙ ap (λ (b : Bool). items_at partitions added k ++ one_if b item) (other_test (place_of key partitions) k apart) ∙ append-nil (items_at partitions added k))

-- an item more in its bucket is an entry more in the history
pub buckets_of-add : {T : Type 0} (partitions : ℕ) (added : List (List ℕ × T)) (key : List ℕ) (item : T) → place_of key partitions < partitions
    → set (buckets_of partitions added) (place_of key partitions) (bucket_at (buckets_of partitions added) (place_of key partitions) ++ item ∷ []) ≡ buckets_of partitions (added ++ (key, item) ∷ [])
unfolding buckets_of
buckets_of-add {T} partitions added key item within =
    let at = place_of key partitions in
    let old = map (items_at partitions added) (range_with_len 0 partitions) in
    let after = items_at partitions (added ++ (key, item) ∷ []) in
    let len : length old ≡ partitions = length-map-range_with_len (items_at partitions added) 0 partitions in
    let new = get_or old at [] ++ item ∷ [] in
    let old-at = λ (k : ℕ) (lt : k < partitions). get_or-map-range_with_len (items_at partitions added) 0 partitions k k [] lt (omega arith) in
    let own : get_or (set old at new) at [] ≡ after at = get_or-set_same old at new [] (omega arith) ∙ ap (λ (items : List T). items ++ item ∷ []) (old-at at within) ∙ own_bucket partitions added key item in
    fill_by_all after (set old at new) partitions [] (length-set old at new ∙ len)
    (λ k lt. elim (cases_eq k at) [
      | inl same ↦ subst (λ (j : ℕ). get_or (set old at new) j [] ≡ after j) (sym same) own
      | inr apart ↦ get_or-set_other old at k new [] apart ∙ old-at k lt ∙ other_bucket partitions added key item k apart
    ])

pub buckets_of-at : {T : Type 0} (partitions at : ℕ) (added : List (List ℕ × T)) → at < partitions → bucket_at (buckets_of partitions added) at ≡ items_at partitions added at
unfolding buckets_of
buckets_of-at partitions at added within = get_or-map-range_with_len (items_at partitions added) 0 partitions at at [] within (omega arith)

-- ---- one more empty bucket

pub empty_more : {T : Type 0} (partitions count : ℕ) (buckets more : List (Vec T)) (bucket : Vec T) → contents buckets ≡ map (items_at {T = T} partitions []) (range_with_len 0 count) → bucket.items ≡ [] → more ≡ buckets ++ bucket ∷ []
    → contents more ≡ map (items_at {T = T} partitions []) (range_with_len 0 (count + 1))
empty_more {T} partitions count buckets more bucket so_far empty is =
    let item_of = λ (b : Vec T). b.items in
    ap contents is ∙ map-append item_of buckets (bucket ∷ []) ∙ ap₂ (λ (front : List (List T)) (last : List T). front ++ last ∷ []) so_far empty
    ∙ sym (map-range_with_len_more (items_at {T = T} partitions []) 0 count count (omega arith))

pub empty_len : {T : Type 0} (partitions count : ℕ) (buckets : List (Vec T)) → contents buckets ≡ map (items_at {T = T} partitions []) (range_with_len 0 count) → length buckets ≡ count
empty_len {T} partitions count buckets so_far = sym (contents-len buckets) ∙ ap length so_far ∙ length-map-range_with_len (items_at {T = T} partitions []) 0 count

-- ---- what the methods leave

view_len : {T : Type 0} (buckets : List (Vec T)) (view : List (List T)) → contents buckets ≡ view → length view ≡ length buckets
view_len buckets view is = ap length (sym is) ∙ contents-len buckets

pub read_all : {T : Type 0} (buckets : List (Vec T)) (view : List (List T)) (at : ℕ) (bucket : Vec T) (seen : List T) (added : List (List ℕ × T)) → contents buckets ≡ view → at < length view → bucket ≡ get_or buckets at bucket → seen ≡ bucket.items
    → view ≡ buckets_of (length view) added → seen ≡ items_at (length view) added at
read_all {T} buckets view at bucket seen added view-is within read seen-is all =
    let inside : at < length buckets = omega (arith, view_len buckets view view-is) in
    seen-is ∙ contents-at buckets at bucket inside read ∙ ap (λ (v : List (List T)). bucket_at v at) (view-is ∙ all) ∙ buckets_of-at (length view) at added within

-- what a push into the bucket of the key's place leaves
pub pushed : {T : Type 0} (buckets : List (Vec T)) (view : List (List T)) (partitions at : ℕ) (key : List ℕ) (old new : Vec T) (item : T) → contents buckets ≡ view → length buckets ≡ partitions → at ≡ place_of key partitions → at < partitions
    → old ≡ get_or buckets at old → new.items ≡ old.items ++ item ∷ []
    → contents (set buckets at new) ≡ set view (place_of key (length view)) (bucket_at view (place_of key (length view)) ++ item ∷ [])
pushed {T} buckets view partitions at key old new item view-is len at-is within read grown =
    let place-is : at ≡ place_of key (length view) = at-is ∙ ap (place_of key) (sym (view_len buckets view view-is ∙ len)) in
    replaced buckets at new (bucket_at (contents buckets) at ++ item ∷ []) (grown ∙ ap (λ (items : List T). items ++ item ∷ []) (contents-at buckets at old (omega arith) read))
    ∙ ap₂ (λ (v : List (List T)) (j : ℕ). set v j (bucket_at v j ++ item ∷ [])) view-is place-is

pub pushed_all : {T : Type 0} (view now : List (List T)) (key : List ℕ) (item : T) (added : List (List ℕ × T)) → place_of key (length view) < length view
    → now ≡ set view (place_of key (length view)) (bucket_at view (place_of key (length view)) ++ item ∷ []) → view ≡ buckets_of (length view) added → now ≡ buckets_of (length view) (added ++ (key, item) ∷ [])
pushed_all {T} view now key item added within now-is all =
    let at = place_of key (length view) in
    now-is ∙ ap (λ (v : List (List T)). set v at (bucket_at v at ++ item ∷ [])) all ∙ buckets_of-add (length view) added key item within

pub place_within : {T : Type 0} (buckets : List (Vec T)) (view : List (List T)) (partitions at : ℕ) (key : List ℕ) → contents buckets ≡ view → length buckets ≡ partitions → at ≡ place_of key partitions → at < partitions → place_of key (length view) < length view
place_within buckets view partitions at key view-is len at-is within =
    let same : length view ≡ partitions = view_len buckets view view-is ∙ len in
    subst (λ (n : ℕ). place_of key n < n) (sym same) (subst (λ (j : ℕ). j < partitions) at-is within)
