-- Keys by their bytes: whether two are the same, which of them are due, and those that go, one after the other.
use Rattle.std.proofs.Common.{◌≡◌, ◌<◌, ◌≤◌, ◌+◌, ◌++◌, ℕ, [], ◌∷◌, List, Some, None, Bool, true, false, refl, ap, sym, ◌∙◌, subst, take, length, get_or, filter, arith}
use Rattle.std.specs.Prelude.{◌||◌, if◌then◌else◌}
use Rattle.std.specs.Borrow.{Bor}
use Rattle.std.specs.BTreeMap.{is_at}
use Rattle.std.specs.List.{list_any}
use Rattle.std.proofs.lemmas.List.{map-append, take_all}
use Rattle.std.proofs.lemmas.List.Elements.{All-weaker}
use Rattle.std.proofs.lemmas.List.Folds.{list_any-append}
use Rattle.ssq_value.specs.Key.{IsSpelled, keys_of}
use Rattle.ssq_version.specs.State.{Change, IsToldAt, by_bytes, value_at}
use Rattle.ssq_version.proofs.Values.{either_way, is_itself, one_key}
use Rattle.ssq_meaning.specs.Fit.{IsFit}
use Rattle.ssq_meaning.specs.Group.{is_same}
use Rattle.ssq_meaning.specs.GroupLaws.{IsKeySpelled}
use Rattle.ssq_meaning.specs.Meaning.{Values}
use Rattle.ssq_meaning.proofs.Coding.{AreApart}
use Rattle.ssq_meaning.proofs.FitRows.{spelled}
use Rattle.ssq_meaning.proofs.Keys.{same_is, same_itself}
use Rattle.ssq_step.specs.Forgetting.{IsGone}
use Rattle.ssq_step.specs.Indexing.{IsReadableKey, seen, stands}
use Rattle.ssq_step.proofs.Lists.{one_more}

-- a key that is read back from its bytes has a spelling
pub spelled_key : (count : ℕ) (key : Values) → IsReadableKey count key → IsKeySpelled count key
spelled_key count key is = (All-weaker IsFit IsSpelled spelled key is.values, is.many)

-- keys of so many values have the same bytes exactly where they are the same
pub same_bytes : AreApart → (count : ℕ) (key other : Values) → IsKeySpelled count key → IsKeySpelled count other → is_at (by_bytes (keys_of key)) (keys_of other) ≡ is_same key other
same_bytes apart count key other is are = by (is_at (by_bytes (keys_of key)) (keys_of other)) (is_same key other) refl refl
  where
    by : (a b : Bool) → is_at (by_bytes (keys_of key)) (keys_of other) ≡ a → is_same key other ≡ b → is_at (by_bytes (keys_of key)) (keys_of other) ≡ is_same key other
    by true true at same = at ∙ sym same
    by false false at same = at ∙ sym same
    by true false at same =
        let one : key ≡ other = (apart key other [] [] (is.1 ∙ sym are.1) is.0 are.0 (ap (λ b. b ++ []) (one_key (keys_of key) (keys_of other) at))).0 in
        let no : true ≡ false = sym (same_itself key) ∙ ap (is_same key) one ∙ same in absurd cc
    by false true at same =
        let no : true ≡ false = sym (is_itself (keys_of key)) ∙ ap (λ k. is_at (by_bytes (keys_of key)) (keys_of k)) (same_is key other same) ∙ at in absurd cc

-- whether a key that stands among others at most once does so
pub any_by : (q : List ℕ) (keys : List (List ℕ)) (b : Bool) → stands q keys ≡ (if b then 1 else 0) → list_any (is_at (by_bytes q)) keys ≡ b
any_by q [] true is = absurd (omega (arith, is))
any_by q [] false is = refl
any_by q (other ∷ keys) b is = by (is_at (by_bytes q) other) b (any_by q keys) is
  where
    by : (s c : Bool) → ((c : Bool) → stands q keys ≡ (if c then 1 else 0) → list_any (is_at (by_bytes q)) keys ≡ c)
        → length (if s then other ∷ filter (is_at (by_bytes q)) keys else filter (is_at (by_bytes q)) keys) ≡ (if c then 1 else 0) → (s || list_any (is_at (by_bytes q)) keys) ≡ c
    by true true rest is = refl
    by true false rest is = absurd (omega (arith, is))
    by false c rest is = rest c is

-- ---- keys that go

gone_more : (keys : List (List ℕ)) (key : List ℕ) (before old new : Change) → IsToldAt key None old new → IsGone keys before old → IsGone (keys ++ key ∷ []) before new
gone_more keys key before old new told was q =
    told q
    ∙ (λ i. if either_way key q i then Some None else was q i)
    ∙ by (is_at (by_bytes q) key) (list_any (is_at (by_bytes q)) keys)
    ∙ ap (λ b. if b then Some None else value_at before q) (sym (list_any-append (is_at (by_bytes q)) keys (key ∷ [])))
  where
    by : (a b : Bool) → (if a then Some None else (if b then Some None else value_at before q)) ≡ (if (b || (a || false)) then Some None else value_at before q)
    by true true = refl
    by true false = refl
    by false true = refl
    by false false = refl

-- one key more goes, by its bytes
pub gone_on : (keys : List (Bor (List ℕ))) (at : ℕ) (key : Bor (List ℕ)) {bytes : List ℕ} → at < length keys → key ≡ get_or keys at key → bytes ≡ key.now → (before old new : Change) → IsToldAt bytes None old new
    → IsGone (seen (take at keys)) before old → IsGone (seen (take (at + 1) keys)) before new
gone_on keys at key inside is same before old new told was =
    subst (λ (l : List (List ℕ)). IsGone l before new) (sym (ap seen (one_more keys at key inside is) ∙ map-append (λ (key : Bor (List ℕ)). key.now) (take at keys) (key ∷ [])))
    (gone_more (seen (take at keys)) key.now before old new (subst (λ (k : List ℕ). IsToldAt k None old new) same told) was)

-- none is left
pub gone_all : (keys : List (Bor (List ℕ))) (at : ℕ) (before after : Change) → length keys ≤ at → IsGone (seen (take at keys)) before after → IsGone (seen keys) before after
gone_all keys at before after most was = subst (λ (l : List (Bor (List ℕ))). IsGone (seen l) before after) (take_all at keys most) was
