-- What a state keeps by its times, made by a walk over it, and through a change.
use Rattle.std.proofs.Common.{◌≡◌, ℕ, ℤ, [], ◌∷◌, Some, None, List, Option, false, refl, ap, sym, subst, ◌∙◌}
use Rattle.std.specs.Prelude.{◌&&◌, is_some}
use Rattle.std.specs.Option.{option_and}
use Rattle.std.specs.BTreeMap.{is_at}
use Rattle.ssq_version.specs.State.{Ascends, Change, IsAfter, State, by_bytes, value_after, value_at}
use Rattle.ssq_version.proofs.Values.{IsRest, by_case, first_at, is_itself, less_rest, none_behind, one_key, other_way, others_at}
use Rattle.ssq_value.specs.Key.{keys_of}
use Rattle.ssq_shape.specs.declared.bound.Bound.{Bound}
use Rattle.ssq_shape.specs.declared.bound.Joining.{Joining}
use Rattle.ssq_shape.specs.declared.bound.Shape.{Shape}
use Rattle.ssq_shape.specs.declared.bound.Shape.TheVariants.{Join}
use Rattle.ssq_meaning.specs.Keyed.{key_length, key_time}
use Rattle.ssq_meaning.specs.Meaning.{Values}
use Rattle.ssq_step.specs.Indexing.{Indexes, IsIndexBy, IsKeyBy, IsReadableKey, IsTimeIf}
use Rattle.ssq_step.specs.Rows.{StandsAt, TurnsAt}
use Rattle.ssq_step.specs.Timed.{Timed, has, is_time}
use Rattle.ssq_step.proofs.RowTimes.{one_time}
use Rattle.ssq_step.proofs.Timing.{on_the_way}

-- ---- the same for each shape

-- of each key what stands at it is the time of what is kept there
abbrev pub AreTimed : Shape → Bound → State → List Timed → Type 0
AreTimed shape query state entries = (key : List ℕ) (is : IsKeyBy shape query key) → (time : Option ℤ) × IsTimeIf shape query key is (value_at state key) time × StandsAt entries key time

-- where a key stands under its time
stands_by : (t : ℤ) (value : Option (List ℕ)) (time : Option ℤ) → (is_some value && is_time t time) ≡ is_time t (option_and value time)
stands_by t None time = refl
stands_by t (Some value) time = refl

module _ (query : Bound) (state : State) (entries : List Timed) where
  by_key : Indexes (key_length query) (key_time query) state entries → (key : List ℕ) (own : Values) → IsReadableKey (key_length query) own → keys_of own ≡ key
      → StandsAt entries key (option_and (value_at state key) (key_time query own))
  by_key was key own readable same t =
      subst (λ k. has entries (t, k) ≡ (is_some (value_at state k) && is_time t (key_time query own))) same (was own readable t) ∙ stands_by t (value_at state key) (key_time query own)

  pub as_timed : (shape : Shape) → IsIndexBy shape query state entries → AreTimed shape query state entries
  as_timed (Join joining) was key is = was key
  as_timed _ was key is = (option_and (value_at state key) (key_time query is.0), refl, by_key was key is.0 is.1 is.2)

  -- and back
  pub as_index : (shape : Shape) → AreTimed shape query state entries → IsIndexBy shape query state entries
  as_index (Join joining) are = λ key. are key tt
  as_index _ are = λ own readable t.
      let found = are (keys_of own) (own, readable, refl) in
      found.2 t ∙ ap (is_time t) found.1 ∙ sym (stands_by t (value_at state (keys_of own)) (key_time query own))

-- the time of what is no row of a join
pub key_timed : (shape : Shape) (query : Bound) (key value : List ℕ) (time : Option ℤ) → ((joining : Joining) → shape ≡ Join joining → ⊥) → ((own : Values) → IsReadableKey (key_length query) own → keys_of own ≡ key → time ≡ key_time query own)
    → (is : IsKeyBy shape query key) → IsTimeIf shape query key is (Some value) time
key_timed (Join joining) query key value time other timed is = absurd (other joining refl)
key_timed _ query key value time other timed is = timed is.0 is.1 is.2

-- where nothing is kept, there is no time
pub none_kept : (shape : Shape) (query : Bound) (key : List ℕ) (is : IsKeyBy shape query key) → IsTimeIf shape query key is None None
none_kept (Join joining) query key is = refl
none_kept _ query key is = refl

-- a key has one time at most
once : (shape : Shape) (query : Bound) (key : List ℕ) (is : IsKeyBy shape query key) (value : Option (List ℕ)) (one other : Option ℤ) → IsTimeIf shape query key is value one → IsTimeIf shape query key is value other → one ≡ other
once (Join joining) query key is None one other a b = a ∙ sym b
once (Join joining) query key is (Some value) one other a b = one_time query joining key value one other a b
once _ query key is value one other a b = a ∙ sym b

module _ (shape : Shape) (query : Bound) where
  -- ---- where nothing has a time

  abbrev pub HaveNone : Type 0
  HaveNone = (key : List ℕ) (is : IsKeyBy shape query key) (value : List ℕ) → IsTimeIf shape query key is (Some value) None

  none_if : HaveNone → (key : List ℕ) (is : IsKeyBy shape query key) (o : Option (List ℕ)) → IsTimeIf shape query key is o None
  none_if none key is None = none_kept shape query key is
  none_if none key is (Some value) = none key is value

  pub none_timed : HaveNone → (state : State) (entries : List Timed) → entries ≡ [] → AreTimed shape query state entries
  none_timed none state entries empty key is = (None, none_if none key is (value_at state key), λ t. ap (λ es. has es (t, key)) empty)

  pub none_followed : HaveNone → (old new : State) (entries : List Timed) → AreTimed shape query old entries → AreTimed shape query new entries
  none_followed none old new entries was key is =
      let found = was key is in
      let no : found.0 ≡ None = once shape query key is (value_at old key) found.0 None found.1 (none_if none key is (value_at old key)) in
      (None, none_if none key is (value_at new key), subst (StandsAt entries key) no found.2)

  -- ---- the index of a state, made by a walk over it

  -- what a key has so far: nothing, where it is still to come
  abbrev pub so_far : Option (List ℕ) → Option (List ℕ) → Option (List ℕ)
  so_far None all = all
  so_far (Some left) all = None

  abbrev pub AreTimedTo : (all left : State) → List Timed → Type 0
  AreTimedTo all left entries =
      (key : List ℕ) (is : IsKeyBy shape query key) → (time : Option ℤ) × IsTimeIf shape query key is (so_far (value_at left key) (value_at all key)) time × StandsAt entries key time

  pub timed_begins : (all left : State) (entries : List Timed) → left ≡ all → entries ≡ [] → AreTimedTo all left entries
  timed_begins all left entries same none key is =
      (None, by (value_at left key) (value_at all key) (ap (λ (s : State). value_at s key) same), λ t. ap (λ es. has es (t, key)) none)
    where
      by : (l a : Option (List ℕ)) → l ≡ a → IsTimeIf shape query key is (so_far l a) None
      by (Some l) a same = none_kept shape query key is
      by None None same = none_kept shape query key is
      by None (Some a) same = absurd cc

  pub timed_on : (all left rest : State) (bytes value : List ℕ) (before after : List Timed) (time : Option ℤ) → left ≡ (bytes, value) ∷ rest → IsRest all left
      → ((is : IsKeyBy shape query bytes) → IsTimeIf shape query bytes is (Some value) time) → TurnsAt bytes None time before after → AreTimedTo all left before → AreTimedTo all rest after
  timed_on all left rest bytes value before after time step of has_time turns was key is =
      by_case (is_at (by_bytes key) bytes)
      (λ at. subst (λ k. (is : IsKeyBy shape query k) → (time : Option ℤ) × IsTimeIf shape query k is (so_far (value_at rest k) (value_at all k)) time × StandsAt after k time) (sym (one_key key bytes at)) own is)
      there
    where
      behind : Ascends ((bytes, value) ∷ rest)
      behind = subst (Ascends {X = List ℕ}) step of.ascend

      value_is : value_at all bytes ≡ Some value
      value_is = (less_rest all left rest bytes value step of).1

      left_is : value_at left bytes ≡ Some value
      left_is = ap (λ (s : State). value_at s bytes) step ∙ first_at bytes value rest bytes (is_itself bytes)

      own : (is : IsKeyBy shape query bytes) → (time : Option ℤ) × IsTimeIf shape query bytes is (so_far (value_at rest bytes) (value_at all bytes)) time × StandsAt after bytes time
      own is =
          let found = was bytes is in (
            time,
            subst (λ o. IsTimeIf shape query bytes is (so_far (value_at rest bytes) o) time) (sym value_is)
                (subst (λ o. IsTimeIf shape query bytes is (so_far o (Some value)) time) (sym (none_behind bytes value rest behind)) (has_time is)),
            turns.here (subst (StandsAt before bytes) (once shape query bytes is None found.0 None (subst (λ o. IsTimeIf shape query bytes is (so_far o (value_at all bytes)) found.0) left_is found.1) (none_kept shape query bytes is)) found.2),
          )

      there : is_at (by_bytes key) bytes ≡ false → (time : Option ℤ) × IsTimeIf shape query key is (so_far (value_at rest key) (value_at all key)) time × StandsAt after key time
      there apart =
          let found = was key is in
          let same : value_at left key ≡ value_at rest key = ap (λ (s : State). value_at s key) step ∙ others_at bytes value rest key apart in (
            found.0,
            subst (λ o. IsTimeIf shape query key is (so_far o (value_at all key)) found.0) same found.1,
            λ t. turns.others key (other_way key bytes apart) t ∙ found.2 t,
          )

  pub timed_all : (all left : State) (entries : List Timed) → left ≡ [] → AreTimedTo all left entries → AreTimed shape query all entries
  timed_all all left entries none was key is =
      let found = was key is in
      (found.0, subst (λ (s : State). IsTimeIf shape query key is (so_far (value_at s key) (value_at all key)) found.0) none found.1, found.2)

  -- ---- the index through a change

  abbrev pub AreFollowed : (old new : State) → (left : Change) → List Timed → Type 0
  AreFollowed old new left entries =
      (key : List ℕ) (is : IsKeyBy shape query key) → (time : Option ℤ) × IsTimeIf shape query key is (on_the_way (value_at left key) (value_at old key) (value_at new key)) time × StandsAt entries key time

  pub followed_begins : (old new : State) (change left : Change) (entries : List Timed) → left ≡ change → IsAfter change old new → AreTimed shape query old entries → AreFollowed old new left entries
  followed_begins old new change left entries same after was key is =
      let found = was key is in
      (found.0, by found.0 (value_at left key) (after key ∙ ap (λ (c : Change). value_after (value_at c key) (value_at old key)) (sym same)) found.1, found.2)
    where
      by : (time : Option ℤ) (o : Option (Option (List ℕ))) → value_at new key ≡ value_after o (value_at old key) → IsTimeIf shape query key is (value_at old key) time
          → IsTimeIf shape query key is (on_the_way o (value_at old key) (value_at new key)) time
      by time None same has_time = subst (λ v. IsTimeIf shape query key is v time) (sym same) has_time
      by time (Some said) same has_time = has_time

  pub followed_on : (old new : State) (change left rest : Change) (bytes : List ℕ) (said was_value is_value : Option (List ℕ)) (before after : List Timed) (time next : Option ℤ)
      → left ≡ (bytes, said) ∷ rest → IsRest change left → IsAfter change old new → was_value ≡ value_at old bytes → is_value ≡ said
      → ((is : IsKeyBy shape query bytes) → IsTimeIf shape query bytes is was_value time) → ((is : IsKeyBy shape query bytes) → IsTimeIf shape query bytes is is_value next) → TurnsAt bytes time next before after
      → AreFollowed old new left before → AreFollowed old new rest after
  followed_on old new change left rest bytes said was_value is_value before after time next step of leads was_is is_is has_time has_next turns was key is =
      by_case (is_at (by_bytes key) bytes)
      (λ at. subst (λ k. (is : IsKeyBy shape query k) → (time : Option ℤ) × IsTimeIf shape query k is (on_the_way (value_at rest k) (value_at old k) (value_at new k)) time × StandsAt after k time) (sym (one_key key bytes at)) own is)
      there
    where
      behind : Ascends ((bytes, said) ∷ rest)
      behind = subst (Ascends {X = Option (List ℕ)}) step of.ascend

      said_is : value_at new bytes ≡ said
      said_is = leads bytes ∙ ap (λ o. value_after o (value_at old bytes)) (less_rest change left rest bytes said step of).1

      left_is : value_at left bytes ≡ Some said
      left_is = ap (λ (s : Change). value_at s bytes) step ∙ first_at bytes said rest bytes (is_itself bytes)

      own : (is : IsKeyBy shape query bytes) → (time : Option ℤ) × IsTimeIf shape query bytes is (on_the_way (value_at rest bytes) (value_at old bytes) (value_at new bytes)) time × StandsAt after bytes time
      own is =
          let found = was bytes is in
          let stood : IsTimeIf shape query bytes is (value_at old bytes) found.0 = subst (λ o. IsTimeIf shape query bytes is (on_the_way o (value_at old bytes) (value_at new bytes)) found.0) left_is found.1 in
          let same : found.0 ≡ time = once shape query bytes is (value_at old bytes) found.0 time stood (subst (λ v. IsTimeIf shape query bytes is v time) was_is (has_time is)) in (
            next,
            subst (λ o. IsTimeIf shape query bytes is (on_the_way o (value_at old bytes) (value_at new bytes)) next) (sym (none_behind bytes said rest behind))
                (subst (λ v. IsTimeIf shape query bytes is v next) (is_is ∙ sym said_is) (has_next is)),
            turns.here (subst (StandsAt before bytes) same found.2),
          )

      there : is_at (by_bytes key) bytes ≡ false → (time : Option ℤ) × IsTimeIf shape query key is (on_the_way (value_at rest key) (value_at old key) (value_at new key)) time × StandsAt after key time
      there apart =
          let found = was key is in
          let same : value_at left key ≡ value_at rest key = ap (λ (s : Change). value_at s key) step ∙ others_at bytes said rest key apart in (
            found.0,
            subst (λ o. IsTimeIf shape query key is (on_the_way o (value_at old key) (value_at new key)) found.0) same found.1,
            λ t. turns.others key (other_way key bytes apart) t ∙ found.2 t,
          )

  pub followed_all : (old new : State) (left : Change) (entries : List Timed) → left ≡ [] → AreFollowed old new left entries → AreTimed shape query new entries
  followed_all old new left entries none was key is =
      let found = was key is in
      (found.0, subst (λ (c : Change). IsTimeIf shape query key is (on_the_way (value_at c key) (value_at old key) (value_at new key)) found.0) none found.1, found.2)
