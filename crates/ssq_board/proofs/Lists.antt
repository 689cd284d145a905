-- Lists of places, and of ends.
use Rattle.std.proofs.Common.{◌≡◌, ◌≢◌, ◌⊎◌, ◌<◌, ◌&&◌, ◌||◌, nat_lt, ℕ, zero, suc, Bool, true, false, true≢false, List, [], ◌∷◌, map, length, set, replicate, Option, None, if◌then◌else◌, sym, refl, ap, ◌∙◌, inl, inr, arith, le-ltb}
use Rattle.std.specs.List.{list_all}
use Rattle.std.proofs.lemmas.Bool.{or_parts}
use mathlib.Core.Option.{some, some-injective, some-ne-none}
use lib.ListN.{get_elem?}
use Rattle.ssq_core.specs.Course.{Ends}
use Rattle.ssq_board.specs.declared.front.Place.{Place}
use Rattle.ssq_board.specs.declared.front.Place.TheVariants as place
use Rattle.ssq_board.specs.Core.{within, next_end, next_ends, is_behind, has_line, has_line_at, dealt}

module _ {A : Type 0} where
  pub put_here : (l : List A) (i : ℕ) (a b : A) → get_elem? l i ≡ some a → get_elem? (set l i b) i ≡ some b
  put_here [] i a b e = absurd (some-ne-none a (sym e))
  put_here (x ∷ xs) zero a b e = refl
  put_here (x ∷ xs) (suc i) a b e = put_here xs i a b e

  pub put_else : (l : List A) (i j : ℕ) (b : A) → j ≢ i → get_elem? (set l i b) j ≡ get_elem? l j
  put_else [] i j b n = refl
  put_else (x ∷ xs) zero zero b n = absurd (n refl)
  put_else (x ∷ xs) zero (suc j) b n = refl
  put_else (x ∷ xs) (suc i) zero b n = refl
  put_else (x ∷ xs) (suc i) (suc j) b n = put_else xs i j b (λ e. n (ap suc e))

  pub set_length : (l : List A) (t : ℕ) (a : A) → length (set l t a) ≡ length l
  set_length [] t a = refl
  set_length (x ∷ xs) zero a = refl
  set_length (x ∷ xs) (suc t) a = omega (arith, set_length xs t a)

  pub at_length : (l : List A) (t : ℕ) (a : A) → get_elem? l t ≡ some a → t < length l
  at_length [] t a e = absurd (some-ne-none a (sym e))
  at_length (x ∷ xs) zero a e = omega arith
  at_length (x ∷ xs) (suc t) a e = omega (arith, at_length xs t a e)

  pub there_at : (l : List A) (t : ℕ) → t < length l → (a : A) × (get_elem? l t ≡ some a)
  there_at [] t less = absurd (omega (arith, less))
  there_at (x ∷ xs) zero less = (x, refl)
  there_at (x ∷ xs) (suc t) less = there_at xs t (omega (arith, less))

  pub replicate_length : (n : ℕ) (a : A) → length (replicate n a) ≡ n
  replicate_length zero a = refl
  replicate_length (suc n) a = omega (arith, replicate_length n a)

  pub replicate_at : (n t : ℕ) (a p : A) → get_elem? (replicate n a) t ≡ some p → p ≡ a
  replicate_at zero t a p e = absurd (some-ne-none p (sym e))
  replicate_at (suc n) zero a p e = sym (some-injective a p e)
  replicate_at (suc n) (suc t) a p e = replicate_at n t a p e

  pub one_at : (a p : A) (t : ℕ) → get_elem? (a ∷ []) t ≡ some p → (t ≡ 0) × (p ≡ a)
  one_at a p zero e = (refl, sym (some-injective a p e))
  one_at a p (suc t) e = absurd (some-ne-none p (sym e))

  pub all_fine : (f : A → Bool) (l : List A) (t : ℕ) (a : A) → list_all f l ≡ true → get_elem? l t ≡ some a → f a ≡ true
  all_fine f [] t a all e = absurd (some-ne-none a (sym e))
  all_fine f (x ∷ xs) zero a all e = ap f (sym (some-injective x a e)) ∙ both (f x) (list_all f xs) all
    where
      both : (p q : Bool) → (p && q) ≡ true → p ≡ true
      both true q h = refl
      both false q h = h
  all_fine f (x ∷ xs) (suc t) a all e = all_fine f xs t a (both (f x) (list_all f xs) all) e
    where
      both : (p q : Bool) → (p && q) ≡ true → q ≡ true
      both true q h = h
      both false q h = absurd (true≢false (sym h))

module _ {A B : Type 0} where
  pub map_length : (f : A → B) (l : List A) → length (map f l) ≡ length l
  map_length f [] = refl
  map_length f (x ∷ xs) = omega (arith, map_length f xs)

  pub const_at : (b p : B) (l : List A) (t : ℕ) → get_elem? (map (λ _. b) l) t ≡ some p → p ≡ b
  const_at b p [] t e = absurd (some-ne-none p (sym e))
  const_at b p (x ∷ xs) zero e = sym (some-injective b p e)
  const_at b p (x ∷ xs) (suc t) e = const_at b p xs t e

pub dealt_length : (fs ts : Ends) → length (dealt fs ts) ≡ length fs
dealt_length [] ts = refl
dealt_length (f ∷ fs) [] = omega (arith, dealt_length fs [])
dealt_length (f ∷ fs) (t ∷ ts) = omega (arith, dealt_length fs ts)

pub next_length : (cap : Option ℕ) (es : Ends) (ss : List ℕ) → length (next_ends cap es ss) ≡ length es
next_length cap [] ss = refl
next_length cap (e ∷ es) [] = omega (arith, next_length cap es [])
next_length cap (e ∷ es) (s ∷ ss) = omega (arith, next_length cap es ss)

-- a part that has lines is one of the parts
pub line_below : (fs ts : Ends) (i : ℕ) → has_line_at fs ts i ≡ true → i < length fs
line_below [] ts i h = absurd (true≢false (sym h))
line_below (f ∷ fs) [] i h = absurd (true≢false (sym h))
line_below (f ∷ fs) (t ∷ ts) zero h = omega arith
line_below (f ∷ fs) (t ∷ ts) (suc i) h = omega (arith, line_below fs ts i h)

-- what is dealt to a part: a task where it has lines
pub dealt_at : (fs ts : Ends) (i : ℕ) (p : Place) → get_elem? (dealt fs ts) i ≡ some p → ((p ≡ place.Waits) × (has_line_at fs ts i ≡ true)) ⊎ ((p ≡ place.Rests) × (has_line_at fs ts i ≡ false))
dealt_at [] ts i p e = absurd (some-ne-none p (sym e))
dealt_at (f ∷ fs) [] zero p e = inr (sym (some-injective place.Rests p e), refl)
dealt_at (f ∷ fs) [] (suc i) p e = elim (dealt_at fs [] i p e) [ inl x ↦ absurd (true≢false (sym x.1 ∙ none fs i)) | inr x ↦ inr (x.0, refl) ]
  where
    none : (fs : Ends) (i : ℕ) → has_line_at fs [] i ≡ false
    none [] i = refl
    none (f ∷ fs) i = refl
dealt_at (f ∷ fs) (t ∷ ts) zero p e = by (nat_lt f.end t.end) refl
  where
    by : (b : Bool) → nat_lt f.end t.end ≡ b → ((p ≡ place.Waits) × (nat_lt f.end t.end ≡ true)) ⊎ ((p ≡ place.Rests) × (nat_lt f.end t.end ≡ false))
    by true is = inl (sym (some-injective _ p e) ∙ ap (λ (b : Bool). if b then place.Waits else place.Rests) is, is)
    by false is = inr (sym (some-injective _ p e) ∙ ap (λ (b : Bool). if b then place.Waits else place.Rests) is, is)
dealt_at (f ∷ fs) (t ∷ ts) (suc i) p e = dealt_at fs ts i p e

-- a task that is back waits no more
pub back_no_more : place.Back None ≡ place.Waits → ⊥
back_no_more e = cc

-- where nothing more was found, the next cut has no lines
next_same : (cap : Option ℕ) (e s : ℕ) → nat_lt e s ≡ false → nat_lt e (next_end cap e s) ≡ false
next_same cap e s h = ap (λ (b : Bool). nat_lt e (if b then within cap e s else e)) h ∙ le-ltb e e (omega arith)

no_end : (es : Ends) → has_line es es ≡ false
no_end [] = refl
no_end (e ∷ es) = (λ i. le-ltb e.end e.end (omega arith) i || no_end es i)

pub not_behind : (cap : Option ℕ) (es : Ends) (ss : List ℕ) → is_behind es ss ≡ false → has_line es (next_ends cap es ss) ≡ false
not_behind cap [] ss h = refl
not_behind cap (e ∷ es) [] h = (λ i. le-ltb e.end e.end (omega arith) i || none es i)
  where
    none : (es : Ends) → has_line es (next_ends cap es []) ≡ false
    none [] = refl
    none (e ∷ es) = (λ i. le-ltb e.end e.end (omega arith) i || none es i)
not_behind cap (e ∷ es) (s ∷ ss) h = let b = or_parts (nat_lt e.end s) (is_behind es ss) h in (λ i. next_same cap e.end s b.0 i || not_behind cap es ss b.1 i)
