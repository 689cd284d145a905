-- Loops that may take as many turns as there are tokens look no further than a reader without turns.
use Rattle.std.proofs.Common.{◌≡◌, ℕ, zero, suc, ◌<◌, ◌≤◌, Bool, true, false, sym, ap, ◌∙◌, subst, arith, List, [], ◌∷◌, ◌++◌, drop, length, refl, Some, None, Ok, Err, length-append}
use Rattle.std.specs.Prelude.{if◌then◌else◌}
use Rattle.ssq_ast.specs.declared.query.Stream.{Stream}
use Rattle.ssq_lex.specs.declared.keyword.Keyword.TheVariants as key
use Rattle.ssq_lex.specs.declared.symbol.Symbol.TheVariants as mark
use Rattle.ssq_lex.specs.Lexeme.{Lexed}
use Rattle.ssq_parse.specs.Queries.{list_then, list_from, list_at, stream_at, streams_then, streams_from, streams_at}
use Rattle.ssq_parse.specs.Reading.{Ahead, Read, ◌>>=◌, expected, seen, is_keyword, is_symbol}
use Rattle.ssq_parse.proofs.Local.{Local, Told, Seen, first_same, told_as, behind_told, then_told, look_told, pure}

shorter : {A : Type 0} (r : Ahead → Read A) (tokens rest : Ahead) (answer : Ahead → Read A) → Seen r tokens rest answer → length rest ≤ length tokens
shorter r tokens rest answer s =
    let all : length tokens ≡ length (s.taken ++ rest) = ap length s.whole in
    let parts = length-append s.taken rest in
    omega arith

-- ---- any loop

module _ {X A : Type 0} (loop : ℕ → X → Ahead → Read A) (step : (X → Ahead → Read A) → X → Ahead → Read A)
    (turn : (n : ℕ) (x : X) (ts : Ahead) → loop (suc n) x ts ≡ step (loop n) x ts)
    (done : (x : X) (more : X → Ahead → Read A) → loop zero x [] ≡ step more x [])
    (alike : (more other : X → Ahead → Read A) (x : X) (ts : Ahead)
    → ((y : X) (us : Ahead) → length us < length ts → more y us ≡ other y us) → step more x ts ≡ step other x ts)
    (steps : (more : X → Ahead → Read A) (x : X) (ts : Ahead)
    → ((y : X) (us : Ahead) → length us < length ts → Told (more y) us (more y us)) → Told (step more x) ts (step more x ts)) where
  -- more turns than tokens change nothing
  enough : (n m : ℕ) (x : X) (ts : Ahead) → length ts ≤ n → length ts ≤ m → loop n x ts ≡ loop m x ts
  enough zero zero x ts low high = refl
  enough zero (suc m) x [] low high = done x (loop m) ∙ sym (turn m x [])
  enough zero (suc m) x (t ∷ ts) low high = absurd (omega arith)
  enough (suc n) zero x [] low high = turn n x [] ∙ sym (done x (loop n))
  enough (suc n) zero x (t ∷ ts) low high = absurd (omega arith)
  enough (suc n) (suc m) x ts low high =
      turn n x ts ∙ alike (loop n) (loop m) x ts (λ y us less. enough n m y us (omega arith) (omega arith)) ∙ sym (turn m x ts)

  abbrev pub whole : X → Ahead → Read A
  whole x ts = loop (length ts) x ts

  whole_turn : (x : X) (ts : Ahead) → whole x ts ≡ step whole x ts
  whole_turn x [] = done x whole
  whole_turn x (t ∷ ts) = turn (length ts) x (t ∷ ts) ∙ alike (loop (length ts)) whole x (t ∷ ts) (λ y us less. enough (length ts) (length us) y us (omega arith) (omega arith))

  again : (x : X) (ts : Ahead) → ((y : X) (us : Ahead) → length us < length ts → Told (whole y) us (whole y us)) → Told (whole x) ts (whole x ts)
  again x ts more =
      let P : Read A → Type 0 = λ read. Told (whole x) ts read in
      subst P (sym (whole_turn x ts)) (told_as (step whole x) (whole x) ts (step whole x ts) (λ us same. whole_turn x us) (steps whole x ts more))

  told_up_to : (n : ℕ) (x : X) (ts : Ahead) → length ts ≤ n → Told (whole x) ts (whole x ts)
  told_up_to zero x ts low = again x ts (λ y us less. absurd (omega arith))
  told_up_to (suc n) x ts low = again x ts (λ y us less. told_up_to n y us (omega arith))

  pub loop_local : (x : X) → Local (λ tokens. loop (length tokens) x tokens)
  loop_local x = record { told = λ ts. told_up_to (length ts) x ts (omega arith) }

-- ---- lists with commas

module _ {A : Type 0} (part : Ahead → Read A) (l : Local part) (none : part [] ≡ expected []) where
  abbrev then_more : (List A → Ahead → Read (List A)) → List A → A × Ahead → Read (List A)
  then_more more found next = list_then more (found ++ next.0 ∷ []) (seen (is_symbol mark.Comma) next.1) next.1

  abbrev list_step : (List A → Ahead → Read (List A)) → List A → Ahead → Read (List A)
  list_step more found tokens = part tokens >>= then_more more found

  list_turn : (n : ℕ) (found : List A) (ts : Ahead) → list_from part (suc n) found ts ≡ list_step (list_from part n) found ts
  unfolding list_from
  list_turn n found ts = refl

  list_done : (found : List A) (more : List A → Ahead → Read (List A)) → list_from part zero found [] ≡ list_step more found []
  unfolding list_from
  list_done found more = ap (λ read. read >>= then_more more found) (sym none)

  comma_alike : (more other : List A → Ahead → Read (List A)) (found : List A) (c : Lexed) (us : Ahead) (b : Bool) → more found us ≡ other found us
      → list_then more found (if b then Some c.start else None) (c ∷ us) ≡ list_then other found (if b then Some c.start else None) (c ∷ us)
  comma_alike more other found c us false same = refl
  comma_alike more other found c us true same = same

  rest_alike : (more other : List A → Ahead → Read (List A)) (found : List A) (n : ℕ) (rest : Ahead) → length rest ≤ n
      → ((y : List A) (us : Ahead) → length us < n → more y us ≡ other y us)
      → list_then more found (seen (is_symbol mark.Comma) rest) rest ≡ list_then other found (seen (is_symbol mark.Comma) rest) rest
  rest_alike more other found n [] low same = refl
  rest_alike more other found n (c ∷ us) low same = comma_alike more other found c us (is_symbol mark.Comma c.said) (same found us (omega arith))

  read_alike : (more other : List A → Ahead → Read (List A)) (found : List A) (ts : Ahead) (read : Read A) → Told part ts read
      → ((y : List A) (us : Ahead) → length us < length ts → more y us ≡ other y us) → (read >>= then_more more found) ≡ (read >>= then_more other found)
  read_alike more other found ts (Ok next) told same = rest_alike more other (found ++ next.0 ∷ []) (length ts) next.1 (shorter part ts next.1 _ told) same
  read_alike more other found ts (Err refusal) told same = refl

  comma_told : (more : List A → Ahead → Read (List A)) (found : List A) (c : Lexed) (us : Ahead) (b : Bool) → Told (more found) us (more found us)
      → Told (list_then more found (if b then Some c.start else None)) (c ∷ us) (list_then more found (if b then Some c.start else None) (c ∷ us))
  comma_told more found c us false told = (pure found).told (c ∷ us)
  comma_told more found c us true told = behind_told (more found) (λ vs. more found (drop 1 vs)) c us (more found us) (λ vs. refl) told

  rest_told : (more : List A → Ahead → Read (List A)) (found : List A) (n : ℕ) (rest : Ahead) → length rest ≤ n
      → ((y : List A) (us : Ahead) → length us < n → Told (more y) us (more y us))
      → Told (list_then more found (seen (is_symbol mark.Comma) rest)) rest (list_then more found (seen (is_symbol mark.Comma) rest) rest)
  rest_told more found n [] low told = (pure found).told []
  rest_told more found n (c ∷ us) low told = comma_told more found c us (is_symbol mark.Comma c.said) (told found us (omega arith))

  list_steps : (more : List A → Ahead → Read (List A)) (found : List A) (ts : Ahead)
      → ((y : List A) (us : Ahead) → length us < length ts → Told (more y) us (more y us)) → Told (list_step more found) ts (list_step more found ts)
  list_steps more found ts told =
      then_told part (then_more more found) ts (part ts) (l.told ts) (λ next s.
      look_told (seen (is_symbol mark.Comma)) (first_same (λ token. if is_symbol mark.Comma token.said then Some token.start else None))
      (list_then more (found ++ next.0 ∷ [])) next.1
      (rest_told more (found ++ next.0 ∷ []) (length ts) next.1 (shorter part ts next.1 _ s) told))

  pub list_local : Local (list_at part)
  unfolding list_at
  list_local = loop_local (list_from part) list_step list_turn list_done (λ more other found ts. read_alike more other found ts (part ts) (l.told ts)) list_steps []

-- ---- streams

module _ (l : (at : ℕ) → Local (stream_at at)) where
  abbrev streams_step : (List Stream → Ahead → Read (List Stream)) → List Stream → Ahead → Read (List Stream)
  streams_step more found tokens = streams_then more found (seen (is_keyword key.Create) tokens) tokens

  streams_turn : (n : ℕ) (found : List Stream) (ts : Ahead) → streams_from (suc n) found ts ≡ streams_step (streams_from n) found ts
  unfolding streams_from
  streams_turn n found ts = refl

  streams_done : (found : List Stream) (more : List Stream → Ahead → Read (List Stream)) → streams_from zero found [] ≡ streams_step more found []
  unfolding streams_from
  streams_done found more = refl

  abbrev stream_then : (List Stream → Ahead → Read (List Stream)) → List Stream → Stream × Ahead → Read (List Stream)
  stream_then more found next = more (found ++ next.0 ∷ []) next.1

  stream_alike : (more other : List Stream → Ahead → Read (List Stream)) (found : List Stream) (at : ℕ) (us : Ahead) (read : Read Stream) → Told (stream_at at) us read
      → ((y : List Stream) (vs : Ahead) → length vs ≤ length us → more y vs ≡ other y vs) → (read >>= stream_then more found) ≡ (read >>= stream_then other found)
  stream_alike more other found at us (Ok next) told same = same (found ++ next.0 ∷ []) next.1 (shorter (stream_at at) us next.1 _ told)
  stream_alike more other found at us (Err refusal) told same = refl

  create_alike : (more other : List Stream → Ahead → Read (List Stream)) (found : List Stream) (c : Lexed) (us : Ahead) (b : Bool)
      → ((y : List Stream) (vs : Ahead) → length vs ≤ length us → more y vs ≡ other y vs)
      → streams_then more found (if b then Some c.start else None) (c ∷ us) ≡ streams_then other found (if b then Some c.start else None) (c ∷ us)
  create_alike more other found c us false same = refl
  create_alike more other found c us true same = stream_alike more other found c.start us (stream_at c.start us) ((l c.start).told us) same

  streams_alike : (more other : List Stream → Ahead → Read (List Stream)) (found : List Stream) (ts : Ahead)
      → ((y : List Stream) (us : Ahead) → length us < length ts → more y us ≡ other y us) → streams_step more found ts ≡ streams_step other found ts
  streams_alike more other found [] same = refl
  streams_alike more other found (c ∷ us) same = create_alike more other found c us (is_keyword key.Create c.said) (λ y vs low. same y vs (omega arith))

  create_told : (more : List Stream → Ahead → Read (List Stream)) (found : List Stream) (c : Lexed) (us : Ahead) (b : Bool)
      → ((y : List Stream) (vs : Ahead) → length vs ≤ length us → Told (more y) vs (more y vs))
      → Told (streams_then more found (if b then Some c.start else None)) (c ∷ us) (streams_then more found (if b then Some c.start else None) (c ∷ us))
  create_told more found c us false told = (pure found).told (c ∷ us)
  create_told more found c us true told =
      behind_told (λ vs. stream_at c.start vs >>= stream_then more found) (λ vs. stream_at c.start (drop 1 vs) >>= stream_then more found) c us (stream_at c.start us >>= stream_then more found) (λ vs. refl)
      (then_told (stream_at c.start) (stream_then more found) us (stream_at c.start us) ((l c.start).told us)
      (λ next s. told (found ++ next.0 ∷ []) next.1 (shorter (stream_at c.start) us next.1 _ s)))

  streams_told : (more : List Stream → Ahead → Read (List Stream)) (found : List Stream) (ts : Ahead)
      → ((y : List Stream) (us : Ahead) → length us < length ts → Told (more y) us (more y us))
      → Told (streams_then more found (seen (is_keyword key.Create) ts)) ts (streams_step more found ts)
  streams_told more found [] told = (pure found).told []
  streams_told more found (c ∷ us) told = create_told more found c us (is_keyword key.Create c.said) (λ y vs low. told y vs (omega arith))

  streams_steps : (more : List Stream → Ahead → Read (List Stream)) (found : List Stream) (ts : Ahead)
      → ((y : List Stream) (us : Ahead) → length us < length ts → Told (more y) us (more y us)) → Told (streams_step more found) ts (streams_step more found ts)
  streams_steps more found ts told =
      look_told (seen (is_keyword key.Create)) (first_same (λ token. if is_keyword key.Create token.said then Some token.start else None))
      (streams_then more found) ts (streams_told more found ts told)

  pub streams_local : Local streams_at
  unfolding streams_at
  streams_local = loop_local streams_from streams_step streams_turn streams_done streams_alike streams_steps []
