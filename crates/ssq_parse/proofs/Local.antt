-- A reader looks no further than one token after what it takes.
use Rattle.std.proofs.Common.{◌≡◌, ℕ, sym, ap, subst, ◌∙◌, [], ◌∷◌, ◌++◌, drop, refl, Option, Some, None, Ok, Err, append_assoc}
use Rattle.std.proofs.lemmas.List.{map-append}
use Rattle.ssq_ast.specs.Expression.{Words}
use Rattle.ssq_lex.specs.Lexeme.{Lexeme, Lexed, quoted}
use Rattle.ssq_parse.specs.declared.fault.ParseCause.{ParseCause}
use Rattle.ssq_parse.specs.declared.fault.ParseCause.TheVariants as cause
use Rattle.ssq_parse.specs.Faults.{next_word, last_word, IsBadNext}
use Rattle.ssq_parse.specs.Reading.{Ahead, Made, Read, Refusal, ◌>>=◌, before, place, expected, first, needed}
use Rattle.ssq_parse.specs.Written.{says}

-- the next token
abbrev pub next : Ahead → Option Lexed
next tokens = first Some tokens

-- the answer stays while the tokens that were taken and the next one stay
pub record Seen {A : Type 0} (reader : Ahead → Read A) (tokens rest : Ahead) (answer : Ahead → Read A) : Type 0 where
  pub taken : Ahead
  pub whole : tokens ≡ taken ++ rest
  pub same : (others : Ahead) → next rest ≡ next others → reader (taken ++ others) ≡ answer others

-- a text that is refused is not what it has to be after the word in front of it
abbrev pub IfBad : ParseCause → Ahead → Ahead → Type 0
IfBad cause.BadText taken rest = IsBadNext (last_word (says taken)) (next_word (says rest))
IfBad other taken rest = Unit {0}

-- the next token is refused where it stands
pub record Refuses {A : Type 0} (reader : Ahead → Read A) (tokens : Ahead) (refusal : Refusal) : Type 0 where
  pub rest : Ahead
  pub at : place rest ≡ refusal.at
  pub seen : Seen reader tokens rest (λ others. Err refusal)
  pub bad : IfBad refusal.cause seen.taken rest

-- of a token that is missing, of a text, or of a depth where no token is left; no token has another fault but to be too deep
abbrev pub IfMissing : ParseCause → Option ℕ → Type 0 → Type 0
IfMissing cause.Expected at P = P
IfMissing cause.BadText at P = P
IfMissing cause.TooDeep None P = P
IfMissing cause.TooDeep (Some at) P = Unit {0}
IfMissing other at P = ⊥

abbrev pub Told : {A : Type 0} → (Ahead → Read A) → Ahead → Read A → Type 0
Told reader tokens (Ok found) = Seen reader tokens found.1 (λ others. Ok (found.0, others))
Told reader tokens (Err refusal) = IfMissing refusal.cause refusal.at (Refuses reader tokens refusal)

pub record Local {A : Type 0} (reader : Ahead → Read A) : Type 0 where
  pub told : (tokens : Ahead) → Told reader tokens (reader tokens)

pub if_missing : {P Q : Type 0} (c : ParseCause) (at : Option ℕ) → (P → Q) → IfMissing c at P → IfMissing c at Q
if_missing cause.Expected at more p = more p
if_missing cause.BadText at more p = more p
if_missing cause.TooDeep None more p = more p
if_missing cause.TooDeep (Some at) more p = tt
if_missing other at more p = absurd p

-- ---- more words in front

last_more : (us : Words) (w : Lexeme) (ws : Words) → last_word (us ++ (w ∷ ws)) ≡ last_word (w ∷ ws)
last_more [] w ws = refl
last_more (u ∷ []) w ws = refl
last_more (u ∷ v ∷ us) w ws = last_more (v ∷ us) w ws

bad_words : (us ws : Words) (next : Option Lexeme) → IsBadNext (last_word ws) next → IsBadNext (last_word (us ++ ws)) next
bad_words us [] next bad = none_bad next bad
  where
    none_bad : (next : Option Lexeme) → IsBadNext None next → IsBadNext (last_word (us ++ [])) next
    none_bad None bad = absurd bad
    none_bad (Some (quoted text)) bad = absurd bad
    none_bad (Some other) bad = absurd bad
bad_words us (w ∷ ws) next bad = subst (λ last. IsBadNext last next) (sym (last_more us w ws)) bad

bad_more : (c : ParseCause) (us taken rest : Ahead) → IfBad c taken rest → IfBad c (us ++ taken) rest
bad_more cause.BadText us taken rest bad =
    subst (λ words. IsBadNext (last_word words) (next_word (says rest))) (sym (map-append (λ token. token.said) us taken)) (bad_words (says us) (says taken) (next_word (says rest)) bad)
bad_more other us taken rest bad = tt

-- ---- the next token

next_same : (taken rest others : Ahead) → next rest ≡ next others → next (taken ++ rest) ≡ next (taken ++ others)
next_same [] rest others is = is
next_same (t ∷ ts) rest others is = refl

from_next : {Y : Type 0} → (Lexed → Option Y) → Option Lexed → Option Y
from_next get None = None
from_next get (Some t) = get t

first_from : {Y : Type 0} (get : Lexed → Option Y) (tokens : Ahead) → first get tokens ≡ from_next get (next tokens)
unfolding from_next
first_from get [] = refl
first_from get (t ∷ ts) = refl

pub first_same : {Y : Type 0} (get : Lexed → Option Y) (us vs : Ahead) → next us ≡ next vs → first get us ≡ first get vs
first_same get us vs is = first_from get us ∙ ap (from_next get) is ∙ sym (first_from get vs)

place_first : (tokens : Ahead) → place tokens ≡ first (λ token. Some token.start) tokens
place_first [] = refl
place_first (t ∷ ts) = refl

pub place_same : (us vs : Ahead) → next us ≡ next vs → place us ≡ place vs
place_same us vs is = place_first us ∙ first_same (λ token. Some token.start) us vs is ∙ sym (place_first vs)

-- ---- another reader that answers the same

abbrev seen_as : {A : Type 0} (r s : Ahead → Read A) (tokens rest : Ahead) (answer : Ahead → Read A)
    → ((ts : Ahead) → next tokens ≡ next ts → s ts ≡ r ts) → Seen r tokens rest answer → Seen s tokens rest answer
seen_as r s tokens rest answer as_r seen = record {
  taken = seen.taken;
  whole = seen.whole;
  same = λ others is. as_r (seen.taken ++ others) (ap next seen.whole ∙ next_same seen.taken rest others is) ∙ seen.same others is;
}

pub told_as : {A : Type 0} (r s : Ahead → Read A) (tokens : Ahead) (read : Read A)
    → ((ts : Ahead) → next tokens ≡ next ts → s ts ≡ r ts) → Told r tokens read → Told s tokens read
told_as r s tokens (Ok found) as_r told = seen_as r s tokens found.1 (λ others. Ok (found.0, others)) as_r told
told_as r s tokens (Err refusal) as_r told =
    if_missing refusal.cause refusal.at (λ u. record { rest = u.rest; at = u.at; seen = seen_as r s tokens u.rest (λ others. Err refusal) as_r u.seen; bad = u.bad }) told

-- ---- readers that take no token, or one

pub pure : {A : Type 0} (x : A) → Local (λ tokens. Ok (x, tokens))
pure x = record { told = λ tokens. record { taken = []; whole = refl; same = λ others is. refl } }

pub nothing : {A : Type 0} → Local {A = A} expected
nothing = record {
  told = λ tokens. record {
    rest = tokens;
    at = refl;
    seen = record { taken = []; whole = refl; same = λ others is. ap (λ at. Err (record { at = at; cause = cause.Expected })) (sym (place_same tokens others is)) };
    bad = tt;
  };
}

abbrev pub Unexpected : {A : Type 0} → Made A → Type 0
Unexpected (Ok x) = Unit {0}
Unexpected (Err refusal) = IfMissing refusal.cause refusal.at ⊥

pub made_local : {A : Type 0} (made : Made A) → Unexpected made → Local (before made)
made_local (Ok x) never = pure x
made_local (Err refusal) never = record { told = λ tokens. if_missing refusal.cause refusal.at (λ no. absurd no) never }

-- the same reader after a token
abbrev behind_seen : {A : Type 0} (r s : Ahead → Read A) (t : Lexed) (ts rest : Ahead) (answer : Ahead → Read A)
    → ((us : Ahead) → s (t ∷ us) ≡ r us) → Seen r ts rest answer → Seen s (t ∷ ts) rest answer
behind_seen r s t ts rest answer as_r seen = record {
  taken = t ∷ seen.taken;
  whole = ap (λ us. t ∷ us) seen.whole;
  same = λ others is. as_r (seen.taken ++ others) ∙ seen.same others is;
}

pub behind_told : {A : Type 0} (r s : Ahead → Read A) (t : Lexed) (ts : Ahead) (read : Read A)
    → ((us : Ahead) → s (t ∷ us) ≡ r us) → Told r ts read → Told s (t ∷ ts) read
behind_told r s t ts (Ok found) as_r told = behind_seen r s t ts found.1 (λ others. Ok (found.0, others)) as_r told
behind_told r s t ts (Err refusal) as_r told =
    if_missing refusal.cause refusal.at (λ u. record { rest = u.rest; at = u.at; seen = behind_seen r s t ts u.rest (λ others. Err refusal) as_r u.seen; bad = bad_more refusal.cause (t ∷ []) u.seen.taken u.rest u.bad }) told

skip_empty : {A : Type 0} (r : Ahead → Read A) (ts : Ahead) → next [] ≡ next ts → r (drop 1 ts) ≡ r ts
skip_empty r [] is = refl
skip_empty r (t ∷ ts) is = absurd (cc)

pub skip_told : {A : Type 0} (r : Ahead → Read A) → Local r → (tokens : Ahead) → Told (λ ts. r (drop 1 ts)) tokens (r (drop 1 tokens))
skip_told r l [] = told_as r (λ ts. r (drop 1 ts)) [] (r []) (skip_empty r) (l.told [])
skip_told r l (t ∷ ts) = behind_told r (λ us. r (drop 1 us)) t ts (r ts) (λ us. refl) (l.told ts)

pub skip : {A : Type 0} {r : Ahead → Read A} → Local r → Local (λ tokens. r (drop 1 tokens))
skip {r = r} l = record { told = skip_told r l }

-- ---- one reader after another

module _ {A B : Type 0} (r : Ahead → Read A) (f : A × Ahead → Read B) (tokens : Ahead) where
  abbrev joined : (found : A × Ahead) → Seen r tokens found.1 (λ others. Ok (found.0, others)) → (rest : Ahead) (answer : Ahead → Read B)
      → Seen (λ ts. f (found.0, ts)) found.1 rest answer → Seen (λ ts. r ts >>= f) tokens rest answer
  joined found s rest answer t = record {
    taken = s.taken ++ t.taken;
    whole = s.whole ∙ ap (λ u. s.taken ++ u) t.whole ∙ sym (append_assoc s.taken t.taken rest);
    same = λ others is.
        ap (λ u. r u >>= f) (append_assoc s.taken t.taken others)
        ∙ ap (λ read. read >>= f) (s.same (t.taken ++ others) (ap next t.whole ∙ next_same t.taken rest others is))
        ∙ t.same others is;
  }

  more_told : (found : A × Ahead) → Seen r tokens found.1 (λ others. Ok (found.0, others)) → (read : Read B)
      → Told (λ ts. f (found.0, ts)) found.1 read → Told (λ ts. r ts >>= f) tokens read
  more_told found s (Ok y) told = joined found s y.1 (λ others. Ok (y.0, others)) told
  more_told found s (Err refusal) told =
      if_missing refusal.cause refusal.at (λ u. record { rest = u.rest; at = u.at; seen = joined found s u.rest (λ others. Err refusal) u.seen; bad = bad_more refusal.cause s.taken u.seen.taken u.rest u.bad }) told

  pub then_told : (read : Read A) → Told r tokens read
      → ((found : A × Ahead) → Seen r tokens found.1 (λ others. Ok (found.0, others)) → Told (λ ts. f (found.0, ts)) found.1 (f found))
      → Told (λ ts. r ts >>= f) tokens (read >>= f)
  then_told (Ok found) told more = more_told found told (f found) (more found told)
  then_told (Err refusal) told more =
      if_missing refusal.cause refusal.at (λ u. record {
        rest = u.rest;
        at = u.at;
        seen = record { taken = u.seen.taken; whole = u.seen.whole; same = λ others is. ap (λ read. read >>= f) (u.seen.same others is) };
        bad = u.bad;
      }) told

pub followed : {A B : Type 0} {r : Ahead → Read A} {f : A → Ahead → Read B} → Local r → ((x : A) → Local (f x))
    → Local (λ tokens. r tokens >>= (λ found. f found.0 found.1))
followed {r = r} {f = f} l more = record { told = λ tokens. then_told r (λ found. f found.0 found.1) tokens (r tokens) (l.told tokens) (λ found s. (more found.0).told found.1) }

-- nothing stands after what is missing
pub nothing_then : {A B : Type 0} (f : A × Ahead → Read B) → Local (λ tokens. expected tokens >>= f)
nothing_then f = record { told = nothing.told }

-- ---- a reader that asks for the next token

pub look_told : {A Y : Type 0} (look : Ahead → Y) → ((us vs : Ahead) → next us ≡ next vs → look us ≡ look vs) → (by : Y → Ahead → Read A)
    → (tokens : Ahead) → Told (by (look tokens)) tokens (by (look tokens) tokens) → Told (λ ts. by (look ts) ts) tokens (by (look tokens) tokens)
look_told look looks by tokens told =
    told_as (by (look tokens)) (λ ts. by (look ts) ts) tokens (by (look tokens) tokens) (λ ts is. ap (λ y. by y ts) (sym (looks tokens ts is))) told

pub looking : {A Y : Type 0} (look : Ahead → Y) → ((us vs : Ahead) → next us ≡ next vs → look us ≡ look vs) → (by : Y → Ahead → Read A)
    → ((y : Y) → Local (by y)) → Local (λ tokens. by (look tokens) tokens)
looking look looks by l = record { told = λ tokens. look_told look looks by tokens ((l (look tokens)).told tokens) }

option_local : {A Y : Type 0} (by : Option Y → Ahead → Read A) → Local (by None) → ((y : Y) → Local (by (Some y))) → (o : Option Y) → Local (by o)
option_local by none some None = none
option_local by none some (Some y) = some y

-- what may stand there, or not
pub maybe : {A Y : Type 0} (get : Lexed → Option Y) (by : Option Y → Ahead → Read A) → Local (by None) → ((y : Y) → Local (by (Some y)))
    → Local (λ tokens. by (first get tokens) tokens)
maybe get by none some = looking (first get) (first_same get) by (option_local by none some)

-- what has to stand there, and a reader that may rest on it
pub maybe_at : {A Y : Type 0} (get : Lexed → Option Y) (by : Option Y → Ahead → Read A) → Local (by None)
    → ((y : Y) (t : Lexed) (ts : Ahead) → get t ≡ Some y → Told (by (Some y)) (t ∷ ts) (by (Some y) (t ∷ ts))) → Local (λ tokens. by (first get tokens) tokens)
maybe_at {A} {Y} get by none some = record { told = λ tokens. look_told (first get) (first_same get) by tokens (told_of tokens) }
  where
    one_told : (t : Lexed) (ts : Ahead) (o : Option Y) → get t ≡ o → Told (by o) (t ∷ ts) (by o (t ∷ ts))
    one_told t ts None is = none.told (t ∷ ts)
    one_told t ts (Some y) is = some y t ts is

    told_of : (tokens : Ahead) → Told (by (first get tokens)) tokens (by (first get tokens) tokens)
    told_of [] = none.told []
    told_of (t ∷ ts) = one_told t ts (get t) refl

pub needs_then : {A Y : Type 0} (get : Lexed → Option Y) (r : Y → Ahead → Read A)
    → ((y : Y) (t : Lexed) (ts : Ahead) → get t ≡ Some y → Told (λ us. r y (drop 1 us)) (t ∷ ts) (r y ts))
    → Local (λ tokens. needed (first get tokens) tokens >>= (λ found. r found.0 found.1))
needs_then get r more = maybe_at get (λ o tokens. needed o tokens >>= (λ found. r found.0 found.1)) (nothing_then (λ found. r found.0 found.1)) more

pub needs : {Y : Type 0} (get : Lexed → Option Y) → Local (λ tokens. needed (first get tokens) tokens)
needs get = maybe get needed nothing (λ y. skip (pure y))
