-- The parts of queries are read as they are written.
use Rattle.std.proofs.Common.{◌≡◌, ℕ, zero, suc, Bool, true, false, sym, ap, ◌∙◌, List, [], ◌∷◌, ◌++◌, map, drop, length, refl, Some, None, Ok, Err, append_assoc}
use Rattle.std.specs.Prelude.{if◌then◌else◌}
use Rattle.ssq_ast.specs.Expression.{Words}
use Rattle.ssq_ast.specs.Statement.{Each, comma, separated, each_tree}
use Rattle.ssq_lex.specs.declared.symbol.Symbol.TheVariants as mark
use Rattle.ssq_lex.specs.Lexeme.{Lexed}
use Rattle.ssq_parse.specs.Queries.{list_then, list_from, list_at}
use Rattle.ssq_parse.specs.Reading.{Ahead, Made, Read, seen, is_symbol}
use Rattle.ssq_parse.specs.Written.{starts, Took, IfRead}
use Rattle.ssq_parse.proofs.Words.{took_one, took_more, then_holds, is_symbol-found}

-- a part that was read, as it is written
pub record Part {W A : Type 0} (wrote : W → Words) (made : W → List ℕ → A) (good : W → Type 0) (tokens : Ahead) (found : A × Ahead) : Type 0 where
  pub written : W
  pub took : Took tokens found.1 (wrote written)
  pub is_good : good written
  pub meant : made written (starts tokens) ≡ found.0

abbrev pub Always : {W : Type 0} → W → Type 0
Always w = Unit {0}

pub keep : {X : Type 0} {P Q : X → Type 0} (made : Made X) → IfRead made P → ((x : X) → P x → Q x) → IfRead made Q
keep (Ok x) holds more = more x holds
keep (Err refusal) holds more = tt

-- ---- lists

module _ {W A : Type 0} (wrote : W → Words) (made : W → List ℕ → A) (good : W → Type 0) (part : Ahead → Read A)
    (sound : (tokens : Ahead) → IfRead (part tokens) (Part wrote made good tokens)) where
  -- parts after those that were found before
  pub record Further (found : List A) (tokens : Ahead) (read : List A × Ahead) : Type 0 where
    pub first : W
    pub others : List W
    pub list : List A
    pub took : Took tokens read.1 (separated (map wrote (first ∷ others)))
    pub each : Each good (first ∷ others)
    pub meant : each_tree wrote made 1 (first ∷ others) (starts tokens) ≡ list
    pub whole : read.0 ≡ found ++ list

  one_read : (found : List A) (tokens : Ahead) (x : A × Ahead) → Part wrote made good tokens x → Further found tokens (found ++ x.0 ∷ [], x.1)
  one_read found tokens x p = record { first = p.written; others = []; list = x.0 ∷ []; took = p.took; each = (p.is_good, tt); meant = ap (λ y. y ∷ []) p.meant; whole = refl }

  more_read : (found : List A) (tokens : Ahead) (x : A × Ahead) → Part wrote made good tokens x → (us : Ahead) → Took x.1 us (comma ∷ [])
      → (read : List A × Ahead) → Further (found ++ x.0 ∷ []) us read → Further found tokens read
  more_read found tokens x p us sep read f = record {
    first = p.written;
    others = f.first ∷ f.others;
    list = x.0 ∷ f.list;
    took = took_more p.took (took_more sep f.took);
    each = (p.is_good, f.each);
    meant =
        ap (λ from. made p.written (starts tokens) ∷ each_tree wrote made 1 (f.first ∷ f.others) (drop 1 from)) p.took.left
        ∙ ap (λ from. made p.written (starts tokens) ∷ each_tree wrote made 1 (f.first ∷ f.others) from) sep.left
        ∙ (λ i. p.meant i ∷ f.meant i);
    whole = f.whole ∙ append_assoc found (x.0 ∷ []) f.list;
  }

  mutual_then : (turns : ℕ) → ((found : List A) (tokens : Ahead) → IfRead (list_from part turns found tokens) (Further found tokens))
      → (found : List A) (tokens : Ahead) (x : A × Ahead) → Part wrote made good tokens x → (c : Lexed) (us : Ahead) → x.1 ≡ c ∷ us
      → (b : Bool) → (b ≡ true → c.said ≡ comma)
      → IfRead (list_then (list_from part turns) (found ++ x.0 ∷ []) (if b then Some c.start else None) (c ∷ us)) (Further found tokens)
  mutual_then turns more found tokens x p c us same false is = rw (sym same) (one_read found tokens x p)
  mutual_then turns more found tokens x p c us same true is =
      keep (list_from part turns (found ++ x.0 ∷ []) us) (more (found ++ x.0 ∷ []) us)
      (λ read f. more_read found tokens x p us (rw same (took_one c us comma (is refl))) read f)

  list_then_sound : (turns : ℕ) → ((found : List A) (tokens : Ahead) → IfRead (list_from part turns found tokens) (Further found tokens))
      → (found : List A) (tokens : Ahead) (x : A × Ahead) → Part wrote made good tokens x → (us : Ahead) → x.1 ≡ us
      → IfRead (list_then (list_from part turns) (found ++ x.0 ∷ []) (seen (is_symbol mark.Comma) us) us) (Further found tokens)
  list_then_sound turns more found tokens x p [] same = rw (sym same) (one_read found tokens x p)
  list_then_sound turns more found tokens x p (c ∷ us) same = mutual_then turns more found tokens x p c us same (is_symbol mark.Comma c.said) (is_symbol-found mark.Comma c.said)

  list_from_sound : (turns : ℕ) (found : List A) (tokens : Ahead) → IfRead (list_from part turns found tokens) (Further found tokens)
  unfolding list_from
  list_from_sound zero found tokens = tt
  list_from_sound (suc turns) found tokens =
      then_holds (Part wrote made good tokens) (Further found tokens) (part tokens)
      (λ next. list_then (list_from part turns) (found ++ next.0 ∷ []) (seen (is_symbol mark.Comma) next.1) next.1) (sound tokens)
      (λ next p. list_then_sound turns (list_from_sound turns) found tokens next p next.1 refl)

  pub list_sound : (tokens : Ahead) → IfRead (list_at part tokens) (Further [] tokens)
  unfolding list_at
  list_sound tokens = list_from_sound (length tokens) [] tokens
