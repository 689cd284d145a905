-- Parts of a query that are written are read: lists, and what may stand or not.
use Rattle.std.proofs.Common.{◌≡◌, ℕ, zero, suc, ◌+◌, ◌≤◌, Bool, true, false, sym, ap, ◌∙◌, arith, List, [], ◌∷◌, ◌++◌, map, drop, length, refl, Some, None, Ok, append_assoc, length-append}
use Rattle.std.specs.Prelude.{if◌then◌else◌}
use Rattle.std.proofs.lemmas.List.{length-map}
use Rattle.ssq_ast.specs.Expression.{Words, first}
use Rattle.ssq_ast.specs.Statement.{comma, separated, each_tree, IsFilled, Each}
use Rattle.ssq_lex.specs.declared.keyword.Keyword.{Keyword}
use Rattle.ssq_lex.specs.declared.keyword.Keyword.TheVariants as key
use Rattle.ssq_lex.specs.declared.symbol.Symbol.TheVariants as mark
use Rattle.ssq_lex.specs.Lexeme.{Lexeme, keyword, name, number, quoted, symbol}
use Rattle.ssq_parse.specs.Queries.{list_then, list_from, list_at}
use Rattle.ssq_parse.specs.Reading.{Ahead, Read, ◌>>=◌, seen, is_keyword, is_symbol}
use Rattle.ssq_parse.proofs.Laid.{Where, next, skip, laid, skip_more, skip_starts, length-laid, reach, Stops}
use Rattle.ssq_parse.proofs.Words.{is_keyword-found}

-- the first of these words is another
abbrev pub Other : (Lexeme → Bool) → Words → Type 0
Other is [] = Unit {0}
Other is (w ∷ ws) = is w ≡ false

pub unseen : (is : Lexeme → Bool) (ws : Words) → Other is ws → (p : Where) → seen is (laid ws p) ≡ None
unseen is [] other p = refl
unseen is (w ∷ ws) other p = ap (λ b. if b then Some (first p.starts) else None) other

-- ---- lists with commas

pub separated_more : (part other : Words) (parts : List Words) (more : Words)
    → separated (part ∷ other ∷ parts) ++ more ≡ part ++ (comma ∷ (separated (other ∷ parts) ++ more))
separated_more part other parts more = append_assoc part (comma ∷ separated (other ∷ parts)) more

pub separated_length : (parts : List Words) → length parts ≤ length (separated parts) + 1
separated_length [] = omega arith
separated_length (part ∷ []) = omega arith
separated_length (part ∷ other ∷ parts) =
    let so_far = separated_length (other ∷ parts) in
    let both : length (part ++ comma ∷ separated (other ∷ parts)) ≡ length part + length (comma ∷ separated (other ∷ parts)) = length-append part (comma ∷ separated (other ∷ parts)) in
    omega arith

module _ {A B : Type 0} (part : Ahead → Read B) (written : A → Words) (tree : A → List ℕ → B) (Good : A → Type 0) (End : Words → Type 0)
    (reads : (x : A) → Good x → (more : Words) → End more → (p : Where) → part (laid (written x ++ more) p) ≡ Ok (tree x p.starts, laid more (skip (written x) p)))
    (ends : (more : Words) → End (comma ∷ more)) where
  abbrev All : List A → Words
  All xs = separated (map written xs)

  list_reads_from : (xs : List A) → IsFilled xs → Each Good xs → (more : Words) → End more → Other (is_symbol mark.Comma) more
      → (turns : ℕ) → length xs ≤ turns → (found : List B) (p : Where)
      → list_from part turns found (laid (All xs ++ more) p) ≡ Ok (found ++ each_tree written tree 1 xs p.starts, laid more (skip (All xs) p))
  unfolding list_from
  list_reads_from [] filled good more end other turns enough found p = absurd filled
  list_reads_from (x ∷ xs) filled good more end other zero enough found p = absurd (omega arith)
  list_reads_from (x ∷ []) filled good more end other (suc turns) enough found p =
      let q : Where = skip (written x) p in
      ap (λ read. read >>= (λ next. list_then (list_from part turns) (found ++ next.0 ∷ []) (seen (is_symbol mark.Comma) next.1) next.1)) (reads x good.0 more end p)
      ∙ ap (λ comma. list_then (list_from part turns) (found ++ tree x p.starts ∷ []) comma (laid more q)) (unseen (is_symbol mark.Comma) more other q)
  list_reads_from (x ∷ y ∷ xs) filled good more end other (suc turns) enough found p =
      let q : Where = skip (written x) p in
      ap (λ ws. list_from part (suc turns) found (laid ws p)) (separated_more (written x) (written y) (map written xs) more)
      ∙ ap (λ read. read >>= (λ next. list_then (list_from part turns) (found ++ next.0 ∷ []) (seen (is_symbol mark.Comma) next.1) next.1)) (reads x good.0 (comma ∷ (All (y ∷ xs) ++ more)) (ends (All (y ∷ xs) ++ more)) p)
      ∙ list_reads_from (y ∷ xs) tt good.1 more end other turns (omega arith) (found ++ tree x p.starts ∷ []) (next q)
      ∙ ap (λ trees. Ok (trees, laid more (skip (All (y ∷ xs)) (next q)))) (append_assoc found (tree x p.starts ∷ []) (each_tree written tree 1 (y ∷ xs) (next q).starts))
      ∙ ap (λ from. Ok (found ++ tree x p.starts ∷ each_tree written tree 1 (y ∷ xs) (drop 1 from), laid more (skip (All (y ∷ xs)) (next q)))) (sym (skip_starts (written x) p))
      ∙ ap (λ at. Ok (found ++ each_tree written tree 1 (x ∷ y ∷ xs) p.starts, laid more at)) (sym (skip_more (written x) (comma ∷ All (y ∷ xs)) p))

  -- a word stands after the list
  pub list_reads : (xs : List A) → IsFilled xs → Each Good xs → (more : Words) → 1 ≤ length more → End more → Other (is_symbol mark.Comma) more → (p : Where)
      → list_at part (laid (All xs ++ more) p) ≡ Ok (each_tree written tree 1 xs p.starts, laid more (skip (All xs) p))
  unfolding list_at
  list_reads xs filled good more some end other p =
      let all = length-laid (All xs ++ more) p in
      let both = length-append (All xs) more in
      let parts = separated_length (map written xs) in
      let same = length-map xs written in
      list_reads_from xs filled good more end other (length (laid (All xs ++ more) p)) (omega arith) [] p

-- ---- what stands after the stream of a query: each part begins with its keyword, in this order

abbrev pub stage_of : Keyword → ℕ
stage_of key.Inner = 1
stage_of key.Left = 1
stage_of key.Right = 1
stage_of key.Join = 1
stage_of key.Where = 2
stage_of key.Deduplicate = 3
stage_of key.Group = 4
stage_of key.Having = 5
stage_of key.Order = 6
stage_of key.Limit = 7
stage_of key.Output = 8
stage_of other = 0

abbrev pub stage : Lexeme → ℕ
stage (keyword k) = stage_of k
stage other = 0

-- no part before this one begins there
abbrev pub Later : ℕ → Words → Type 0
Later n [] = ⊥
Later n (w ∷ ws) = (n ≤ stage w) × (reach w ≤ 0)

pub later : {m n : ℕ} (ws : Words) → m ≤ n → Later n ws → Later m ws
later [] below none = none
later (w ∷ ws) below l = let at = l.0 in (omega arith, l.1)

pub later_stops : (n : ℕ) (ws : Words) → Later n ws → Stops 0 ws
later_stops n [] none = tt
later_stops n (w ∷ ws) l = l.1

is_other : (k : Keyword) (w : Lexeme) → (stage w ≡ stage_of k → ⊥) → (b : Bool) → is_keyword k w ≡ b → b ≡ false
is_other k w never true is = absurd (never (ap stage (is_keyword-found k w is)))
is_other k w never false is = refl

pub other_keyword : (k : Keyword) (n : ℕ) → stage_of k + 1 ≤ n → (ws : Words) → Later n ws → Other (is_keyword k) ws
other_keyword k n below [] none = tt
other_keyword k n below (w ∷ ws) l = let at = l.0 in is_other k w (λ same. omega arith) (is_keyword k w) refl

pub unseen_keyword : (k : Keyword) (n : ℕ) → stage_of k + 1 ≤ n → (ws : Words) → Later n ws → (p : Where) → seen (is_keyword k) (laid ws p) ≡ None
unseen_keyword k n below ws l p = unseen (is_keyword k) ws (other_keyword k n below ws l) p

not_comma : (w : Lexeme) → 1 ≤ stage w → is_symbol mark.Comma w ≡ false
not_comma (keyword k) at = refl
not_comma (name text) at = refl
not_comma (number n) at = refl
not_comma (quoted text) at = refl
not_comma (symbol s) at = absurd (omega arith)

pub no_comma : (n : ℕ) → 1 ≤ n → (ws : Words) → Later n ws → Other (is_symbol mark.Comma) ws
no_comma n some [] none = tt
no_comma n some (w ∷ ws) l = let at = l.0 in not_comma w (omega arith)

pub later_some : (n : ℕ) (ws : Words) → Later n ws → 1 ≤ length ws
later_some n [] none = absurd none
later_some n (w ∷ ws) l = omega arith
