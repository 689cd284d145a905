-- Each query that is written is read.
use Rattle.std.proofs.Common.{◌≡◌, ℕ, zero, suc, ℤ, ◌≤◌, Bool, true, false, sym, ap, ◌∙◌, arith, List, [], ◌∷◌, ◌++◌, map, take, drop, length, refl, Option, Some, None, Ok, append_assoc, append-nil, length-append}
use Rattle.std.specs.List.{flat_map}
use Rattle.std.specs.Option.{option_map}
use Rattle.ssq_ast.specs.declared.query.Query.{Query}
use Rattle.ssq_ast.specs.declared.query.Select.{Select}
use Rattle.ssq_ast.specs.Expression.{Words, Written, words, behind, ident}
use Rattle.ssq_ast.specs.Statement.{WrittenStream, WrittenItem, bare_item, named_item, WrittenGroup, WrittenOrder, WrittenSelect, WrittenQuery, comma, separated, mode_key, declared_words, distinct_words, item_words, join_words, condition_words, deduplicate_words, group_words, order_words, limit_words, select_words, query_words, each_tree, declared_tree, item_tree, condition_tree, join_tree, deduplicate_tree, group_tree, order_item_tree, order_item_words, limit_tree, distinct_tree, select_tree, query_tree, IsFilled, IsRegularItem, IsRegularSelect, IsRegularQuery, IsWritten, IsFit}
use Rattle.ssq_lex.specs.declared.keyword.Keyword.TheVariants as key
use Rattle.ssq_lex.specs.declared.symbol.Symbol.TheVariants as mark
use Rattle.ssq_lex.specs.Lexeme.{Lexeme, keyword, name, symbol}
use Rattle.ssq_parse.specs.Queries.{item_at, list_at, streams_at, select_at, whole_query, query_at}
use Rattle.ssq_parse.specs.Reading.{Ahead, Read, ◌>>=◌, seen, is_keyword, is_symbol, keyword_at, symbol_at, name_at}
use Rattle.ssq_parse.specs.Reading as reading
use Rattle.ssq_parse.proofs.Laid.{Where, next, skip, laid, two, skip_more, skip_starts, where_of, laid_again, length-laid}
use Rattle.ssq_parse.proofs.LaidClauses.{ItemEnd, item_reads, join_reads, condition_reads, deduplicate_reads, group_reads, order_reads, limit_reads, mode_reads, streams_read_from}
use Rattle.ssq_parse.proofs.LaidHeads.{Headed, Begun, further, headed, head_of, begun, column_head, column_headed, column_begun, unseen_head}
use Rattle.ssq_parse.proofs.LaidParts.{list_reads, separated_more, Later, later}

-- ---- DISTINCT, which begins no item

abbrev item_head : WrittenItem → Lexeme
item_head (bare_item column) = column_head column.stream column.column
item_head (named_item value label) = head_of value

item_begun : (x : WrittenItem) → Begun (item_head x)
item_begun (bare_item column) = column_begun column.stream column.column
item_begun (named_item value label) = begun value

item_headed : (x : WrittenItem) (more : Words) → Headed (item_head x) (item_words x ++ more)
item_headed (bare_item column) more = column_headed column.stream column.column more
item_headed (named_item value label) more = further (append_assoc (words value) (keyword key.As ∷ name label ∷ []) more) (headed value (keyword key.As ∷ name label ∷ more))

abbrev Items : List WrittenItem → Words
Items xs = separated (map item_words xs)

no_distinct : (xs : List WrittenItem) → IsFilled xs → (more : Words) (p : Where) → seen (is_keyword key.Distinct) (laid (Items xs ++ more) p) ≡ None
no_distinct [] filled more p = absurd filled
no_distinct (x ∷ []) filled more p = let b = item_begun x in unseen_head (is_keyword key.Distinct) (item_head x) (item_words x ++ more) (item_headed x more) b.distinct p
no_distinct (x ∷ y ∷ xs) filled more p =
    let b = item_begun x in
    unseen_head (is_keyword key.Distinct) (item_head x) (Items (x ∷ y ∷ xs) ++ more) (further (separated_more (item_words x) (item_words y) (map item_words xs) more) (item_headed x (comma ∷ (Items (y ∷ xs) ++ more)))) b.distinct p

distinct_read : (distinct : Bool) (xs : List WrittenItem) → IsFilled xs → (more : Words) (p : Where)
    → seen (is_keyword key.Distinct) (laid (distinct_words distinct ++ (Items xs ++ more)) p) ≡ distinct_tree distinct p.starts
distinct_read true xs filled more p = refl
distinct_read false xs filled more p = no_distinct xs filled more p

distinct_behind : (distinct : Bool) (ws : Words) (p : Where)
    → reading.behind (distinct_tree distinct p.starts) (laid (distinct_words distinct ++ ws) p) ≡ laid ws (skip (distinct_words distinct) p)
distinct_behind true ws p = refl
distinct_behind false ws p = refl

-- ---- what stands after each part

limit_later : (l : Option ℤ) (more : Words) → Later 8 more → Later 7 (limit_words l ++ more)
limit_later None more l = later more (omega arith) l
limit_later (Some most) more l = (omega arith, omega arith)

order_later : (os : List WrittenOrder) (more : Words) → Later 7 more → Later 6 (order_words os ++ more)
order_later [] more l = later more (omega arith) l
order_later (o ∷ os) more l = (omega arith, omega arith)

having_later : (c : Option Written) (more : Words) → Later 6 more → Later 5 (condition_words key.Having c ++ more)
having_later None more l = later more (omega arith) l
having_later (Some c) more l = (omega arith, omega arith)

group_later : (g : Option (List WrittenGroup)) (more : Words) → Later 5 more → Later 4 (group_words g ++ more)
group_later None more l = later more (omega arith) l
group_later (Some items) more l = (omega arith, omega arith)

deduplicate_later : (d : Option (List (List ℕ))) (more : Words) → Later 4 more → Later 3 (deduplicate_words d ++ more)
deduplicate_later None more l = later more (omega arith) l
deduplicate_later (Some columns) more l = (omega arith, omega arith)

filter_later : (c : Option Written) (more : Words) → Later 3 more → Later 2 (condition_words key.Where c ++ more)
filter_later None more l = later more (omega arith) l
filter_later (Some c) more l = (omega arith, omega arith)

-- parts one after another, and more words after them
abbrev onto : List Words → Words → Words
onto [] more = more
onto (part ∷ parts) more = part ++ onto parts more

-- the place after parts, and the starts from there on
abbrev past : List Words → Where → Where
past [] p = p
past (part ∷ parts) p = past parts (skip part p)

abbrev starts_past : List Words → List ℕ → List ℕ
starts_past [] starts = starts
starts_past (part ∷ parts) starts = starts_past parts (behind part starts)

past_starts : (parts : List Words) (p : Where) (starts : List ℕ) → p.starts ≡ starts → (past parts p).starts ≡ starts_past parts starts
past_starts [] p starts is = is
past_starts (part ∷ parts) p starts is = past_starts parts (skip part p) (behind part starts) (sym (skip_starts part p) ∙ ap (behind part) is)

abbrev further_on : ℕ → ℕ → ℕ
further_on n zero = n
further_on n (suc k) = further_on (suc n) k

-- what begins with the n-th part or a later one, for each of these parts
abbrev AreLater : ℕ → List Words → Type 0
AreLater n [] = Unit {0}
AreLater n (part ∷ parts) = ((more : Words) → Later (suc n) more → Later n (part ++ more)) × AreLater (suc n) parts

later_from : (k n : ℕ) (parts : List Words) → AreLater n parts → (more : Words) → Later (further_on n (length parts)) more → k ≤ length parts → Later (further_on n k) (onto (drop k parts) more)
later_from zero n [] all more last short = last
later_from zero n (part ∷ parts) all more last short = all.0 (onto parts more) (later_from zero (suc n) parts all.1 more last (omega arith))
later_from (suc k) n [] all more last short = absurd (omega (arith, short))
later_from (suc k) n (part ∷ parts) all more last short = later_from k (suc n) parts all.1 more last (omega (arith, short))

select_parts : (D I J F U G H O L more : Words) (w n o m e : Lexeme)
    → ((((D ++ I) ++ w ∷ n ∷ J) ++ F) ++ (((((U ++ G) ++ H) ++ O) ++ L) ++ o ∷ m ∷ e ∷ [])) ++ more
    ≡ D ++ (I ++ (w ∷ n ∷ (J ++ (F ++ (U ++ (G ++ (H ++ (O ++ (L ++ o ∷ m ∷ e ∷ more)))))))))
select_parts D I J F U G H O L more w n o m e = simp append_assoc

module _ (s : WrittenSelect) (regular : IsRegularSelect IsFit s) (more : Words) where
  abbrev Shown : Words
  Shown = keyword key.Output ∷ keyword (mode_key s.mode) ∷ symbol mark.Semicolon ∷ more

  -- what stands after JOIN
  abbrev Others : List Words
  Others =
      condition_words key.Where s.filter ∷ deduplicate_words s.deduplicate ∷ group_words s.group ∷ condition_words key.Having s.having ∷ order_words s.order ∷ limit_words s.limit ∷ []

  -- from the k-th of them on
  abbrev From : ℕ → Words
  From k = onto (drop k Others) Shown

  abbrev Sourced : Words
  Sourced = keyword key.From ∷ name s.from ∷ (join_words s.join ++ From 0)

  abbrev Listed : Words
  Listed = distinct_words s.distinct ++ (Items s.items ++ Sourced)

  shown : Later 8 Shown
  shown = (omega arith, omega arith)

  stands : (k : ℕ) → k ≤ 6 → Later (further_on 2 k) (From k)
  stands k short =
      later_from k 2 Others (filter_later s.filter, (deduplicate_later s.deduplicate, (group_later s.group, (having_later s.having, (order_later s.order, (limit_later s.limit, tt)))))) Shown shown short

  -- by the places of its parts
  abbrev select_by : List ℕ → List ℕ → List ℕ → List ℕ → List ℕ → List ℕ → List ℕ → List ℕ → List ℕ → List ℕ → Select
  select_by distinct items from join filter deduplicate group having order limit = record {
    distinct = distinct_tree s.distinct distinct;
    items = each_tree item_words item_tree 1 s.items items;
    from = ident s.from from;
    join = option_map (λ j. join_tree j join) s.join;
    filter = option_map (λ c. condition_tree c filter) s.filter;
    deduplicate = option_map (λ columns. deduplicate_tree columns deduplicate) s.deduplicate;
    group = option_map (λ items. group_tree items group) s.group;
    having = option_map (λ c. condition_tree c having) s.having;
    order = each_tree order_item_words order_item_tree 1 s.order order;
    limit = option_map (λ most. limit_tree most limit) s.limit;
    mode = s.mode;
  }

  module _ (p : Where) where
    abbrev p0 : Where
    p0 = next p

    abbrev p1 : Where
    p1 = skip (distinct_words s.distinct) p0

    abbrev p2 : Where
    p2 = skip (Items s.items) p1

    abbrev p3 : Where
    p3 = next (next p2)

    -- the place of the k-th part after JOIN
    abbrev at_part : ℕ → Where
    at_part k = past (take k Others) (skip (join_words s.join) p3)

    abbrev Found : Select
    Found =
        select_by p0.starts p1.starts (next p2).starts p3.starts (at_part 0).starts (at_part 1).starts (at_part 2).starts (at_part 3).starts (drop 2 (at_part 4).starts) (at_part 5).starts

    items_read : list_at item_at (laid (Items s.items ++ Sourced) p1) ≡ Ok (each_tree item_words item_tree 1 s.items p1.starts, laid Sourced p2)
    items_read =
        list_reads item_at item_words item_tree (IsRegularItem IsFit) ItemEnd item_reads (λ more. record { stops = omega arith; no_as = refl })
        s.items regular.some_items regular.items Sourced (omega arith) (record { stops = omega arith; no_as = refl }) refl p1

    select_found : select_at (laid (keyword key.Select ∷ Listed) p) ≡ Ok (Found, laid more (next (next (next (at_part 6)))))
    unfolding select_at keyword_at name_at symbol_at
    select_found =
        rw (
          distinct_read s.distinct s.items regular.some_items Sourced p0,
          distinct_behind s.distinct (Items s.items ++ Sourced) p0,
          items_read,
          join_reads s.join regular.on (From 0) (stands 0 (omega arith)) p3,
          condition_reads key.Where 3 refl (omega arith) s.filter regular.filter (From 1) (stands 1 (omega arith)) (at_part 0),
          deduplicate_reads s.deduplicate regular.deduplicate (From 2) (stands 2 (omega arith)) (at_part 1),
          group_reads s.group regular.some_group regular.group (From 3) (stands 3 (omega arith)) (at_part 2),
          condition_reads key.Having 6 refl (omega arith) s.having regular.having (From 4) (stands 4 (omega arith)) (at_part 3),
          order_reads s.order (From 5) (stands 5 (omega arith)) (at_part 4),
          limit_reads s.limit Shown shown (at_part 5),
          mode_reads s.mode (symbol mark.Semicolon ∷ more) (at_part 6),
        )

    -- the places, as the grammar counts them
    placed_by : Found ≡ select_tree s p.starts
    placed_by =
        let e1 : p1.starts ≡ behind (distinct_words s.distinct) p0.starts = sym (skip_starts (distinct_words s.distinct) p0) in
        let e2 : p2.starts ≡ behind (Items s.items) (behind (distinct_words s.distinct) p0.starts) = sym (skip_starts (Items s.items) p1) ∙ ap (behind (Items s.items)) e1 in
        let e3 : p3.starts ≡ drop 2 (behind (Items s.items) (behind (distinct_words s.distinct) p0.starts)) = two p2.starts ∙ ap (drop 2) e2 in
        let e4 = sym (skip_starts (join_words s.join) p3) ∙ ap (behind (join_words s.join)) e3 in
        let e : (k : ℕ) → (at_part k).starts ≡ starts_past (take k Others) (behind (join_words s.join) (drop 2 (behind (Items s.items) (behind (distinct_words s.distinct) p0.starts)))) = λ k. past_starts (take k Others) (skip (join_words s.join) p3) _ e4 in
        λ i. select_by p0.starts (e1 i) (drop 1 (e2 i)) (e3 i) (e 0 i) (e 1 i) (e 2 i) (e 3 i) (drop 2 (e 4 i)) (e 5 i)

    behind_select : next (next (next (at_part 6))) ≡ skip (select_words s) p
    behind_select = sym (simp skip_more)

    pub select_reads : select_at (laid (select_words s ++ more) p) ≡ Ok (select_tree s p.starts, laid more (skip (select_words s) p))
    select_reads =
        ap (λ ws. select_at (laid (keyword key.Select ∷ ws) p))
        (select_parts (distinct_words s.distinct) (Items s.items) (join_words s.join) (condition_words key.Where s.filter) (deduplicate_words s.deduplicate) (group_words s.group)
        (condition_words key.Having s.having) (order_words s.order) (limit_words s.limit) more (keyword key.From) (name s.from) (keyword key.Output) (keyword (mode_key s.mode)) (symbol mark.Semicolon))
        ∙ select_found
        ∙ (λ i. Ok (placed_by i, laid more (behind_select i)))

-- ---- the whole

query_words_front : (q : WrittenQuery) → query_words q ≡ flat_map declared_words q.streams ++ (select_words q.select ++ [])
query_words_front q = ap (λ ws. flat_map declared_words q.streams ++ ws) (sym (append-nil (select_words q.select)))

-- a stream has a word at least
streams_length : (xs : List WrittenStream) → length xs ≤ length (flat_map declared_words xs)
streams_length [] = omega arith
streams_length (x ∷ xs) =
    let so_far = streams_length xs in
    let both = length-append (declared_words x) (flat_map declared_words xs) in
    omega arith

module _ (q : WrittenQuery) (regular : IsRegularQuery IsFit q) (p : Where) where
  abbrev at_select : Where
  at_select = skip (flat_map declared_words q.streams) p

  streams_read : streams_at (laid (flat_map declared_words q.streams ++ (select_words q.select ++ [])) p)
      ≡ Ok (each_tree declared_words declared_tree 0 q.streams p.starts, laid (select_words q.select ++ []) at_select)
  unfolding streams_at
  streams_read =
      let all = length-laid (flat_map declared_words q.streams ++ (select_words q.select ++ [])) p in
      let both = length-append (flat_map declared_words q.streams) (select_words q.select ++ []) in
      let some = streams_length q.streams in
      streams_read_from (select_words q.select ++ []) refl q.streams regular.streams (length (laid (flat_map declared_words q.streams ++ (select_words q.select ++ [])) p)) (omega arith) [] p

  query_found : query_at (laid (query_words q) p) ≡ Ok (query_tree q p.starts)
  unfolding query_at
  query_found =
      ap (λ ws. query_at (laid ws p)) (query_words_front q)
      ∙ ap (λ read. whole_query (read >>= (λ streams. select_at streams.1 >>= (λ select. Ok (record { streams = streams.0; select = select.0 }, select.1))))) streams_read
      ∙ ap (λ read. whole_query (read >>= (λ select. Ok (record { streams = each_tree declared_words declared_tree 0 q.streams p.starts; select = select.0 }, select.1)))) (select_reads q.select regular.select [] at_select)
      ∙ ap (λ from. Ok (record { streams = each_tree declared_words declared_tree 0 q.streams p.starts; select = select_tree q.select from })) (sym (skip_starts (flat_map declared_words q.streams) p))

pub query_reads : (tokens : Ahead) (query : Query) → IsWritten tokens query → query_at tokens ≡ Ok query
query_reads tokens query w =
    ap query_at (laid_again tokens ∙ ap (λ ws. laid ws (where_of tokens)) w.said)
    ∙ query_found w.written w.regular (where_of tokens)
    ∙ ap Ok w.meant
