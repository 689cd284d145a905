-- What a clause or a query breaks, put together from its parts.
use Rattle.std.proofs.Common.{◌≡◌, ◌∙◌, ap, sym, subst, ℕ, Bool, false, List, [], map, Option}
use Rattle.std.specs.List.{flat_map}
use Rattle.std.specs.Prelude.{slice_get}
use Rattle.ssq_ast.specs.declared.expr.Ident.{Ident}
use Rattle.ssq_ast.specs.declared.query.ColumnDecl.{ColumnDecl}
use Rattle.ssq_ast.specs.declared.query.Deduplicate.{Deduplicate}
use Rattle.ssq_ast.specs.declared.query.Group.{Group}
use Rattle.ssq_ast.specs.declared.query.Item.{Item}
use Rattle.ssq_ast.specs.declared.query.Join.{Join}
use Rattle.ssq_ast.specs.declared.query.OrderBy.{OrderBy}
use Rattle.ssq_ast.specs.declared.query.Query.{Query}
use Rattle.ssq_ast.specs.declared.query.Select.{Select}
use Rattle.ssq_ast.specs.declared.query.Stream.{Stream}
use Rattle.ssq_check.specs.declared.fault.BindFault.{BindFault}
use Rattle.ssq_check.specs.declared.fault.Cause.TheVariants as cause
use Rattle.ssq_check.specs.declared.scope.Scope.{Scope}
use Rattle.ssq_check.specs.declared.scope.Within.{Within}
use Rattle.ssq_check.specs.declared.scope.Within.TheVariants as within
use Rattle.ssq_check.specs.declared.tally.Tally.{Tally}
use Rattle.ssq_check.specs.Counted.{tally_of}
use Rattle.ssq_check.specs.Fault.{Faults, FirstOf, sooner}
use Rattle.ssq_check.specs.Broken.{Either, Rule}
use Rattle.ssq_check.specs.Lists.{Where, Each, Doubled, Standing, Past, Beyond, item_first, ItemsFaults}
use Rattle.ssq_check.specs.Names.{is_there, row_scope, group_keys, with_keys, scope_of}
use Rattle.ssq_check.specs.Shown.{shown_aggregates, group_place_at, group_place, within_by}
use Rattle.ssq_check.specs.Clauses.{ConditionFaults, HavingFaults, WatermarkFaults, decl_name, decl_place, StreamFaults, StreamsFaults, JoinedFaults, OnFaults, JoinFaults, ident_name, ident_place, IdentFaults, DeduplicateFaults, GroupItemFaults, group_columns, group_windows, group_first, GroupFaults, OrderFaults}
use Rattle.ssq_check.specs.Whole.{DistinctFaults, LimitFaults, StatefulFaults, WordFaults, RowFaults, ShownFaults, OwnFaults, SelectFaults, QueryFaults}
use Rattle.ssq_check.proofs.First.{first_sooner}

pub first_of_two : (P Q : Faults) (a b o : Option BindFault) → o ≡ sooner a b → FirstOf P a → FirstOf Q b → FirstOf (Either P Q) o
first_of_two P Q a b o is p q = subst (λ (v : Option BindFault). FirstOf (Either P Q) v) (sym is) (first_sooner P Q a b p q)

pub stream_first : (stream : Stream) (xs : List ColumnDecl) (a b c p o : Option BindFault)
    → xs ≡ stream.columns → p ≡ sooner b c → o ≡ sooner a p
    → FirstOf (Doubled decl_name decl_place [] xs) a → FirstOf (Beyond (map decl_place xs)) b → FirstOf (Where (WatermarkFaults stream) stream.watermark) c
    → FirstOf (StreamFaults stream) o
stream_first stream xs a b c p o xs_is p_is o_is ha hb hc =
    let Event = Where (WatermarkFaults stream) stream.watermark in
    subst (λ (v : List ColumnDecl). FirstOf (Either (Doubled decl_name decl_place [] v) (Either (Beyond (map decl_place v)) Event)) o) xs_is
    (first_of_two (Doubled decl_name decl_place [] xs) (Either (Beyond (map decl_place xs)) Event) a p o o_is ha
    (first_of_two (Beyond (map decl_place xs)) Event b c p p_is hb hc))

pub join_first : (scope : Scope) (from : List ℕ) (join : Join) (right : Bool) (a b o : Option BindFault)
    → right ≡ is_there scope.right → o ≡ sooner a b
    → FirstOf (JoinedFaults right from join.stream) a → FirstOf (OnFaults scope join.on) b
    → FirstOf (JoinFaults scope from join) o
join_first scope from join right a b o right_is o_is ha hb =
    first_of_two (JoinedFaults (is_there scope.right) from join.stream) (OnFaults scope join.on) a b o o_is
    (subst (λ (v : Bool). FirstOf (JoinedFaults v from join.stream) a) right_is ha) hb

pub columns_first : (scope : Scope) (deduplicate : Deduplicate) (xs : List Ident) (a b c p o : Option BindFault)
    → xs ≡ deduplicate.columns → p ≡ sooner b c → o ≡ sooner a p
    → FirstOf (Each (IdentFaults scope) xs) a → FirstOf (Doubled ident_name ident_place [] xs) b → FirstOf (Beyond (map ident_place xs)) c
    → FirstOf (DeduplicateFaults scope deduplicate) o
columns_first scope deduplicate xs a b c p o xs_is p_is o_is ha hb hc =
    subst (λ (v : List Ident). FirstOf (Either (Each (IdentFaults scope) v) (Either (Doubled ident_name ident_place [] v) (Beyond (map ident_place v)))) o) xs_is
    (first_of_two (Each (IdentFaults scope) xs) (Either (Doubled ident_name ident_place [] xs) (Beyond (map ident_place xs))) a p o o_is ha
    (first_of_two (Doubled ident_name ident_place [] xs) (Beyond (map ident_place xs)) b c p p_is hb hc))

abbrev AllGroups : Scope → List Group → Faults
AllGroups scope xs =
    Either (Each (GroupItemFaults scope) xs)
    (Either (Doubled ident_name ident_place [] (flat_map group_columns xs))
    (Either (Past cause.BadWindow 1 (flat_map group_windows xs))
    (Beyond (map group_first xs))))

pub groups_first_of : (scope : Scope) (xs items : List Group) (windows : Tally) (a b c d p q o : Option BindFault)
    → xs ≡ items → windows ≡ tally_of 1 (flat_map group_windows xs)
    → p ≡ sooner c d → q ≡ sooner b p → o ≡ sooner a q
    → FirstOf (Each (GroupItemFaults scope) xs) a → FirstOf (Doubled ident_name ident_place [] (flat_map group_columns xs)) b → FirstOf (Standing cause.BadWindow windows.past) c → FirstOf (Beyond (map group_first xs)) d
    → FirstOf (AllGroups scope items) o
groups_first_of scope xs items windows a b c d p q o xs_is windows_are p_is q_is o_is ha hb hc hd =
    subst (λ (v : List Group). FirstOf (AllGroups scope v) o) xs_is
    (first_of_two (Each (GroupItemFaults scope) xs) _ a q o o_is ha
    (first_of_two (Doubled ident_name ident_place [] (flat_map group_columns xs)) _ b p q q_is hb
    (first_of_two (Past cause.BadWindow 1 (flat_map group_windows xs)) (Beyond (map group_first xs)) c d p p_is
    (subst (λ (v : Option ℕ). FirstOf (Standing cause.BadWindow v) c) (λ i. (windows_are i).past) hc) hd)))

pub words_first : (select : Select) (grouped : Option ℕ) (joins : Bool) (a b c p o : Option BindFault)
    → joins ≡ is_there select.join → p ≡ sooner b c → o ≡ sooner a p
    → FirstOf (Where DistinctFaults select.distinct) a → FirstOf (Where LimitFaults select.limit) b → FirstOf (StatefulFaults joins select.deduplicate grouped) c
    → FirstOf (WordFaults select grouped) o
words_first select grouped joins a b c p o joins_is p_is o_is ha hb hc =
    first_of_two (Where DistinctFaults select.distinct) _ a p o o_is ha
    (first_of_two (Where LimitFaults select.limit) (StatefulFaults (is_there select.join) select.deduplicate grouped) b c p p_is hb
    (subst (λ (v : Bool). FirstOf (StatefulFaults v select.deduplicate grouped) c) joins_is hc))

pub rows_first : (scope : Scope) (select : Select) (left : Bool) (from : List ℕ) (a b c d e p q r o : Option BindFault)
    → left ≡ is_there scope.left → from ≡ select.from.text
    → p ≡ sooner d e → q ≡ sooner c p → r ≡ sooner b q → o ≡ sooner a r
    → FirstOf (Rule cause.UnknownName select.from.at (left ≡ false)) a → FirstOf (Where (JoinFaults scope from) select.join) b
    → FirstOf (Where (ConditionFaults scope within.Row) select.filter) c → FirstOf (Where (DeduplicateFaults scope) select.deduplicate) d
    → FirstOf (Where (GroupFaults scope) select.group) e
    → FirstOf (RowFaults scope select) o
rows_first scope select left from a b c d e p q r o left_is from_is p_is q_is r_is o_is ha hb hc hd he =
    first_of_two (Rule cause.UnknownName select.from.at (is_there scope.left ≡ false)) _ a r o o_is
    (subst (λ (v : Bool). FirstOf (Rule cause.UnknownName select.from.at (v ≡ false)) a) left_is ha)
    (first_of_two (Where (JoinFaults scope select.from.text) select.join) _ b q r r_is
    (subst (λ (v : List ℕ). FirstOf (Where (JoinFaults scope v) select.join) b) from_is hb)
    (first_of_two (Where (ConditionFaults scope within.Row) select.filter) _ c p q q_is hc
    (first_of_two (Where (DeduplicateFaults scope) select.deduplicate) (Where (GroupFaults scope) select.group) d e p p_is hd he)))

pub shown_first : (scope : Scope) (grouped : Option ℕ) (past : Option ℕ) (select : Select) (is_group : Bool) (w : Within) (xs ys zs : List Item) (os : List OrderBy) (a b c d e p q r o : Option BindFault)
    → is_group ≡ is_there grouped → w ≡ within_by is_group → xs ≡ select.items → ys ≡ select.items → zs ≡ select.items → os ≡ select.order
    → p ≡ sooner d e → q ≡ sooner c p → r ≡ sooner b q → o ≡ sooner a r
    → FirstOf (ItemsFaults scope w xs) a → FirstOf (Beyond (map item_first ys)) b → FirstOf (Standing cause.TooMany past) c
    → FirstOf (Where (HavingFaults scope w is_group) select.having) d → FirstOf (Each (OrderFaults zs) os) e
    → FirstOf (ShownFaults scope grouped past select) o
shown_first scope grouped past select is_group w xs ys zs os a b c d e p q r o group_is within_is xs_is ys_is zs_is os_is p_is q_is r_is o_is ha hb hc hd he =
    let w_is : w ≡ within_by (is_there grouped) = within_is ∙ ap within_by group_is in
    first_of_two (ItemsFaults scope (within_by (is_there grouped)) select.items) _ a r o o_is
    (subst (λ (v : Within). FirstOf (ItemsFaults scope v select.items) a) w_is (subst (λ (v : List Item). FirstOf (ItemsFaults scope w v) a) xs_is ha))
    (first_of_two (Beyond (map item_first select.items)) _ b q r r_is
    (subst (λ (v : List Item). FirstOf (Beyond (map item_first v)) b) ys_is hb)
    (first_of_two (Standing cause.TooMany past) _ c p q q_is hc
    (first_of_two (Where (HavingFaults scope (within_by (is_there grouped)) (is_there grouped)) select.having) (Each (OrderFaults select.items) select.order) d e p p_is
    (subst (λ (v : Within). FirstOf (Where (HavingFaults scope v (is_there grouped)) select.having) d) w_is
    (subst (λ (v : Bool). FirstOf (Where (HavingFaults scope w v) select.having) d) group_is hd))
    (subst (λ (v : List OrderBy). FirstOf (Each (OrderFaults select.items) v) e) os_is
    (subst (λ (v : List Item). FirstOf (Each (OrderFaults v) os) e) zs_is he)))))

pub own_first : (scope : Scope) (query : Query) (tally : Tally) (grouped : Option ℕ) (a b o : Option BindFault)
    → tally ≡ tally_of 64 (shown_aggregates query) → grouped ≡ group_place_at query.select.group tally.first → o ≡ sooner a b
    → FirstOf (ShownFaults scope grouped tally.past query.select) a → FirstOf (WordFaults query.select grouped) b
    → FirstOf (OwnFaults scope query) o
own_first scope query tally grouped a b o tally_is grouped_is o_is ha hb =
    let past : tally.past ≡ slice_get (shown_aggregates query) 64 = λ i. (tally_is i).past in
    let first : tally.first ≡ slice_get (shown_aggregates query) 0 = λ i. (tally_is i).first in
    let grouped_at : grouped ≡ group_place query = grouped_is ∙ ap (group_place_at query.select.group) first in
    first_of_two (ShownFaults scope (group_place query) (slice_get (shown_aggregates query) 64) query.select) (WordFaults query.select (group_place query)) a b o o_is
    (subst (λ (v : Option ℕ). FirstOf (ShownFaults scope v (slice_get (shown_aggregates query) 64) query.select) a) grouped_at
    (subst (λ (v : Option ℕ). FirstOf (ShownFaults scope grouped v query.select) a) past ha))
    (subst (λ (v : Option ℕ). FirstOf (WordFaults query.select v) b) grouped_at hb)

pub select_first : (query : Query) (rows all : Scope) (a b o : Option BindFault)
    → rows ≡ row_scope query → all ≡ with_keys rows (group_keys rows query.select.group) → o ≡ sooner a b
    → FirstOf (RowFaults rows query.select) a → FirstOf (OwnFaults all query) b
    → FirstOf (SelectFaults query) o
select_first query rows all a b o rows_are all_are o_is ha hb =
    first_of_two (RowFaults (row_scope query) query.select) (OwnFaults (scope_of query) query) a b o o_is
    (subst (λ (v : Scope). FirstOf (RowFaults v query.select) a) rows_are ha)
    (subst (λ (v : Scope). FirstOf (OwnFaults v query) b) (all_are ∙ (λ i. with_keys (rows_are i) (group_keys (rows_are i) query.select.group))) hb)

pub query_first : (query : Query) (streams : List Stream) (a b o : Option BindFault)
    → streams ≡ query.streams → o ≡ sooner a b
    → FirstOf (StreamsFaults streams) a → FirstOf (SelectFaults query) b
    → FirstOf (QueryFaults query) o
query_first query streams a b o streams_are o_is ha hb =
    first_of_two (StreamsFaults query.streams) (SelectFaults query) a b o o_is
    (subst (λ (v : List Stream). FirstOf (StreamsFaults v) a) streams_are ha) hb
