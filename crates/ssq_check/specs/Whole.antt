-- Which rules a query breaks, and where.
use Rattle.std.specs.Prelude.{◌≡◌, ℕ, Bool, true, false, ◌||◌, map, slice_get, Option}
use Rattle.ssq_ast.specs.declared.query.Deduplicate.{Deduplicate}
use Rattle.ssq_ast.specs.declared.query.Limit.{Limit}
use Rattle.ssq_ast.specs.declared.query.Query.{Query}
use Rattle.ssq_ast.specs.declared.query.Select.{Select}
use Rattle.ssq_check.specs.declared.fault.Cause.TheVariants as cause
use Rattle.ssq_check.specs.declared.fault.Refusal.{Refusal}
use Rattle.ssq_check.specs.declared.fault.Refusal.TheVariants as refusal
use Rattle.ssq_check.specs.declared.scope.Scope.{Scope}
use Rattle.ssq_check.specs.declared.scope.Within.TheVariants as within
use Rattle.ssq_check.specs.Fault.{Faults, IsFirst}
use Rattle.ssq_check.specs.Broken.{Either, Rule}
use Rattle.ssq_check.specs.Lists.{Where, Each, Standing, Beyond, item_first, ItemsFaults}
use Rattle.ssq_check.specs.Names.{is_there, row_scope, scope_of}
use Rattle.ssq_check.specs.Shown.{shown_aggregates, group_place, within_by}
use Rattle.ssq_check.specs.Clauses.{ConditionFaults, HavingFaults, StreamsFaults, JoinFaults, DeduplicateFaults, GroupFaults, OrderFaults}

abbrev pub DistinctFaults : ℕ → Faults
DistinctFaults at = Rule cause.Distinct at (Unit {0})

abbrev pub LimitFaults : Limit → Faults
LimitFaults limit = Rule cause.Limit limit.at (Unit {0})

-- DEDUPLICATE in a query that joins
abbrev pub DeduplicatedTwice : Bool → Deduplicate → Faults
DeduplicatedTwice is_join deduplicate = Rule cause.TwoStateful deduplicate.at (is_join ≡ true)

-- groups in a query that joins or drops repeats
abbrev pub GroupedTwice : Bool → ℕ → Faults
GroupedTwice is_other at = Rule cause.TwoStateful at (is_other ≡ true)

-- two of JOIN, DEDUPLICATE and groups
abbrev pub StatefulFaults : Bool → Option Deduplicate → Option ℕ → Faults
StatefulFaults is_join deduplicate grouped =
    Either (Where (DeduplicatedTwice is_join) deduplicate) (Where (GroupedTwice (is_join || is_there deduplicate)) grouped)

-- the words that no query may have, and two shapes in one query
abbrev pub WordFaults : Select → Option ℕ → Faults
WordFaults select grouped =
    Either (Where DistinctFaults select.distinct)
    (Either (Where LimitFaults select.limit)
    (StatefulFaults (is_there select.join) select.deduplicate grouped))

-- what is broken in FROM, JOIN, WHERE, DEDUPLICATE and GROUP BY, whose names are those of rows
abbrev pub RowFaults : Scope → Select → Faults
RowFaults scope select =
    Either (Rule cause.UnknownName select.from.at (is_there scope.left ≡ false))
    (Either (Where (JoinFaults scope select.from.text) select.join)
    (Either (Where (ConditionFaults scope within.Row) select.filter)
    (Either (Where (DeduplicateFaults scope) select.deduplicate)
    (Where (GroupFaults scope) select.group))))

-- what is broken in SELECT, HAVING and ORDER BY of a query that groups its rows at a place, or doesn't, and has a 65th aggregate at a place, or hasn't
abbrev pub ShownFaults : Scope → Option ℕ → Option ℕ → Select → Faults
ShownFaults scope grouped past select =
    Either (ItemsFaults scope (within_by (is_there grouped)) select.items)
    (Either (Beyond (map item_first select.items))
    (Either (Standing cause.TooMany past)
    (Either (Where (HavingFaults scope (within_by (is_there grouped)) (is_there grouped)) select.having)
    (Each (OrderFaults select.items) select.order))))

-- what is broken in what a query shows, whose names are those of groups, and in its words
abbrev pub OwnFaults : Scope → Query → Faults
OwnFaults scope query =
    Either (ShownFaults scope (group_place query) (slice_get (shown_aggregates query) 64) query.select)
    (WordFaults query.select (group_place query))

-- what is broken after the declarations
abbrev pub SelectFaults : Query → Faults
SelectFaults query = Either (RowFaults (row_scope query) query.select) (OwnFaults (scope_of query) query)

-- The rules that a query breaks. No order of reading is in it: of several faults the one with the least place is
-- told, and at one place the one whose cause comes first.
abbrev pub QueryFaults : Query → Faults
QueryFaults query =
    Either (StreamsFaults query.streams) (SelectFaults query)

-- the first of the faults, or NoMemory
abbrev pub IsRefusedBy : Faults → Refusal → Type 0
IsRefusedBy faults (refusal.Broken fault) = IsFirst faults fault
IsRefusedBy faults refusal.NoMemory = Unit {0}
