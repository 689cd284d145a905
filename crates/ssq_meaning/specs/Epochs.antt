-- What a query does, epoch by epoch, over all parts, for each cutting of their lines.
use Rattle.std.specs.Prelude.{◌+◌, ◌==◌, ℕ, zero, suc, ℤ, not, if◌then◌else◌, List, [], ◌++◌, filter, Option, None, option_map}
use Rattle.std.specs.List.{flat_map}
use Rattle.ssq_value.specs.Key.{keys_of}
use Rattle.ssq_route.specs.Place.{place_of}
use Rattle.ssq_shape.specs.declared.bound.Bound.{Bound}
use Rattle.ssq_meaning.specs.FedRows.{FedRow}
use Rattle.ssq_meaning.specs.Meaning.{Values}
use Rattle.ssq_meaning.specs.Parts.{Part}
use Rattle.ssq_meaning.specs.Cut.{Cut, Cuts, of_parts}
use Rattle.ssq_meaning.specs.Times.{later, greatest, delays, watermark_by}
use Rattle.ssq_meaning.specs.Feeding.{LineAt, first_of_all, or_else, fed_in, time_in, fault_in}
use Rattle.ssq_meaning.specs.Operator.{operator_of}

-- the lists one after the other
abbrev pub joined : {A : Type 0} → List (List A) → List A
joined lists = flat_map (λ list. list) lists

-- what the lines between two cuts feed, part by part in order, as lines of an epoch
abbrev pub fed_between : Bound → (epoch : ℕ) → List Part → Cut → Cut → List FedRow
fed_between query epoch parts from to = joined (of_parts (fed_in query epoch) parts from to)

-- the first of these lines that is bad or overflows
abbrev pub fault_between : Bound → List Part → Cut → Cut → Option LineAt
fault_between query parts from to = first_of_all (of_parts (fault_in query) parts from to)

-- the greatest event time in a part, where it is one of this stream
abbrev pub time_of_stream : Bound → ℕ → Part → ℕ → ℕ → Option ℤ
time_of_stream query stream part from to = if part.stream == stream then time_in query part from to else None

-- the greatest event time of a stream among these lines
abbrev pub time_between : Bound → List Part → Cut → Cut → ℕ → Option ℤ
time_between query parts from to stream = greatest (of_parts (time_of_stream query stream) parts from to)

-- the rows fed by epoch e
abbrev pub fed : Bound → List Part → Cuts → ℕ → List FedRow
fed query parts cuts e = fed_between query e parts (cuts e) (cuts (e + 1))

-- the greatest event time of a stream over the first e epochs
unfoldable pub seen : Bound → List Part → Cuts → (stream : ℕ) → ℕ → Option ℤ
seen query parts cuts stream zero = None
seen query parts cuts stream (suc e) = later (seen query parts cuts stream e) (time_between query parts (cuts e) (cuts (e + 1)) stream)

-- the watermark of epoch e, by the epochs before it
abbrev pub watermark : Bound → List Part → Cuts → ℕ → Option ℤ
watermark query parts cuts e = watermark_by (delays query) (λ stream. seen query parts cuts stream e)

-- the watermark of the epoch before; before epoch 0 there is none
abbrev pub watermark_before : Bound → List Part → Cuts → ℕ → Option ℤ
watermark_before query parts cuts zero = None
watermark_before query parts cuts (suc e) = watermark query parts cuts e

-- the rows that are not late at a watermark
abbrev pub timely : Bound → Option ℤ → List FedRow → List FedRow
timely query now rows = filter (λ row. not ((operator_of query).is_late now row)) rows

-- the rows of epoch e that are not late
abbrev pub on_time : Bound → List Part → Cuts → ℕ → List FedRow
on_time query parts cuts e = timely query (watermark query parts cuts e) (fed query parts cuts e)

-- the rows of the first e epochs that were not late in their own
unfoldable pub accepted : Bound → List Part → Cuts → ℕ → List FedRow
accepted query parts cuts zero = []
accepted query parts cuts (suc e) = accepted query parts cuts e ++ on_time query parts cuts e

-- the rows that epoch e shows
abbrev pub out : Bound → List Part → Cuts → ℕ → List Values
out query parts cuts e =
    (operator_of query).added (accepted query parts cuts e) (on_time query parts cuts e) (watermark_before query parts cuts e) (watermark query parts cuts e)

-- the least key on which epoch e overflows
abbrev pub key_fault : Bound → List Part → Cuts → ℕ → Option Values
key_fault query parts cuts e =
    (operator_of query).fault (accepted query parts cuts e) (on_time query parts cuts e) (watermark_before query parts cuts e) (watermark query parts cuts e)

-- What is wrong with an epoch: a line, or a key.
pub data EpochFault : Type 0 where
  of_line : LineAt → EpochFault
  of_key : Values → EpochFault

-- the fault of epoch e: its first faulty line, else the least key that overflows
abbrev pub fault : Bound → List Part → Cuts → ℕ → Option EpochFault
fault query parts cuts e =
    or_else (option_map of_line (fault_between query parts (cuts e) (cuts (e + 1)))) (option_map of_key (key_fault query parts cuts e))

-- the rows of one partition, by the place of their keys' bytes
abbrev pub bucket : ℕ → ℕ → List FedRow → List FedRow
bucket partitions p rows = filter (λ row. place_of (keys_of row.key) partitions == p) rows

-- the state of a partition after the first e epochs
abbrev pub state : Bound → List Part → Cuts → (partitions p : ℕ) → ℕ → List (List ℕ × List ℕ)
state query parts cuts partitions p e =
    (operator_of query).state (bucket partitions p (accepted query parts cuts e)) (watermark_before query parts cuts e)
