-- What holds of the epochs of each query.
use Rattle.std.specs.Prelude.{◌≡◌, ◌<◌, ◌≤◌, ◌+◌, ℕ, zero, suc, List, [], ◌∷◌, ◌++◌, filter, take, option_and_then}
use Rattle.std.specs.List.{filter_map}
use Rattle.std.specs.Result.{result_ok}
use Rattle.ssq_shape.specs.declared.bound.Bound.{Bound}
use Rattle.ssq_meaning.specs.Meaning.{Line, Values, is_fed, shown}
use Rattle.ssq_meaning.specs.Parts.{Part}
use Rattle.ssq_meaning.specs.Cut.{Cut, Cuts}
use Rattle.ssq_meaning.specs.Feeding.{read_at}
use Rattle.ssq_meaning.specs.Epochs.{time_between, fault_between, fed, seen, watermark, watermark_before, on_time, accepted, out, key_fault, fault, state}

-- The first n epochs read the same of these parts by the one cutting as of others by another: their lines feed the same rows, have the
-- same greatest event time of each stream, and the same first fault.
pub record ReadsSame (query : Bound) (parts others : List Part) (one other : Cuts) (n : ℕ) : Type 0 where
  pub same_rows : (e : ℕ) → e < n → fed query parts one e ≡ fed query others other e
  pub same_times : (stream e : ℕ) → e < n → time_between query parts (one e) (one (e + 1)) stream ≡ time_between query others (other e) (other (e + 1)) stream
  pub same_faults : (e : ℕ) → e < n → fault_between query parts (one e) (one (e + 1)) ≡ fault_between query others (other e) (other (e + 1))

-- These parts by the one cutting, and others by another, say the same of the first n epochs, and of the watermark of the next.
pub record SaysSame (query : Bound) (parts others : List Part) (one other : Cuts) (n : ℕ) : Type 0 where
  pub same_seen : (stream e : ℕ) → e ≤ n → seen query parts one stream e ≡ seen query others other stream e
  pub same_watermark : (e : ℕ) → e ≤ n → watermark query parts one e ≡ watermark query others other e
  pub same_watermark_before : (e : ℕ) → e ≤ n → watermark_before query parts one e ≡ watermark_before query others other e
  pub same_accepted : (e : ℕ) → e ≤ n → accepted query parts one e ≡ accepted query others other e
  pub same_state : (partitions p e : ℕ) → e ≤ n → state query parts one partitions p e ≡ state query others other partitions p e
  pub same_fed : (e : ℕ) → e < n → fed query parts one e ≡ fed query others other e
  pub same_on_time : (e : ℕ) → e < n → on_time query parts one e ≡ on_time query others other e
  pub same_out : (e : ℕ) → e < n → out query parts one e ≡ out query others other e
  pub same_key_fault : (e : ℕ) → e < n → key_fault query parts one e ≡ key_fault query others other e
  pub same_fault : (e : ℕ) → e < n → fault query parts one e ≡ fault query others other e

-- what the first n epochs show, one after the other
unfoldable pub outs : Bound → List Part → Cuts → ℕ → List Values
outs query parts cuts zero = []
outs query parts cuts (suc n) = outs query parts cuts n ++ out query parts cuts n

-- What a query without state shows of lines of a stream, as a batch: the rows among them on which WHERE is TRUE, as SELECT shows them.
abbrev pub batch_of : Bound → ℕ → List Line → List Values
batch_of query stream lines = shown query (filter (is_fed query) (filter_map (λ line. option_and_then (λ row. row) (result_ok (read_at query stream line))) lines))

-- the same of the first lines of each part, as many as the cut says
abbrev pub batch : Bound → List Part → Cut → List Values
batch query [] ends = []
batch query (part ∷ parts) [] = []
batch query (part ∷ parts) (end ∷ ends) = batch_of query part.stream (take end part.lines) ++ batch query parts ends
