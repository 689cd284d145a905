-- What is said of first epochs hangs on what these read.
use Rattle.std.proofs.Common.{◌≡◌, ◌<◌, ◌≤◌, ◌+◌, ◌++◌, ℕ, zero, suc, List, refl, arith}
use Rattle.std.specs.Prelude.{option_map}
use Rattle.ssq_shape.specs.declared.bound.Bound.{Bound}
use Rattle.ssq_meaning.specs.Parts.{Part}
use Rattle.ssq_meaning.specs.Cut.{Cuts, AreSameTo}
use Rattle.ssq_meaning.specs.Times.{later, delays, watermark_by}
use Rattle.ssq_meaning.specs.Feeding.{or_else}
use Rattle.ssq_meaning.specs.Operator.{operator_of}
use Rattle.ssq_meaning.specs.Epochs.{fed_between, fault_between, time_between, seen, watermark, watermark_before, timely, on_time, accepted, out, key_fault, fault, of_line, of_key, bucket, state}
use Rattle.ssq_meaning.specs.Laws.{ReadsSame, SaysSame}

module _ (query : Bound) (parts others : List Part) (one other : Cuts) (n : ℕ) (reads : ReadsSame query parts others one other n) where
  seen_same : (stream e : ℕ) → e ≤ n → seen query parts one stream e ≡ seen query others other stream e
  unfolding seen
  seen_same stream zero le = refl
  seen_same stream (suc e) le =
      let before = seen_same stream e (omega (arith, le)) in
      let now = reads.same_times stream e (omega (arith, le)) in
      λ i. later (before i) (now i)

  water_same : (e : ℕ) → e ≤ n → watermark query parts one e ≡ watermark query others other e
  water_same e le = λ i. watermark_by (delays query) (λ stream. seen_same stream e le i)

  before_same : (e : ℕ) → e ≤ n → watermark_before query parts one e ≡ watermark_before query others other e
  before_same zero le = refl
  before_same (suc e) le = water_same e (omega (arith, le))

  on_time_same : (e : ℕ) → e < n → on_time query parts one e ≡ on_time query others other e
  on_time_same e less =
      let water = water_same e (omega (arith, less)) in
      let rows = reads.same_rows e less in
      λ i. timely query (water i) (rows i)

  accepted_same : (e : ℕ) → e ≤ n → accepted query parts one e ≡ accepted query others other e
  unfolding accepted
  accepted_same zero le = refl
  accepted_same (suc e) le =
      let before = accepted_same e (omega (arith, le)) in
      let now = on_time_same e (omega (arith, le)) in
      λ i. before i ++ now i

  out_same : (e : ℕ) → e < n → out query parts one e ≡ out query others other e
  out_same e less =
      let old = accepted_same e (omega (arith, less)) in
      let new = on_time_same e less in
      let before = before_same e (omega (arith, less)) in
      let now = water_same e (omega (arith, less)) in
      λ i. (operator_of query).added (old i) (new i) (before i) (now i)

  key_fault_same : (e : ℕ) → e < n → key_fault query parts one e ≡ key_fault query others other e
  key_fault_same e less =
      let old = accepted_same e (omega (arith, less)) in
      let new = on_time_same e less in
      let before = before_same e (omega (arith, less)) in
      let now = water_same e (omega (arith, less)) in
      λ i. (operator_of query).fault (old i) (new i) (before i) (now i)

  fault_same : (e : ℕ) → e < n → fault query parts one e ≡ fault query others other e
  fault_same e less =
      let line = reads.same_faults e less in
      let key = key_fault_same e less in
      λ i. or_else (option_map of_line (line i)) (option_map of_key (key i))

  state_same : (partitions p e : ℕ) → e ≤ n → state query parts one partitions p e ≡ state query others other partitions p e
  state_same partitions p e le =
      let old = accepted_same e le in
      let before = before_same e le in
      λ i. (operator_of query).state (bucket partitions p (old i)) (before i)

  -- first epochs that read the same say the same
  pub read_says : SaysSame query parts others one other n
  read_says = record {
    same_seen = seen_same;
    same_watermark = water_same;
    same_watermark_before = before_same;
    same_accepted = accepted_same;
    same_state = state_same;
    same_fed = reads.same_rows;
    same_on_time = on_time_same;
    same_out = out_same;
    same_key_fault = key_fault_same;
    same_fault = fault_same;
  }

-- two cuttings of the same parts that are the same up to there read the same
pub read_same : (query : Bound) (parts : List Part) (one other : Cuts) (n : ℕ) → AreSameTo one other n → ReadsSame query parts parts one other n
read_same query parts one other n same = record {
  same_rows = λ e less. (let from = start e less in let to = end e less in λ i. fed_between query e parts (from i) (to i));
  same_times = λ stream e less. (let from = start e less in let to = end e less in λ i. time_between query parts (from i) (to i) stream);
  same_faults = λ e less. (let from = start e less in let to = end e less in λ i. fault_between query parts (from i) (to i));
}
  where
    start : (e : ℕ) → e < n → one e ≡ other e
    start e less = same e (omega (arith, less))

    end : (e : ℕ) → e < n → one (e + 1) ≡ other (e + 1)
    end e less = same (e + 1) (omega (arith, less))

-- and so they say the same
pub says_same : (query : Bound) (parts : List Part) (one other : Cuts) (n : ℕ) → AreSameTo one other n → SaysSame query parts parts one other n
says_same query parts one other n same = read_says query parts parts one other n (read_same query parts one other n same)
