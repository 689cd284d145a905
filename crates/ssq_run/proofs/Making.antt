-- A run over generated input is not refused and meets no limit.
use Rattle.std.proofs.Common.{◌≡◌, ◌<◌, ◌≤◌, ◌+◌, ◌*◌, ◌-◌, ◌%◌, ◌==◌, ◌∙◌, ℕ, zero, suc, Bool, true, false, List, [], ◌∷◌, ◌++◌, length, map, sum, All, Option, Some, None, Result, refl, sym, ap, subst, add-one, arith, if◌then◌else◌}
use Rattle.std.specs.Prelude.{slice_get, unwrap_or}
use Rattle.std.specs.Option.{option_map_or}
use Rattle.std.specs.Str.{bytes_eq}
use Rattle.std.proofs.lemmas.List.{length-append}
use Rattle.std.proofs.lemmas.List.Elements.{All-append, All-cons, All-nil}
use Rattle.std.proofs.lemmas.List.Sums.{sum-map, sum_by-cons}
use Rattle.ssq_outside.specs.Files.{Files, IsEmpty}
use Rattle.ssq_outside.specs.History.{History, files_now}
use Rattle.ssq_outside.specs.Logs.{Held, Line}
use Rattle.ssq_fakes.specs.Disks.{history_of}
use Rattle.ssq_shape.specs.declared.bound.Bound.{Bound}
use Rattle.ssq_shape.specs.declared.bound.Stream.{Stream}
use Rattle.ssq_course.specs.Setting.{Setting, closes}
use Rattle.ssq_logs.specs.Asked.{most_lines}
use Rattle.ssq_logs.specs.Parts.{counts_in, lines_from, lines_in, IsFew}
use Rattle.ssq_runner.specs.declared.ask.Ask.{Ask}
use Rattle.ssq_runner.specs.declared.fault.RunFault.{RunFault}
use Rattle.ssq_runner.specs.Complete.{CanGoOn, HasRoom, IsNoRefusal, IsNoLimit, RunsGoOn, RunsMeetNoLimit, is_empty, most_epochs}
use Rattle.ssq_runner.specs.Sources.{IsSettingFor, RunOver}
use Rattle.ssq_gen.specs.Made.{line_at, made_held, part_lines, parts_made, source}
use Rattle.ssq_gen.proofs.Turns.{part_lines-next}
use Rattle.ssq_run.specs.declared.stop.Stop.{Stop}
use Rattle.ssq_run.specs.Generated.{GenEnd, in_memory, made_cap, made_partitions, made_setting, setting_over}
use Rattle.ssq_run.specs.Stopping.{IsToldAs, stop_of_end}
use Rattle.ssq_run.proofs.Generating.{IsRan, RanSo, gen_ran, gen_stop, over_so}

-- an empty disk
pub nothing_there : IsEmpty (files_now (history_of [] 0))
nothing_there q = refl

-- the most lines that are made
abbrev most_made : ℕ
most_made = 10000000

one_long : (own : Bool) (n : ℕ) (lines : List Line) (one : Line) → length lines ≤ n → length (lines ++ (if own then one ∷ [] else [])) ≤ n + 1
one_long true n lines one least = let len = length-append lines (one ∷ []) in omega (arith, len, least)
one_long false n lines one least = let len = length-append lines [] in omega (arith, len, least)

part_long : (number n part : ℕ) → length (part_lines number n part) ≤ n
unfolding part_lines
part_long number zero part = omega arith
part_long number (suc n) part =
    subst (λ (m : ℕ). length (part_lines number m part) ≤ m) (add-one n)
    (subst (λ (lines : List Line). length lines ≤ n + 1) (sym (part_lines-next number n part)) (one_long (n % 2 == part) n (part_lines number n part) (line_at number n) (part_long number n part)))

lines_long : (own : Bool) (number n part : ℕ) → length (if own then option_map_or (λ (lines : List Line). lines) (slice_get (parts_made number n) part) [] else []) ≤ n
lines_long false number n part = omega arith
lines_long true number n zero = part_long number n 0
lines_long true number n (suc zero) = part_long number n 1
lines_long true number n (suc (suc part)) = omega arith

-- the setting is that of the query over what inputs hold
setting_for : (held : Held) (bound : Bound) (start : History) → IsSettingFor held bound (Some made_partitions) start (setting_over held bound)
setting_for held bound start = record {
  query = refl;
  parts = refl;
  lines_are = refl;
  some_partitions = omega arith;
  few_partitions = omega arith;
  as_asked = λ count is. ap (λ (o : Option ℕ). unwrap_or o made_partitions) is;
  first = λ none. refl;
}

module _ (number n : ℕ) (few : n ≤ most_made) where
  abbrev held : Held
  held = made_held number n

  list_long : (stream : List ℕ) (part : ℕ) → length (held.lines stream part) ≤ most_made
  list_long stream part = let long = lines_long (bytes_eq source stream) number n part in omega (arith, long, few)

  abbrev count_of : Stream → ℕ
  count_of stream = held.parts stream.source

  two : (own : Bool) → (if own then 2 else 0) ≤ 2
  two true = omega arith
  two false = omega arith

  few_parts : (streams : List Stream) → All IsFew (counts_in held streams)
  few_parts [] = All-nil IsFew
  few_parts (stream ∷ streams) = All-cons IsFew (count_of stream) (counts_in held streams) (let least = two (bytes_eq source stream.source) in omega (arith, least)) (few_parts streams)

  abbrev IsShort : List Line → Type 0
  IsShort own = length own ≤ most_lines

  short_from : (stream : List ℕ) (part left : ℕ) → All IsShort (lines_from held stream part left)
  short_from stream part zero = All-nil IsShort
  short_from stream part (suc left) =
      All-cons IsShort (held.lines stream part) (lines_from held stream (part + 1) left) (let long = list_long stream part in omega (arith, long)) (short_from stream (part + 1) left)

  short_in : (streams : List Stream) → All IsShort (lines_in held streams)
  short_in [] = All-nil IsShort
  short_in (stream ∷ streams) = All-append IsShort (lines_from held stream.source 0 (count_of stream)) (lines_in held streams) (short_from stream.source 0 (count_of stream)) (short_in streams)

  abbrev total : List (List Line) → ℕ
  total lists = sum (map (λ (own : List Line). length own) lists)

  total-cons : (own : List Line) (lists : List (List Line)) → total (own ∷ lists) ≡ length own + total lists
  total-cons own lists = sum-map (λ (lines : List Line). length lines) (own ∷ lists) ∙ sum_by-cons (λ (lines : List Line). length lines) own lists ∙ ap (λ (n : ℕ). length own + n) (sym (sum-map (λ (lines : List Line). length lines) lists))

  total-append : (xs ys : List (List Line)) → total (xs ++ ys) ≡ total xs + total ys
  total-append [] ys = omega arith
  total-append (x ∷ xs) ys = let rest = total-append xs ys in let one = total-cons x (xs ++ ys) in let other = total-cons x xs in omega (arith, rest, one, other)

  total_from : (stream : List ℕ) (part left : ℕ) → total (lines_from held stream part left) ≤ left * most_made
  total_from stream part zero = omega arith
  total_from stream part (suc left) =
      let long = list_long stream part in
      let rest = total_from stream (part + 1) left in
      let one = total-cons (held.lines stream part) (lines_from held stream (part + 1) left) in
      omega (arith, long, rest, one)

  total_in : (streams : List Stream) → total (lines_in held streams) ≤ length streams * 20000000
  total_in [] = omega arith
  total_in (stream ∷ streams) =
      let both = total-append (lines_from held stream.source 0 (count_of stream)) (lines_in held streams) in
      let own = total_from stream.source 0 (count_of stream) in
      let least = two (bytes_eq source stream.source) in
      let rest = total_in streams in
      omega (arith, both, own, least, rest)

  epochs_few : (own : Bool) (lines : ℕ) → lines ≤ 40000000 → (if own then lines + lines + 1 else lines) < most_epochs
  epochs_few true lines least = omega (arith, least)
  epochs_few false lines least = omega (arith, least)

  module _ (bound : Bound) (start : History) (empty : IsEmpty (files_now start)) (known : List ℕ → ℕ → ℕ) where
    can_go_on : CanGoOn held known bound (Some made_partitions) start (made_setting bound number n)
    can_go_on = record { setting = setting_for held bound start; few_parts = few_parts bound.streams; resumed = is_empty empty }

    has_room : length bound.streams ≤ 2 → HasRoom held known bound (Some made_partitions) start (made_setting bound number n)
    has_room two_streams = record {
      can = record { setting = setting_for held bound start; few_parts = few_parts bound.streams; resumed = is_empty empty };
      few_lines = short_in bound.streams;
      few_epochs =
          let all = total_in bound.streams in
          let least = epochs_few (closes bound) (total (lines_in held bound.streams) - 0) (omega (arith, all, two_streams)) in
          omega (arith, least);
    }

-- ---- the run

-- how generated input goes on where its run ended so
abbrev pub AfterRun : Bound → (number count : ℕ) → Files → Option Stop → Type 0
AfterRun bound number count files None = IsRan (made_setting bound number count) files
AfterRun bound number count files (Some why) = GenEnd bound number count [] (Some (in_memory why))

after_run : (bound : Bound) (number count : ℕ) (files : Files) (counts : List ℕ) (end : Result (Unit {0}) RunFault) (why : Option Stop) → RanSo (made_setting bound number count) files end → IsNoRefusal end → IsNoLimit end
    → IsToldAs why (stop_of_end bound.streams counts end) → AfterRun bound number count files why
after_run bound number count files counts end None so goes free told = gen_ran (made_setting bound number count) files bound.streams counts end so goes free told
after_run bound number count files counts end (Some why) so goes free told = gen_stop bound number count files end why counts so goes free told

-- what is asked of such a run
abbrev made_ask : Ask
made_ask = record { partitions = Some made_partitions; cap = Some made_cap; rounds = 1 }

module _ {L : Type 0} (told tells : Type 0) (lines : L → List Line) (available : L → ℕ) (answers : L → List ℕ) (faults : L → ℕ) (OutTells : Type 0) where
  pub gen_run : (held : Held) (known : List ℕ → ℕ → ℕ) (bound : Bound) (start now : History) (disk_faults disk_faults_now : ℕ) (returned returned_now : List (List ℕ)) (old written text counts : List ℕ) (end : Result (Unit {0}) RunFault) (why : Option Stop)
      → RunOver told tells lines available answers faults held known bound made_ask start now disk_faults disk_faults_now returned returned_now OutTells old written text end → IsToldAs why (stop_of_end bound.streams counts end)
      → told → tells → ((log : L) → available log ≡ length (lines log)) → RunsGoOn told tells lines available answers faults OutTells → RunsMeetNoLimit told tells lines available answers faults OutTells
      → (number count : ℕ) → held ≡ made_held number count → count ≤ most_made → length bound.streams ≤ 2 → IsEmpty (files_now start) → AfterRun bound number count (files_now now) why
  gen_run held known bound start now disk_faults disk_faults_now returned returned_now old written text counts end why ran is t k whole goes free number count made few two_streams empty =
      let over_held = λ (h : Held). RunOver told tells lines available answers faults h known bound made_ask start now disk_faults disk_faults_now returned returned_now OutTells old written text end in
      let own = subst over_held made ran in
      let s : Setting = made_setting bound number count in
      after_run bound number count (files_now now) counts end why
      (over_so told tells lines available answers faults whole k (made_held number count) known bound made_ask start now disk_faults disk_faults_now returned returned_now OutTells old written text end own t refl refl empty s
      (setting_for (made_held number count) bound start))
      (goes t k (made_held number count) known bound made_ask start now disk_faults disk_faults_now returned returned_now old written text end s (can_go_on number count few bound start empty known) own)
      (free t k (made_held number count) known bound made_ask start now disk_faults disk_faults_now returned returned_now old written text end s (has_room number count few bound start empty known two_streams) own)
      is
