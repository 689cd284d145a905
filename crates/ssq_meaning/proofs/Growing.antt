-- Epochs read the same of logs that have grown after them.
use Rattle.std.proofs.Common.{◌≡◌, ◌<◌, ◌≤◌, ◌+◌, ◌==◌, ◌++◌, [], ◌∷◌, ℕ, zero, suc, List, None, Result, Ok, Err, refl, ap, sym, ◌∙◌, length, map}
use Rattle.std.specs.Prelude.{if◌then◌else◌}
use Rattle.std.specs.List.{flat_map, enumerate_from}
use Rattle.ssq_shape.specs.declared.bound.Bound.{Bound}
use Rattle.ssq_meaning.specs.declared.line.LineFault.{LineFault}
use Rattle.ssq_meaning.specs.Meaning.{Line, lines_between}
use Rattle.ssq_meaning.specs.Parts.{Part, parts_from, parts_of, AreGrown}
use Rattle.ssq_meaning.specs.Cut.{Cut, Cuts, of_parts}
use Rattle.ssq_meaning.specs.Times.{greatest}
use Rattle.ssq_meaning.specs.Feeding.{Handed, line_handed, fed_if, fed_in, time_at, fault_if, first_of_all, fault_in}
use Rattle.ssq_meaning.specs.Epochs.{joined, time_of_stream}
use Rattle.ssq_meaning.specs.Laws.{ReadsSame}
use Rattle.ssq_meaning.proofs.Between.{lines_between-grown}

-- ---- one part

-- the part with these lines after its own
abbrev pub with_more : Part → List Line → Part
with_more part more = record { stream = part.stream; part = part.part; lines = part.lines ++ more }

-- what is said of the lines of a part up to an end is said of them where there are more after
abbrev Lasts : {A : Type 0} → (Part → ℕ → ℕ → A) → Type 0
Lasts say = (part : Part) (more : List Line) (from to : ℕ) → to ≤ length part.lines → say part from to ≡ say (with_more part more) from to

same_lines : (part : Part) (more : List Line) (from to : ℕ) → to ≤ length part.lines → lines_between from to part.lines ≡ lines_between from to (part.lines ++ more)
same_lines part more from to le = sym (lines_between-grown from to part.lines more le)

line_fed : (epoch : ℕ) (part : Part) (more : List Line) (offset : ℕ) (rows : Result (List Handed) LineFault) → fed_if epoch part offset rows ≡ fed_if epoch (with_more part more) offset rows
line_fed epoch part more offset (Ok rows) = refl
line_fed epoch part more offset (Err fault) = refl

fed_lasts : (query : Bound) (epoch : ℕ) → Lasts (fed_in query epoch)
fed_lasts query epoch part more from to le =
    let lines = same_lines part more from to le in
    λ i. flat_map (λ line. line_fed epoch part more line.0 (line_handed query part.stream line.1) i) (enumerate_from from (lines i))

time_lasts : (query : Bound) (stream : ℕ) → Lasts (time_of_stream query stream)
time_lasts query stream part more from to le =
    let lines = same_lines part more from to le in
    λ i. if part.stream == stream then greatest (map (λ line. time_at query part.stream line) (lines i)) else None

line_fault : (part : Part) (more : List Line) (offset : ℕ) (rows : Result (List Handed) LineFault) → fault_if part offset rows ≡ fault_if (with_more part more) offset rows
line_fault part more offset (Ok rows) = refl
line_fault part more offset (Err fault) = refl

pub fault_lasts : (query : Bound) (part : Part) (more : List Line) (from to : ℕ) → to ≤ length part.lines → fault_in query part from to ≡ fault_in query (with_more part more) from to
fault_lasts query part more from to le =
    let lines = same_lines part more from to le in
    λ i. first_of_all (map (λ line. line_fault part more line.0 (line_handed query part.stream line.1) i) (enumerate_from from (lines i)))

-- ---- all parts

-- as many parts, each of them with some lines after its own
abbrev pub AreGrownParts : List Part → List Part → Type 0
AreGrownParts [] [] = Unit {0}
AreGrownParts [] (other ∷ others) = ⊥
AreGrownParts (part ∷ parts) [] = ⊥
AreGrownParts (part ∷ parts) (other ∷ others) = ((more : List Line) × (other ≡ with_more part more)) × AreGrownParts parts others

-- no end is after the lines of its part
abbrev pub AreCovered : List Part → Cut → Type 0
AreCovered [] ends = Unit {0}
AreCovered (part ∷ parts) [] = Unit {0}
AreCovered (part ∷ parts) (end ∷ ends) = (end ≤ length part.lines) × AreCovered parts ends

parts_grow : (stream part left : ℕ) (counts : List ℕ) (lines longer : List (List Line)) → AreGrown lines longer
    → AreGrownParts (parts_from stream part left counts lines) (parts_from stream part left counts longer)
unfolding parts_from
parts_grow stream part left counts [] [] grown = tt
parts_grow stream part left counts [] (next ∷ longer) grown = absurd grown
parts_grow stream part left counts (own ∷ lines) [] grown = absurd grown
parts_grow stream part (suc left) counts (own ∷ lines) (next ∷ longer) grown =
    let here = grown.0.is in
    ((grown.0.more, λ i. (let it : Part = record { stream = stream; part = part; lines = here i } in it)), parts_grow stream (part + 1) left counts lines longer grown.1)
parts_grow stream part zero [] (own ∷ lines) (next ∷ longer) grown = tt
parts_grow stream part zero (count ∷ counts) (own ∷ lines) (next ∷ longer) grown = parts_grow (stream + 1) 0 count counts (own ∷ lines) (next ∷ longer) grown

-- the parts of logs that have grown are parts that have
pub grown_parts : (counts : List ℕ) (lines longer : List (List Line)) → AreGrown lines longer → AreGrownParts (parts_of counts lines) (parts_of counts longer)
grown_parts [] lines longer grown = tt
grown_parts (count ∷ counts) lines longer grown = parts_grow 0 0 count counts lines longer grown

part_by_part : {A : Type 0} (say : Part → ℕ → ℕ → A) → Lasts say → (parts others : List Part) (froms tos : Cut) → AreGrownParts parts others → AreCovered parts tos
    → of_parts say parts froms tos ≡ of_parts say others froms tos
unfolding of_parts
part_by_part say lasts [] [] froms tos grown covered = refl
part_by_part say lasts [] (other ∷ others) froms tos grown covered = absurd grown
part_by_part say lasts (part ∷ parts) [] froms tos grown covered = absurd grown
part_by_part say lasts (part ∷ parts) (other ∷ others) [] tos grown covered = refl
part_by_part say lasts (part ∷ parts) (other ∷ others) (from ∷ froms) [] grown covered = refl
part_by_part say lasts (part ∷ parts) (other ∷ others) (from ∷ froms) (to ∷ tos) grown covered =
    let here = lasts part grown.0.0 from to covered.0 ∙ ap (λ (it : Part). say it from to) (sym grown.0.1) in
    let rest = part_by_part say lasts parts others froms tos grown.1 covered.1 in
    λ i. here i ∷ rest i

-- epochs that end within the lines of parts read the same where these have grown
pub read_grown : (query : Bound) (parts others : List Part) (cuts : Cuts) (n : ℕ) → AreGrownParts parts others → ((e : ℕ) → e < n → AreCovered parts (cuts (e + 1))) → ReadsSame query parts others cuts cuts n
read_grown query parts others cuts n grown covered = record {
  same_rows = λ e less. ap joined (part_by_part (fed_in query e) (fed_lasts query e) parts others (cuts e) (cuts (e + 1)) grown (covered e less));
  same_times = λ stream e less. ap greatest (part_by_part (time_of_stream query stream) (time_lasts query stream) parts others (cuts e) (cuts (e + 1)) grown (covered e less));
  same_faults = λ e less. ap first_of_all (part_by_part (fault_in query) (fault_lasts query) parts others (cuts e) (cuts (e + 1)) grown (covered e less));
}
