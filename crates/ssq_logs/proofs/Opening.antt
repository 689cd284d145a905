-- Logs that are opened one after the other.
use Rattle.std.proofs.Common.{◌≡◌, ◌<◌, ◌≤◌, ◌+◌, ◌-◌, ◌++◌, ◌∷◌, [], ℕ, zero, suc, List, map, Result, Ok, Err, OnOk, OnErr, refl, sym, ap, ◌∙◌, subst, arith}
use Rattle.std.proofs.lemmas.List.{append-nil, append_assoc, map-append}
use Rattle.ssq_outside.specs.Logs.{Held, Line}
use Rattle.ssq_shape.specs.declared.bound.Stream.{Stream}
use Rattle.ssq_logs.specs.declared.fault.PartsFault.{PartsFault}
use Rattle.ssq_logs.specs.Parts.{counts_in, lines_from, lines_in}
use Rattle.ssq_logs.specs.Opened.{Part, parts_from, parts_of, IsLogOf, AreLogsOf, AreOpened, AreOpenedUpTo}

-- one part, and those after it
pub parts_next : (source : List ℕ) (part end : ℕ) → part < end → parts_from source part (end - part) ≡ record { source = source; number = part } ∷ parts_from source (part + 1) (end - (part + 1))
parts_next source part end more = let one : end - part ≡ suc (end - (part + 1)) = omega arith in ap (parts_from source part) one

-- the parts of one stream, and those of the streams after it
pub parts_first : (streams rest : List Stream) (s : Stream) (source : List ℕ) (counts more : List ℕ) (n : ℕ) → streams ≡ s ∷ rest → source ≡ s.source → counts ≡ n ∷ more
    → parts_of streams counts ≡ parts_from source 0 (n - 0) ++ parts_of rest more
parts_first streams rest s source counts more n is from are =
    let all : n ≡ n - 0 = omega arith in
    ap (λ l. parts_of l counts) is ∙ ap (parts_of (s ∷ rest)) are ∙ ap (λ k. parts_from s.source 0 k ++ parts_of rest more) all ∙ ap (λ (l : List ℕ). parts_from l 0 (n - 0) ++ parts_of rest more) (sym from)

lines_of_stream : (held : Held) (source : List ℕ) (number left : ℕ) → map (λ (part : Part). held.lines part.source part.number) (parts_from source number left) ≡ lines_from held source number left
lines_of_stream held source number zero = refl
lines_of_stream held source number (suc left) = ap (λ l. held.lines source number ∷ l) (lines_of_stream held source (number + 1) left)

lines_of_all : (held : Held) (streams : List Stream) → map (λ (part : Part). held.lines part.source part.number) (parts_of streams (counts_in held streams)) ≡ lines_in held streams
lines_of_all held [] = refl
lines_of_all held (s ∷ streams) =
    map-append (λ (part : Part). held.lines part.source part.number) (parts_from s.source 0 (held.parts s.source)) (parts_of streams (counts_in held streams))
    ∙ ap (λ l. l ++ map (λ (part : Part). held.lines part.source part.number) (parts_of streams (counts_in held streams))) (lines_of_stream held s.source 0 (held.parts s.source))
    ∙ ap (λ l. lines_from held s.source 0 (held.parts s.source) ++ l) (lines_of_all held streams)

-- a refused call
pub on_err : {P : Type 0} (r : Result (Unit {0}) PartsFault) → P → OnErr r P
on_err (Ok u) p = tt
on_err (Err e) p = p

module _ {L : Type 0} (tells : Type 0) (lines : L → List Line) (available : L → ℕ) (answers : L → List ℕ) (faults : L → ℕ) where
  weaker_one : (held now : Held) (known later : List ℕ → ℕ → ℕ) → (tells → now ≡ held) → (tells → (stream : List ℕ) (part : ℕ) → known stream part ≤ later stream part)
      → (part : Part) (log : L) → IsLogOf tells lines available answers faults now later part log → IsLogOf tells lines available answers faults held known part log
  weaker_one held now known later same grown part log is = record {
    right = λ t. is.right t ∙ ap (λ (h : Held). h.lines part.source part.number) (same t);
    begins = λ t. let x = grown t part.source part.number in let y = is.begins t in omega (arith, x, y);
    unasked = is.unasked;
    fresh = is.fresh;
  }

  -- what is right of later inputs is of earlier ones
  weaker : (held now : Held) (known later : List ℕ → ℕ → ℕ) → (tells → now ≡ held) → (tells → (stream : List ℕ) (part : ℕ) → known stream part ≤ later stream part)
      → (parts : List Part) (logs : List L) → AreLogsOf tells lines available answers faults now later parts logs → AreLogsOf tells lines available answers faults held known parts logs
  weaker held now known later same grown [] [] are = tt
  weaker held now known later same grown [] (log ∷ logs) are = are
  weaker held now known later same grown (part ∷ parts) [] are = are
  weaker held now known later same grown (part ∷ parts) (log ∷ logs) are = (weaker_one held now known later same grown part log are.0, weaker held now known later same grown parts logs are.1)

  both : (held : Held) (known : List ℕ → ℕ → ℕ) (parts others : List Part) (logs more : List L) → AreLogsOf tells lines available answers faults held known parts logs
      → AreLogsOf tells lines available answers faults held known others more → AreLogsOf tells lines available answers faults held known (parts ++ others) (logs ++ more)
  both held known [] others [] more a b = b
  both held known [] others (log ∷ logs) more a b = absurd a
  both held known (part ∷ parts) others [] more a b = absurd a
  both held known (part ∷ parts) others (log ∷ logs) more a b = (a.0, both held known parts others logs more a.1 b)

  -- one log is
  pub opened_one : (held : Held) (known : List ℕ → ℕ → ℕ) (part : Part) (log : L) (old new : List L) → new ≡ old ++ log ∷ [] → IsLogOf tells lines available answers faults held known part log
      → AreOpened tells lines available answers faults held known (part ∷ []) old new
  opened_one held known part log old new is right = record { more = log ∷ []; behind = is; are = (right, tt) }

  -- some logs, and then others
  opened_both : (held now : Held) (known later : List ℕ → ℕ → ℕ) → (tells → now ≡ held) → (tells → (stream : List ℕ) (part : ℕ) → known stream part ≤ later stream part)
      → (parts others : List Part) (old mid new : List L) → AreOpened tells lines available answers faults held known parts old mid → AreOpened tells lines available answers faults now later others mid new
      → AreOpened tells lines available answers faults held known (parts ++ others) old new
  opened_both held now known later same grown parts others old mid new a b = record {
    more = a.more ++ b.more;
    behind = b.behind ∙ ap (λ l. l ++ b.more) a.behind ∙ append_assoc old a.more b.more;
    are = both held known parts others a.more b.more a.are (weaker held now known later same grown others b.more b.are);
  }

  -- the same, as a call answers it
  pub opened_then : (r : Result (Unit {0}) PartsFault) (held now : Held) (known later : List ℕ → ℕ → ℕ) → (tells → now ≡ held) → (tells → (stream : List ℕ) (part : ℕ) → known stream part ≤ later stream part)
      → (all parts others : List Part) (old mid new : List L) → all ≡ parts ++ others → AreOpened tells lines available answers faults held known parts old mid
      → OnOk r (AreOpened tells lines available answers faults now later others mid new) → OnOk r (AreOpened tells lines available answers faults held known all old new)
  opened_then (Ok u) held now known later same grown all parts others old mid new is a b =
      subst (λ (p : List Part). AreOpened tells lines available answers faults held known p old new) (sym is) (opened_both held now known later same grown parts others old mid new a b)
  opened_then (Err e) held now known later same grown all parts others old mid new is a b = tt

  -- the first of the parts could not be opened
  pub upto_here : (held : Held) (known : List ℕ → ℕ → ℕ) (all rest : List Part) (part : Part) (old new : List L) → all ≡ part ∷ rest → new ≡ old → AreOpenedUpTo tells lines available answers faults held known all old new
  upto_here held known all rest part old new is same = record { first = []; next = part; rest = rest; split = is; opened = record { more = []; behind = same ∙ sym (append-nil old); are = tt } }

  -- these could, and one after them could not
  pub upto_later : (r : Result (Unit {0}) PartsFault) (held now : Held) (known later : List ℕ → ℕ → ℕ) → (tells → now ≡ held) → (tells → (stream : List ℕ) (part : ℕ) → known stream part ≤ later stream part)
      → (all parts others : List Part) (old mid new : List L) → all ≡ parts ++ others → AreOpened tells lines available answers faults held known parts old mid
      → OnErr r (AreOpenedUpTo tells lines available answers faults now later others mid new) → OnErr r (AreOpenedUpTo tells lines available answers faults held known all old new)
  upto_later (Ok u) held now known later same grown all parts others old mid new is a b = tt
  upto_later (Err e) held now known later same grown all parts others old mid new is a b = record {
    first = parts ++ b.first;
    next = b.next;
    rest = b.rest;
    split = is ∙ ap (λ l. parts ++ l) b.split ∙ sym (append_assoc parts b.first (b.next ∷ b.rest));
    opened = opened_both held now known later same grown parts b.first old mid new a b.opened;
  }

  lines_of_logs : tells → (held : Held) (known : List ℕ → ℕ → ℕ) (parts : List Part) (logs : List L) → AreLogsOf tells lines available answers faults held known parts logs
      → map lines logs ≡ map (λ (part : Part). held.lines part.source part.number) parts
  lines_of_logs t held known [] [] are = refl
  lines_of_logs t held known [] (log ∷ logs) are = absurd are
  lines_of_logs t held known (part ∷ parts) [] are = absurd are
  lines_of_logs t held known (part ∷ parts) (log ∷ logs) are =
      ap (λ l. l ∷ map lines logs) (are.0.right t) ∙ ap (λ l. held.lines part.source part.number ∷ l) (lines_of_logs t held known parts logs are.1)

  -- the lines of all logs that were opened
  pub lines_opened : (r : Result (Unit {0}) PartsFault) (held : Held) (known : List ℕ → ℕ → ℕ) (streams : List Stream) (counts : List ℕ) (old new : List L) → tells → counts ≡ counts_in held streams
      → OnOk r (AreOpened tells lines available answers faults held known (parts_of streams counts) old new) → OnOk r (map lines new ≡ map lines old ++ lines_in held streams)
  lines_opened (Err e) held known streams counts old new t are a = tt
  lines_opened (Ok u) held known streams counts old new t are a =
      ap (map lines) a.behind ∙ map-append lines old a.more
      ∙ ap (λ l. map lines old ++ l) (lines_of_logs t held known (parts_of streams counts) a.more a.are
      ∙ ap (λ l. map (λ (part : Part). held.lines part.source part.number) (parts_of streams l)) are ∙ lines_of_all held streams)
