-- When the rows of an out task that is back may be published.
use Rattle.std.proofs.Common.{◌≡◌, ◌≤◌, ℕ, false, List, [], ◌∷◌, length, Option, None, set, if◌then◌else◌, sym, refl, ap, ◌∙◌, subst, arith}
use mathlib.Core.Option.{some, some-ne-none}
use lib.ListN.{get_elem?}
use Rattle.ssq_board.specs.declared.front.Cause.{Cause}
use Rattle.ssq_board.specs.declared.front.Place.{Place}
use Rattle.ssq_board.specs.declared.front.Place.TheVariants as place
use Rattle.ssq_board.specs.declared.front.Entry.TheVariants as entry
use Rattle.ssq_board.specs.Core.{Scope, Core, May, after, due, due_stop, or_stop, is_stopped}
use Rattle.ssq_board.specs.Shown.{IsSound}
use Rattle.ssq_core.specs.Machine.{out_task}

only_back : (outs : List Place) → length outs ≤ 1 → get_elem? outs 0 ≡ some place.Away → ◌≡◌ {A = List Place} (set outs 0 (place.Back None)) (place.Back None ∷ [])
only_back [] le e = absurd (some-ne-none place.Away (sym e))
only_back (p ∷ []) le e = refl
only_back (p ∷ q ∷ l) le e = absurd (omega arith)

-- without a fault, of a desk that runs
pub out_file_may : (r : Scope) (c n : Core) (e : ℕ) → IsSound r c → c.front.stop ≡ None → c.front.written ≡ false → May r c (entry.Report (out_task e) None)
    → n ≡ after r c (entry.Report (out_task e) None) → May r n (entry.OutFile n.front.committed)
out_file_may r c n e d running unwritten m is =
    let back : ◌≡◌ {A = List Place} (set c.outs 0 (place.Back None)) (place.Back None ∷ []) = only_back c.outs d.outs m.2 in
    let stop : or_stop c.front.stop (due c (out_task e) None) ≡ None =
    ap (λ (o : Option Cause). or_stop o (if is_stopped o then None else due_stop (set c.outs 0 (place.Back None)))) running ∙ ap due_stop back in
    subst (λ (x : Core). May r x (entry.OutFile x.front.committed)) (sym is) (stop, refl, m.0, unwritten, ap (λ (l : List Place). get_elem? l 0) back)
