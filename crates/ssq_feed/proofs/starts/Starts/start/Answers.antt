use Rattle.std.proofs.Common.{pos, ◌*ℤ◌, ◌+ℤ◌, w64, FitsSigned}
use Rattle.std.proofs.lemmas.Int.{to_z-of_z}
use Rattle.ssq_feed.proofs.Windowing.{start_is, start_numbers_fit}
use Rattle.ssq_feed.proofs.starts.Starts.start.Goals as goal

pub overflow_mul-result : goal.overflow_mul-result
overflow_mul-result c =
    let fits = start_numbers_fit c.args.self.now c.args.nth c.requires in
    let from : FitsSigned w64 c.from.result = record { sfits = c.from.type_inv } in
    rw (to_z-of_z w64 c.from.result from, to_z-of_z w64 c.args.self.now.slide fits.slide_fits, c.from.ensures) fits.distance_fits

pub overflow_add-result : goal.overflow_add-result
overflow_add-result c =
    let starts = c.args.self.now in
    let fits = start_numbers_fit starts c.args.nth c.requires in
    rw (start_is starts.first starts.slide c.from.result c.args.nth fits (record { sfits = c.from.type_inv }) c.from.ensures) fits.start_fits

pub returns : goal.returns
returns c =
    let starts = c.args.self.now in
    let fits = start_numbers_fit starts c.args.nth c.requires in
    rw (start_is starts.first starts.slide c.from.result c.args.nth fits (record { sfits = c.from.type_inv }) c.from.ensures)
    (to_z-of_z w64 (starts.first +ℤ (pos c.args.nth *ℤ starts.slide)) fits.start_fits)
