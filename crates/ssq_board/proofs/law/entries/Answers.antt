use Rattle.std.proofs.Common.{subst, sym}
use Rattle.ssq_board.specs.Core.{Core}
use Rattle.ssq_board.specs.Shown.{IsSound, first}
use Rattle.ssq_board.proofs.Following.{list_follows}
use Rattle.ssq_board.proofs.Opening.{shows_first, shelf_first}
use Rattle.ssq_board.proofs.Sounds.{first_sound, run_sound}
use Rattle.ssq_board.proofs.Telling.{Runs, runs_of, tells_all, covered}
use Rattle.ssq_board.proofs.law.entries.Goals as goal

pub returns-clause-legal : goal.returns-clause-legal
returns-clause-legal g c = λ tells job r due terms es s n d sound cuts shows held l. list_follows (g.D.Disk.tells × g.L.Log.tells) job r due terms tells es s n d sound cuts shows held l

pub returns-clause-first : goal.returns-clause-first
returns-clause-first g c = λ job r due terms s files d at op. (first_sound r s at.start, shows_first job r due terms s files d at.committed at.begins at.from op s.is_planned at.planned at.to at.due)

pub returns-clause-shelf : goal.returns-clause-shelf
returns-clause-shelf g c = λ job r s files d shelf committed op begins. shelf_first job r s files d shelf committed op begins s.is_planned

pub returns-clause-told : goal.returns-clause-told
returns-clause-told g c = λ job r due st es s n start begins l.
    let runs : Runs r (first r st) es n.core = subst (λ (x : Core). Runs r x es n.core) begins (runs_of (g.D.Disk.tells × g.L.Log.tells) job r due es s n l) in
    let sound : IsSound r n.core = run_sound (g.D.Disk.tells × g.L.Log.tells) job r due es s n l (subst (IsSound r) (sym begins) (first_sound r st start)) in
    (sound, tells_all r st es n.core runs, covered r st es n.core runs sound)
