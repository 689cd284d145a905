use Rattle.std.proofs.Common.{◌≡◌, ◌+◌, ◌-◌, ◌++◌, ◌∷◌, ℕ, List, Some, None, refl, sym, ap, ◌∙◌, subst, arith}
use Rattle.std.specs.Prelude.{All}
use Rattle.std.proofs.lemmas.List.Elements.{All-nil}
use Rattle.ssq_outside.specs.declared.name.Name.{Name}
use Rattle.ssq_outside.specs.declared.name.Name.TheVariants as name
use Rattle.ssq_outside.specs.History.{files_now}
use Rattle.ssq_board.specs.Shelf.{there_in}
use Rattle.ssq_ledger.specs.Names.{IsNewestBelow}
use Rattle.ssq_ledger.specs.Shown.{shelf_of}
use Rattle.ssq_desk.specs.Upkeep.{IsNotFound, IsUnread, deltas_from, names_in}
use Rattle.ssq_desk.proofs.Readings.{all_read, behind_is, none_read, whole_is}
use Rattle.ssq_desk.proofs.Upkeeps.{if_fails_later}
use Rattle.ssq_desk.proofs.upkeep.read_files.Goals as goal

pub returns-in-Some-clause-read : goal.returns-in-Some-clause-read
returns-in-Some-clause-read g c =
    let b = c.in-Some.below in
    let names = there_in (shelf_of g.O.Opening.opening c.args.ledger.now) in
    all_read g.D.Disk.tells (files_now (g.D.Disk.history c.args.ledger.now.disk)) c.args.partition c.args.version names (Some b) (subst (IsNewestBelow c.args.partition c.args.version names) c.in-Some.is c.snapshot_below.ensures)
    (name.Snapshot c.args.partition b ∷ deltas_from c.args.partition (b + 1) ((c.args.version + 1) - (b + 1))) (behind_is c.args.partition c.args.version b (c.args.version + 1) refl) c.read_behind.result c.read_behind.ensures.names c.read_behind.ensures.found

pub returns-in-Some-clause-cause : goal.returns-in-Some-clause-cause
returns-in-Some-clause-cause g c =
    let b = c.in-Some.below in
    let names = there_in (shelf_of g.O.Opening.opening c.args.ledger.now) in
    let files = files_now (g.D.Disk.history c.args.ledger.now.disk) in
    let list = name.Snapshot c.args.partition b ∷ deltas_from c.args.partition (b + 1) ((c.args.version + 1) - (b + 1)) in
    if_fails_later (IsNotFound g.D.Disk.tells files list) (IsUnread g.D.Disk.tells files c.args.partition c.args.version names) (g.D.Disk.faults c.args.ledger.now.disk) (g.D.Disk.faults c.args.ledger.now.disk) (g.D.Disk.faults c.read_behind.new.ledger.disk)
    c.read_behind.result (omega arith) (none_read g.D.Disk.tells files c.args.partition c.args.version names (Some b) (subst (IsNewestBelow c.args.partition c.args.version names) c.in-Some.is c.snapshot_below.ensures) list (behind_is c.args.partition c.args.version b (c.args.version + 1) refl)) c.read_behind.ensures.cause

pub returns-in-None-clause-read : goal.returns-in-None-clause-read
returns-in-None-clause-read g c =
    let names = there_in (shelf_of g.O.Opening.opening c.args.ledger.now) in
    let files = files_now (g.D.Disk.history c.args.ledger.now.disk) in
    let rest = deltas_from c.args.partition 0 ((c.args.version + 1) - 0) in
    let begins : names_in c.new.result.items ++ rest ≡ rest = ap (λ (l : List (Name × List ℕ)). names_in l ++ rest) c.new.ensures.items in
    all_read g.D.Disk.tells files c.args.partition c.args.version names None (subst (IsNewestBelow c.args.partition c.args.version names) c.in-None.is c.snapshot_below.ensures) (names_in c.new.result.items ++ rest) (begins ∙ whole_is c.args.partition c.args.version (c.args.version + 1) refl) c.with_deltas.result c.with_deltas.ensures.names
    (λ t. c.with_deltas.ensures.found t (subst (All (λ (file : Name × List ℕ). files file.0 ≡ Some file.1)) (sym c.new.ensures.items) (All-nil (λ (file : Name × List ℕ). files file.0 ≡ Some file.1))))

pub returns-in-None-clause-cause : goal.returns-in-None-clause-cause
returns-in-None-clause-cause g c =
    let names = there_in (shelf_of g.O.Opening.opening c.args.ledger.now) in
    let files = files_now (g.D.Disk.history c.args.ledger.now.disk) in
    let list = deltas_from c.args.partition 0 ((c.args.version + 1) - 0) in
    if_fails_later (IsNotFound g.D.Disk.tells files list) (IsUnread g.D.Disk.tells files c.args.partition c.args.version names) (g.D.Disk.faults c.args.ledger.now.disk) (g.D.Disk.faults c.args.ledger.now.disk) (g.D.Disk.faults c.with_deltas.new.ledger.disk)
    c.with_deltas.result (omega arith) (none_read g.D.Disk.tells files c.args.partition c.args.version names None (subst (IsNewestBelow c.args.partition c.args.version names) c.in-None.is c.snapshot_below.ensures) list (whole_is c.args.partition c.args.version (c.args.version + 1) refl)) c.with_deltas.ensures.cause
