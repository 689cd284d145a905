use Rattle.std.proofs.Common.{◌≡◌, ◌<◌, ◌+◌, ◌∙◌, false, Some, get_or, take, refl, sym, subst, inl, inr, arith}
use Rattle.std.proofs.Math.ListN.{set}
use Rattle.std.proofs.lemmas.Bool.{false_from_ne_true}
use Rattle.std.proofs.lemmas.List.{length-set}
use Rattle.ssq_outside.specs.declared.name.Name.TheVariants as name
use Rattle.ssq_outside.specs.Files.{same_name}
use Rattle.ssq_outside.proofs.Names.{same_name-true}
use Rattle.ssq_upkeep.specs.Steps.{AreNewest}
use Rattle.ssq_upkeep.proofs.Among.{Grows, grows}
use Rattle.ssq_upkeep.proofs.Floors.{counted_each, newest_of_none, not_counted_each, of_another, too_new}
use Rattle.ssq_upkeep.proofs.newest.newest_each.Goals as goal
use Rattle.ssq_upkeep.proofs.newest.newest_each.Goals.{in-Snapshot+then-at-lt-MANY+then-version-highest, in-Snapshot+else-at-lt-MANY, in_default}

pub loop-name-init : goal.loop-name-init
loop-name-init c = rw c.no_versions-newest.ensures (refl, newest_of_none c.args.highest 64)

pub loop-name-preserved : goal.loop-name-preserved
loop-name-preserved c =
    let i = c.loop-name.name-index in
    let n = get_or c.args.names.now i name.Meta in
    let more = grows c.args.names.now i name.Meta c.loop-name-test.true in
    let old = take i c.args.names.now in
    let new = take (i + 1) c.args.names.now in
    let h = c.args.highest in
    let found = c.loop-name.newest in
    let many = c.loop-name.invariant.0 in
    let are = c.loop-name.invariant.1 in
    elim c.match-name.branch [
      | in-Snapshot+then-at-lt-MANY+then-version-highest w ↦ rw w.newest-is (
        length-set found w.in-Snapshot.of (Some w.later.result) ∙ many,
        subst (λ v. AreNewest new h (set found w.in-Snapshot.of (Some v))) (sym w.later.ensures)
            (counted_each old new w.in-Snapshot.of w.in-Snapshot.version h found (subst (Grows old new) w.in-Snapshot.is more) (subst (λ count. w.in-Snapshot.of < count) (sym many) w.if-at-lt-MANY.true) w.if-version-highest.true are),
      )
      | in-Snapshot+else-at-lt-MANY w ↦ rw w.newest-is (
        many,
        not_counted_each old new n h found more (λ p s within less.
            subst (λ q. same_name q (name.Snapshot p s) ≡ false) (sym w.in-Snapshot.is) (elim w.else-at-lt-MANY.either [
              | inl above ↦ too_new p w.in-Snapshot.of w.in-Snapshot.version s h above.1 less
              | inr past ↦ of_another p w.in-Snapshot.of w.in-Snapshot.version s (λ is. omega (arith, past, is, within, many))
            ])) are,
      )
      | in_default w ↦ rw w.newest-is (many, not_counted_each old new n h found more (λ p s within less. false_from_ne_true (same_name n (name.Snapshot p s)) (λ same. w.in_default.not-Snapshot p s (same_name-true n (name.Snapshot p s) same))) are)
    ]
