use Rattle.std.proofs.Common.{◌≡◌, ◌<◌, ◌+◌, ◌-◌, ℕ, true, List, refl, sym, ap, ◌∙◌, subst, inl, inr, arith}
use Rattle.std.specs.Prelude.{All, None, Some, is_some}
use Rattle.std.proofs.lemmas.Bool.{cases_lt}
use Rattle.std.proofs.lemmas.Result.{err_from_is_err_and}
use Rattle.ssq_outside.specs.declared.name.Name.{Name}
use Rattle.ssq_outside.specs.declared.name.Name.TheVariants as name
use Rattle.ssq_outside.specs.History.{History, files_now}
use Rattle.ssq_upkeep.specs.Upkeep.{is_among}
use Rattle.ssq_desk.specs.Upkeep.{IsNotFound, deltas_from, names_in}
use Rattle.ssq_desk.proofs.Missing.{delta_missing}
use Rattle.ssq_desk.proofs.Readings.{delta_among, names_all, names_none, names_step}
use Rattle.ssq_desk.proofs.Upkeeps.{did_still, fails_later}
use Rattle.ssq_desk.proofs.Wholes.{did_nothing}
use Rattle.ssq_desk.proofs.upkeep.with_deltas.Goals as goal

pub loop-version-init : goal.loop-version-init
loop-version-init g c = record {
  low = omega arith;
  high = c.requires.from;
  same_ledger = did_nothing c.args.ledger.now;
  same_disk = λ t. refl;
  counts = omega arith;
  names_are = names_none c.args.partition c.args.from (names_in c.args.files.items);
  are_there = λ t w low less. absurd (omega (arith, low, less));
  are_found = λ t all. all;
}

pub loop-version-preserved : goal.loop-version-preserved
loop-version-preserved g c =
    let v = c.loop-version.version in
    let i = c.loop-version.invariant in
    let low = i.low in
    let counts = i.counts in
    let counted = c.add_file.ensures.counted in
    let P : History → List (Name × List _) → Type 0 = λ h files. All (λ file. files_now h file.0 ≡ Some file.1) files in
    record {
      low = omega (arith, low);
      high = omega (arith, c.loop-version-test.true);
      same_ledger = did_still c.args.ledger.now c.loop-version.ledger c.add_file.new.ledger i.same_ledger c.add_file.ensures.did;
      same_disk = λ t. c.add_file.ensures.same t ∙ i.same_disk t;
      counts = omega (arith, counts, counted);
      names_are = names_step c.args.partition c.args.from v (v + 1) (names_in c.args.files.items) (names_in c.loop-version.files.items) (names_in c.add_file.new.files.items) low (omega arith) i.names_are c.in_ok-add_file.ensures.names;
      are_there = λ t w from to. elim (cases_lt w v) [
        | inl less ↦ i.are_there t w from less
        | inr most ↦ (let same : v ≡ w = omega (arith, to, most) in
            subst (λ (x : ℕ). is_some (files_now (g.D.Disk.history c.args.ledger.now.disk) (name.Delta c.args.partition x)) ≡ true) same
            (subst (λ (h : History). is_some (files_now h (name.Delta c.args.partition v)) ≡ true) (i.same_disk t) (c.in_ok-add_file.ensures.there t)))
      ];
      are_found = λ t all. subst (λ h. P h c.add_file.new.files.items) (i.same_disk t)
          (c.in_ok-add_file.ensures.found t (subst (λ h. P h c.loop-version.files.items) (sym (i.same_disk t)) (i.are_found t all)));
    }

pub returns-in_err-add_file-clause-did : goal.returns-in_err-add_file-clause-did
returns-in_err-add_file-clause-did g c = did_still c.args.ledger.now c.loop-version.ledger c.add_file.new.ledger c.loop-version.invariant.same_ledger c.add_file.ensures.did

pub returns-in_err-add_file-clause-same : goal.returns-in_err-add_file-clause-same
returns-in_err-add_file-clause-same g c = λ t. c.add_file.ensures.same t ∙ c.loop-version.invariant.same_disk t

pub returns-in_err-add_file-clause-cause : goal.returns-in_err-add_file-clause-cause
returns-in_err-add_file-clause-cause g c =
    let v = c.loop-version.version in
    let i = c.loop-version.invariant in
    let p = err_from_is_err_and c.from_residual.result c.from_residual.ensures.1 in
    let files = files_now (g.D.Disk.history c.args.ledger.now.disk) in
    let deltas = deltas_from c.args.partition c.args.from (c.args.versions - c.args.from) in
    let within : v < c.args.from + (c.args.versions - c.args.from) = (let low = i.low in omega (arith, low, c.loop-version-test.true)) in
    let among : is_among deltas (name.Delta c.args.partition v) ≡ true = delta_among c.args.partition c.args.from (c.args.versions - c.args.from) v i.low within in
    rw (p.1, p.2) (fails_later (λ q. (q ≡ name.Delta c.args.partition v) × (g.D.Disk.tells → files_now (g.D.Disk.history c.loop-version.ledger.disk) q ≡ None))
    (IsNotFound g.D.Disk.tells files deltas)
    (g.D.Disk.faults c.args.ledger.now.disk) (g.D.Disk.faults c.loop-version.ledger.disk) (g.D.Disk.faults c.add_file.new.ledger.disk) c.in_err-add_file.field-0.0 i.counts
    (λ q bad. (
      ap (is_among deltas) bad.0 ∙ among,
      (λ t.
          delta_missing files c.args.partition c.args.from (c.args.versions - c.args.from) v i.low within (i.are_there t)
          (subst (λ (n : Name). files n ≡ None) bad.0 (ap (λ (h : History). files_now h q) (sym (i.same_disk t)) ∙ bad.1 t)) ∙ ap Some (sym bad.0)),
    ))
    c.in_err-add_file.ensures.cause)

pub returns-in_err-add_file-clause-counted : goal.returns-in_err-add_file-clause-counted
returns-in_err-add_file-clause-counted g c = (let counts = c.loop-version.invariant.counts in let counted = c.add_file.ensures.counted in omega (arith, counts, counted))

pub returns-clause-names : goal.returns-clause-names
returns-clause-names g c =
    let i = c.loop-version.invariant in
    let high = i.high in
    let over : c.loop-version.version ≡ c.args.versions = omega (arith, high, c.loop-version-test.false) in
    names_all c.args.partition c.args.from c.loop-version.version c.args.versions (names_in c.args.files.items) (names_in c.loop-version.files.items) over i.names_are
