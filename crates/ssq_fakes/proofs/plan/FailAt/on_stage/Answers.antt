use Rattle.std.proofs.Common.{◌≡◌, ◌++◌, ◌∷◌, [], ◌<◌, ◌+◌, ◌==◌, ℕ, List, true, false, length, drop, get_or, refl, append_assoc, add-one, drop-cons, eq-eqb, arith, rules}
use Rattle.ssq_fakes.specs.declared.plan.FailAt.{FailAt}
use Rattle.ssq_fakes.specs.declared.plan.FailAt.TheVariants.{Disk, Stage}
use Rattle.ssq_fakes.specs.Plans.{on_stage}
use Rattle.ssq_fakes.proofs.plan.FailAt.on_stage.Goals as goal
use Rattle.ssq_fakes.proofs.plan.FailAt.on_stage.Goals.{in-Stage+then-of-stage+in_ok-push, in-Stage+else-of-stage, in_default}

-- the call at the index is one on the stage, one on another, or one on the disk
of_stage : (calls : List FailAt) (stage i of at : ℕ) (d : FailAt) (all found : List ℕ) → i < length calls → get_or calls i d ≡ Stage of at → of ≡ stage
    → all ≡ found ++ on_stage stage (drop i calls) → all ≡ (found ++ at ∷ []) ++ on_stage stage (drop (i + 1) calls)
of_stage calls stage i of at d all found below is same so_far =
    let test : (of == stage) ≡ true = eq-eqb of stage same in
    rw (append_assoc, add-one, so_far, drop-cons calls i d below, is, test) refl

of_other : (calls : List FailAt) (stage i of at : ℕ) (d : FailAt) (all found : List ℕ) → i < length calls → get_or calls i d ≡ Stage of at → (of == stage) ≡ false
    → all ≡ found ++ on_stage stage (drop i calls) → all ≡ found ++ on_stage stage (drop (i + 1) calls)
of_other calls stage i of at d all found below is test so_far = rw (add-one, so_far, drop-cons calls i d below, is, test) refl

of_disk : (calls : List FailAt) (stage i at : ℕ) (d : FailAt) (all found : List ℕ) → i < length calls → get_or calls i d ≡ Disk at
    → all ≡ found ++ on_stage stage (drop i calls) → all ≡ found ++ on_stage stage (drop (i + 1) calls)
of_disk calls stage i at d all found below is so_far = rw (add-one, so_far, drop-cons calls i d below, is) refl

pub loop-call-preserved : goal.loop-call-preserved
loop-call-preserved c = elim c.match-call.branch [
  | in-Stage+then-of-stage+in_ok-push w ↦ rw (w.found-is, w.in_ok-push.ensures.items) (of_stage c.args.calls.now c.args.stage c.loop-call.call-index w.in-Stage.of w.in-Stage.at _ _ _ c.loop-call-test.true w.in-Stage.is w.if-of-stage.true c.loop-call.invariant)
  | in-Stage+else-of-stage w ↦
      (let test : (w.in-Stage.of == c.args.stage) ≡ false = grind (arith, rules, w.if-of-stage.false) in
      rw w.found-is (of_other c.args.calls.now c.args.stage c.loop-call.call-index w.in-Stage.of w.in-Stage.at _ _ _ c.loop-call-test.true w.in-Stage.is test c.loop-call.invariant))
  | in_default w ↦ rw w.found-is (of_disk c.args.calls.now c.args.stage c.loop-call.call-index w.in_default.field-0 _ _ _ c.loop-call-test.true w.in_default.is c.loop-call.invariant)
]
