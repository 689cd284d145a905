use Rattle.std.proofs.Common.{◌∙◌, ℕ, List, sym, subst, refl, arith}
use Rattle.std.proofs.lemmas.Result.{err_from_is_err_and}
use Rattle.ssq_meaning.specs.Meaning.{Line}
use Rattle.ssq_meaning.specs.Parts.{Part}
use Rattle.ssq_feed.specs.Rows.{IsRead}
use Rattle.ssq_feed.proofs.Feeding.{begun, goes_on, went_on, read_stops, line_stops}
use Rattle.ssq_feed.proofs.range.feed_lines.Goals as goal

pub loop-at-init : goal.loop-at-init
loop-at-init g c = record {
  so_far = begun _ _ _ _ _ _ _ _ c.in_ok-dealer.ensures.empty;
  len = c.in_ok-dealer.ensures.len;
  log = record { same = λ is. refl; grown = λ is. omega arith; unasked = λ is. refl; counted = omega arith };
}

pub returns-in_err-read_line-clause-fault : goal.returns-in_err-read_line-clause-fault
returns-in_err-read_line-clause-fault g c =
    let p = err_from_is_err_and c.from_residual-in_err-read_line.result c.from_residual-in_err-read_line.ensures.1 in
    rw (p.1, p.2) (read_stops g.L.Log.tells g.L.Log.lines g.L.Log.available g.L.Log.answers g.L.Log.faults c.args.query.now.bound.now c.args.stream c.args.part c.args.from c.loop-at.at c.args.to
    c.args.log.now c.loop-at.log c.read_line.new.log _ c.loop-at.invariant.log c.loop-at-test.true c.in_err-read_line.ensures.fault)

pub returns-in_err-own-clause-fault : goal.returns-in_err-own-clause-fault
returns-in_err-own-clause-fault g c =
    let P : List ℕ → Type 0 = IsRead (g.L.Log.lines c.read_line.new.log) c.loop-at.at in
    let Q : List Line → Type 0 = λ ls. IsRead ls c.loop-at.at c.as_slice.result.now in
    let read : g.L.Log.tells → IsRead (g.L.Log.lines c.args.log.now) c.loop-at.at c.as_slice.result.now = λ tells.
    subst Q (c.read_line.ensures.log.same tells ∙ c.loop-at.invariant.log.same tells) (subst P (sym c.as_slice.ensures.value) (c.in_ok-read_line.ensures.read tells)) in
    let p = err_from_is_err_and c.from_residual-in_err-own.result c.from_residual-in_err-own.ensures.1 in
    rw (p.1, p.2) (line_stops g.L.Log.tells g.L.Log.lines g.L.Log.available g.L.Log.answers g.L.Log.faults c.args.query.now.bound.now c.args.epoch c.args.stream c.args.part c.args.from c.loop-at.at c.args.to c.args.partitions
    c.loop-at.time c.loop-at.dealer.buckets c.as_slice.result.now c.args.log.now c.read_line.new.log _ c.loop-at.invariant.so_far c.loop-at-test.true read c.in_err-own.ensures.fault)

pub loop-at-preserved : goal.loop-at-preserved
loop-at-preserved g c =
    let P : List ℕ → Type 0 = IsRead (g.L.Log.lines c.read_line.new.log) c.loop-at.at in
    let Q : List Line → Type 0 = λ ls. IsRead ls c.loop-at.at c.as_slice.result.now in
    let read : g.L.Log.tells → IsRead (g.L.Log.lines c.args.log.now) c.loop-at.at c.as_slice.result.now = λ tells.
    subst Q (c.read_line.ensures.log.same tells ∙ c.loop-at.invariant.log.same tells) (subst P (sym c.as_slice.ensures.value) (c.in_ok-read_line.ensures.read tells)) in
    let dealt = c.in_ok-own.ensures.dealt in
    let of : Part = record { stream = c.args.stream; part = c.args.part; lines = g.L.Log.lines c.args.log.now } in
    record {
      so_far = goes_on g.L.Log.tells c.args.query.now.bound.now c.args.epoch of c.args.from c.loop-at.at c.args.to c.args.partitions c.loop-at.time c.in_ok-own.own c.later-time.result
          dealt.rows c.as_slice.result.now c.loop-at.dealer.buckets c.deal_line.new.dealer.buckets
          c.loop-at.invariant.so_far c.loop-at-test.true read dealt.gives c.later-time.ensures.later (c.later-time.ensures.years c.loop-at.invariant.so_far.years dealt.gives.years)
          c.loop-at.invariant.len dealt.deals;
      len = dealt.deals.len ∙ c.loop-at.invariant.len;
      log = went_on g.L.Log.tells g.L.Log.lines g.L.Log.available g.L.Log.answers g.L.Log.faults c.args.log.now c.loop-at.log c.read_line.new.log c.loop-at.invariant.log c.read_line.ensures.log;
    }

pub new-requires : goal.new-requires
new-requires g c = c.requires.partitions

pub returns-in_err-dealer-clause-log : goal.returns-in_err-dealer-clause-log
returns-in_err-dealer-clause-log g c = record { same = λ is. refl; grown = λ is. omega arith; unasked = λ is. refl; counted = omega arith }

pub returns-in_err-read_line-clause-rows : goal.returns-in_err-read_line-clause-rows
returns-in_err-read_line-clause-rows g c =
    let p = err_from_is_err_and c.from_residual-in_err-read_line.result c.from_residual-in_err-read_line.ensures.1 in
    rw (p.1) tt

pub returns-in_err-read_line-clause-log : goal.returns-in_err-read_line-clause-log
returns-in_err-read_line-clause-log g c =
    went_on g.L.Log.tells g.L.Log.lines g.L.Log.available g.L.Log.answers g.L.Log.faults c.args.log.now c.loop-at.log c.read_line.new.log c.loop-at.invariant.log c.read_line.ensures.log

pub deal_line-requires : goal.deal_line-requires
deal_line-requires g c = c.requires.found

pub returns-in_err-own-clause-rows : goal.returns-in_err-own-clause-rows
returns-in_err-own-clause-rows g c =
    let p = err_from_is_err_and c.from_residual-in_err-own.result c.from_residual-in_err-own.ensures.1 in
    rw (p.1) tt

pub returns-in_err-own-clause-log : goal.returns-in_err-own-clause-log
returns-in_err-own-clause-log g c =
    went_on g.L.Log.tells g.L.Log.lines g.L.Log.available g.L.Log.answers g.L.Log.faults c.args.log.now c.loop-at.log c.read_line.new.log c.loop-at.invariant.log c.read_line.ensures.log

pub loop-at-smaller : goal.loop-at-smaller
loop-at-smaller g c = omega (arith, c.loop-at-test.true)

pub returns-clause-log : goal.returns-clause-log
returns-clause-log g c = c.loop-at.invariant.log
