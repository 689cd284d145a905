use Rattle.std.proofs.Common.{◌<◌, ◌^◌, refl, arith}
use Rattle.ssq_gen.proofs.Reading.{added_to, counts_more, read_within, still_fits, still_within}
use Rattle.ssq_gen.proofs.counts.Counts.with_row.Goals as goal

pub returns-clause-counted : goal.returns-clause-counted
returns-clause-counted c = λ rows so.
    let few : c.args.self.rows < 2 ^ 64 = omega (arith, c.requires.few) in
    counts_more rows c.args.row.now c.args.self _ c.number_in.result c.number_in-2.result refl c.number_in.ensures
    (added_to c.args.self.rows c.args.self.count c.added.result c.number_in.result few c.requires.within.count (record { sfits = c.number_in.type_inv }) (record { sfits = c.added.type_inv }) c.added.ensures.value) c.number_in-2.ensures
    (added_to c.args.self.rows c.args.self.sum c.added-2.result c.number_in-2.result few c.requires.within.sum (record { sfits = c.number_in-2.type_inv }) (record { sfits = c.added-2.type_inv }) c.added-2.ensures.value)
    (still_fits c.added.result (record { sfits = c.added.type_inv })) (still_fits c.added-2.result (record { sfits = c.added-2.type_inv })) so

pub returns-clause-within : goal.returns-clause-within
returns-clause-within c = record {
  count = still_within _ c.added.result (record { sfits = c.added.type_inv }) c.added.ensures.within;
  sum = still_within _ c.added-2.result (record { sfits = c.added-2.type_inv }) c.added-2.ensures.within;
}
