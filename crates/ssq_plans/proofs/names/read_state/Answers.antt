-- The text of a file of the state is put together again.
use Rattle.std.proofs.Common.{List, ℕ, Some, codes, decimal, get_or, ◌++◌, refl, sym, ap, ◌∙◌, arith}
use Rattle.std.proofs.lemmas.Bool.{false≢true}
use Rattle.ssq_outside.specs.declared.name.Name.TheVariants.{Delta, Snapshot}
use Rattle.ssq_plans.proofs.Texts.{state_split, state_text}
use Rattle.ssq_plans.proofs.names.read_state.Goals as goal

pub returns-then-is_all-clause-found : goal.returns-then-is_all-clause-found
returns-then-is_all-clause-found c =
    let ends = c.is_all.ensures.only c.if-is_all.true in
    state_text c.args.text.now _ _ (codes ".delta") _ _ c.in_ok-partition.ensures.found c.in_ok-version.ensures.found ends

pub returns-then-is_all-2-clause-found : goal.returns-then-is_all-2-clause-found
returns-then-is_all-2-clause-found c =
    let ends = c.is_all-else-is_all.ensures.only c.if-is_all-2.true in
    state_text c.args.text.now _ _ (codes ".snapshot") _ _ c.in_ok-partition.ensures.found c.in_ok-version.ensures.found ends

pub returns-in_err-partition-clause-each_delta : goal.returns-in_err-partition-clause-each_delta
returns-in_err-partition-clause-each_delta c p v hp hv is =
    absurd (c.in_err-partition.ensures.each p (codes "/" ++ (decimal v ++ codes ".delta")) hp refl (is ∙ state_split p v (codes ".delta")))

pub returns-in_err-version-clause-each_delta : goal.returns-in_err-version-clause-each_delta
returns-in_err-version-clause-each_delta c p v hp hv is =
    let first = c.in_ok-partition.ensures.each p (codes "/" ++ (decimal v ++ codes ".delta")) hp refl (is ∙ state_split p v (codes ".delta")) in
    absurd (c.in_err-version.ensures.each v (codes ".delta") hv refl first.1)

pub returns-then-is_all-clause-each_delta : goal.returns-then-is_all-clause-each_delta
returns-then-is_all-clause-each_delta c p v hp hv is =
    let first = c.in_ok-partition.ensures.each p (codes "/" ++ (decimal v ++ codes ".delta")) hp refl (is ∙ state_split p v (codes ".delta")) in
    let second = c.in_ok-version.ensures.each v (codes ".delta") hv refl first.1 in
    λ i. Some (Delta (first.0 i) (second.0 i))

pub returns-then-is_all-2-clause-each_delta : goal.returns-then-is_all-2-clause-each_delta
returns-then-is_all-2-clause-each_delta c p v hp hv is =
    let first = c.in_ok-partition.ensures.each p (codes "/" ++ (decimal v ++ codes ".delta")) hp refl (is ∙ state_split p v (codes ".delta")) in
    let second = c.in_ok-version.ensures.each v (codes ".delta") hv refl first.1 in
    let ends = c.is_all-else-is_all.ensures.only c.if-is_all-2.true in
    absurd (omega (arith, ap (λ (ts : List ℕ). get_or ts 1 0) (sym second.1 ∙ ends)))

pub returns-else-is_all-2-clause-each_delta : goal.returns-else-is_all-2-clause-each_delta
returns-else-is_all-2-clause-each_delta c p v hp hv is =
    let first = c.in_ok-partition.ensures.each p (codes "/" ++ (decimal v ++ codes ".delta")) hp refl (is ∙ state_split p v (codes ".delta")) in
    let second = c.in_ok-version.ensures.each v (codes ".delta") hv refl first.1 in
    absurd (false≢true (sym c.if-is_all.false ∙ c.is_all.ensures.each second.1))

pub returns-in_err-partition-clause-each_snapshot : goal.returns-in_err-partition-clause-each_snapshot
returns-in_err-partition-clause-each_snapshot c p v hp hv is =
    absurd (c.in_err-partition.ensures.each p (codes "/" ++ (decimal v ++ codes ".snapshot")) hp refl (is ∙ state_split p v (codes ".snapshot")))

pub returns-in_err-version-clause-each_snapshot : goal.returns-in_err-version-clause-each_snapshot
returns-in_err-version-clause-each_snapshot c p v hp hv is =
    let first = c.in_ok-partition.ensures.each p (codes "/" ++ (decimal v ++ codes ".snapshot")) hp refl (is ∙ state_split p v (codes ".snapshot")) in
    absurd (c.in_err-version.ensures.each v (codes ".snapshot") hv refl first.1)

pub returns-then-is_all-clause-each_snapshot : goal.returns-then-is_all-clause-each_snapshot
returns-then-is_all-clause-each_snapshot c p v hp hv is =
    let first = c.in_ok-partition.ensures.each p (codes "/" ++ (decimal v ++ codes ".snapshot")) hp refl (is ∙ state_split p v (codes ".snapshot")) in
    let second = c.in_ok-version.ensures.each v (codes ".snapshot") hv refl first.1 in
    let ends = c.is_all.ensures.only c.if-is_all.true in
    absurd (omega (arith, ap (λ (ts : List ℕ). get_or ts 1 0) (sym second.1 ∙ ends)))

pub returns-then-is_all-2-clause-each_snapshot : goal.returns-then-is_all-2-clause-each_snapshot
returns-then-is_all-2-clause-each_snapshot c p v hp hv is =
    let first = c.in_ok-partition.ensures.each p (codes "/" ++ (decimal v ++ codes ".snapshot")) hp refl (is ∙ state_split p v (codes ".snapshot")) in
    let second = c.in_ok-version.ensures.each v (codes ".snapshot") hv refl first.1 in
    λ i. Some (Snapshot (first.0 i) (second.0 i))

pub returns-else-is_all-2-clause-each_snapshot : goal.returns-else-is_all-2-clause-each_snapshot
returns-else-is_all-2-clause-each_snapshot c p v hp hv is =
    let first = c.in_ok-partition.ensures.each p (codes "/" ++ (decimal v ++ codes ".snapshot")) hp refl (is ∙ state_split p v (codes ".snapshot")) in
    let second = c.in_ok-version.ensures.each v (codes ".snapshot") hv refl first.1 in
    absurd (false≢true (sym c.if-is_all-2.false ∙ c.is_all-else-is_all.ensures.each second.1))
