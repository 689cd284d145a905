-- Equal names.
use Rattle.std.proofs.Common.{◌≡◌, ◌==◌, ◌&&◌, ℕ, true, refl, ap, arith, rules}
use Rattle.std.proofs.lemmas.Bool.{and_parts, eqb-true}
use Rattle.ssq_outside.specs.declared.name.Name.{Name}
use Rattle.ssq_outside.specs.declared.name.Name.TheVariants.{Meta, Plan, Commit, Out, Delta, Snapshot}
use Rattle.ssq_outside.specs.Files.{same_name}

numbers_are : (p q v w : ℕ) → (p == q && v == w) ≡ true → (p ≡ q) × (v ≡ w)
numbers_are p q v w h = let e = and_parts (p == q) (v == w) h in (eqb-true p q e.0, eqb-true v w e.1)

-- a name that is the same is that name
pub same_name-true : (m n : Name) → same_name m n ≡ true → m ≡ n
same_name-true Meta Meta h = refl
same_name-true (Plan e) (Plan f) h = ap Plan (eqb-true e f h)
same_name-true (Commit e) (Commit f) h = ap Commit (eqb-true e f h)
same_name-true (Out e) (Out f) h = ap Out (eqb-true e f h)
same_name-true (Delta p v) (Delta q w) h = let e = numbers_are p q v w h in cc
same_name-true (Snapshot p v) (Snapshot q w) h = let e = numbers_are p q v w h in cc
same_name-true _ _ h = cc

-- each name is itself
pub same_name-same : (m : Name) → same_name m m ≡ true
same_name-same Meta = refl
same_name-same (Plan e) = grind (arith, rules)
same_name-same (Commit e) = grind (arith, rules)
same_name-same (Out e) = grind (arith, rules)
same_name-same (Delta p v) = grind (arith, rules)
same_name-same (Snapshot p v) = grind (arith, rules)
