-- The names that changed are one list.
use Rattle.std.proofs.Common.{◌≡◌, ◌∷◌, [], ◌∙◌, List, Bool, true, false, zero, suc, refl, ap, sym, subst, arith}
use Rattle.std.specs.Prelude.{if◌then◌else◌, All, AllPairs, IsTrue}
use Rattle.ssq_outside.specs.declared.name.Name.{Name}
use Rattle.ssq_outside.specs.Files.{same_name, name_before, Had}
use Rattle.ssq_outside.proofs.NameOrder.{name_before-trans, name_before-itself}
use Rattle.ssq_outside.proofs.Names.{same_name-true, same_name-same}
use Rattle.ssq_fakes.specs.Disks.{has_name}
use Rattle.ssq_fakes.specs.Crashes.{has_changed, AreChanged}
use Rattle.ssq_fakes.proofs.NameLists.{Contains-has_name, has_name-Contains}

-- each of them comes after this one
abbrev Follow : Name → List Name → Type 0
Follow m [] = Unit {0}
Follow m (n ∷ ns) = (name_before m n ≡ true) × Follow m ns

-- each comes after those before it
abbrev Ascend : List Name → Type 0
Ascend [] = Unit {0}
Ascend (m ∷ ms) = Follow m ms × Ascend ms

all_to_follow : (m : Name) (ms : List Name) → All (λ n. IsTrue (name_before m n)) ms → Follow m ms
all_to_follow m [] all = tt
all_to_follow m (n ∷ ns) all = (all zero n (omega arith), all_to_follow m ns (λ k d below. all (suc k) d (omega (arith, below))))

ascend_from : (ms : List Name) → AllPairs (λ m n. IsTrue (name_before m n)) ms → Ascend ms
ascend_from [] ordered = tt
ascend_from (m ∷ ms) ordered =
    (all_to_follow m ms (λ k d below. ordered zero (suc k) d (omega arith) (omega (arith, below))), ascend_from ms (λ i j d before below. ordered (suc i) (suc j) d (omega (arith, before)) (omega (arith, below))))

follow_before : (m q : Name) (ns : List Name) → Follow m ns → has_name ns q ≡ true → name_before m q ≡ true
follow_before m q [] follow has = cc
follow_before m q (n ∷ ns) follow has = at (same_name q n) refl has (follow_before m q ns follow.1)
  where
    at : (b : Bool) → same_name q n ≡ b → (if b then true else has_name ns q) ≡ true → (has_name ns q ≡ true → name_before m q ≡ true) → name_before m q ≡ true
    at true same has later = (let M : Name → Type 0 = λ x. name_before m x ≡ true in subst M (sym (same_name-true q n same)) follow.0)
    at false other has later = later has

-- a name is not among those that follow it
not_among : (m : Name) (ms : List Name) (b : Bool) → has_name ms m ≡ b → Follow m ms → has_name ms m ≡ false
not_among m ms false has follow = has
not_among m ms true has follow = let before = follow_before m m ms follow has in let never = name_before-itself m in cc

first_has : (m : Name) (ms : List Name) → has_name (m ∷ ms) m ≡ true
first_has m ms = rw (same_name-same m) refl

first_by : (m n : Name) (ms ns : List Name) (b c : Bool) → same_name m n ≡ b → same_name n m ≡ c → Follow m ms → Follow n ns
    → (if c then true else has_name ms n) ≡ true → (if b then true else has_name ns m) ≡ true → m ≡ n
first_by m n ms ns true c same back one two there here = same_name-true m n same
first_by m n ms ns false true same back one two there here = sym (same_name-true n m back)
first_by m n ms ns false false same back one two there here =
    let round = name_before-trans m n m (follow_before m n ms one there) (follow_before n m ns two here) in
    let never = name_before-itself m in
    cc

rest_by : (m n q : Name) (ms ns : List Name) (b : Bool) → same_name q m ≡ b → m ≡ n → Follow m ms → Follow n ns → has_name (m ∷ ms) q ≡ has_name (n ∷ ns) q → has_name ms q ≡ has_name ns q
rest_by m n q ms ns true is one first second same =
    let here : q ≡ m = same_name-true q m is in
    let M : Name → Type 0 = λ x. has_name ms x ≡ false in
    let N : Name → Type 0 = λ x. has_name ns x ≡ false in
    subst M (sym here) (not_among m ms (has_name ms m) refl first) ∙ sym (subst N (sym (here ∙ one)) (not_among n ns (has_name ns n) refl second))
rest_by m n q ms ns false is one first second same =
    let other : same_name q n ≡ false = ap (same_name q) (sym one) ∙ is in
    let left : has_name (m ∷ ms) q ≡ has_name ms q = rw is refl in
    let right : has_name (n ∷ ns) q ≡ has_name ns q = rw other refl in
    sym left ∙ same ∙ right

-- lists in order with the same names are one
pub one_list : (ms ns : List Name) → Ascend ms → Ascend ns → ((q : Name) → has_name ms q ≡ has_name ns q) → ms ≡ ns
one_list [] [] first second same = refl
one_list [] (n ∷ ns) first second same = let has = first_has n ns in let none = same n in cc
one_list (m ∷ ms) [] first second same = let has = first_has m ms in let none = same m in cc
one_list (m ∷ ms) (n ∷ ns) first second same =
    let head : m ≡ n = first_by m n ms ns (same_name m n) (same_name n m) refl refl first.0 second.0 (same n ∙ first_has n ns) (sym (same m) ∙ first_has m ms) in
    let rest : ms ≡ ns = one_list ms ns first.1 second.1 (λ q. rest_by m n q ms ns (same_name q m) refl head first.0 second.0 (same q)) in
    λ i. head i ∷ rest i

both_ways : (a b : Bool) → (a ≡ true → b ≡ true) → (b ≡ true → a ≡ true) → a ≡ b
both_ways true b to from = sym (to refl)
both_ways false true to from = from refl
both_ways false false to from = refl

names_are : (had : Had) (names : List Name) → AreChanged had names → (q : Name) → has_name names q ≡ has_changed (had q)
names_are had names changed q =
    both_ways (has_name names q) (has_changed (had q)) (λ has. changed.there q (Contains-has_name names q has))
    (λ change. let among = changed.all q change in has_name-Contains names q among.0 among.1 among.2)

-- the names that changed are one list
pub changed_once : (had : Had) (ms ns : List Name) → AreChanged had ms → AreChanged had ns → ms ≡ ns
changed_once had ms ns first second =
    one_list ms ns (ascend_from ms first.in_order) (ascend_from ns second.in_order) (λ q. names_are had ms first q ∙ sym (names_are had ns second q))
