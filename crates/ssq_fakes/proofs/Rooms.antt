-- The room of a disk suffices.
use Rattle.std.proofs.Common.{◌≡◌, ◌∷◌, [], ◌<◌, ◌≤◌, ◌+◌, ◌^◌, ◌∙◌, ℕ, List, Bool, true, false, None, Some, Result, Ok, Err, length, refl, ap, sym, arith}
use Rattle.std.specs.declared.alloc.Global.{Global}
use Rattle.std.specs.Prelude.{Vec}
use Rattle.std.specs.Prelude.{if◌then◌else◌, is_some, OnOk, OnErr}
use Rattle.ssq_outside.specs.declared.name.Name.{Name}
use Rattle.ssq_outside.specs.declared.disk.DiskFault.{DiskFault}
use Rattle.ssq_outside.specs.Faults.{StaysSure}
use Rattle.ssq_outside.specs.Files.{same_name, Content}
use Rattle.ssq_outside.proofs.Names.{same_name-true}
use Rattle.ssq_fakes.specs.declared.record.Event.{Event}
use Rattle.ssq_fakes.specs.declared.record.Event.TheVariants.{Put, Gone}
use Rattle.ssq_fakes.specs.declared.disk.MemDisk.{MemDisk}
use Rattle.ssq_fakes.specs.Records.{events_of, content_in}
use Rattle.ssq_fakes.specs.Disks.{has_name, HasRoom, IsSureDisk}

-- the names without this one
without : Name → List Name → List Name
without name [] = []
without name (m ∷ ms) = if same_name name m then ms else m ∷ without name ms

shorter_by : (b : Bool) (m : Name) (ms rest : List Name) → (b ≡ false → length ms ≡ length rest + 1) → length (m ∷ ms) ≡ length (if b then ms else m ∷ rest) + 1
shorter_by true m ms rest less = omega arith
shorter_by false m ms rest less = omega (arith, less refl)

found_later : (b r : Bool) → (if b then true else r) ≡ true → b ≡ false → r ≡ true
found_later true r found other = cc
found_later false r found other = found

-- it is one shorter
shorter : (name : Name) (names : List Name) → has_name names name ≡ true → length names ≡ length (without name names) + 1
unfolding without
shorter name [] has = cc
shorter name (m ∷ ms) has = shorter_by (same_name name m) m ms (without name ms) (λ other. shorter name ms (found_later (same_name name m) (has_name ms name) has other))

kept_by : (b c : Bool) (m q : Name) (ms rest : List Name) → same_name q m ≡ c → (b ≡ true → c ≡ false) → (if c then true else has_name ms q) ≡ true
    → (has_name ms q ≡ true → has_name rest q ≡ true) → has_name (if b then ms else m ∷ rest) q ≡ true
kept_by true c m q ms rest is apart has later = found_later c (has_name ms q) has (apart refl)
kept_by false true m q ms rest is apart has later = rw is refl
kept_by false false m q ms rest is apart has later = rw is (later has)

apart_from : (name q m : Name) → same_name q name ≡ false → same_name name m ≡ true → same_name q m ≡ false
apart_from name q m other same = ap (same_name q) (sym (same_name-true name m same)) ∙ other

-- it has the others
others : (name q : Name) (names : List Name) → same_name q name ≡ false → has_name names q ≡ true → has_name (without name names) q ≡ true
unfolding without
others name q [] other has = cc
others name q (m ∷ ms) other has =
    kept_by (same_name name m) (same_name q m) m q ms (without name ms) refl (apart_from name q m other) has (others name q ms other)

present_put : (b r : Bool) (x : List ℕ) (y : Content) → (is_some y ≡ true → r ≡ true) → is_some (if b then Some x else y) ≡ true → (if b then true else r) ≡ true
present_put true r x y before there = refl
present_put false r x y before there = before there

-- a file brings enough
has_room-put : (events : List Event) (name : Name) (bytes : Vec ℕ Global) (spare : ℕ) → HasRoom events spare → HasRoom (Put name bytes ∷ events) (spare + 3)
has_room-put events name bytes spare has = record {
  names = name ∷ has.names;
  present = λ q there. present_put (same_name q name) (has_name has.names q) bytes.items (content_in events q) (has.present q) there;
  enough = omega (arith, has.enough);
}

present_gone : (b : Bool) (r : Bool) (y : Content) → (b ≡ false → is_some y ≡ true → r ≡ true) → is_some (if b then None else y) ≡ true → r ≡ true
present_gone true r y before there = cc
present_gone false r y before there = before refl there

-- a removal of what is there takes one, and leaves enough for the rest
has_room-gone : (events : List Event) (name : Name) (before spare : ℕ) → HasRoom events before → before ≡ spare + 1 → is_some (content_in events name) ≡ true → HasRoom (Gone name ∷ events) spare
has_room-gone events name before spare has one there =
    let less : length has.names ≡ length (without name has.names) + 1 = shorter name has.names (has.present name there) in
    record {
      names = without name has.names;
      present = λ q is. present_gone (same_name q name) (has_name (without name has.names) q) (content_in events q) (λ other at. others name q has.names other (has.present q at)) is;
      enough = omega (arith, has.enough, less);
    }

-- where something is there, there is room
pub has_room-there : (events : List Event) (name : Name) (spare : ℕ) → HasRoom events spare → is_some (content_in events name) ≡ true → 1 ≤ spare
has_room-there events name spare has there = omega (arith, has.enough, shorter name has.names (has.present name there))

pub sure_put : (old new : MemDisk) (name : Name) (bytes : Vec ℕ Global) → IsSureDisk old → new.faults.plan ≡ old.faults.plan
    → length (events_of new.spare) ≡ length (events_of old.spare) + 3 → events_of new.record ≡ Put name bytes ∷ events_of old.record → IsSureDisk new
sure_put old new name bytes sure plan more is = record {
  no_calls = rw plan sure.no_calls;
  no_stop = rw plan sure.no_stop;
  has_room = rw (more, is) (has_room-put (events_of old.record) name bytes (length (events_of old.spare)) sure.has_room);
}

pub sure_gone : (old new : MemDisk) (name : Name) → IsSureDisk old → new.faults.plan ≡ old.faults.plan
    → length (events_of old.spare) ≡ length (events_of new.spare) + 1 → is_some (content_in (events_of old.record) name) ≡ true → events_of new.record ≡ Gone name ∷ events_of old.record → IsSureDisk new
sure_gone old new name sure plan less there is = record {
  no_calls = rw plan sure.no_calls;
  no_stop = rw plan sure.no_stop;
  has_room = rw is (has_room-gone (events_of old.record) name (length (events_of old.spare)) (length (events_of new.spare)) sure.has_room less there);
}

-- a call that fails only where it can't
pub stays_sure : (r : Result (Unit {0}) DiskFault) (moment before now : ℕ) (Full IsSure : Type 0) → OnErr r Full → (Full → moment < 2 ^ 62 → ⊥) → OnOk r (now ≡ before) → OnOk r IsSure
    → StaysSure moment before now IsSure
stays_sure (Ok u) moment before now Full IsSure full never same sure = record { same = λ _. same; still = λ _. sure }
stays_sure (Err e) moment before now Full IsSure full never same sure = record { same = λ early. absurd (never full early); still = λ early. absurd (never full early) }

pub on_ok_both : {P Q R : Type 0} (r : Result (Unit {0}) DiskFault) → (P → Q → R) → OnOk r P → OnOk r Q → OnOk r R
on_ok_both (Ok u) f p q = f p q
on_ok_both (Err e) f p q = p
